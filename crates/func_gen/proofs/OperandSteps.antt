-- What is made of operands is an operand: a cast, the number of a case, what a method gives, and the core value of a number.
use Rattle.std.proofs.Common.{◌≡◌, Bool, true, false, ◌&&◌, ◌||◌, [], ◌∷◌, Some, refl, sym, ap, ◌∙◌, subst}
use Rattle.rust_tree.specs.Runtime.{item_name}
use Rattle.rust_tree.specs.declared.expr.CastType.{CastType}
use Rattle.rust_tree.specs.declared.expr.Expr.{Expr, Expr-F, fold-roll-Expr}
use Rattle.rust_tree.specs.declared.expr.Expr.TheVariants as expr
use Rattle.rust_tree.specs.declared.expr.Expr.TheVariants.{rolls-Call, rolls-Cast, rolls-EnumNumber, rolls-Local, rolls-Method}
use Rattle.rust_tree.specs.declared.expr.Method.{Method}
use Rattle.wit_model.specs.Bytes.{Bytes}
use Rattle.wit_layout.specs.Cast.{cast}
use Rattle.rust_tree.specs.declared.expr.CastType.TheVariants as to
use Rattle.rust_tree.specs.declared.expr.Method.TheVariants as method
use Rattle.rust_tree.specs.declared.path.Path.{Path}
use Rattle.rust_tree.specs.declared.runtime_item.RuntimeItem.{RuntimeItem}
use Rattle.rust_tree.specs.declared.runtime_item.RuntimeItem.TheVariants.{AsF32, AsF64, AsI32, AsI64}
use Rattle.wit_layout.specs.declared.bitcast.Bitcast.{Bitcast}
use Rattle.wit_layout.specs.declared.bitcast.Bitcast.TheVariants as bitcast
use Rattle.wrapper_meaning.proofs.Lists.{some_same}
use Rattle.wrapper_run.specs.Run.{is_f32_from_bits, is_f64_from_bits, is_i64_from, is_new_slot}
use Rattle.wrapper_values.specs.declared.core_words.CoreFn.{CoreFn}
use Rattle.wrapper_values.specs.declared.core_words.CoreFn.TheVariants as core_fn
use Rattle.abi_bindgen.specs.declared.instruction.Instruction.{Instruction}
use Rattle.abi_bindgen.specs.declared.instruction.Instruction.TheVariants.{CoreF32FromF32, CoreF64FromF64, I32FromChar, I32FromS16, I32FromS32, I32FromS8, I32FromU16, I32FromU32, I32FromU8, I64FromS64, I64FromU64}
use Rattle.func_gen.specs.CastForms.{cast_expr, cast_result, core_call, core_path, f32_names, f64_names, from_names, new_slot_names, step_expr}
use Rattle.func_gen.specs.Forms.{conversion, runtime_call, runtime_name, runtime_path}
use Rattle.func_gen.specs.Operand.{is_conversion, is_converting, is_core_function, is_operand, operand_step}

pub cast_operand : (e : Expr) (to : CastType) → is_operand e ≡ true → is_operand (expr.Cast e to) ≡ true
cast_operand e to h = (ap is_operand (sym (rolls-Cast e to)) ∙ fold-roll-Expr Bool operand_step (Expr-F.Cast e to)) ∙ h

pub enum_operand : (e : Expr) → is_operand e ≡ true → is_operand (expr.EnumNumber e) ≡ true
enum_operand e h = (ap is_operand (sym (rolls-EnumNumber e)) ∙ fold-roll-Expr Bool operand_step (Expr-F.EnumNumber e)) ∙ h

pub method_operand : (e : Expr) (method : Method) → is_operand e ≡ true → is_operand (expr.Method e method) ≡ true
method_operand e method h = (ap is_operand (sym (rolls-Method e method)) ∙ fold-roll-Expr Bool operand_step (Expr-F.Method e method)) ∙ h

both : (b c : Bool) → b ≡ true → c ≡ true → (b && c) ≡ true
both b c h g = subst (λ x. (x && c) ≡ true) (sym h) g

pub call_operand : (path : Path) (e : Expr) → (is_conversion path || is_core_function path) ≡ true → is_operand e ≡ true → is_operand (expr.Call path (e ∷ [])) ≡ true
call_operand path e named h = (ap is_operand (sym (rolls-Call path (e ∷ []))) ∙ fold-roll-Expr Bool operand_step (Expr-F.Call path (e ∷ []))) ∙ both (is_conversion path || is_core_function path) (is_operand e) named h

-- the functions of `_rt` that give a core value
abbrev converts : RuntimeItem → Type 0
converts f = (is_conversion (runtime_path f) || is_core_function (runtime_path f)) ≡ true

as_i32 : converts AsI32
unfolding is_conversion is_converting runtime_name item_name
as_i32 = refl

as_i64 : converts AsI64
unfolding is_conversion is_converting runtime_name item_name
as_i64 = refl

as_f32 : converts AsF32
unfolding is_conversion is_converting runtime_name item_name
as_f32 = refl

as_f64 : converts AsF64
unfolding is_conversion is_converting runtime_name item_name
as_f64 = refl

by_item : (f g : RuntimeItem) → Some f ≡ Some g → converts f → converts g
by_item f g e h = subst converts (some_same f g e) h

converting : (i : Instruction) (f : RuntimeItem) → conversion i ≡ Some f → converts f
converting I32FromU8 f e = by_item AsI32 f e as_i32
converting I32FromS8 f e = by_item AsI32 f e as_i32
converting I32FromU16 f e = by_item AsI32 f e as_i32
converting I32FromS16 f e = by_item AsI32 f e as_i32
converting I32FromU32 f e = by_item AsI32 f e as_i32
converting I32FromS32 f e = by_item AsI32 f e as_i32
converting I32FromChar f e = by_item AsI32 f e as_i32
converting I64FromU64 f e = by_item AsI64 f e as_i64
converting I64FromS64 f e = by_item AsI64 f e as_i64
converting CoreF32FromF32 f e = by_item AsF32 f e as_f32
converting CoreF64FromF64 f e = by_item AsF64 f e as_f64
converting _ f e = absurd (let h = e in cc)

pub converted_operand : (i : Instruction) (f : RuntimeItem) (e : Expr) → conversion i ≡ Some f → is_operand e ≡ true → is_operand (runtime_call f e) ≡ true
converted_operand i f e is h = call_operand (runtime_path f) e (converting i f is) h

-- casts of core words

named_core : (f : CoreFn) → (is_conversion (core_path f) || is_core_function (core_path f)) ≡ true
unfolding is_conversion is_converting is_core_function is_i64_from is_f32_from_bits is_f64_from_bits is_new_slot from_names f32_names f64_names new_slot_names
named_core core_fn.I64From = refl
named_core core_fn.F32FromBits = refl
named_core core_fn.F64FromBits = refl
named_core core_fn.NewSlot = refl

core_operand : (f : CoreFn) (e : Expr) → is_operand e ≡ true → is_operand (core_call f e) ≡ true
core_operand f e h = call_operand (core_path f) e (named_core f) h

pub step_operand : (step : Bitcast) (e : Expr) → is_operand e ≡ true → is_operand (step_expr step e) ≡ true
step_operand bitcast.I32ToI64 e h = core_operand core_fn.I64From e h
step_operand bitcast.F32ToI32 e h = cast_operand (expr.Method e method.ToBits) to.I32 (method_operand e method.ToBits h)
step_operand bitcast.F64ToI64 e h = cast_operand (expr.Method e method.ToBits) to.I64 (method_operand e method.ToBits h)
step_operand bitcast.I64ToI32 e h = cast_operand e to.I32 h
step_operand bitcast.I32ToF32 e h = core_operand core_fn.F32FromBits (expr.Cast e to.U32) (cast_operand e to.U32 h)
step_operand bitcast.I64ToF32 e h = core_operand core_fn.F32FromBits (expr.Cast e to.U32) (cast_operand e to.U32 h)
step_operand bitcast.I64ToF64 e h = core_operand core_fn.F64FromBits (expr.Cast e to.U64) (cast_operand e to.U64 h)
step_operand bitcast.F32ToI64 e h = core_operand core_fn.I64From (expr.Method e method.ToBits) (method_operand e method.ToBits h)
step_operand bitcast.I64ToP64 e h = core_operand core_fn.NewSlot (expr.Cast e to.U64) (cast_operand e to.U64 h)
step_operand bitcast.P64ToI64 e h = cast_operand (expr.Method e method.AssumeInit) to.I64 (method_operand e method.AssumeInit h)
step_operand bitcast.P64ToP e h = method_operand e method.ReadPointer h
step_operand bitcast.I32ToP e h = cast_operand e to.Pointer h
step_operand bitcast.LToP e h = cast_operand e to.Pointer h
step_operand bitcast.PToI32 e h = cast_operand e to.I32 h
step_operand bitcast.LToI32 e h = cast_operand e to.I32 h
step_operand bitcast.I32ToL e h = cast_operand e to.Usize h
step_operand bitcast.I64ToL e h = cast_operand e to.Usize h
step_operand bitcast.PToL e h = cast_operand e to.Usize h
step_operand bitcast.LToI64 e h = cast_operand e to.I64 h
step_operand _ e h = h

pub whole_operand : (whole : Bitcast) (e : Expr) → is_operand e ≡ true → is_operand (cast_expr whole e) ≡ true
whole_operand (bitcast.Sequence from through last) e h = step_operand (cast through last) (step_expr (cast from through) e) (step_operand (cast from through) e h)
whole_operand c e h = step_operand c e h

pub local_operand : (name : Bytes) → is_operand (expr.Local name) ≡ true
local_operand name = ap is_operand (sym (rolls-Local name)) ∙ fold-roll-Expr Bool operand_step (Expr-F.Local name)

pub result_operand : (slot : Bool) (name : Bytes) (e : Expr) → is_operand e ≡ true → is_operand (cast_result slot name e) ≡ true
result_operand true name e h = local_operand name
result_operand false name e h = h
