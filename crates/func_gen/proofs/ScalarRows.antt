-- The rows of scalars.
use Rattle.std.proofs.Common.{◌≡◌, ℕ, ℤ, Bool, true, if◌then◌else◌, List, [], ◌∷◌, ◌++◌, Option, None, Some, refl, sym, ap, ◌∙◌, subst}
use Rattle.std.specs.Prelude.{option_and_then}
use Rattle.wit_layout.specs.Flat.{core_type}
use Rattle.wit_layout.specs.Tree.{Scalar}
use Rattle.wit_model.specs.declared.types.TypeDef.{TypeDef}
use Rattle.wit_model.specs.declared.types.WitType.TheVariants as wit
use Rattle.wit_model.specs.declared.wasm_type.WasmType.TheVariants as wasm
use Rattle.rust_tree.specs.declared.expr.CastType.{CastType}
use Rattle.rust_tree.specs.declared.expr.CastType.TheVariants as cast
use Rattle.rust_tree.specs.declared.expr.Expr.{Expr}
use Rattle.rust_tree.specs.declared.expr.Expr.TheVariants as expr
use Rattle.rust_tree.specs.declared.item.Item.{Item}
use Rattle.rust_tree.specs.declared.runtime_item.RuntimeItem.{RuntimeItem}
use Rattle.rust_tree.specs.Runtime.{item_name}
use Rattle.wrapper_data.specs.declared.form.Form.{Form}
use Rattle.wrapper_data.specs.declared.value.RustValue.{RustValue}
use Rattle.wrapper_data.specs.declared.value.RustValue.TheVariants as value
use Rattle.wrapper_data.specs.declared.word.Word.{Word}
use Rattle.wrapper_data.specs.declared.word.Word.TheVariants as core
use Rattle.wrapper_meaning.specs.AsWords.{IsTaken, passed_word}
use Rattle.wrapper_meaning.specs.Direction.{take}
use Rattle.wrapper_meaning.specs.Numbers.{is_signed}
use Rattle.wrapper_meaning.specs.InRange.{IsScalar}
use Rattle.wrapper_meaning.specs.Shape.Shape.{scalar}
use Rattle.wrapper_meaning.specs.StandsFor.{rust_scalar}
use Rattle.wrapper_meaning.specs.Value.{ScalarValue}
use Rattle.wrapper_values.specs.declared.state.Val.TheVariants as val
use Rattle.wrapper_values.specs.Effect.{cast_integer, integer_of, rust_of}
use Rattle.wrapper_run.specs.Run.{callee, of_runtime, runtime_item_named, runtime_module_name}
use Rattle.abi_bindgen.specs.declared.instruction.Instruction.{Instruction}
use Rattle.abi_bindgen.specs.declared.instruction.Instruction.TheVariants.{I32FromU8, I32FromS8, I32FromU16, I32FromS16, I32FromU32, I32FromS32, I32FromChar, I64FromU64, I64FromS64, CoreF32FromF32, CoreF64FromF64, U8FromI32, S8FromI32, U16FromI32, S16FromI32, U32FromI32, S32FromI32, U64FromI64, S64FromI64, F32FromCoreF32, F64FromCoreF64}
use Rattle.abi_bindgen.specs.Account.{Account, Follows, Stuck, has_type, reading, stay}
use Rattle.abi_bindgen.specs.Instructions.{Emits, MakesBy, RowBy, lifted_scalar, lowered_scalar}
use Rattle.abi_bindgen.specs.Laws.{Adds, After, Facts}
use Rattle.abi_bindgen.specs.Leaves.{LiftsScalar, LowersScalar}
use Rattle.abi_bindgen.specs.Meaning.{item, of, word}
use Rattle.abi_bindgen.proofs.Ordinary.{code_of, lifts_ordinary, lowers_ordinary, still_returned}
use Rattle.func_gen.specs.declared.function_bindgen.FunctionBindgen.{FunctionBindgen}
use Rattle.func_gen.specs.declared.operand.ExprOperand.{ExprOperand}
use Rattle.func_gen.specs.Added.{Appends}
use Rattle.func_gen.specs.Forms.{conversion, is_kept, kept_operand, number_cast, operand_of, runtime_call, runtime_name, runtime_path}
use Rattle.func_gen.specs.Meaning.{StandsAsItIs, account_of, func_meaning}
use Rattle.func_gen.specs.PartForms.{exprs_of}
use Rattle.func_gen.specs.Read.{Env, Read, as_item, converts, item_of_word, on_bare, read, read_operand}
use Rattle.func_gen.specs.Read as reader
use Rattle.func_gen.specs.ReadForms.{read-call, read-cast}
use Rattle.func_gen.specs.FactLemmas.{Says, item_rust, kept_item, operand_reads}
use Rattle.func_gen.specs.Formed.{Formed}
use Rattle.abi_bindgen.specs.Sent.{sends}
use Rattle.func_gen.proofs.Emissions.{cast_emitted, conversion_emitted, kept_emitted}
use Rattle.func_gen.proofs.Forming.{form_alone, form_one, lifts_plain, lowers_plain, still_blocks}
use Rattle.func_gen.proofs.PlainOperands.{lifts_plainly, reads_plainly}
use Rattle.func_gen.proofs.Rows.{none_adds, swaps, tests}
use Rattle.wrapper_meaning.proofs.Lists.{some_or}
use Rattle.func_gen.proofs.Scalars.{cast_word, conversion_to, converts_scalar, is_number, stands_scalar, taken_is, taken_word}
use Rattle.std.specs.Option.{option_map}

-- 1. What is emitted

pub calls_runtime : (i : RuntimeItem) → callee (runtime_path i) ≡ of_runtime (item_name i)
unfolding callee runtime_name runtime_module_name
calls_runtime i = refl

module _ (types : List TypeDef) (old new : FunctionBindgen) (i : Instruction) (s : Scalar) (o r : ExprOperand) where
  pub emits_lowered : lowered_scalar i ≡ Some s → Adds func_meaning old new → new.returned ≡ old.returned → Formed types (sends i) (o ∷ []) (r ∷ []) old new → LowersScalar func_meaning s (o ∷ []) (r ∷ []) old new → Emits func_meaning types i (o ∷ []) (r ∷ []) old new
  emits_lowered is adds returned form row = record {
    adds = code_of func_meaning i (lowers_ordinary i s is) types old new adds;
    blocks = still_blocks i (lowers_ordinary i s is) types (func_meaning.blocks old) (func_meaning.blocks new) adds.blocks;
    returned = still_returned func_meaning i (lowers_ordinary i s is) (o ∷ []) old.returned new.returned returned;
    asked = adds.asked;
    form = form;
    results = subst (λ x. MakesBy types i x (lifted_scalar i) 1) (sym is) refl;
    row = subst (λ x. RowBy func_meaning types i x (lifted_scalar i) (o ∷ []) (r ∷ []) old new) (sym is) row;
  }

  pub emits_lifted : lowered_scalar i ≡ None → lifted_scalar i ≡ Some s → Adds func_meaning old new → new.returned ≡ old.returned → Formed types (sends i) (o ∷ []) (r ∷ []) old new → LiftsScalar func_meaning s (o ∷ []) (r ∷ []) old new → Emits func_meaning types i (o ∷ []) (r ∷ []) old new
  emits_lifted none is adds returned form row = record {
    adds = code_of func_meaning i (lifts_ordinary i s is) types old new adds;
    blocks = still_blocks i (lifts_ordinary i s is) types (func_meaning.blocks old) (func_meaning.blocks new) adds.blocks;
    returned = still_returned func_meaning i (lifts_ordinary i s is) (o ∷ []) old.returned new.returned returned;
    asked = adds.asked;
    form = form;
    results = subst (λ x. MakesBy types i x (lifted_scalar i) 1) (sym none) (subst (λ x. MakesBy types i None x 1) (sym is) refl);
    row = subst (λ x. RowBy func_meaning types i x (lifted_scalar i) (o ∷ []) (r ∷ []) old new) (sym none) (subst (λ x. RowBy func_meaning types i None x (o ∷ []) (r ∷ []) old new) (sym is) row);
  }

-- 2. Conversions

pub record Converted (i : Instruction) (function : RuntimeItem) : Type 0 where
  pub scalar : Scalar
  pub lowered : lowered_scalar i ≡ Some scalar
  pub by : conversion_to scalar ≡ Some function

converted_by : (i : Instruction) (function : RuntimeItem) → conversion i ≡ Some function → Converted i function
converted_by I32FromU8 f e = record { scalar = Scalar.u8; lowered = refl; by = e }
converted_by I32FromS8 f e = record { scalar = Scalar.s8; lowered = refl; by = e }
converted_by I32FromU16 f e = record { scalar = Scalar.u16; lowered = refl; by = e }
converted_by I32FromS16 f e = record { scalar = Scalar.s16; lowered = refl; by = e }
converted_by I32FromU32 f e = record { scalar = Scalar.u32; lowered = refl; by = e }
converted_by I32FromS32 f e = record { scalar = Scalar.s32; lowered = refl; by = e }
converted_by I32FromChar f e = record { scalar = Scalar.char; lowered = refl; by = e }
converted_by I64FromU64 f e = record { scalar = Scalar.u64; lowered = refl; by = e }
converted_by I64FromS64 f e = record { scalar = Scalar.s64; lowered = refl; by = e }
converted_by CoreF32FromF32 f e = record { scalar = Scalar.f32; lowered = refl; by = e }
converted_by CoreF64FromF64 f e = record { scalar = Scalar.f64; lowered = refl; by = e }
converted_by _ f e = absurd (let h = e in cc)

-- the call of a conversion on what reads a scalar reads its word
call_says : (items : List Item) (s : Scalar) (v : ScalarValue s) (f : RuntimeItem) (e : Expr) (env : Env) → conversion_to s ≡ Some f → runtime_item_named items (item_name f) ≡ Some f → IsScalar s v
    → option_and_then rust_of ((read items e).at env) ≡ Some (rust_scalar s v) → (read items (runtime_call f e)).at env ≡ Some (val.Word (passed_word s v))
call_says items s v f e env by found good h =
    let o = (read items e).at env in
    ap (λ (r : Read). r.at env) (read-call items (runtime_path f) (e ∷ [])) ∙ ap (λ c. option_and_then (on_bare (reader.conversion items c)) o) (calls_runtime f)
    ∙ ap (λ q. option_and_then (on_bare (converts q)) o) (found ∙ sym by) ∙ converts_scalar s v f o by good h

-- what an operand denotes is what it reads for the Rust side, whether a word is kept in it or not
rust_read : (items : List Item) (o : ExprOperand) (env : Env) (r : RustValue) → (read_operand items o).at env ≡ Some (val.Value r) → option_and_then rust_of ((read items o.expr).at env) ≡ Some r
rust_read items o env r h =
    let (u, reads, is) = operand_reads items o env (val.Value r) h in
    ap (option_and_then rust_of) reads ∙ item_rust u r (kept_item o.kept u r is)

pub one_operand : (os : List ExprOperand) (e : Expr) → exprs_of os ≡ e ∷ [] → (kept : Bool) × (os ≡ record { expr = e; kept = kept } ∷ [])
one_operand [] e h = absurd cc
one_operand (o ∷ []) e h = let same : o.expr ≡ e = cc in (o.kept, ap (λ (x : Expr). record { expr = x; kept = o.kept } ∷ []) same)
one_operand (o ∷ p ∷ os) e h = absurd cc

pub convert_row : (types : List TypeDef) (old new : FunctionBindgen) (i : Instruction) (f : RuntimeItem) (e : Expr) (kept : Bool) → conversion i ≡ Some f → Appends old new [] (f ∷ []) → new.scope ≡ old.scope
    → Emits func_meaning types i (record { expr = e; kept = kept } ∷ []) (operand_of (runtime_call f e) ∷ []) old new
convert_row types old new i f e kept is a scope =
    let c = converted_by i f is in
    let o : ExprOperand = record { expr = e; kept = kept } in
    emits_lowered types old new i c.scalar o (operand_of (runtime_call f e)) c.lowered (none_adds old new (f ∷ []) a scope) a.returned (form_alone (sends i) (lowers_plain i c.scalar c.lowered) (o ∷ []) old new (runtime_call f e) (f ∷ []) (conversion_emitted old i f e is) scope a)
    (λ dir v r own good st. (
      st.0.1,
      swaps old new (f ∷ []) a scope (of o (item r)) (of (operand_of (runtime_call f e)) (word (passed_word c.scalar v)))
          (λ w found env h. call_says w.items c.scalar v f e env c.by found.0 good (rust_read w.items o env r h ∙ ap (λ q. Some q) st.0.0)),
    ))

-- 3. Numbers of words

pub i32_word : (x : Word) → has_type wasm.I32 x ≡ true → (z : ℤ) × (x ≡ core.I32 z)
i32_word (core.I32 z) h = (z, refl)
i32_word (core.I64 z) h = absurd cc
i32_word (core.F32 z) h = absurd cc
i32_word (core.F64 z) h = absurd cc
i32_word (core.Pointer z) h = absurd cc
i32_word (core.Length z) h = absurd cc
i32_word (core.Slot z) h = absurd cc

i64_word : (x : Word) → has_type wasm.I64 x ≡ true → (z : ℤ) × (x ≡ core.I64 z)
i64_word (core.I64 z) h = (z, refl)
i64_word (core.I32 z) h = absurd cc
i64_word (core.F32 z) h = absurd cc
i64_word (core.F64 z) h = absurd cc
i64_word (core.Pointer z) h = absurd cc
i64_word (core.Length z) h = absurd cc
i64_word (core.Slot z) h = absurd cc

f32_word : (x : Word) → has_type wasm.F32 x ≡ true → (z : ℕ) × (x ≡ core.F32 z)
f32_word (core.F32 z) h = (z, refl)
f32_word (core.I32 z) h = absurd cc
f32_word (core.I64 z) h = absurd cc
f32_word (core.F64 z) h = absurd cc
f32_word (core.Pointer z) h = absurd cc
f32_word (core.Length z) h = absurd cc
f32_word (core.Slot z) h = absurd cc

f64_word : (x : Word) → has_type wasm.F64 x ≡ true → (z : ℕ) × (x ≡ core.F64 z)
f64_word (core.F64 z) h = (z, refl)
f64_word (core.I32 z) h = absurd cc
f64_word (core.I64 z) h = absurd cc
f64_word (core.F32 z) h = absurd cc
f64_word (core.Pointer z) h = absurd cc
f64_word (core.Length z) h = absurd cc
f64_word (core.Slot z) h = absurd cc

-- which words are read as a scalar that is no bool and no char
abbrev is_read : Scalar → Word → Bool
is_read Scalar.s32 (core.I32 z) = is_signed 31 z
is_read Scalar.s64 (core.I64 z) = is_signed 63 z
is_read s x = has_type (core_type s) x

number_read : (s : Scalar) (f : Form) (x : Word) (acc : Account RustValue) → is_number s ≡ true → reading s f x acc ≡ (if is_read s x then stay acc else Stuck acc)
number_read Scalar.bool f x acc h = absurd cc
number_read Scalar.char f x acc h = absurd cc
number_read Scalar.handle f x acc h = absurd cc
number_read Scalar.s32 f (core.I32 z) acc h = refl
number_read Scalar.s32 f _ acc h = refl
number_read Scalar.s64 f (core.I64 z) acc h = refl
number_read Scalar.s64 f _ acc h = refl
number_read s f x acc h = refl

-- an operand that reads the number of each word of a scalar
lifts_number : (old new : FunctionBindgen) (s : Scalar) (o r : ExprOperand) → is_number s ≡ true → Appends old new [] [] → new.scope ≡ old.scope
    → ((x : Word) → is_read s x ≡ true → (items : List Item) (env : Env) → Says (word x) ((read_operand items o).at env) → Says (item (taken_word s x)) ((read_operand items r).at env))
    → LiftsScalar func_meaning s (o ∷ []) (r ∷ []) old new
lifts_number old new s o r is a scope says x w p others s0 t at =
    subst (λ q. Follows func_meaning.account q (func_meaning.does w p new.code s0)
    (λ y u. (fs : Facts func_meaning) × ((c : RustValue) × (fs ≡ of r (item c) ∷ []) × ((v : ScalarValue s) → IsScalar s v → IsTaken s v x → StandsAsItIs take (scalar s) v c [])) × After func_meaning w new (fs ++ others) [] [] t y u))
    (sym (number_read s p.form x (account_of t.machine) is))
    (tests old new [] a scope (is_read s x) (of o (word x)) (of r (item (taken_word s x))) (λ fs. (c : RustValue) × (fs ≡ of r (item c) ∷ []) × ((v : ScalarValue s) → IsScalar s v → IsTaken s v x → StandsAsItIs take (scalar s) v c []))
    (λ typed. (taken_word s x, refl, λ v good taken. stands_scalar take s v (taken_word s x) (taken_is s v x is good taken))) (λ typed v found env h. says x typed v.items env h) w p others s0 t at)

pub record Cast (i : Instruction) (to : CastType) : Type 0 where
  pub scalar : Scalar
  pub none : lowered_scalar i ≡ None
  pub lifted : lifted_scalar i ≡ Some scalar
  pub number : is_number scalar ≡ true
  pub casts : (x : Word) → is_read scalar x ≡ true → (z : ℤ) × (integer_of (val.Word x) ≡ Some z) × (val.Value (taken_word scalar x) ≡ cast_integer to z)

casts_as : (i : Instruction) (one to : CastType) → (let c : Option CastType = Some one in c ≡ Some to) → Cast i one → Cast i to
casts_as i one to e c = subst (Cast i) (ap (some_or one) e) c

cast_by : (i : Instruction) (to : CastType) → number_cast i ≡ Some to → Cast i to
cast_by U8FromI32 to e = casts_as U8FromI32 cast.U8 to e (record { scalar = Scalar.u8; none = refl; lifted = refl; number = refl; casts = λ x h. let (z, is) = i32_word x h in (z, ap (λ y. integer_of (val.Word y)) is, ap (λ y. val.Value (taken_word Scalar.u8 y)) is) })
cast_by S8FromI32 to e = casts_as S8FromI32 cast.I8 to e (record { scalar = Scalar.s8; none = refl; lifted = refl; number = refl; casts = λ x h. let (z, is) = i32_word x h in (z, ap (λ y. integer_of (val.Word y)) is, ap (λ y. val.Value (taken_word Scalar.s8 y)) is) })
cast_by U16FromI32 to e = casts_as U16FromI32 cast.U16 to e (record { scalar = Scalar.u16; none = refl; lifted = refl; number = refl; casts = λ x h. let (z, is) = i32_word x h in (z, ap (λ y. integer_of (val.Word y)) is, ap (λ y. val.Value (taken_word Scalar.u16 y)) is) })
cast_by S16FromI32 to e = casts_as S16FromI32 cast.I16 to e (record { scalar = Scalar.s16; none = refl; lifted = refl; number = refl; casts = λ x h. let (z, is) = i32_word x h in (z, ap (λ y. integer_of (val.Word y)) is, ap (λ y. val.Value (taken_word Scalar.s16 y)) is) })
cast_by U32FromI32 to e = casts_as U32FromI32 cast.U32 to e (record { scalar = Scalar.u32; none = refl; lifted = refl; number = refl; casts = λ x h. let (z, is) = i32_word x h in (z, ap (λ y. integer_of (val.Word y)) is, ap (λ y. val.Value (taken_word Scalar.u32 y)) is) })
cast_by U64FromI64 to e = casts_as U64FromI64 cast.U64 to e (record { scalar = Scalar.u64; none = refl; lifted = refl; number = refl; casts = λ x h. let (z, is) = i64_word x h in (z, ap (λ y. integer_of (val.Word y)) is, ap (λ y. val.Value (taken_word Scalar.u64 y)) is) })
cast_by _ to e = absurd (let h = e in cc)

pub cast_plainly : (i : Instruction) (to : CastType) → number_cast i ≡ Some to → reads_plainly i ≡ true
cast_plainly i to is = let c = cast_by i to is in lifts_plainly i c.scalar c.none c.lifted

pub cast_says : (items : List Item) (e : Expr) (to : CastType) (x : Word) (z : ℤ) (env : Env) → integer_of (val.Word x) ≡ Some z → (read items e).at env ≡ Some (val.Word x) → (read items (expr.Cast e to)).at env ≡ Some (cast_integer to z)
cast_says items e to x z env i h = ap (λ (r : Read). r.at env) (read-cast items e to) ∙ cast_word to z x ((read items e).at env) i h

pub cast_row : (types : List TypeDef) (old new : FunctionBindgen) (i : Instruction) (to : CastType) (e : Expr) → number_cast i ≡ Some to → Appends old new [] [] → new.scope ≡ old.scope
    → Emits func_meaning types i (operand_of e ∷ []) (operand_of (expr.Cast e to) ∷ []) old new
cast_row types old new i to e is a scope =
    let c = cast_by i to is in
    emits_lifted types old new i c.scalar (operand_of e) (operand_of (expr.Cast e to)) c.none c.lifted (none_adds old new [] a scope) a.returned (form_alone (sends i) (lifts_plain i c.scalar c.lifted) (operand_of e ∷ []) old new (expr.Cast e to) [] (cast_emitted old i to e is) scope a)
    (lifts_number old new c.scalar (operand_of e) (operand_of (expr.Cast e to)) c.number a scope
    (λ x typed items env h. let (z, i, same) = c.casts x typed in cast_says items e to x z env i h ∙ ap (λ y. Some y) (sym same)))

pub record Kept (i : Instruction) : Type 0 where
  pub scalar : Scalar
  pub none : lowered_scalar i ≡ None
  pub lifted : lifted_scalar i ≡ Some scalar
  pub number : is_number scalar ≡ true
  pub keeps : (x : Word) → is_read scalar x ≡ true → item_of_word x ≡ Some (taken_word scalar x)

kept_i32 : (x : Word) → is_read Scalar.s32 x ≡ true → item_of_word x ≡ Some (taken_word Scalar.s32 x)
kept_i32 (core.I32 z) h = ap (λ b. if b then Some (value.Num wit.S32 z) else None) h
kept_i32 (core.I64 z) h = absurd cc
kept_i32 (core.F32 z) h = absurd cc
kept_i32 (core.F64 z) h = absurd cc
kept_i32 (core.Pointer z) h = absurd cc
kept_i32 (core.Length z) h = absurd cc
kept_i32 (core.Slot z) h = absurd cc

kept_i64 : (x : Word) → is_read Scalar.s64 x ≡ true → item_of_word x ≡ Some (taken_word Scalar.s64 x)
kept_i64 (core.I64 z) h = ap (λ b. if b then Some (value.Num wit.S64 z) else None) h
kept_i64 (core.I32 z) h = absurd cc
kept_i64 (core.F32 z) h = absurd cc
kept_i64 (core.F64 z) h = absurd cc
kept_i64 (core.Pointer z) h = absurd cc
kept_i64 (core.Length z) h = absurd cc
kept_i64 (core.Slot z) h = absurd cc

kept_by : (i : Instruction) → is_kept i ≡ true → Kept i
kept_by S32FromI32 e = record { scalar = Scalar.s32; none = refl; lifted = refl; number = refl; keeps = kept_i32 }
kept_by S64FromI64 e = record { scalar = Scalar.s64; none = refl; lifted = refl; number = refl; keeps = kept_i64 }
kept_by F32FromCoreF32 e = record { scalar = Scalar.f32; none = refl; lifted = refl; number = refl; keeps = λ x h. let (z, is) = f32_word x h in ap item_of_word is ∙ ap (λ y. Some (taken_word Scalar.f32 y)) (sym is) }
kept_by F64FromCoreF64 e = record { scalar = Scalar.f64; none = refl; lifted = refl; number = refl; keeps = λ x h. let (z, is) = f64_word x h in ap item_of_word is ∙ ap (λ y. Some (taken_word Scalar.f64 y)) (sym is) }
kept_by _ e = absurd (let h = e in cc)

pub keep_plainly : (i : Instruction) → is_kept i ≡ true → reads_plainly i ≡ true
keep_plainly i is = let c = kept_by i is in lifts_plainly i c.scalar c.none c.lifted

pub keep_row : (types : List TypeDef) (old new : FunctionBindgen) (i : Instruction) (e : Expr) → is_kept i ≡ true → Appends old new [] [] → new.scope ≡ old.scope → Emits func_meaning types i (operand_of e ∷ []) (kept_operand e ∷ []) old new
keep_row types old new i e is a scope =
    let c = kept_by i is in
    let o = operand_of e in
    let r = kept_operand e in
    emits_lifted types old new i c.scalar o r c.none c.lifted (none_adds old new [] a scope) a.returned (form_one (sends i) (lifts_plain i c.scalar c.lifted) (o ∷ []) old new r [] (kept_emitted old i e is) scope a)
    (lifts_number old new c.scalar o r c.number a scope (λ x typed items env h. ap (option_and_then as_item) h ∙ ap (option_map val.Value) (c.keeps x typed)))
