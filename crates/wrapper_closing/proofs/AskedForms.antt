-- What expressions, statements and blocks name of `_rt` that steps write.
use Rattle.std.proofs.Common.{◌≡◌, ℕ, zero, suc, ◌+◌, ℤ, pos, List, [], ◌∷◌, ◌++◌, map, Option, refl, sym, ap, ap₂, ◌∙◌, append-nil}
use Rattle.std.specs.List.{flat_map}
use Rattle.wit_model.specs.Bytes.{Bytes}
use Rattle.wit_model.specs.declared.size.ArchitectureSize.{ArchitectureSize}
use Rattle.wit_model.specs.declared.wasm_type.WasmType.{WasmType}
use Rattle.wit_model.specs.declared.wasm_type.WasmType.TheVariants as wasm
use Rattle.rust_tree.specs.declared.expr.CastType.{CastType}
use Rattle.rust_tree.specs.declared.expr.Expr.{Expr, Expr-F, fold-roll-Expr}
use Rattle.rust_tree.specs.declared.expr.Expr.TheVariants as expr
use Rattle.rust_tree.specs.declared.expr.Expr.TheVariants.{rolls-Cast, rolls-CastMut, rolls-EnumNumber, rolls-FlagsBits, rolls-I32Const, rolls-Local, rolls-Method, rolls-Ref, rolls-Zero}
use Rattle.rust_tree.specs.declared.expr.Method.{Method}
use Rattle.rust_tree.specs.declared.expr.SmallType.{SmallType}
use Rattle.rust_tree.specs.declared.expr.ZeroType.{ZeroType}
use Rattle.rust_tree.specs.declared.path.Path.{Path}
use Rattle.rust_tree.specs.declared.pattern.ArmPattern.{ArmPattern}
use Rattle.rust_tree.specs.declared.runtime_item.RuntimeItem.{RuntimeItem}
use Rattle.rust_tree.specs.declared.runtime_item.RuntimeItem.TheVariants.{AllocCrate, AsF32, AsF64, AsI32, AsI64, BoolLift, CabiDealloc, CharLift, InvalidEnumDiscriminant, StdAllocModule, StringLift, StringType, VecType}
use Rattle.rust_tree.specs.declared.stmt.Arm.{Arm, Arm-F, out-roll-Arm}
use Rattle.rust_tree.specs.declared.stmt.Block.{Block, Block-F}
use Rattle.rust_tree.specs.declared.stmt.Stmt.{Stmt, Stmt-F, fold-roll-Stmt}
use Rattle.rust_tree.specs.declared.stmt.Stmt.TheVariants as stmt
use Rattle.rust_tree.specs.declared.stmt.Stmt.TheVariants.{rolls-Expr, rolls-Let, rolls-Store, rolls-StoreSmall, rolls-WriteSlot}
use Rattle.rust_tree.specs.Asked.{asked_arm_step, asked_block_step, asked_by_arm, asked_by_arm_pattern, asked_by_block, asked_by_expr, asked_by_path, asked_by_stmt, asked_by_tail, asked_step, asked_stmt_step}
use Rattle.rust_tree.specs.Runtime.{item_name, item_of_name}
use Rattle.rust_tree.proofs.AskedLemmas.{asked-call, asked-tuple}
use Rattle.rust_tree.proofs.StmtLemmas.{asked-arm, asked-block}
use Rattle.wit_layout.specs.Cast.{cast}
use Rattle.wit_layout.specs.declared.bitcast.Bitcast.{Bitcast}
use Rattle.wit_layout.specs.declared.bitcast.Bitcast.TheVariants as bitcast
use Rattle.wrapper_run.specs.Code.{code_of}
use Rattle.wrapper_run.proofs.StmtSteps.{code-opened}
use Rattle.wrapper_values.specs.declared.core_words.CoreFn.{CoreFn}
use Rattle.wrapper_values.specs.declared.core_words.CoreFn.TheVariants as core_fn
use Rattle.func_gen.specs.CastForms.{cast_expr, core_call, core_path, f32_names, f64_names, from_names, new_slot_names, step_expr, zero_expr}
use Rattle.func_gen.specs.FlagsForms.{words_of}
use Rattle.func_gen.specs.Forms.{runtime_name, runtime_path}
use Rattle.func_gen.specs.MatchForms.{arm_of, open_arm, tail_of}
use Rattle.wrapper_closing.proofs.Within.{Within, in_left, in_right, within_as, within_from, within_none, within_to}

abbrev Items : Type 0
Items = List RuntimeItem

abbrev pub exprs_named : List Expr → List RuntimeItem
exprs_named es = flat_map asked_by_expr es

abbrev pub stmts_named : List Stmt → List RuntimeItem
stmts_named stmts = flat_map asked_by_stmt stmts

-- 1. Expressions

pub named-local : (n : Bytes) → asked_by_expr (expr.Local n) ≡ []
named-local n = ap asked_by_expr (sym (rolls-Local n)) ∙ fold-roll-Expr Items asked_step (Expr-F.Local n)

pub named-ref : (n : Bytes) → asked_by_expr (expr.Ref n) ≡ []
named-ref n = ap asked_by_expr (sym (rolls-Ref n)) ∙ fold-roll-Expr Items asked_step (Expr-F.Ref n)

pub named-mut : (n : Bytes) → asked_by_expr (expr.CastMut n) ≡ []
named-mut n = ap asked_by_expr (sym (rolls-CastMut n)) ∙ fold-roll-Expr Items asked_step (Expr-F.CastMut n)

pub named-const : (n : ℤ) → asked_by_expr (expr.I32Const n) ≡ []
named-const n = ap asked_by_expr (sym (rolls-I32Const n)) ∙ fold-roll-Expr Items asked_step (Expr-F.I32Const n)

named-zero : (ty : ZeroType) → asked_by_expr (expr.Zero ty) ≡ []
named-zero ty = ap asked_by_expr (sym (rolls-Zero ty)) ∙ fold-roll-Expr Items asked_step (Expr-F.Zero ty)

named-bits : (n : Bytes) (by : ℕ) → asked_by_expr (expr.FlagsBits n by) ≡ []
named-bits n by = ap asked_by_expr (sym (rolls-FlagsBits n by)) ∙ fold-roll-Expr Items asked_step (Expr-F.FlagsBits n by)

pub named-cast : (e : Expr) (to : CastType) → asked_by_expr (expr.Cast e to) ≡ asked_by_expr e
named-cast e to = ap asked_by_expr (sym (rolls-Cast e to)) ∙ fold-roll-Expr Items asked_step (Expr-F.Cast e to)

pub named-number : (e : Expr) → asked_by_expr (expr.EnumNumber e) ≡ asked_by_expr e
named-number e = ap asked_by_expr (sym (rolls-EnumNumber e)) ∙ fold-roll-Expr Items asked_step (Expr-F.EnumNumber e)

named-method : (e : Expr) (method : Method) → asked_by_expr (expr.Method e method) ≡ asked_by_expr e
named-method e method = ap asked_by_expr (sym (rolls-Method e method)) ∙ fold-roll-Expr Items asked_step (Expr-F.Method e method)

-- 2. Paths

pub runtime_named : (i : RuntimeItem) → asked_by_path (runtime_path i) ≡ i ∷ []
unfolding asked_by_path item_name item_of_name runtime_name
runtime_named AsI32 = refl
runtime_named AsI64 = refl
runtime_named AsF32 = refl
runtime_named AsF64 = refl
runtime_named AllocCrate = refl
runtime_named StringType = refl
runtime_named VecType = refl
runtime_named BoolLift = refl
runtime_named CharLift = refl
runtime_named StringLift = refl
runtime_named StdAllocModule = refl
runtime_named CabiDealloc = refl
runtime_named InvalidEnumDiscriminant = refl

core_named : (f : CoreFn) → asked_by_path (core_path f) ≡ []
unfolding asked_by_path from_names f32_names f64_names new_slot_names
core_named core_fn.I64From = refl
core_named core_fn.F32FromBits = refl
core_named core_fn.F64FromBits = refl
core_named core_fn.NewSlot = refl

-- 3. Calls and casts

-- a call names what its path does, and what its arguments do
pub path_named : (path : Path) (es : List Expr) → Within (asked_by_path path) (asked_by_expr (expr.Call path es))
path_named path es = within_to (asked_by_path path ++ exprs_named es) (asked_by_expr (expr.Call path es)) (sym (asked-call path es)) (in_left (asked_by_path path) (exprs_named es))

pub arguments_named : (path : Path) (es : List Expr) → Within (exprs_named es) (asked_by_expr (expr.Call path es))
arguments_named path es = within_to (asked_by_path path ++ exprs_named es) (asked_by_expr (expr.Call path es)) (sym (asked-call path es)) (in_right (asked_by_path path) (exprs_named es))

-- and so names the item of `_rt` that is called
pub item_named : (i : RuntimeItem) (es : List Expr) → Within (i ∷ []) (asked_by_expr (expr.Call (runtime_path i) es))
item_named i es = within_from (i ∷ []) (asked_by_path (runtime_path i)) (sym (runtime_named i)) (path_named (runtime_path i) es)

core_call_named : (f : CoreFn) (e : Expr) → asked_by_expr (core_call f e) ≡ asked_by_expr e
core_call_named f e = asked-call (core_path f) (e ∷ []) ∙ ap (λ (xs : Items). xs ++ exprs_named (e ∷ [])) (core_named f) ∙ append-nil (asked_by_expr e)

-- a cast names what its operand does
step_named : (c : Bitcast) (e : Expr) → asked_by_expr (step_expr c e) ≡ asked_by_expr e
step_named bitcast.I32ToI64 e = core_call_named core_fn.I64From e
step_named bitcast.F32ToI32 e = named-cast _ _ ∙ named-method e _
step_named bitcast.F64ToI64 e = named-cast _ _ ∙ named-method e _
step_named bitcast.I64ToI32 e = named-cast e _
step_named bitcast.I32ToF32 e = core_call_named core_fn.F32FromBits _ ∙ named-cast e _
step_named bitcast.I64ToF32 e = core_call_named core_fn.F32FromBits _ ∙ named-cast e _
step_named bitcast.I64ToF64 e = core_call_named core_fn.F64FromBits _ ∙ named-cast e _
step_named bitcast.F32ToI64 e = core_call_named core_fn.I64From _ ∙ named-method e _
step_named bitcast.I64ToP64 e = core_call_named core_fn.NewSlot _ ∙ named-cast e _
step_named bitcast.P64ToI64 e = named-cast _ _ ∙ named-method e _
step_named bitcast.P64ToP e = named-method e _
step_named bitcast.I32ToP e = named-cast e _
step_named bitcast.LToP e = named-cast e _
step_named bitcast.PToI32 e = named-cast e _
step_named bitcast.LToI32 e = named-cast e _
step_named bitcast.I32ToL e = named-cast e _
step_named bitcast.I64ToL e = named-cast e _
step_named bitcast.PToL e = named-cast e _
step_named bitcast.LToI64 e = named-cast e _
step_named _ e = refl

pub cast_named : (c : Bitcast) (e : Expr) → asked_by_expr (cast_expr c e) ≡ asked_by_expr e
cast_named (bitcast.Sequence from through last) e = step_named (cast through last) (step_expr (cast from through) e) ∙ step_named (cast from through) e
cast_named bitcast.I32ToI64 e = step_named bitcast.I32ToI64 e
cast_named c e = step_named c e

pub zero_named : (ty : WasmType) → asked_by_expr (zero_expr ty) ≡ []
zero_named wasm.I32 = named-const (pos 0)
zero_named wasm.I64 = named-zero _
zero_named wasm.F32 = named-zero _
zero_named wasm.F64 = named-zero _
zero_named wasm.Pointer = named-zero _
zero_named wasm.PointerOrI64 = named-zero _
zero_named wasm.Length = named-zero _

-- 4. Several expressions that name nothing

pub locals_named : (names : List Bytes) → exprs_named (map (λ n. expr.Local n) names) ≡ []
locals_named [] = refl
locals_named (n ∷ names) = ap₂ (λ (x y : Items). x ++ y) (named-local n) (locals_named names)

pub zeros_named : (types : List WasmType) → exprs_named (map zero_expr types) ≡ []
zeros_named [] = refl
zeros_named (ty ∷ types) = ap₂ (λ (x y : Items). x ++ y) (zero_named ty) (zeros_named types)

pub bits_named : (n : Bytes) (by count : ℕ) → exprs_named (words_of n by count) ≡ []
bits_named n by zero = refl
bits_named n by (suc k) = ap₂ (λ (x y : Items). x ++ y) (named-bits n by) (bits_named n (32 + by) k)

pub one_named : (e : Expr) → exprs_named (e ∷ []) ≡ asked_by_expr e
one_named e = append-nil (asked_by_expr e)

-- 5. Statements

pub let_named : (n : Bytes) (e : Expr) → asked_by_stmt (stmt.Let n e) ≡ asked_by_expr e
let_named n e = ap asked_by_stmt (sym (rolls-Let n e)) ∙ fold-roll-Stmt Items Items Items asked_stmt_step asked_arm_step asked_block_step (Stmt-F.Let n e)

pub expr_named : (e : Expr) → asked_by_stmt (stmt.Expr e) ≡ asked_by_expr e
expr_named e = ap asked_by_stmt (sym (rolls-Expr e)) ∙ fold-roll-Stmt Items Items Items asked_stmt_step asked_arm_step asked_block_step (Stmt-F.Expr e)

pub store_named : (address : Expr) (o : ArchitectureSize) (ty : WasmType) (e : Expr) → asked_by_stmt (stmt.Store address o ty e) ≡ asked_by_expr address ++ asked_by_expr e
store_named address o ty e = ap asked_by_stmt (sym (rolls-Store address o ty e)) ∙ fold-roll-Stmt Items Items Items asked_stmt_step asked_arm_step asked_block_step (Stmt-F.Store address o ty e)

pub small_named : (address : Expr) (o : ArchitectureSize) (ty : SmallType) (e : Expr) → asked_by_stmt (stmt.StoreSmall address o ty e) ≡ asked_by_expr address ++ asked_by_expr e
small_named address o ty e = ap asked_by_stmt (sym (rolls-StoreSmall address o ty e)) ∙ fold-roll-Stmt Items Items Items asked_stmt_step asked_arm_step asked_block_step (Stmt-F.StoreSmall address o ty e)

pub write_named : (n : Bytes) (e : Expr) → asked_by_stmt (stmt.WriteSlot n e) ≡ asked_by_expr e
write_named n e = ap asked_by_stmt (sym (rolls-WriteSlot n e)) ∙ fold-roll-Stmt Items Items Items asked_stmt_step asked_arm_step asked_block_step (Stmt-F.WriteSlot n e)

-- 6. Blocks and arms

pub code_named : (stmts : List Stmt) (tail : Option Expr) → asked_by_block (code_of stmts tail) ≡ stmts_named stmts ++ asked_by_tail tail
code_named stmts tail = asked-block (code_of stmts tail) ∙ ap (λ (l : Block-F Stmt Arm Block). stmts_named l.stmts ++ asked_by_tail l.tail) (code-opened stmts tail)

pub arm_named : (p : ArmPattern) (b : Block) → Within (asked_by_block b) (asked_by_arm (arm_of p b))
arm_named p b =
    within_to (asked_by_arm_pattern p ++ asked_by_block b) (asked_by_arm (arm_of p b))
    (sym (asked-arm (arm_of p b) ∙ ap (λ (l : Arm-F Stmt Arm Block). asked_by_arm_pattern l.pattern ++ asked_by_block l.body) (out-roll-Arm (open_arm p b)))) (in_right (asked_by_arm_pattern p) (asked_by_block b))

-- what stands last names what each result does
pub tail_named : (es : List Expr) → Within (exprs_named es) (asked_by_tail (tail_of es))
tail_named [] = within_none []
tail_named (e ∷ []) = within_as (exprs_named (e ∷ [])) (asked_by_expr e) (one_named e)
tail_named (first ∷ second ∷ more) = within_as (exprs_named (first ∷ second ∷ more)) (asked_by_expr (expr.Tuple (first ∷ second ∷ more))) (sym (asked-tuple (first ∷ second ∷ more)))
