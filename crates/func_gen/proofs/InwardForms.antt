-- The forms that are emitted are inward, but for the call of a core import and the address of the static area.
use Rattle.std.proofs.Common.{◌≡◌, ℕ, ◌+◌, Bool, true, false, cond, ◌&&◌, ◌||◌, List, [], ◌∷◌, ◌++◌, map, Option, None, Some, refl, sym, ap, ap₂, ◌∙◌, subst}
use Rattle.std.specs.Prelude.{zip}
use Rattle.std.specs.List.{list_all}
use Rattle.std.specs.Str.{bytes_eq}
use Rattle.std.proofs.lemmas.Bool.{and_from, and_parts}
use Rattle.std.proofs.lemmas.List.{map-append}
use Rattle.wit_model.specs.Bytes.{Bytes}
use Rattle.wit_model.specs.declared.size.ArchitectureSize.{ArchitectureSize}
use Rattle.wit_model.specs.declared.wasm_type.WasmType.{WasmType}
use Rattle.wit_layout.specs.declared.bitcast.Bitcast.{Bitcast}
use Rattle.rust_tree.specs.declared.expr.CastType.{CastType}
use Rattle.rust_tree.specs.declared.expr.Expr.{Expr, Expr-F, fold-roll-Expr, ind-Expr, map-Expr, roll-Expr}
use Rattle.rust_tree.specs.declared.expr.Expr.TheVariants as expr
use Rattle.rust_tree.specs.declared.expr.Expr.TheVariants.{rolls-AsPtr, rolls-FromRawParts, rolls-I32FromBool, rolls-IntoBoxedBytes, rolls-Len, rolls-Load, rolls-LoadSmall, rolls-Size}
use Rattle.rust_tree.specs.declared.expr.SmallType.{SmallType}
use Rattle.rust_tree.specs.declared.path.Path.{Path}
use Rattle.rust_tree.specs.declared.pattern.Pattern.{Pattern}
use Rattle.rust_tree.specs.declared.runtime_item.RuntimeItem.{RuntimeItem}
use Rattle.rust_tree.specs.declared.runtime_item.RuntimeItem.TheVariants.{StringLift}
use Rattle.rust_tree.specs.Runtime.{item_name}
use Rattle.rust_tree.specs.declared.stmt.Arm.{Arm}
use Rattle.rust_tree.specs.declared.stmt.Block.{Block}
use Rattle.rust_tree.specs.declared.stmt.ImportDecl.{ImportDecl}
use Rattle.rust_tree.specs.declared.stmt.MatchNames.{MatchNames}
use Rattle.rust_tree.specs.declared.stmt.Stmt.{Stmt, Stmt-F, fold-roll-Stmt, map-Stmt, roll-Stmt}
use Rattle.rust_tree.specs.declared.stmt.Stmt.TheVariants as stmt
use Rattle.rust_tree.specs.declared.stmt.Stmt.TheVariants.{rolls-AssertLast, rolls-Expr, rolls-Import, rolls-Let, rolls-LetParts, rolls-LetSlot, rolls-Store, rolls-StoreSmall, rolls-WriteSlot}
use Rattle.wrapper_run.specs.Inward.{StmtTest, are_inward, declares_slot, inward_arm_step, inward_block_step, inward_step, inward_stmt_step, is_fresh, is_inward_expr, is_no_import, plain, stmt_test, writes_slot}
use Rattle.wrapper_run.specs.Run.{Callee, absolute_callee, callee, case_callee, core_forget, core_function, is_core_forget, is_f32_from_bits, is_f64_from_bits, is_i64_from, is_new_slot, lift_name, member_callee, member_of, names_callee, of_runtime, runtime_module_name, unknown}
use Rattle.wrapper_run.proofs.LocalLemmas.{bytes_eq-same}
use Rattle.wrapper_values.specs.Variants.{number_in_core}
use Rattle.wrapper_values.specs.declared.core_words.CoreFn.TheVariants as core_fn
use Rattle.func_gen.specs.declared.flags_site.FlagsSite.{FlagsSite}
use Rattle.func_gen.specs.declared.operand.ExprOperand.{ExprOperand}
use Rattle.func_gen.specs.CastForms.{cast_expr, cast_stmts, needs_slot, slot_prefix, stmts_from}
use Rattle.func_gen.specs.EnumForms.{case_lifted, lift_path}
use Rattle.func_gen.specs.FlagsForms.{flags_made, shifted_from}
use Rattle.func_gen.specs.FlushForms.{lets_of}
use Rattle.func_gen.specs.Forms.{runtime_call, runtime_name, runtime_path}
use Rattle.func_gen.specs.InwardCode.{are_inward_stmts, is_inward_arm, names_no_import}
use Rattle.func_gen.specs.Operand.{is_conversion, is_core_function, is_operand, operand_step}
use Rattle.func_gen.specs.PartForms.{are_operands, exprs_of, part_name}
use Rattle.func_gen.specs.TextForms.{forget_names, forget_path, forgotten}
use Rattle.func_gen.proofs.InwardSteps.{arm_test, block_test, inward-call, inward-record, inward-tuple, inward-words, test-match}
use Rattle.func_gen.proofs.OperandCalls.{calls_conversion, calls_core_function}
use Rattle.func_gen.proofs.OperandLists.{same_operands}
use Rattle.func_gen.proofs.OperandSteps.{cast_operand, local_operand, whole_operand}

-- 1. Paths of more than one name

either : (b : Bool) (c d : Callee) → is_no_import c ≡ true → is_no_import d ≡ true → is_no_import (cond b c d) ≡ true
either true c d h k = h
either false c d h k = k

-- two names of the file
pub no_import_member : (first name : Bytes) → is_no_import (names_callee (first ∷ name ∷ [])) ≡ true
no_import_member first name =
    either (bytes_eq first runtime_module_name) (of_runtime name) (member_callee first name) refl
    (either (is_i64_from first name) (core_function core_fn.I64From) _ refl
    (either (is_f32_from_bits first name) (core_function core_fn.F32FromBits) _ refl (either (is_f64_from_bits first name) (core_function core_fn.F64FromBits) (member_of first name) refl refl)))

case_no_import : (o : Option ℕ) → is_no_import (case_callee o) ≡ true
case_no_import None = refl
case_no_import (Some n) = refl

-- names behind a leading `::`
pub no_import_absolute : (names : List Bytes) → is_no_import (absolute_callee names) ≡ true
no_import_absolute [] = refl
no_import_absolute (a ∷ []) = refl
no_import_absolute (a ∷ b ∷ []) = refl
no_import_absolute (a ∷ b ∷ c ∷ []) = either (is_core_forget a b c) core_forget unknown refl refl
no_import_absolute (a ∷ b ∷ c ∷ d ∷ []) = either (is_new_slot a b c d) (core_function core_fn.NewSlot) (case_callee (number_in_core (a ∷ b ∷ c ∷ d ∷ []))) refl (case_no_import (number_in_core (a ∷ b ∷ c ∷ d ∷ [])))
no_import_absolute (a ∷ b ∷ c ∷ d ∷ e ∷ names) = refl

pub member_no_import : (first name : Bytes) → names_no_import (record { lead = false; supers = 0; names = first ∷ name ∷ [] }) ≡ true
unfolding callee
member_no_import first name = no_import_member first name

pub absolute_no_import : (names : List Bytes) → names_no_import (record { lead = true; supers = 0; names = names }) ≡ true
unfolding callee
absolute_no_import names = no_import_absolute names

-- 2. Expressions

-- by one level
level : (l : Expr-F Expr) (e : Expr) → roll-Expr l ≡ e → inward_step (map-Expr Expr Bool is_inward_expr l) ≡ true → is_inward_expr e ≡ true
level l e is h = ap is_inward_expr (sym is) ∙ fold-roll-Expr Bool inward_step l ∙ h

abbrev InwardOperand : Expr → Type 0
InwardOperand e = is_operand e ≡ true → is_inward_expr e ≡ true

converted_path : (path : Path) → (is_conversion path || is_core_function path) ≡ true → names_no_import path ≡ true
converted_path path h = go (is_conversion path) refl h
  where
    go : (c : Bool) → is_conversion path ≡ c → (c || is_core_function path) ≡ true → names_no_import path ≡ true
    go true is h = ap is_no_import (calls_conversion path is).1
    go false is h = ap is_no_import (calls_core_function path h).1

step : {X : Type 0} (fst : X → Expr) → ((x : X) → InwardOperand (fst x)) → (y : Expr-F X) → InwardOperand (roll-Expr (map-Expr X Expr fst y))
step fst snd (Expr-F.Local name) h = fold-roll-Expr Bool inward_step (Expr-F.Local name)
step fst snd (Expr-F.Ref name) h = fold-roll-Expr Bool inward_step (Expr-F.Ref name)
step fst snd (Expr-F.CastMut name) h = fold-roll-Expr Bool inward_step (Expr-F.CastMut name)
step fst snd (Expr-F.FlagsBits name by) h = fold-roll-Expr Bool inward_step (Expr-F.FlagsBits name by)
step fst snd (Expr-F.I32Const n) h = fold-roll-Expr Bool inward_step (Expr-F.I32Const n)
step fst snd (Expr-F.Zero ty) h = fold-roll-Expr Bool inward_step (Expr-F.Zero ty)
step fst snd (Expr-F.EnumNumber x) h = fold-roll-Expr Bool inward_step (Expr-F.EnumNumber (fst x)) ∙ snd x (sym (fold-roll-Expr Bool operand_step (Expr-F.EnumNumber (fst x))) ∙ h)
step fst snd (Expr-F.Cast x to) h = fold-roll-Expr Bool inward_step (Expr-F.Cast (fst x) to) ∙ snd x (sym (fold-roll-Expr Bool operand_step (Expr-F.Cast (fst x) to)) ∙ h)
step fst snd (Expr-F.Method x method) h = fold-roll-Expr Bool inward_step (Expr-F.Method (fst x) method) ∙ snd x (sym (fold-roll-Expr Bool operand_step (Expr-F.Method (fst x) method)) ∙ h)
step fst snd (Expr-F.Call path (x ∷ [])) h =
    let both = and_parts (is_conversion path || is_core_function path) (is_operand (fst x)) (sym (fold-roll-Expr Bool operand_step (Expr-F.Call path (fst x ∷ []))) ∙ h) in
    fold-roll-Expr Bool inward_step (Expr-F.Call path (fst x ∷ [])) ∙ and_from (names_no_import path) _ (converted_path path both.0) (and_from (is_inward_expr (fst x)) true (snd x both.1) refl)
step fst snd (Expr-F.Call path []) h = absurd (let e : true ≡ false = sym h ∙ fold-roll-Expr Bool operand_step (Expr-F.Call path []) in cc)
step fst snd (Expr-F.Call path (x ∷ x2 ∷ xs)) h = absurd (let e : true ≡ false = sym h ∙ fold-roll-Expr Bool operand_step (Expr-F.Call path (fst x ∷ fst x2 ∷ map fst xs)) in cc)
step {X} fst snd y h = absurd (let e : true ≡ false = sym h ∙ fold-roll-Expr Bool operand_step (map-Expr X Expr fst y) in cc)

pub operand_inward : (e : Expr) → is_operand e ≡ true → is_inward_expr e ≡ true
operand_inward = ind-Expr InwardOperand (λ l y is. subst (λ z. InwardOperand (roll-Expr z)) is (step (λ e. e.0) (λ e. e.1) y))

pub operands_inward : (es : List Expr) → list_all is_operand es ≡ true → list_all is_inward_expr es ≡ true
operands_inward [] h = refl
operands_inward (e ∷ es) h = let two = and_parts (is_operand e) (list_all is_operand es) h in and_from (is_inward_expr e) _ (operand_inward e two.0) (operands_inward es two.1)

pub call_inward : (path : Path) (es : List Expr) → names_no_import path ≡ true → list_all is_inward_expr es ≡ true → is_inward_expr (expr.Call path es) ≡ true
call_inward path es h k = inward-call path es ∙ and_from (names_no_import path) (list_all is_inward_expr es) h k

pub one_inward : (e : Expr) → is_inward_expr e ≡ true → list_all is_inward_expr (e ∷ []) ≡ true
one_inward e h = and_from (is_inward_expr e) true h refl

pub runtime_inward : (i : RuntimeItem) (es : List Expr) → list_all is_inward_expr es ≡ true → is_inward_expr (expr.Call (runtime_path i) es) ≡ true
runtime_inward i es = call_inward (runtime_path i) es (member_no_import runtime_name (item_name i))

-- of one operand
module _ (e : Expr) (h : is_operand e ≡ true) where
  pub bool_inward : is_inward_expr (expr.I32FromBool e) ≡ true
  bool_inward = level (Expr-F.I32FromBool e) (expr.I32FromBool e) (rolls-I32FromBool e) (operand_inward e h)

  pub load_inward : (o : ArchitectureSize) (ty : WasmType) → is_inward_expr (expr.Load e o ty) ≡ true
  load_inward o ty = level (Expr-F.Load e o ty) (expr.Load e o ty) (rolls-Load e o ty) (operand_inward e h)

  pub load_small_inward : (o : ArchitectureSize) (ty : SmallType) → is_inward_expr (expr.LoadSmall e o ty) ≡ true
  load_small_inward o ty = level (Expr-F.LoadSmall e o ty) (expr.LoadSmall e o ty) (rolls-LoadSmall e o ty) (operand_inward e h)

  cast_inward : (to : CastType) → is_inward_expr (expr.Cast e to) ≡ true
  cast_inward to = operand_inward (expr.Cast e to) (cast_operand e to h)

  -- `_rt` and `_lift` get a cast
  pub lifted_inward : (i : RuntimeItem) (to : CastType) → is_inward_expr (runtime_call i (expr.Cast e to)) ≡ true
  lifted_inward i to = runtime_inward i (expr.Cast e to ∷ []) (one_inward (expr.Cast e to) (cast_inward to))

  pub lift_inward : (name : Bytes) (to : CastType) → is_inward_expr (case_lifted name to e) ≡ true
  lift_inward name to = call_inward (lift_path name) (expr.Cast e to ∷ []) (member_no_import name lift_name) (one_inward (expr.Cast e to) (cast_inward to))

pub size_inward : (size : ArchitectureSize) → is_inward_expr (expr.Size size) ≡ true
size_inward size = level (Expr-F.Size size) (expr.Size size) (rolls-Size size) refl

pub address_inward : (name : Bytes) → is_inward_expr (expr.AsPtr name) ≡ true
address_inward name = level (Expr-F.AsPtr name) (expr.AsPtr name) (rolls-AsPtr name) refl

pub length_inward : (name : Bytes) → is_inward_expr (expr.Len name) ≡ true
length_inward name = level (Expr-F.Len name) (expr.Len name) (rolls-Len name) refl

pub bytes_inward : (name : Bytes) → is_inward_expr (expr.IntoBoxedBytes name) ≡ true
bytes_inward name = level (Expr-F.IntoBoxedBytes name) (expr.IntoBoxedBytes name) (rolls-IntoBoxedBytes name) refl

pub parts_inward : (e : Expr) (length : Bytes) → is_inward_expr e ≡ true → is_inward_expr (expr.FromRawParts e length) ≡ true
parts_inward e length h = level (Expr-F.FromRawParts e length) (expr.FromRawParts e length) (rolls-FromRawParts e length) h

local_inward : (name : Bytes) → is_inward_expr (expr.Local name) ≡ true
local_inward name = operand_inward (expr.Local name) (local_operand name)

pub text_inward : (name : Bytes) → is_inward_expr (runtime_call StringLift (expr.Local name)) ≡ true
text_inward name = runtime_inward StringLift (expr.Local name ∷ []) (one_inward (expr.Local name) (local_inward name))

pub forgotten_inward : (name : Bytes) → is_inward_expr (forgotten name) ≡ true
forgotten_inward name = call_inward forget_path (expr.Local name ∷ []) (absolute_no_import forget_names) (one_inward (expr.Local name) (local_inward name))

-- of operands
each_zipped : (fields : List Bytes) (es : List Expr) → list_all is_inward_expr es ≡ true → list_all (λ (f : Bytes × Expr). is_inward_expr f.1) (zip fields es) ≡ true
each_zipped [] es h = refl
each_zipped (f ∷ fields) [] h = refl
each_zipped (f ∷ fields) (e ∷ es) h = let two = and_parts (is_inward_expr e) (list_all is_inward_expr es) h in and_from (is_inward_expr e) _ two.0 (each_zipped fields es two.1)

each_shifted : (by : ℕ) (es : List Expr) → list_all is_inward_expr es ≡ true → list_all (λ (f : ℕ × Expr). is_inward_expr f.1) (shifted_from by es) ≡ true
each_shifted by [] h = refl
each_shifted by (e ∷ es) h = let two = and_parts (is_inward_expr e) (list_all is_inward_expr es) h in and_from (is_inward_expr e) _ two.0 (each_shifted (32 + by) es two.1)

module _ (os : List ExprOperand) (h : are_operands os ≡ true) where
  pub exprs_inward : list_all is_inward_expr (exprs_of os) ≡ true
  exprs_inward = operands_inward (exprs_of os) (same_operands os ∙ h)

  pub record_inward : (path : Path) (fields : List Bytes) → is_inward_expr (expr.Record path (zip fields (exprs_of os))) ≡ true
  record_inward path fields = inward-record path (zip fields (exprs_of os)) ∙ each_zipped fields (exprs_of os) exprs_inward

  pub flags_inward : (s : FlagsSite) → is_inward_expr (flags_made s (exprs_of os)) ≡ true
  flags_inward s = inward-words s.path s.repr (shifted_from 0 (exprs_of os)) ∙ each_shifted 0 (exprs_of os) exprs_inward

pub tuple_inward : (es : List Expr) → list_all is_operand es ≡ true → is_inward_expr (expr.Tuple es) ≡ true
tuple_inward es h = inward-tuple es ∙ operands_inward es h

-- 3. Statements

alone : (s : Stmt) (b : Bool) → stmt_test s ≡ plain b → b ≡ true → are_inward_stmts (s ∷ []) ≡ true
alone s b is h = ap (λ t. are_inward None (t ∷ [])) is ∙ and_from b true h refl

test : (l : Stmt-F Stmt Arm Block) (s : Stmt) (t : StmtTest) → roll-Stmt l ≡ s → inward_stmt_step (map-Stmt Stmt Arm Block StmtTest Bool Bool stmt_test arm_test block_test l) ≡ t → stmt_test s ≡ t
test l s t is h = ap stmt_test (sym is) ∙ fold-roll-Stmt StmtTest Bool Bool inward_stmt_step inward_arm_step inward_block_step l ∙ h

pub import_inward : (d : ImportDecl) → are_inward_stmts (stmt.Import d ∷ []) ≡ true
import_inward d = alone (stmt.Import d) true (test (Stmt-F.Import d) (stmt.Import d) (plain true) (rolls-Import d) refl) refl

module _ (e : Expr) (h : is_inward_expr e ≡ true) where
  pub let_inward : (name : Bytes) → are_inward_stmts (stmt.Let name e ∷ []) ≡ true
  let_inward name = alone (stmt.Let name e) (is_inward_expr e) (test (Stmt-F.Let name e) (stmt.Let name e) (plain (is_inward_expr e)) (rolls-Let name e) refl) h

  pub expr_inward : are_inward_stmts (stmt.Expr e ∷ []) ≡ true
  expr_inward = alone (stmt.Expr e) (is_inward_expr e) (test (Stmt-F.Expr e) (stmt.Expr e) (plain (is_inward_expr e)) (rolls-Expr e) refl) h

  pub apart_inward : (p : Pattern) → are_inward_stmts (stmt.LetParts p e ∷ []) ≡ true
  apart_inward p = alone (stmt.LetParts p e) (is_inward_expr e) (test (Stmt-F.LetParts p e) (stmt.LetParts p e) (plain (is_inward_expr e)) (rolls-LetParts p e) refl) h

  pub match_inward : (names : MatchNames) (arms : List Arm) → list_all is_inward_arm arms ≡ true → are_inward_stmts (stmt.Match names e arms ∷ []) ≡ true
  match_inward names arms k = alone (stmt.Match names e arms) (is_inward_expr e && list_all is_inward_arm arms) (test-match names e arms) (and_from (is_inward_expr e) (list_all is_inward_arm arms) h k)

module _ (e address : Expr) (h : is_operand e ≡ true) (k : is_operand address ≡ true) (o : ArchitectureSize) where
  both : (is_inward_expr e && is_inward_expr address) ≡ true
  both = and_from (is_inward_expr e) (is_inward_expr address) (operand_inward e h) (operand_inward address k)

  pub store_inward : (ty : WasmType) → are_inward_stmts (stmt.Store address o ty e ∷ []) ≡ true
  store_inward ty = alone (stmt.Store address o ty e) (is_inward_expr e && is_inward_expr address) (test (Stmt-F.Store address o ty e) (stmt.Store address o ty e) (plain (is_inward_expr e && is_inward_expr address)) (rolls-Store address o ty e) refl) both

  pub store_small_inward : (ty : SmallType) → are_inward_stmts (stmt.StoreSmall address o ty e ∷ []) ≡ true
  store_small_inward ty =
      alone (stmt.StoreSmall address o ty e) (is_inward_expr e && is_inward_expr address)
      (test (Stmt-F.StoreSmall address o ty e) (stmt.StoreSmall address o ty e) (plain (is_inward_expr e && is_inward_expr address)) (rolls-StoreSmall address o ty e) refl) both

-- 4. Several

any_slot : (slot : Option Bytes) (b : List StmtTest) → are_inward None b ≡ true → are_inward slot b ≡ true
any_slot slot [] h = refl
any_slot slot (plain b ∷ ts) h = h
any_slot slot (declares_slot name ∷ ts) h = h
any_slot slot (writes_slot name b ∷ ts) h = absurd cc

behind : (slot : Option Bytes) (a b : List StmtTest) → are_inward slot a ≡ true → are_inward None b ≡ true → are_inward slot (a ++ b) ≡ true
behind slot [] b h k = any_slot slot b k
behind slot (plain c ∷ a) b h k = let two = and_parts c (are_inward None a) h in and_from c _ two.0 (behind None a b two.1 k)
behind slot (declares_slot name ∷ a) b h k = behind (Some name) a b h k
behind slot (writes_slot name c ∷ a) b h k = let two = and_parts (is_fresh slot name && c) (are_inward None a) h in and_from (is_fresh slot name && c) _ two.0 (behind None a b two.1 k)

pub inward_both : (a b : List Stmt) → are_inward_stmts a ≡ true → are_inward_stmts b ≡ true → are_inward_stmts (a ++ b) ≡ true
inward_both a b h k = ap (are_inward None) (map-append stmt_test a b) ∙ behind None (map stmt_test a) (map stmt_test b) h k

pub lets_inward : (names : List Bytes) (es : List Expr) → list_all is_operand es ≡ true → are_inward_stmts (lets_of names es) ≡ true
lets_inward [] es h = refl
lets_inward (n ∷ names) [] h = refl
lets_inward (n ∷ names) (e ∷ es) h =
    let two = and_parts (is_operand e) (list_all is_operand es) h in
    inward_both (stmt.Let n e ∷ []) (lets_of names es) (let_inward e (operand_inward e two.0) n) (lets_inward names es two.1)

-- a slot is written right behind its declaration
slot_inward : (needed : Bool) (slot : Bytes) (e : Expr) → is_inward_expr e ≡ true → are_inward_stmts (cast_stmts needed slot e) ≡ true
slot_inward false slot e h = refl
slot_inward true slot e h =
    ap₂ (λ t u. are_inward None (t ∷ u ∷ [])) (test (Stmt-F.LetSlot slot) (stmt.LetSlot slot) (declares_slot slot) (rolls-LetSlot slot) refl)
    (test (Stmt-F.WriteSlot slot e) (stmt.WriteSlot slot e) (writes_slot slot (is_inward_expr e)) (rolls-WriteSlot slot e) refl)
    ∙ and_from (bytes_eq slot slot && is_inward_expr e) true (and_from (bytes_eq slot slot) (is_inward_expr e) (bytes_eq-same slot) h) refl

pub slots_inward : (at : ℕ) (cs : List Bitcast) (es : List Expr) (t : ℕ) → list_all is_operand es ≡ true → are_inward_stmts (stmts_from at cs es t) ≡ true
slots_inward at [] es t h = refl
slots_inward at (c ∷ cs) [] t h = refl
slots_inward at (c ∷ cs) (e ∷ es) t h =
    let two = and_parts (is_operand e) (list_all is_operand es) h in
    let cast = slot_inward (needs_slot c) (part_name slot_prefix t at) (cast_expr c e) (operand_inward (cast_expr c e) (whole_operand c e two.0)) in
    inward_both (cast_stmts (needs_slot c) (part_name slot_prefix t at) (cast_expr c e)) (stmts_from (at + 1) cs es t) cast (slots_inward (at + 1) cs es t two.1)

-- behind the test of a number
pub assert_inward : (n : Bytes) (k : ℕ) (stmts : List Stmt) → are_inward_stmts stmts ≡ true → are_inward_stmts (stmt.AssertLast n k ∷ stmts) ≡ true
assert_inward n k stmts h = ap (λ t. are_inward None (t ∷ map stmt_test stmts)) (test (Stmt-F.AssertLast n k) (stmt.AssertLast n k) (plain true) (rolls-AssertLast n k) refl) ∙ h
