-- Statements of identifiers: one at a time, and matches with their arms.
use Rattle.std.proofs.Common.{◌≡◌, ℕ, suc, Bool, true, false, ◌&&◌, List, [], ◌∷◌, ◌++◌, map, Option, None, Some, refl, sym, ap, ap₂, ◌∙◌}
use Rattle.std.specs.Prelude.{◌||◌, codes}
use Rattle.std.specs.List.{AllByRecursion, list_all}
use Rattle.std.specs.Str.{bytes_eq}
use Rattle.std.proofs.lemmas.Bool.{and_parts}
use Rattle.std.proofs.lemmas.List.Folds.{list_all-append}
use Rattle.wit_model.specs.Bytes.{Bytes}
use Rattle.wit_model.specs.declared.size.ArchitectureSize.{ArchitectureSize}
use Rattle.wit_model.specs.declared.wasm_type.WasmType.{WasmType}
use Rattle.rust_tree.specs.declared.area.ReturnArea.{ReturnArea}
use Rattle.rust_tree.specs.declared.expr.Expr.{Expr, Expr-F, fold-roll-Expr}
use Rattle.rust_tree.specs.declared.expr.Expr.TheVariants as expr
use Rattle.rust_tree.specs.declared.expr.Expr.TheVariants.{rolls-Record}
use Rattle.rust_tree.specs.declared.expr.SmallType.{SmallType}
use Rattle.rust_tree.specs.declared.path.Path.{Path}
use Rattle.rust_tree.specs.declared.pattern.ArmPattern.{ArmPattern}
use Rattle.rust_tree.specs.declared.pattern.ArmPattern.TheVariants as arm
use Rattle.rust_tree.specs.declared.pattern.Pattern.{Pattern}
use Rattle.rust_tree.specs.declared.runtime_item.RuntimeItem.{RuntimeItem}
use Rattle.rust_tree.specs.declared.runtime_item.RuntimeItem.TheVariants.{InvalidEnumDiscriminant, AsI32, AsI64, AsF32, AsF64, AllocCrate, StringType, VecType, BoolLift, CharLift, StringLift, StdAllocModule, CabiDealloc}
use Rattle.rust_tree.specs.declared.stmt.Arm.{Arm-F, out-roll-Arm}
use Rattle.rust_tree.specs.declared.stmt.Arm.{Arm}
use Rattle.rust_tree.specs.declared.stmt.Block.{Block, Block-F}
use Rattle.rust_tree.specs.declared.stmt.ImportDecl.{ImportDecl}
use Rattle.rust_tree.specs.declared.stmt.MatchNames.{MatchNames}
use Rattle.rust_tree.specs.declared.stmt.MatchNames.TheVariants as names_of
use Rattle.rust_tree.specs.declared.stmt.Stmt.{Stmt, Stmt-F, fold-roll-Stmt}
use Rattle.rust_tree.specs.declared.stmt.Stmt.TheVariants as stmt
use Rattle.rust_tree.specs.declared.stmt.Stmt.TheVariants.{rolls-Area, rolls-AssertLast, rolls-Expr, rolls-Import, rolls-Let, rolls-LetParts, rolls-LetSlot, rolls-Store, rolls-StoreSmall, rolls-WriteSlot}
use Rattle.rust_tree.specs.Ident.{escaped_words, is_ident}
use Rattle.rust_tree.specs.Runtime.{item_name}
use Rattle.rust_tree.specs.WellNamed.{are_fields, are_match_names, are_path_names, has_two, is_absent_or, is_case_path, is_named_arm, is_named_arm_pattern, is_named_block, is_named_expr, is_named_import, is_named_pattern, is_named_stmt, named_arm_step, named_block_step, named_step, named_stmt_step}
use Rattle.rust_tree.proofs.NamedLemmas.{is_named-call, is_named-case, is_named-tuple, is_named-unit}
use Rattle.rust_tree.proofs.StmtLemmas.{is_named-arm, is_named-block, is_named-match}
use Rattle.wrapper_run.specs.Code.{code_of}
use Rattle.wrapper_run.proofs.StmtSteps.{code-opened}
use Rattle.abi_bindgen.specs.Meaning.{the_payload}
use Rattle.func_gen.specs.declared.function_bindgen.FinishedBlock.{FinishedBlock}
use Rattle.func_gen.specs.Forms.{runtime_name, runtime_path}
use Rattle.func_gen.specs.LiftedCases.{case_expr, freed_body, invalid_body, is_unit, last_body, lifted_bodies, lifted_body, number_arms, numbered_arms}
use Rattle.func_gen.specs.MatchForms.{arm_of, case_path, case_pattern, lowered_arm, lowered_arms, lowered_body, match_names, match_of, open_arm, tail_of}
use Rattle.func_gen.specs.PartForms.{exprs_of}
use Rattle.func_gen.specs.Slot.{slot_name}
use Rattle.wrapper_closing.proofs.NamedBindgens.{IsNamedBlock}
use Rattle.wrapper_closing.proofs.NumberedIdents.{local_ident}

abbrev pub AreNamed : List Stmt → Type 0
AreNamed stmts = list_all is_named_stmt stmts ≡ true

pub two_true : (a b : Bool) → a ≡ true → b ≡ true → (a && b) ≡ true
two_true a b h g = ap₂ (λ x y. x && y) h g

pub more_named : (stmts added : List Stmt) → AreNamed stmts → AreNamed added → AreNamed (stmts ++ added)
more_named stmts added h g = list_all-append is_named_stmt stmts added ∙ two_true (list_all is_named_stmt stmts) (list_all is_named_stmt added) h g

pub then_named : (s : Stmt) (stmts : List Stmt) → is_named_stmt s ≡ true → AreNamed stmts → AreNamed (s ∷ stmts)
then_named s stmts h g = two_true (is_named_stmt s) (list_all is_named_stmt stmts) h g

pub one_named : (s : Stmt) → is_named_stmt s ≡ true → AreNamed (s ∷ [])
one_named s h = then_named s [] h refl

-- 1. One statement

pub let_named : (n : Bytes) (e : Expr) → is_ident n ≡ true → is_named_expr e ≡ true → is_named_stmt (stmt.Let n e) ≡ true
let_named n e h g = ap is_named_stmt (sym (rolls-Let n e)) ∙ fold-roll-Stmt Bool Bool Bool named_stmt_step named_arm_step named_block_step (Stmt-F.Let n e) ∙ two_true (is_ident n) (is_named_expr e) h g

pub expr_named : (e : Expr) → is_named_expr e ≡ true → is_named_stmt (stmt.Expr e) ≡ true
expr_named e h = ap is_named_stmt (sym (rolls-Expr e)) ∙ fold-roll-Stmt Bool Bool Bool named_stmt_step named_arm_step named_block_step (Stmt-F.Expr e) ∙ h

pub import_named : (d : ImportDecl) → is_named_import d ≡ true → is_named_stmt (stmt.Import d) ≡ true
import_named d h = ap is_named_stmt (sym (rolls-Import d)) ∙ fold-roll-Stmt Bool Bool Bool named_stmt_step named_arm_step named_block_step (Stmt-F.Import d) ∙ h

pub area_named : (a : ReturnArea) → is_ident a.name ≡ true → is_named_stmt (stmt.Area a) ≡ true
area_named a h = ap is_named_stmt (sym (rolls-Area a)) ∙ fold-roll-Stmt Bool Bool Bool named_stmt_step named_arm_step named_block_step (Stmt-F.Area a) ∙ h

pub store_named : (address : Expr) (o : ArchitectureSize) (ty : WasmType) (e : Expr) → is_named_expr address ≡ true → is_named_expr e ≡ true → is_named_stmt (stmt.Store address o ty e) ≡ true
store_named address o ty e h g =
    ap is_named_stmt (sym (rolls-Store address o ty e)) ∙ fold-roll-Stmt Bool Bool Bool named_stmt_step named_arm_step named_block_step (Stmt-F.Store address o ty e) ∙ two_true (is_named_expr address) (is_named_expr e) h g

pub small_named : (address : Expr) (o : ArchitectureSize) (ty : SmallType) (e : Expr) → is_named_expr address ≡ true → is_named_expr e ≡ true → is_named_stmt (stmt.StoreSmall address o ty e) ≡ true
small_named address o ty e h g =
    ap is_named_stmt (sym (rolls-StoreSmall address o ty e)) ∙ fold-roll-Stmt Bool Bool Bool named_stmt_step named_arm_step named_block_step (Stmt-F.StoreSmall address o ty e) ∙ two_true (is_named_expr address) (is_named_expr e) h g

pub parts_named : (p : Pattern) (e : Expr) → is_named_pattern p ≡ true → is_named_expr e ≡ true → is_named_stmt (stmt.LetParts p e) ≡ true
parts_named p e h g =
    ap is_named_stmt (sym (rolls-LetParts p e)) ∙ fold-roll-Stmt Bool Bool Bool named_stmt_step named_arm_step named_block_step (Stmt-F.LetParts p e) ∙ two_true (is_named_pattern p) (is_named_expr e) h g

pub slot_named : (n : Bytes) → is_ident n ≡ true → is_named_stmt (stmt.LetSlot n) ≡ true
slot_named n h = ap is_named_stmt (sym (rolls-LetSlot n)) ∙ fold-roll-Stmt Bool Bool Bool named_stmt_step named_arm_step named_block_step (Stmt-F.LetSlot n) ∙ h

pub write_named : (n : Bytes) (e : Expr) → is_ident n ≡ true → is_named_expr e ≡ true → is_named_stmt (stmt.WriteSlot n e) ≡ true
write_named n e h g =
    ap is_named_stmt (sym (rolls-WriteSlot n e)) ∙ fold-roll-Stmt Bool Bool Bool named_stmt_step named_arm_step named_block_step (Stmt-F.WriteSlot n e) ∙ two_true (is_ident n) (is_named_expr e) h g

assert_named : (n : Bytes) (k : ℕ) → is_ident n ≡ true → is_named_stmt (stmt.AssertLast n k) ≡ true
assert_named n k h = ap is_named_stmt (sym (rolls-AssertLast n k)) ∙ fold-roll-Stmt Bool Bool Bool named_stmt_step named_arm_step named_block_step (Stmt-F.AssertLast n k) ∙ h

-- 2. Expressions

pub is_named-record : (path : Path) (fields : List (Bytes × Expr)) → is_named_expr (expr.Record path fields) ≡ (are_path_names path.names && are_fields (map (λ f. (f.0, is_named_expr f.1)) fields))
is_named-record path fields = ap is_named_expr (sym (rolls-Record path fields)) ∙ fold-roll-Expr Bool named_step (Expr-F.Record path fields)

runtime_named : (i : RuntimeItem) → are_path_names (runtime_path i).names ≡ true
unfolding item_name runtime_name escaped_words
runtime_named AsI32 = refl
runtime_named AsI64 = refl
runtime_named AsF32 = refl
runtime_named AsF64 = refl
runtime_named AllocCrate = refl
runtime_named StringType = refl
runtime_named VecType = refl
runtime_named BoolLift = refl
runtime_named CharLift = refl
runtime_named StringLift = refl
runtime_named StdAllocModule = refl
runtime_named CabiDealloc = refl
runtime_named InvalidEnumDiscriminant = refl

pub call_named : (path : Path) (es : List Expr) → are_path_names path.names ≡ true → list_all is_named_expr es ≡ true → is_named_expr (expr.Call path es) ≡ true
call_named path es h g = is_named-call path es ∙ two_true (are_path_names path.names) (list_all is_named_expr es) h g

pub alone_named : (e : Expr) → is_named_expr e ≡ true → list_all is_named_expr (e ∷ []) ≡ true
alone_named e h = ap (λ b. b && true) h

pub runtime_calls_named : (i : RuntimeItem) (es : List Expr) → list_all is_named_expr es ≡ true → is_named_expr (expr.Call (runtime_path i) es) ≡ true
runtime_calls_named i es h = call_named (runtime_path i) es (runtime_named i) h

-- what a path begins with
abbrev pub starts_path : Bytes → Bool
starts_path first = is_ident first || bytes_eq first (codes "crate") || bytes_eq first (codes "self")

pub own_path : (name : Bytes) → is_ident name ≡ true → are_path_names (name ∷ []) ≡ true
own_path name h = ap (λ b. (b || bytes_eq name (codes "crate") || bytes_eq name (codes "self")) && true) h

pub longer_path : (first name : Bytes) → are_path_names (first ∷ []) ≡ true → is_ident name ≡ true → are_path_names (first ∷ name ∷ []) ≡ true
longer_path first name h g = two_true (starts_path first) (is_ident name && true) (and_parts (starts_path first) true h).0 (two_true (is_ident name) true g refl)

-- 3. Arms and matches

pub block_named : (stmts : List Stmt) (tail : Option Expr) → AreNamed stmts → is_absent_or is_named_expr tail ≡ true → is_named_block (code_of stmts tail) ≡ true
block_named stmts tail h g =
    is_named-block (code_of stmts tail) ∙ ap (λ (l : Block-F Stmt Arm Block). list_all is_named_stmt l.stmts && is_absent_or is_named_expr l.tail) (code-opened stmts tail)
    ∙ two_true (list_all is_named_stmt stmts) (is_absent_or is_named_expr tail) h g

arm_named : (p : ArmPattern) (b : Block) → is_named_arm_pattern p ≡ true → is_named_block b ≡ true → is_named_arm (arm_of p b) ≡ true
arm_named p b h g =
    is_named-arm (arm_of p b) ∙ ap (λ (l : Arm-F Stmt Arm Block). is_named_arm_pattern l.pattern && is_named_block l.body) (out-roll-Arm (open_arm p b)) ∙ two_true (is_named_arm_pattern p) (is_named_block b) h g

match_named : (names : MatchNames) (e : Expr) (arms : List Arm) → are_match_names names ≡ true → is_named_expr e ≡ true → list_all is_named_arm arms ≡ true → AreNamed (stmt.Match names e arms ∷ [])
match_named names e arms n h all =
    one_named (stmt.Match names e arms) (is_named-match names e arms ∙ two_true (are_match_names names && is_named_expr e) (list_all is_named_arm arms) (two_true (are_match_names names) (is_named_expr e) n h) all)

-- the pattern of a case, with the number of its block, and the path of the case
pub record IsNamedForm (p : ℕ → ArmPattern) (path : Path) : Type 0 where
  pub pattern : (k : ℕ) → is_named_arm_pattern (p k) ≡ true
  pub case : is_case_path path ≡ true

pub payload_ident : (k : ℕ) → is_ident (slot_name the_payload k) ≡ true
payload_ident k = local_ident (codes "e") k refl

tail_named : (es : List Expr) → list_all is_named_expr es ≡ true → is_absent_or is_named_expr (tail_of es) ≡ true
tail_named [] h = refl
tail_named (e ∷ []) h = (and_parts (is_named_expr e) true h).0
tail_named (e ∷ f ∷ es) h = is_named-tuple (e ∷ f ∷ es) ∙ h

abbrev AllBlocks : List FinishedBlock → Type 0
AllBlocks blocks = AllByRecursion IsNamedBlock blocks

lowered_named : (cases : _) (blocks : List FinishedBlock) → AllByRecursion (λ c. IsNamedForm (case_pattern c) (case_path c)) cases → AllBlocks blocks → list_all is_named_arm (lowered_arms cases blocks) ≡ true
lowered_named [] blocks h all = refl
lowered_named (c ∷ cases) [] h all = refl
lowered_named (c ∷ cases) (b ∷ blocks) h all =
    two_true (is_named_arm (lowered_arm c b)) (list_all is_named_arm (lowered_arms cases blocks))
    (arm_named (case_pattern c b.number) (lowered_body b) (h.0.pattern b.number) (block_named b.stmts (tail_of (exprs_of b.results)) all.0.stmts (tail_named (exprs_of b.results) all.0.results)))
    (lowered_named cases blocks h.1 all.1)

match_names_named : (names : List Bytes) → list_all is_ident names ≡ true → are_match_names (match_names names) ≡ true
match_names_named [] h = refl
match_names_named (n ∷ []) h = (and_parts (is_ident n) true h).0
match_names_named (n ∷ m ∷ names) h = h

pub lowers_named : (names : List Bytes) (e : Expr) (cases : _) (blocks : List FinishedBlock) → list_all is_ident names ≡ true → is_named_expr e ≡ true → AllByRecursion (λ c. IsNamedForm (case_pattern c) (case_path c)) cases → AllBlocks blocks
    → AreNamed (match_of names e (lowered_arms cases blocks) ∷ [])
lowers_named names e cases blocks n h forms all = match_named (match_names names) e (lowered_arms cases blocks) (match_names_named names n) h (lowered_named cases blocks forms all)

case_named : (unit : Bool) (path : Path) (es : List Expr) → is_case_path path ≡ true → list_all is_named_expr es ≡ true → is_named_expr (case_expr unit path es) ≡ true
case_named true path [] h g = call_named path (expr.Unit ∷ []) (and_parts (are_path_names path.names) (has_two path.names) h).0 (alone_named expr.Unit is_named-unit)
case_named false path [] h g = is_named-case path ∙ h
case_named unit path (e ∷ es) h g =
    call_named path (e ∷ []) (and_parts (are_path_names path.names) (has_two path.names) h).0 (alone_named e (and_parts (is_named_expr e) (list_all is_named_expr es) g).0)

body_named : (c : _) (b : FinishedBlock) → IsNamedForm (case_pattern c) (case_path c) → IsNamedBlock b → is_named_block (lifted_body c b) ≡ true
body_named c b h all = block_named b.stmts (Some (case_expr (is_unit c) (case_path c) (exprs_of b.results))) all.stmts (case_named (is_unit c) (case_path c) (exprs_of b.results) h.case all.results)

bodies_named : (cases : _) (blocks : List FinishedBlock) → AllByRecursion (λ c. IsNamedForm (case_pattern c) (case_path c)) cases → AllBlocks blocks → list_all is_named_block (lifted_bodies cases blocks) ≡ true
bodies_named [] blocks h all = refl
bodies_named (c ∷ cases) [] h all = refl
bodies_named (c ∷ cases) (b ∷ blocks) h all =
    two_true (is_named_block (lifted_body c b)) (list_all is_named_block (lifted_bodies cases blocks)) (body_named c b h.0 all.0) (bodies_named cases blocks h.1 all.1)

freed_named : (blocks : List FinishedBlock) → AllBlocks blocks → list_all is_named_block (map freed_body blocks) ≡ true
freed_named [] all = refl
freed_named (b ∷ blocks) all = two_true (is_named_block (freed_body b)) (list_all is_named_block (map freed_body blocks)) (block_named b.stmts None all.0.stmts refl) (freed_named blocks all.1)

numbers_named : (k : ℕ) (bodies : List Block) → list_all is_named_block bodies ≡ true → list_all is_named_arm (numbered_arms k bodies) ≡ true
numbers_named k [] h = refl
numbers_named k (b ∷ bodies) h =
    let parts = and_parts (is_named_block b) (list_all is_named_block bodies) h in
    two_true (is_named_arm (arm_of (arm.Number k) b)) (list_all is_named_arm (numbered_arms (suc k) bodies)) (arm_named (arm.Number k) b refl parts.0) (numbers_named (suc k) bodies parts.1)

-- arms by numbers, and another behind them
by_number_named : (names : MatchNames) (e : Expr) (bodies : List Block) (p : ArmPattern) (last : Block) → are_match_names names ≡ true → is_named_expr e ≡ true → list_all is_named_block bodies ≡ true → is_named_arm_pattern p ≡ true → is_named_block last ≡ true
    → AreNamed (stmt.Match names e (number_arms 0 bodies (arm_of p last)) ∷ [])
by_number_named names e bodies p last n h all q g =
    match_named names e (number_arms 0 bodies (arm_of p last)) n h
    (list_all-append is_named_arm (numbered_arms 0 bodies) (arm_of p last ∷ []) ∙ ap₂ (λ x y. x && (y && true)) (numbers_named 0 bodies all) (arm_named p last q g))

pub lifts_named : (v : Bytes) (e : Expr) (cases : _) (blocks : List FinishedBlock) → is_ident v ≡ true → is_named_expr e ≡ true → AllByRecursion (λ c. IsNamedForm (case_pattern c) (case_path c)) cases → AllBlocks blocks
    → AreNamed (stmt.Match (names_of.One v) e (number_arms 0 (lifted_bodies cases blocks) (arm_of arm.AnyOther invalid_body)) ∷ [])
lifts_named v e cases blocks n h forms all =
    by_number_named (names_of.One v) e (lifted_bodies cases blocks) arm.AnyOther invalid_body n h (bodies_named cases blocks forms all) refl
    (block_named [] (Some (expr.Call (runtime_path InvalidEnumDiscriminant) [])) refl (runtime_calls_named InvalidEnumDiscriminant [] refl))

pub last_named : (n v : Bytes) (e : Expr) (cases : _) (c : _) (first : List FinishedBlock) (last : FinishedBlock) (k : ℕ) → is_ident n ≡ true → is_ident v ≡ true → is_named_expr e ≡ true → AllByRecursion (λ c. IsNamedForm (case_pattern c) (case_path c)) cases → IsNamedForm (case_pattern c) (case_path c)
    → AllBlocks first → IsNamedBlock last → AreNamed (stmt.Match (names_of.One v) e (number_arms 0 (lifted_bodies cases first) (arm_of (arm.Name n) (last_body n k c last))) ∷ [])
last_named n v e cases c first last k i j h forms form all own =
    by_number_named (names_of.One v) e (lifted_bodies cases first) (arm.Name n) (last_body n k c last) j h (bodies_named cases first forms all) i
    (block_named (stmt.AssertLast n k ∷ last.stmts) (Some (case_expr (is_unit c) (case_path c) (exprs_of last.results))) (then_named (stmt.AssertLast n k) last.stmts (assert_named n k i) own.stmts)
    (case_named (is_unit c) (case_path c) (exprs_of last.results) form.case own.results))

pub frees_named : (e : Expr) (first : List FinishedBlock) (last : FinishedBlock) → is_named_expr e ≡ true → AllBlocks first → IsNamedBlock last → AreNamed (stmt.Match names_of.Nothing e (number_arms 0 (map freed_body first) (arm_of arm.AnyOther (freed_body last))) ∷ [])
frees_named e first last h all own = by_number_named names_of.Nothing e (map freed_body first) arm.AnyOther (freed_body last) refl h (freed_named first all) refl (block_named last.stmts None own.stmts refl)
