-- What holds of the acts that code is made of holds of all code, by induction over expressions and statements.
use Rattle.std.proofs.Common.{◌≡◌, ℕ, Bool, true, false, cond, List, [], ◌∷◌, map, Option, None, Some, refl, sym, ap, subst, ◌∙◌, ◌&&◌}
use Rattle.std.specs.Prelude.{ℤ, Result, Ok, Err, find, length, nat_eq, option_and_then}
use Rattle.std.specs.List.{list_all}
use Rattle.std.specs.Option.{option_map}
use Rattle.std.specs.Str.{bytes_eq}
use Rattle.std.proofs.lemmas.Bool.{and_from, and_parts}
use Rattle.wit_model.specs.Bytes.{Bytes}
use Rattle.wit_model.specs.declared.size.ArchitectureSize.{ArchitectureSize}
use Rattle.wit_model.specs.declared.wasm_type.WasmType.{WasmType}
use Rattle.rust_tree.specs.declared.area.ReturnArea.{ReturnArea}
use Rattle.rust_tree.specs.declared.expr.Expr.{Expr, Expr-F, fold-roll-Expr, ind-Expr, map-Expr, out-Expr, roll-Expr, roll-out-Expr}
use Rattle.rust_tree.specs.declared.expr.SmallType.{SmallType}
use Rattle.rust_tree.specs.declared.item.Item.{Item}
use Rattle.rust_tree.specs.declared.path.Path.{Path}
use Rattle.rust_tree.specs.declared.pattern.ArmPattern.{ArmPattern}
use Rattle.rust_tree.specs.declared.pattern.ArmPattern.TheVariants as arm
use Rattle.rust_tree.specs.declared.pattern.Pattern.{Pattern}
use Rattle.rust_tree.specs.declared.pattern.Pattern.TheVariants as pattern
use Rattle.rust_tree.specs.declared.repr.Repr.{Repr}
use Rattle.rust_tree.specs.declared.runtime_item.RuntimeItem.{RuntimeItem}
use Rattle.rust_tree.specs.declared.runtime_item.RuntimeItem.TheVariants.{CabiDealloc, InvalidEnumDiscriminant, StringLift}
use Rattle.rust_tree.specs.declared.stmt.Arm.{Arm, Arm-F, fold-Arm, fold-roll-Arm, map-Arm, roll-Arm}
use Rattle.rust_tree.specs.declared.stmt.Block.{Block as Code, Block-F, fold-Block, fold-roll-Block, map-Block, out-Block, roll-Block}
use Rattle.rust_tree.specs.declared.stmt.ImportDecl.{ImportDecl}
use Rattle.rust_tree.specs.declared.stmt.MatchNames.{MatchNames}
use Rattle.rust_tree.specs.declared.stmt.MatchNames.TheVariants as names_of
use Rattle.rust_tree.specs.declared.stmt.Stmt.{Stmt, Stmt-F, fold-roll-Stmt, ind-Stmt, map-Stmt, roll-Stmt}
use Rattle.rust_tree.specs.declared.type_item.StructField.{StructField}
use Rattle.wrapper_data.specs.declared.choice.Request.{Request}
use Rattle.wrapper_data.specs.declared.form.Form.{Form}
use Rattle.wrapper_data.specs.declared.form.Form.TheVariants as form
use Rattle.wrapper_data.specs.declared.run.Stop.{Stop}
use Rattle.wrapper_data.specs.declared.run.Stop.TheVariants as stop_of
use Rattle.wrapper_data.specs.declared.run.TrapKind.{TrapKind}
use Rattle.wrapper_data.specs.declared.run.TrapKind.TheVariants as trap
use Rattle.wrapper_data.specs.declared.value.RustValue.{RustValue}
use Rattle.wrapper_data.specs.declared.value.RustValue.TheVariants as value
use Rattle.wrapper_data.specs.declared.word.Word.{Word}
use Rattle.wrapper_data.specs.declared.word.Word.TheVariants as word
use Rattle.wrapper_values.specs.declared.core_words.CoreFn.{CoreFn}
use Rattle.wrapper_values.specs.declared.owning.View.{View}
use Rattle.wrapper_values.specs.declared.owning.View.TheVariants as view_of
use Rattle.wrapper_values.specs.declared.state.Local.{Local}
use Rattle.wrapper_values.specs.declared.state.Val.{Val}
use Rattle.wrapper_values.specs.declared.state.Val.TheVariants as val
use Rattle.wrapper_values.specs.Act.{Act, ◌>>=◌, ◌>>◌, all, keyed, or_stop, pure, stop}
use Rattle.wrapper_run.specs.Arms.{ArmAct, run_arm_or, run_arms, run_match}
use Rattle.wrapper_run.specs.Blocks.{in_scope, box_buffer, boxed, dealloc, dealloc_words, drop_local, drop_locals, drop_value, free, free_all, lift_text, release, release_all, store_small, store_word}
use Rattle.wrapper_values.specs.CoreWords.{called_on, core_word, empty_slot, zero_word}
use Rattle.wrapper_values.specs.Effect.{cast_to, converted, lift_of, word_of_bool}
use Rattle.wrapper_values.specs.Enums.{enum_lift_of, is_enum, word_of_case}
use Rattle.wrapper_values.specs.Flags.{flags_from, flags_of_words}
use Rattle.wrapper_values.specs.Fields.{arranged, arranged_by, each_named, field_named, fields_in, in_order, root_name, type_named}
use Rattle.wrapper_values.specs.Locals.{ask_local, bind, declare, lend_local, local_named, use_local, value_of, write_slot}
use Rattle.wrapper_values.specs.Matches.{assert_last, bind_results, bind_values, enter_arm, expect_number, i32_of, is_number, left_out, takes}
use Rattle.wrapper_values.specs.Owning.{buffer_of, owned, owned_in}
use Rattle.wrapper_run.specs.Places.{declare_area, place_area, request_of, static_pointer}
use Rattle.wrapper_run.specs.LastParts.{results, results_in}
use Rattle.wrapper_run.specs.Results.{run_results}
use Rattle.wrapper_run.specs.Run.{alone, apply, apply_item, apply_one, arm_act, arm_step, block_act, block_step, call_callee, call_core, call_import, call_member, call_runtime, Callee, callee, converted_or_lifted, core_case, core_forget, core_function, each, eval, eval_step, forget_one, lift_act, lift_case, lift_name, load_small, load_word, make_case, member_of, no_case, of_runtime, run_block, run_stmt, run_stmts, run_tail, runtime_item_named, size_word, stmt_step, take_bytes, unknown}
use Rattle.wrapper_values.specs.Setting.{Setting, failed, stuck}
use Rattle.wrapper_run.specs.UnusedLocals.{are_known, arm_names, bound_names, is_block_known, is_callee_known, is_expr_known, is_stmt_known, is_tail_known, known_arm_step, known_block_step, known_step, known_stmt_step, result_names}
use Rattle.wrapper_values.specs.Variants.{bare_case, full_case, number_at_root, payload_of}
use Rattle.wrapper_values.specs.Whole.{bind_parts, field_act, given_names, parts_of, record_of, take_apart, whole, whole_of}

-- what holds of each of these acts, at known names, and of one after the other
pub record Everywhere (w : Setting) (known : Bytes → Bool) (P : (A : Type 0) → Act A → Type 0) : Type 1 where
  pub gives : (A : Type 0) (a : A) → P A (pure a)
  pub stops : (A : Type 0) (e : Stop) → P A (stop e)
  pub follows : (A B : Type 0) (act : Act A) (f : A → Act B) → P A act → ((a : A) → P B (f a)) → P B (act >>= f)
  pub uses : (name : Bytes) → known name ≡ true → P Val (use_local (stuck w) name)
  pub lends : (name : Bytes) → known name ≡ true → P Val (lend_local (stuck w) name)
  pub asks : (of : View) (name : Bytes) → known name ≡ true → P Val (ask_local (stuck w) of name)
  pub binds : (name : Bytes) (v : Val) → known name ≡ true → P (Unit {0}) (bind name v)
  pub declares : (d : ImportDecl) → P (Unit {0}) (declare d)
  pub frees : (address : ℕ) → P (Unit {0}) (free w address)
  pub releases : (address : ℕ) → P (Unit {0}) (release w address)
  pub deallocates : (address size : ℕ) → P (Unit {0}) (dealloc w address size)
  pub takes : (name : Bytes) (v : Val) → known name ≡ true → P Val (λ s. take_bytes w (value_of (local_named name s.locals)) v s)
  pub lifts : (v : Val) → P Val (lift_text w v)
  pub loads : (offset : ArchitectureSize) (ty : WasmType) (v : Val) → P Val (load_word w offset ty v)
  pub loads_small : (offset : ArchitectureSize) (ty : SmallType) (v : Val) → P Val (load_small w offset ty v)
  pub stores : (offset : ArchitectureSize) (ty : WasmType) (v at : Val) → P (Unit {0}) (store_word w offset ty v at)
  pub stores_small : (offset : ArchitectureSize) (ty : SmallType) (v at : Val) → P (Unit {0}) (store_small w offset ty v at)
  pub places : (r : Request) → P (ℕ × ℕ) (place_area w r)
  pub static : P Val (static_pointer w)
  pub calls : (name : Bytes) (vs : List Val) → known name ≡ true → P Val (call_import w name vs)
  pub writes : (name : Bytes) (v : Val) → known name ≡ true → P (Unit {0}) (write_slot (stuck w) name v)
  pub scopes : (A : Type 0) (act : Act A) → P A act → P A (in_scope w act)

-- names among the fields of a record

known_found : (known : Bytes → Bool) (f : Bytes × Bytes) (o : Option (Bytes × Bytes)) (name : Bytes) (b : Bool) → known f.1 ≡ true → (option_map (λ f. f.1) o ≡ Some name → known name ≡ true)
    → option_map (λ f. f.1) (cond b (Some f) o) ≡ Some name → known name ≡ true
known_found known f o name true k h e = let is : f.1 ≡ name = cc in ap known (sym is) ∙ k
known_found known f o name false k h e = h e

known_field : (known : Bytes → Bool) (field name : Bytes) (fields : List (Bytes × Bytes)) → list_all known (map (λ f. f.1) fields) ≡ true → field_named field fields ≡ Some name → known name ≡ true
known_field known field name [] k e = absurd (cc)
known_field known field name (f ∷ fields) k e =
    let both = and_parts (known f.1) (list_all known (map (λ f. f.1) fields)) k in
    known_found known f (find (λ f. bytes_eq f.0 field) fields) name (bytes_eq f.0 field) both.0 (known_field known field name fields both.1) e

known_more : (known : Bytes → Bool) (o : Option Bytes) (p : Option (List Bytes)) (names : List Bytes) → ((name : Bytes) → o ≡ Some name → known name ≡ true) → ((more : List Bytes) → p ≡ Some more → list_all known more ≡ true)
    → option_and_then (λ a. option_map (λ rest. a ∷ rest) p) o ≡ Some names → list_all known names ≡ true
known_more known None p names h k e = absurd (cc)
known_more known (Some name) None names h k e = absurd (cc)
known_more known (Some name) (Some more) names h k e =
    let is : name ∷ more ≡ names = cc in ap (list_all known) (sym is) ∙ and_from (known name) (list_all known more) (h name refl) (k more refl)

known_each : (known : Bytes → Bool) (of : List StructField) (fields : List (Bytes × Bytes)) (names : List Bytes) → list_all known (map (λ f. f.1) fields) ≡ true → each_named of fields ≡ Some names → list_all known names ≡ true
known_each known [] fields names k e = let is : [] ≡ names = cc in ap (list_all known) (sym is)
known_each known (f ∷ of) fields names k e =
    known_more known (field_named f.name fields) (each_named of fields) names (λ name. known_field known f.name name fields k) (λ more. known_each known of fields more k) e

known_ordered : (known : Bytes → Bool) (of : List StructField) (fields : List (Bytes × Bytes)) (names : List Bytes) (b : Bool) → list_all known (map (λ f. f.1) fields) ≡ true → cond b (each_named of fields) None ≡ Some names → list_all known names ≡ true
known_ordered known of fields names true k e = known_each known of fields names k e
known_ordered known of fields names false k e = absurd (cc)

known_in : (known : Bytes → Bool) (o : Option (List StructField)) (fields : List (Bytes × Bytes)) (names : List Bytes) → list_all known (map (λ f. f.1) fields) ≡ true → option_and_then (λ of. in_order of fields) o ≡ Some names → list_all known names ≡ true
known_in known None fields names k e = absurd (cc)
known_in known (Some of) fields names k e = known_ordered known of fields names (nat_eq (length of) (length fields)) k e

known_arranged : (known : Bytes → Bool) (items : List Item) (o : Option Bytes) (fields : List (Bytes × Bytes)) (names : List Bytes) → list_all known (map (λ f. f.1) fields) ≡ true → arranged_by items o fields ≡ Some names → list_all known names ≡ true
known_arranged known items None fields names k e = let is : map (λ f. f.1) fields ≡ names = cc in ap (list_all known) (sym is) ∙ k
known_arranged known items (Some name) fields names k e = known_in known (fields_in (type_named items name)) fields names k e

known_given : (known : Bytes → Bool) (items : List Item) (p : Pattern) (names : List Bytes) → list_all known (bound_names p) ≡ true → given_names items p ≡ Some names → list_all known names ≡ true
known_given known items (pattern.Record path fields) names k e = known_arranged known items (root_name path) fields names k e
known_given known items (pattern.Tuple given) names k e = let is : given ≡ names = cc in ap (list_all known) (sym is) ∙ k
known_given known items (pattern.Array given) names k e = let is : given ≡ names = cc in ap (list_all known) (sym is) ∙ k

-- the arms and blocks in a match whose names are known

abbrev pub is_arm_known : (Bytes → Bool) → Arm → Bool
is_arm_known known = fold-Arm Bool Bool Bool (known_stmt_step known) (known_arm_step known) (known_block_step known)

abbrev pub is_code_known : (Bytes → Bool) → Code → Bool
is_code_known known = fold-Block Bool Bool Bool (known_stmt_step known) (known_arm_step known) (known_block_step known)

-- where every name is known, every expression and statement is

all_hold : {A : Type 0} (p : A → Bool) → ((x : A) → p x ≡ true) → (xs : List A) → list_all p xs ≡ true
all_hold p h [] = refl
all_hold p h (x ∷ xs) = and_from (p x) (list_all p xs) (h x) (all_hold p h xs)

-- of the expressions in a layer
known_all : {X : Type 0} (known : Bytes → Bool) (of : X → Expr) → ((x : X) → is_expr_known known (of x) ≡ true) → (xs : List X) → are_known (map (is_expr_known known) (map of xs)) ≡ true
known_all known of k [] = refl
known_all known of k (x ∷ xs) = and_from (is_expr_known known (of x)) (are_known (map (is_expr_known known) (map of xs))) (k x) (known_all known of k xs)

known_fields : {K X : Type 0} (known : Bytes → Bool) (of : X → Expr) → ((x : X) → is_expr_known known (of x) ≡ true) → (fields : List (K × X))
    → list_all (λ (f : K × Bool). f.1) (map (λ (f : K × Expr). (f.0, is_expr_known known f.1)) (map (λ (f : K × X). (f.0, of f.1)) fields)) ≡ true
known_fields known of k [] = refl
known_fields {K = K} {X = X} known of k (f ∷ fields) =
    and_from (is_expr_known known (of f.1)) (list_all (λ (f : K × Bool). f.1) (map (λ (f : K × Expr). (f.0, is_expr_known known f.1)) (map (λ (f : K × X). (f.0, of f.1)) fields)))
    (k f.1) (known_fields known of k fields)

known_callee : (known : Bytes → Bool) → ((name : Bytes) → known name ≡ true) → (c : Callee) → is_callee_known known c ≡ true
known_callee known h (alone name) = h name
known_callee known h (of_runtime name) = refl
known_callee known h (member_of ty name) = refl
known_callee known h (core_case number) = refl
known_callee known h (core_function f) = refl
known_callee known h core_forget = refl
known_callee known h unknown = refl

known_layer : {X : Type 0} (known : Bytes → Bool) → ((name : Bytes) → known name ≡ true) → (of : X → Expr) → ((x : X) → is_expr_known known (of x) ≡ true) → (l : Expr-F X)
    → known_step known (map-Expr Expr Bool (is_expr_known known) (map-Expr X Expr of l)) ≡ true
known_layer known h of k (Expr-F.Local name) = h name
known_layer known h of k (Expr-F.Ref name) = h name
known_layer known h of k (Expr-F.Cast e to) = k e
known_layer known h of k (Expr-F.Call path arguments) =
    and_from (is_callee_known known (callee path)) (are_known (map (is_expr_known known) (map of arguments))) (known_callee known h (callee path)) (known_all known of k arguments)
known_layer known h of k (Expr-F.I32FromBool e) = k e
known_layer known h of k (Expr-F.AsPtr name) = h name
known_layer known h of k (Expr-F.Len name) = h name
known_layer known h of k (Expr-F.CastMut name) = h name
known_layer known h of k (Expr-F.ReturnPointer name) = h name
known_layer known h of k (Expr-F.Load e offset ty) = k e
known_layer known h of k (Expr-F.LoadSmall e offset ty) = k e
known_layer known h of k (Expr-F.FromRawParts e name) = and_from (is_expr_known known (of e)) (known name) (k e) (h name)
known_layer known h of k (Expr-F.IntoBoxedBytes name) = h name
known_layer known h of k Expr-F.StaticPointer = refl
known_layer known h of k (Expr-F.Size size) = refl
known_layer known h of k (Expr-F.Record path fields) = known_fields known of k fields
known_layer known h of k (Expr-F.Tuple parts) = known_all known of k parts
known_layer known h of k Expr-F.Unit = refl
known_layer known h of k (Expr-F.Array parts) = known_all known of k parts
known_layer known h of k (Expr-F.EnumNumber e) = k e
known_layer known h of k (Expr-F.FlagsBits name by) = h name
known_layer known h of k (Expr-F.FlagsOfWords path repr words) = known_fields known of k words
known_layer known h of k (Expr-F.I32Const n) = refl
known_layer known h of k (Expr-F.Zero ty) = refl
known_layer known h of k (Expr-F.Case path) = refl
known_layer known h of k (Expr-F.Method e method) = k e

pub known_expr : (known : Bytes → Bool) → ((name : Bytes) → known name ≡ true) → (e : Expr) → is_expr_known known e ≡ true
known_expr known h =
    ind-Expr (λ e. is_expr_known known e ≡ true)
    (λ l y is. subst (λ z. is_expr_known known (roll-Expr z) ≡ true) is
    (fold-roll-Expr Bool (known_step known) (map-Expr _ Expr (λ e. e.0) y) ∙ known_layer known h (λ e. e.0) (λ e. e.1) y))

-- where every name is known, every statement, arm and block is

known_tail : (known : Bytes → Bool) → ((name : Bytes) → known name ≡ true) → (tail : Option Expr) → is_tail_known known tail ≡ true
known_tail known h None = refl
known_tail known h (Some e) = known_expr known h e

known_parts : {X T : Type 0} (answer : T → Bool) (of : X → T) → ((x : X) → answer (of x) ≡ true) → (xs : List X) → are_known (map answer (map of xs)) ≡ true
known_parts answer of k [] = refl
known_parts answer of k (x ∷ xs) = and_from (answer (of x)) (are_known (map answer (map of xs))) (k x) (known_parts answer of k xs)

known_stmt_layer : {X Y Z : Type 0} (known : Bytes → Bool) → ((name : Bytes) → known name ≡ true) → (stmt_of : X → Stmt) (arm_of : Y → Arm) (block_of : Z → Code)
    → ((y : Y) → is_arm_known known (arm_of y) ≡ true) → (l : Stmt-F X Y Z)
    → known_stmt_step known (map-Stmt Stmt Arm Code Bool Bool Bool (is_stmt_known known) (is_arm_known known) (is_code_known known) (map-Stmt X Y Z Stmt Arm Code stmt_of arm_of block_of l)) ≡ true
known_stmt_layer known h stmt_of arm_of block_of k (Stmt-F.Import d) = refl
known_stmt_layer known h stmt_of arm_of block_of k (Stmt-F.Let name e) = and_from (is_expr_known known e) (known name) (known_expr known h e) (h name)
known_stmt_layer known h stmt_of arm_of block_of k (Stmt-F.Expr e) = known_expr known h e
known_stmt_layer known h stmt_of arm_of block_of k (Stmt-F.Area a) = h a.name
known_stmt_layer known h stmt_of arm_of block_of k (Stmt-F.Store address offset ty e) = and_from (is_expr_known known e) (is_expr_known known address) (known_expr known h e) (known_expr known h address)
known_stmt_layer known h stmt_of arm_of block_of k (Stmt-F.StoreSmall address offset ty e) = and_from (is_expr_known known e) (is_expr_known known address) (known_expr known h e) (known_expr known h address)
known_stmt_layer known h stmt_of arm_of block_of k (Stmt-F.LetParts p e) = and_from (is_expr_known known e) (list_all known (bound_names p)) (known_expr known h e) (all_hold known h (bound_names p))
known_stmt_layer known h stmt_of arm_of block_of k (Stmt-F.Match names e arms) =
    and_from (is_expr_known known e) (are_known (map (is_arm_known known) (map arm_of arms)) && list_all known (result_names names)) (known_expr known h e)
    (and_from (are_known (map (is_arm_known known) (map arm_of arms))) (list_all known (result_names names)) (known_parts (is_arm_known known) arm_of k arms) (all_hold known h (result_names names)))
known_stmt_layer known h stmt_of arm_of block_of k (Stmt-F.AssertLast name n) = h name
known_stmt_layer known h stmt_of arm_of block_of k (Stmt-F.LetSlot name) = h name
known_stmt_layer known h stmt_of arm_of block_of k (Stmt-F.WriteSlot name e) = and_from (is_expr_known known e) (known name) (known_expr known h e) (h name)

known_arm_layer : {X Y Z : Type 0} (known : Bytes → Bool) → ((name : Bytes) → known name ≡ true) → (stmt_of : X → Stmt) (arm_of : Y → Arm) (block_of : Z → Code)
    → ((z : Z) → is_code_known known (block_of z) ≡ true) → (l : Arm-F X Y Z)
    → known_arm_step known (map-Arm Stmt Arm Code Bool Bool Bool (is_stmt_known known) (is_arm_known known) (is_code_known known) (map-Arm X Y Z Stmt Arm Code stmt_of arm_of block_of l)) ≡ true
known_arm_layer known h stmt_of arm_of block_of k l = and_from (list_all known (arm_names l.pattern)) (is_code_known known (block_of l.body)) (all_hold known h (arm_names l.pattern)) (k l.body)

known_block_layer : {X Y Z : Type 0} (known : Bytes → Bool) → ((name : Bytes) → known name ≡ true) → (stmt_of : X → Stmt) (arm_of : Y → Arm) (block_of : Z → Code)
    → ((x : X) → is_stmt_known known (stmt_of x) ≡ true) → (l : Block-F X Y Z)
    → known_block_step known (map-Block Stmt Arm Code Bool Bool Bool (is_stmt_known known) (is_arm_known known) (is_code_known known) (map-Block X Y Z Stmt Arm Code stmt_of arm_of block_of l)) ≡ true
known_block_layer known h stmt_of arm_of block_of k l = and_from (are_known (map (is_stmt_known known) (map stmt_of l.stmts))) (is_tail_known known l.tail) (known_parts (is_stmt_known known) stmt_of k l.stmts) (known_tail known h l.tail)

known_stmt : (known : Bytes → Bool) → ((name : Bytes) → known name ≡ true) → (s : Stmt) → is_stmt_known known s ≡ true
known_stmt known h =
    ind-Stmt (λ s. is_stmt_known known s ≡ true) (λ a. is_arm_known known a ≡ true) (λ b. is_code_known known b ≡ true)
    (λ l y is. subst (λ z. is_stmt_known known (roll-Stmt z) ≡ true) is
    (fold-roll-Stmt Bool Bool Bool (known_stmt_step known) (known_arm_step known) (known_block_step known) (map-Stmt _ _ _ Stmt Arm Code (λ x. x.0) (λ x. x.0) (λ x. x.0) y)
    ∙ known_stmt_layer known h (λ x. x.0) (λ x. x.0) (λ x. x.0) (λ x. x.1) y))
    (λ l y is. subst (λ z. is_arm_known known (roll-Arm z) ≡ true) is
    (fold-roll-Arm Bool Bool Bool (known_stmt_step known) (known_arm_step known) (known_block_step known) (map-Arm _ _ _ Stmt Arm Code (λ x. x.0) (λ x. x.0) (λ x. x.0) y)
    ∙ known_arm_layer known h (λ x. x.0) (λ x. x.0) (λ x. x.0) (λ x. x.1) y))
    (λ l y is. subst (λ z. is_code_known known (roll-Block z) ≡ true) is
    (fold-roll-Block Bool Bool Bool (known_stmt_step known) (known_arm_step known) (known_block_step known) (map-Block _ _ _ Stmt Arm Code (λ x. x.0) (λ x. x.0) (λ x. x.0) y)
    ∙ known_block_layer known h (λ x. x.0) (λ x. x.0) (λ x. x.0) (λ x. x.1) y))

pub known_stmts : (known : Bytes → Bool) → ((name : Bytes) → known name ≡ true) → (stmts : List Stmt) → list_all (is_stmt_known known) stmts ≡ true
known_stmts known h stmts = all_hold (is_stmt_known known) (known_stmt known h) stmts

pub known_block : (known : Bytes → Bool) → ((name : Bytes) → known name ≡ true) → (b : Code) → is_block_known known b ≡ true
known_block known h b =
    and_from (list_all (is_stmt_known known) (out-Block b).stmts) (is_tail_known known (out-Block b).tail) (known_stmts known h (out-Block b).stmts) (known_tail known h (out-Block b).tail)

module _ (w : Setting) (known : Bytes → Bool) (P : (A : Type 0) → Act A → Type 0) (h : Everywhere w known P) where
  -- acts made of these

  or_stops : (A : Type 0) (e : Stop) (o : Option A) → P A (or_stop e o)
  or_stops A e None = h.stops A e
  or_stops A e (Some a) = h.gives A a

  -- where there is a value, what comes behind it may be told of that value
  or_follows : (A B : Type 0) (e : Stop) (o : Option A) (f : A → Act B) → ((a : A) → o ≡ Some a → P B (f a)) → P B (or_stop e o >>= f)
  or_follows A B e None f k = h.stops B e
  or_follows A B e (Some a) f k = k a refl

  frees_all : (addresses : List ℕ) → P (Unit {0}) (free_all w addresses)
  frees_all [] = h.gives (Unit {0}) tt
  frees_all (a ∷ more) = h.follows (Unit {0}) (Unit {0}) (free w a) (λ _. free_all w more) (h.frees a) (λ _. frees_all more)

  pub drops_value : (v : Val) → P (Unit {0}) (drop_value w v)
  drops_value v = frees_all (owned v)

  pub drops_locals : (locals : List Local) → P (Unit {0}) (drop_locals w locals)
  drops_locals [] = h.gives (Unit {0}) tt
  drops_locals (l ∷ locals) = h.follows (Unit {0}) (Unit {0}) (drop_locals w locals) (λ _. drop_local w l.value) (drops_locals locals) (λ _. frees_all (owned_in l.value))

  releases_all : (addresses : List ℕ) → P (Unit {0}) (release_all w addresses)
  releases_all [] = h.gives (Unit {0}) tt
  releases_all (a ∷ more) = h.follows (Unit {0}) (Unit {0}) (release w a) (λ _. release_all w more) (h.releases a) (λ _. releases_all more)

  forgets : (vs : List Val) → P Val (forget_one w vs)
  forgets [] = h.stops Val (stuck w)
  forgets (v ∷ []) = h.follows (Unit {0}) Val (release_all w (owned v)) (λ _. pure (val.Value value.Unit)) (releases_all (owned v)) (λ _. h.gives Val (val.Value value.Unit))
  forgets (v ∷ u ∷ vs) = h.stops Val (stuck w)

  -- calls

  deallocates_words : (vs : List Val) → P Val (dealloc_words w vs)
  deallocates_words (val.Word (word.Pointer address) ∷ val.Word (word.Length size) ∷ val.Word (word.Length align) ∷ []) =
      h.follows (Unit {0}) Val (dealloc w address size) (λ _. pure (val.Value value.Unit)) (h.deallocates address size) (λ _. h.gives Val (val.Value value.Unit))
  deallocates_words _ = h.stops Val (stuck w)

  lifts_act : (o : Option (Result RustValue TrapKind)) → P Val (lift_act w o)
  lifts_act None = h.stops Val (stuck w)
  lifts_act (Some (Ok v)) = h.gives Val (val.Value v)
  lifts_act (Some (Err kind)) = h.stops Val (failed w kind)

  converts : (o : Option Word) (l : Option (Result RustValue TrapKind)) → P Val (converted_or_lifted w o l)
  converts None l = lifts_act l
  converts (Some x) l = h.gives Val (val.Word x)

  applies_item : (i : RuntimeItem) (v : Val) → P Val (apply_item w i v)
  applies_item StringLift v = h.lifts v
  applies_item i v = converts (converted i v) (lift_of w.form i v)

  applies_one : (i : Option RuntimeItem) (vs : List Val) → P Val (apply_one w i vs)
  applies_one (Some i) (v ∷ []) = applies_item i v
  applies_one _ _ = h.stops Val (stuck w)

  no_cases : (vs : List Val) → P Val (no_case w vs)
  no_cases [] = h.stops Val (failed w trap.Discriminant)
  no_cases (v ∷ vs) = h.stops Val (stuck w)

  applies : (i : Option RuntimeItem) (vs : List Val) → P Val (apply w i vs)
  applies (Some CabiDealloc) vs = deallocates_words vs
  applies (Some InvalidEnumDiscriminant) vs = no_cases vs
  applies i vs = applies_one i vs

  calls_runtime : (name : Bytes) (vs : List Val) → P Val (call_runtime w name vs)
  unfolding call_runtime
  calls_runtime name vs = applies (runtime_item_named w.items name) vs

  lifts_case : (name : Bytes) (vs : List Val) → P Val (lift_case w name vs)
  lifts_case name [] = h.stops Val (stuck w)
  lifts_case name (v ∷ []) = lifts_act (enum_lift_of w.items name v)
  lifts_case name (v ∷ u ∷ vs) = h.stops Val (stuck w)

  makes_case : (number : Option ℕ) (vs : List Val) → P Val (make_case w number vs)
  makes_case number [] = h.stops Val (stuck w)
  makes_case number (v ∷ []) = or_stops Val (stuck w) (full_case number v)
  makes_case number (v ∷ u ∷ vs) = h.stops Val (stuck w)

  calls_member : (ty name : Bytes) (vs : List Val) → P Val (call_member w ty name vs)
  calls_member ty name vs = go (is_enum w.items ty && bytes_eq name lift_name)
    where
      go : (b : Bool) → P Val (cond b (lift_case w ty vs) (make_case w (number_at_root w.items ty name) vs))
      go true = lifts_case ty vs
      go false = makes_case (number_at_root w.items ty name) vs

  calls_core : (f : CoreFn) (vs : List Val) → P Val (call_core w f vs)
  calls_core f [] = h.stops Val (stuck w)
  calls_core f (v ∷ []) = or_stops Val (stuck w) (option_map val.Word (core_word f v))
  calls_core f (v ∷ u ∷ vs) = h.stops Val (stuck w)

  calls_callee : (k : Callee) (vs : List Val) → is_callee_known known k ≡ true → P Val (call_callee w k vs)
  calls_callee (alone name) vs k = h.calls name vs k
  calls_callee (of_runtime name) vs k = calls_runtime name vs
  calls_callee (member_of ty name) vs k = calls_member ty name vs
  calls_callee (core_case number) vs k = makes_case (Some number) vs
  calls_callee (core_function f) vs k = calls_core f vs
  calls_callee core_forget vs k = forgets vs
  calls_callee unknown vs k = h.stops Val (stuck w)

  boxes : (v : Val) → P Val (boxed w v)
  unfolding boxed
  boxes v = go (buffer_of v)
    where
      go : (o : Option (ℕ × ℕ × Bool)) → P Val (box_buffer w v o)
      go (Some (address, size, true)) = h.gives Val v
      go _ = h.stops Val (stuck w)

  -- values with parts

  binds_parts : (names : List Bytes) (rs : List RustValue) → list_all known names ≡ true → P (Unit {0}) (bind_parts w names rs)
  binds_parts [] [] k = h.gives (Unit {0}) tt
  binds_parts [] (r ∷ rs) k = h.stops (Unit {0}) (stuck w)
  binds_parts (name ∷ names) [] k = h.stops (Unit {0}) (stuck w)
  binds_parts (name ∷ names) (r ∷ rs) k =
      let both = and_parts (known name) (list_all known names) k in
      h.follows (Unit {0}) (Unit {0}) (bind name (val.Value r)) (λ _. bind_parts w names rs) (h.binds name (val.Value r) both.0) (λ _. binds_parts names rs both.1)

  takes_apart : (p : Pattern) (v : Val) → list_all known (bound_names p) ≡ true → P (Unit {0}) (take_apart w p v)
  takes_apart p v k =
      or_follows (List RustValue) (Unit {0}) (stuck w) (parts_of v) (λ rs. or_stop (stuck w) (given_names w.items p) >>= (λ names. bind_parts w names rs))
      (λ rs _. or_follows (List Bytes) (Unit {0}) (stuck w) (given_names w.items p) (λ names. bind_parts w names rs) (λ names is. binds_parts names rs (known_given known w.items p names k is)))

  wholes : (acts : List (Act Val)) → P (List Val) (all acts) → P Val (whole w acts)
  wholes acts k = h.follows (List Val) Val (all acts) (λ vs. or_stop (stuck w) (whole_of vs)) k (λ vs. or_stops Val (stuck w) (whole_of vs))

  records : (path : Path) (fields : List (Bytes × Act Val)) → P (List (Bytes × Val)) (all (map field_act fields)) → P Val (record_of w path fields)
  records path fields k =
      h.follows (List (Bytes × Val)) Val (all (map field_act fields)) (λ vs. or_stop (stuck w) (option_and_then whole_of (arranged w.items path vs))) k
      (λ vs. or_stops Val (stuck w) (option_and_then whole_of (arranged w.items path vs)))

  joins : (path : Path) (repr : Repr) (words : List (ℕ × Act Val)) → P (List (ℕ × Val)) (all (map keyed words)) → P Val (flags_of_words w path repr words)
  joins path repr words k =
      h.follows (List (ℕ × Val)) Val (all (map keyed words)) (λ vs. or_stop (stuck w) (flags_from w.items path repr vs)) k (λ vs. or_stops Val (stuck w) (flags_from w.items path repr vs))

  -- every expression

  -- the expressions in a layer
  abbrev All : (X : Type 0) → (X → Expr) → Type 0
  All X of = (x : X) → is_expr_known known (of x) ≡ true → P Val (eval w (of x))

  follows_all : (X : Type 0) (of : X → Expr) → All X of → (xs : List X) → are_known (map (is_expr_known known) (map of xs)) ≡ true → P (List Val) (all (map (eval w) (map of xs)))
  follows_all X of k [] p = h.gives (List Val) []
  follows_all X of k (x ∷ xs) p =
      let both = and_parts (is_expr_known known (of x)) (are_known (map (is_expr_known known) (map of xs))) p in
      h.follows Val (List Val) (eval w (of x)) (λ v. all (map (eval w) (map of xs)) >>= (λ vs. pure (v ∷ vs))) (k x both.0)
      (λ v. h.follows (List Val) (List Val) (all (map (eval w) (map of xs))) (λ vs. pure (v ∷ vs)) (follows_all X of k xs both.1) (λ vs. h.gives (List Val) (v ∷ vs)))

  -- the acts of fields, or of words behind their shifts, and the answers for them
  abbrev acts_of : (K X : Type 0) → (X → Expr) → List (K × X) → List (K × Act Val)
  acts_of K X of fields = map (λ (f : K × Expr). (f.0, eval w f.1)) (map (λ (f : K × X). (f.0, of f.1)) fields)

  abbrev answers_of : (K X : Type 0) → (X → Expr) → List (K × X) → List (K × Bool)
  answers_of K X of fields = map (λ (f : K × Expr). (f.0, is_expr_known known f.1)) (map (λ (f : K × X). (f.0, of f.1)) fields)

  follows_fields : (K X : Type 0) (of : X → Expr) → All X of → (fields : List (K × X)) → list_all (λ f. f.1) (answers_of K X of fields) ≡ true → P (List (K × Val)) (all (map keyed (acts_of K X of fields)))
  follows_fields K X of k [] p = h.gives (List (K × Val)) []
  follows_fields K X of k (f ∷ fields) p =
      let both = and_parts (is_expr_known known (of f.1)) (list_all (λ (f : K × Bool). f.1) (answers_of K X of fields)) p in
      h.follows (K × Val) (List (K × Val)) (keyed (f.0, eval w (of f.1))) (λ v. all (map keyed (acts_of K X of fields)) >>= (λ vs. pure (v ∷ vs)))
      (h.follows Val (K × Val) (eval w (of f.1)) (λ v. pure (f.0, v)) (k f.1 both.0) (λ v. h.gives (K × Val) (f.0, v)))
      (λ v. h.follows (List (K × Val)) (List (K × Val)) (all (map keyed (acts_of K X of fields))) (λ vs. pure (v ∷ vs)) (follows_fields K X of k fields both.1) (λ vs. h.gives (List (K × Val)) (v ∷ vs)))

  layer : (X : Type 0) (of : X → Expr) → All X of → (l : Expr-F X) → known_step known (map-Expr Expr Bool (is_expr_known known) (map-Expr X Expr of l)) ≡ true
      → P Val (eval_step w (map-Expr Expr (Act Val) (eval w) (map-Expr X Expr of l)))
  layer X of k (Expr-F.Local name) p = h.uses name p
  layer X of k (Expr-F.Ref name) p = h.lends name p
  layer X of k (Expr-F.Cast e to) p = h.follows Val Val (eval w (of e)) (λ v. or_stop (stuck w) (cast_to to v)) (k e p) (λ v. or_stops Val (stuck w) (cast_to to v))
  layer X of k (Expr-F.Call path arguments) p =
      let both = and_parts (is_callee_known known (callee path)) (are_known (map (is_expr_known known) (map of arguments))) p in
      h.follows (List Val) Val (all (map (eval w) (map of arguments))) (λ vs. call_callee w (callee path) vs) (follows_all X of k arguments both.1) (λ vs. calls_callee (callee path) vs both.0)
  layer X of k (Expr-F.I32FromBool e) p =
      h.follows Val Val (eval w (of e)) (λ v. or_stop (stuck w) (option_map val.Word (word_of_bool v))) (k e p) (λ v. or_stops Val (stuck w) (option_map val.Word (word_of_bool v)))
  layer X of k (Expr-F.AsPtr name) p = h.asks view_of.TextAddress name p
  layer X of k (Expr-F.Len name) p = h.asks view_of.TextLength name p
  layer X of k (Expr-F.CastMut name) p = h.asks view_of.Pointer name p
  layer X of k (Expr-F.ReturnPointer name) p = h.asks view_of.AreaAddress name p
  layer X of k (Expr-F.Load e offset ty) p = h.follows Val Val (eval w (of e)) (load_word w offset ty) (k e p) (h.loads offset ty)
  layer X of k (Expr-F.LoadSmall e offset ty) p = h.follows Val Val (eval w (of e)) (load_small w offset ty) (k e p) (h.loads_small offset ty)
  layer X of k (Expr-F.FromRawParts e name) p =
      let both = and_parts (is_expr_known known (of e)) (known name) p in
      h.follows Val Val (eval w (of e)) (λ v. λ s. take_bytes w (value_of (local_named name s.locals)) v s) (k e both.0) (λ v. h.takes name v both.1)
  layer X of k (Expr-F.IntoBoxedBytes name) p = h.follows Val Val (use_local (stuck w) name) (boxed w) (h.uses name p) boxes
  layer X of k Expr-F.StaticPointer p = h.static
  layer X of k (Expr-F.Size size) p = or_stops Val (stuck w) (size_word size)
  layer X of k (Expr-F.Record path fields) p = records path (acts_of Bytes X of fields) (follows_fields Bytes X of k fields p)
  layer X of k (Expr-F.Tuple parts) p = wholes (map (eval w) (map of parts)) (follows_all X of k parts p)
  layer X of k Expr-F.Unit p = h.gives Val (val.Value value.Unit)
  layer X of k (Expr-F.Array parts) p = wholes (map (eval w) (map of parts)) (follows_all X of k parts p)
  layer X of k (Expr-F.EnumNumber e) p =
      h.follows Val Val (eval w (of e)) (λ v. or_stop (stuck w) (option_map val.Word (word_of_case v))) (k e p) (λ v. or_stops Val (stuck w) (option_map val.Word (word_of_case v)))
  layer X of k (Expr-F.FlagsBits name by) p = h.asks (view_of.FlagsWord by) name p
  layer X of k (Expr-F.FlagsOfWords path repr words) p = joins path repr (acts_of ℕ X of words) (follows_fields ℕ X of k words p)
  layer X of k (Expr-F.I32Const n) p = h.gives Val (val.Word (word.I32 n))
  layer X of k (Expr-F.Zero ty) p = h.gives Val (val.Word (zero_word ty))
  layer X of k (Expr-F.Case path) p = or_stops Val (stuck w) (bare_case w.items path)
  layer X of k (Expr-F.Method e method) p = h.follows Val Val (eval w (of e)) (λ v. or_stop (stuck w) (called_on method v)) (k e p) (λ v. or_stops Val (stuck w) (called_on method v))

  pub walks_expr : (e : Expr) → is_expr_known known e ≡ true → P Val (eval w e)
  walks_expr =
      ind-Expr (λ e. is_expr_known known e ≡ true → P Val (eval w e))
      (λ l y is. subst (λ z. is_expr_known known (roll-Expr z) ≡ true → P Val (eval w (roll-Expr z))) is
      (λ p. subst (P Val) (sym (fold-roll-Expr (Act Val) (eval_step w) (map-Expr _ Expr (λ e. e.0) y)))
      (layer _ (λ e. e.0) (λ e. e.1) y (sym (fold-roll-Expr Bool (known_step known) (map-Expr _ Expr (λ e. e.0) y)) ∙ p))))

  -- every statement, and blocks of them

  declares_area : (a : ReturnArea) → known a.name ≡ true → P (Unit {0}) (declare_area w a)
  declares_area a k = h.follows (ℕ × ℕ) (Unit {0}) (place_area w (request_of a.size a.align)) (λ p. bind a.name (val.Area p.0 p.1)) (h.places (request_of a.size a.align)) (λ p. h.binds a.name (val.Area p.0 p.1) k)

  -- the results of an arm get their names

  binds_values : (names : List Bytes) (vs : List Val) → list_all known names ≡ true → P (Unit {0}) (bind_values w names vs)
  binds_values [] [] k = h.gives (Unit {0}) tt
  binds_values [] (v ∷ vs) k = h.stops (Unit {0}) (stuck w)
  binds_values (name ∷ names) [] k = h.stops (Unit {0}) (stuck w)
  binds_values (name ∷ names) (v ∷ vs) k =
      let both = and_parts (known name) (list_all known names) k in
      h.follows (Unit {0}) (Unit {0}) (bind name v) (λ _. bind_values w names vs) (h.binds name v both.0) (λ _. binds_values names vs both.1)

  binds_results : (names : MatchNames) (vs : List Val) → list_all known (result_names names) ≡ true → P (Unit {0}) (bind_results w names vs)
  binds_results names_of.Nothing vs k = binds_values [] vs k
  binds_results (names_of.One name) [] k = h.stops (Unit {0}) (stuck w)
  binds_results (names_of.One name) (v ∷ []) k = let both = and_parts (known name) true k in h.binds name v both.0
  binds_results (names_of.One name) (v ∷ u ∷ vs) k = h.stops (Unit {0}) (stuck w)
  binds_results (names_of.Parts []) vs k = h.stops (Unit {0}) (stuck w)
  binds_results (names_of.Parts (name ∷ [])) vs k = h.stops (Unit {0}) (stuck w)
  binds_results (names_of.Parts (first ∷ second ∷ more)) vs k = binds_values (first ∷ second ∷ more) vs k

  -- arms

  leaves_out : (addresses : List ℕ) → P (Unit {0}) (left_out w addresses)
  leaves_out [] = h.gives (Unit {0}) tt
  leaves_out (a ∷ more) = h.stops (Unit {0}) (stuck w)

  enters : (p : ArmPattern) (v : Val) → list_all known (arm_names p) ≡ true → P (Unit {0}) (enter_arm w p v)
  enters (arm.Case path) v k = leaves_out (owned v)
  enters (arm.Payload path name) v k =
      let both = and_parts (known name) true k in
      h.follows Val (Unit {0}) (or_stop (stuck w) (option_map val.Value (payload_of v))) (bind name) (or_stops Val (stuck w) (option_map val.Value (payload_of v))) (λ x. h.binds name x both.0)
  enters (arm.LeftOut path) v k = leaves_out (owned v)
  enters (arm.Number n) v k = h.gives (Unit {0}) tt
  enters (arm.Name name) v k = let both = and_parts (known name) true k in h.binds name v both.0
  enters arm.AnyOther v k = leaves_out (owned v)

  -- what an arm's pattern names is known, and its block keeps what holds of acts
  record HoldsArm (a : ArmAct) : Type 0 where
    named : list_all known (arm_names a.0) ≡ true
    runs : P (List Val) a.1

  tries : (o : Option Bool) (act others : Act (List Val)) → P (List Val) act → P (List Val) others → P (List Val) (run_arm_or w o act others)
  tries None act others p q = h.stops (List Val) (stuck w)
  tries (Some true) act others p q = p
  tries (Some false) act others p q = q

  abbrev AllArms : (Y : Type 0) → (Y → Arm) → Type 0
  AllArms Y of = (y : Y) → is_arm_known known (of y) ≡ true → HoldsArm (arm_act w (of y))

  runs_arms : (Y : Type 0) (of : Y → Arm) → AllArms Y of → (v : Val) (arms : List Y) → are_known (map (is_arm_known known) (map of arms)) ≡ true → P (List Val) (run_arms w v (map (arm_act w) (map of arms)))
  runs_arms Y of k v [] p = h.stops (List Val) (stuck w)
  runs_arms Y of k v (a ∷ arms) p =
      let both = and_parts (is_arm_known known (of a)) (are_known (map (is_arm_known known) (map of arms))) p in
      let x : ArmAct = arm_act w (of a) in
      let holds = k a both.0 in
      tries (takes w.items x.0 v) (in_scope w (enter_arm w x.0 v >> x.1)) (run_arms w v (map (arm_act w) (map of arms)))
      (h.scopes (List Val) (enter_arm w x.0 v >> x.1) (h.follows (Unit {0}) (List Val) (enter_arm w x.0 v) (λ _. x.1) (enters x.0 v holds.named) (λ _. holds.runs)))
      (runs_arms Y of k v arms both.1)

  asserts : (n : ℕ) (v : Val) → P (Unit {0}) (assert_last w n v)
  asserts n v = go w.form (i32_of v)
    where
      test : (b : Bool) → P (Unit {0}) (cond b (pure tt) (stop (stop_of.Trap trap.Discriminant)))
      test true = h.gives (Unit {0}) tt
      test false = h.stops (Unit {0}) (stop_of.Trap trap.Discriminant)

      go : (f : Form) (o : Option ℤ) → P (Unit {0}) (expect_number f (stuck w) n o)
      go form.Release o = h.gives (Unit {0}) tt
      go form.Debug None = h.stops (Unit {0}) (stuck w)
      go form.Debug (Some z) = test (is_number n z)

  -- every statement, and blocks of them

  stmt_layer : (X Y Z : Type 0) (stmt_of : X → Stmt) (arm_of : Y → Arm) (block_of : Z → Code) → AllArms Y arm_of → (l : Stmt-F X Y Z)
      → known_stmt_step known (map-Stmt Stmt Arm Code Bool Bool Bool (is_stmt_known known) (is_arm_known known) (is_code_known known) (map-Stmt X Y Z Stmt Arm Code stmt_of arm_of block_of l)) ≡ true
      → P (Unit {0}) (stmt_step w (map-Stmt Stmt Arm Code (Act (Unit {0})) ArmAct (Act (List Val)) (run_stmt w) (arm_act w) (block_act w) (map-Stmt X Y Z Stmt Arm Code stmt_of arm_of block_of l)))
  stmt_layer X Y Z stmt_of arm_of block_of arms (Stmt-F.Import d) k = h.declares d
  stmt_layer X Y Z stmt_of arm_of block_of arms (Stmt-F.Let name e) k =
      let both = and_parts (is_expr_known known e) (known name) k in
      h.follows Val (Unit {0}) (eval w e) (bind name) (walks_expr e both.0) (λ v. h.binds name v both.1)
  stmt_layer X Y Z stmt_of arm_of block_of arms (Stmt-F.Expr e) k = h.follows Val (Unit {0}) (eval w e) (drop_value w) (walks_expr e k) drops_value
  stmt_layer X Y Z stmt_of arm_of block_of arms (Stmt-F.Area a) k = declares_area a k
  stmt_layer X Y Z stmt_of arm_of block_of arms (Stmt-F.LetParts p e) k =
      let both = and_parts (is_expr_known known e) (list_all known (bound_names p)) k in
      h.follows Val (Unit {0}) (eval w e) (take_apart w p) (walks_expr e both.0) (λ v. takes_apart p v both.1)
  stmt_layer X Y Z stmt_of arm_of block_of arms (Stmt-F.Store address offset ty e) k =
      let both = and_parts (is_expr_known known e) (is_expr_known known address) k in
      h.follows Val (Unit {0}) (eval w e) (λ v. eval w address >>= store_word w offset ty v) (walks_expr e both.0)
      (λ v. h.follows Val (Unit {0}) (eval w address) (store_word w offset ty v) (walks_expr address both.1) (h.stores offset ty v))
  stmt_layer X Y Z stmt_of arm_of block_of arms (Stmt-F.StoreSmall address offset ty e) k =
      let both = and_parts (is_expr_known known e) (is_expr_known known address) k in
      h.follows Val (Unit {0}) (eval w e) (λ v. eval w address >>= store_small w offset ty v) (walks_expr e both.0)
      (λ v. h.follows Val (Unit {0}) (eval w address) (store_small w offset ty v) (walks_expr address both.1) (h.stores_small offset ty v))
  stmt_layer X Y Z stmt_of arm_of block_of arms (Stmt-F.Match names e each_arm) k =
      let arms_known = are_known (map (is_arm_known known) (map arm_of each_arm)) in
      let both = and_parts (is_expr_known known e) (arms_known && list_all known (result_names names)) k in
      let rest = and_parts arms_known (list_all known (result_names names)) both.1 in
      let acts = map (arm_act w) (map arm_of each_arm) in
      h.follows Val (Unit {0}) (eval w e) (run_match w names acts) (walks_expr e both.0)
      (λ v. h.follows (List Val) (Unit {0}) (run_arms w v acts) (bind_results w names) (runs_arms Y arm_of arms v each_arm rest.0) (λ vs. binds_results names vs rest.1))
  stmt_layer X Y Z stmt_of arm_of block_of arms (Stmt-F.AssertLast name n) k = h.follows Val (Unit {0}) (lend_local (stuck w) name) (assert_last w n) (h.lends name k) (asserts n)
  stmt_layer X Y Z stmt_of arm_of block_of arms (Stmt-F.LetSlot name) k = h.binds name empty_slot k
  stmt_layer X Y Z stmt_of arm_of block_of arms (Stmt-F.WriteSlot name e) k =
      let both = and_parts (is_expr_known known e) (known name) k in
      h.follows Val (Unit {0}) (eval w e) (write_slot (stuck w) name) (walks_expr e both.0) (λ v. h.writes name v both.1)

  abbrev HoldsStmt : Stmt → Type 0
  HoldsStmt s = is_stmt_known known s ≡ true → P (Unit {0}) (run_stmt w s)

  abbrev HoldsOfArm : Arm → Type 0
  HoldsOfArm a = is_arm_known known a ≡ true → HoldsArm (arm_act w a)

  abbrev HoldsBlock : Code → Type 0
  HoldsBlock b = is_code_known known b ≡ true → P (List Val) (block_act w b)

  -- statements one after another
  runs_each : (X : Type 0) (of : X → Stmt) → ((x : X) → HoldsStmt (of x)) → (xs : List X) → are_known (map (is_stmt_known known) (map of xs)) ≡ true → P (Unit {0}) (each (map (run_stmt w) (map of xs)))
  runs_each X of k [] p = h.gives (Unit {0}) tt
  runs_each X of k (x ∷ xs) p =
      let both = and_parts (is_stmt_known known (of x)) (are_known (map (is_stmt_known known) (map of xs))) p in
      h.follows (Unit {0}) (Unit {0}) (run_stmt w (of x)) (λ _. each (map (run_stmt w) (map of xs))) (k x both.0) (λ _. runs_each X of k xs both.1)

  -- the results of a block

  walks_each : (es : List Expr) → are_known (map (is_expr_known known) es) ≡ true → P (List Val) (all (map (eval w) es))
  walks_each [] k = h.gives (List Val) []
  walks_each (e ∷ es) k =
      let both = and_parts (is_expr_known known e) (are_known (map (is_expr_known known) es)) k in
      h.follows Val (List Val) (eval w e) (λ v. all (map (eval w) es) >>= (λ vs. pure (v ∷ vs))) (walks_expr e both.0)
      (λ v. h.follows (List Val) (List Val) (all (map (eval w) es)) (λ vs. pure (v ∷ vs)) (walks_each es both.1) (λ vs. h.gives (List Val) (v ∷ vs)))

  walks_in : (e : Expr) (l : Expr-F Expr) → is_expr_known known e ≡ true → known_step known (map-Expr Expr Bool (is_expr_known known) l) ≡ true → P (List Val) (all (map (eval w) (results_in e l)))
  walks_in e (Expr-F.Tuple (first ∷ second ∷ more)) k p = walks_each (first ∷ second ∷ more) p
  walks_in e _ k p = walks_each (e ∷ []) (and_from (is_expr_known known e) true k refl)

  walks_results : (tail : Option Expr) → is_tail_known known tail ≡ true → P (List Val) (all (map (eval w) (results tail)))
  walks_results None k = h.gives (List Val) []
  walks_results (Some e) k = walks_in e (out-Expr e) k (sym (fold-roll-Expr Bool (known_step known) (out-Expr e)) ∙ ap (is_expr_known known) (roll-out-Expr e) ∙ k)

  step_stmt : (X Y Z : Type 0) (stmt_of : X → Stmt) (arm_of : Y → Arm) (block_of : Z → Code) → ((y : Y) → HoldsOfArm (arm_of y)) → (y : Stmt-F X Y Z)
      → HoldsStmt (roll-Stmt (map-Stmt X Y Z Stmt Arm Code stmt_of arm_of block_of y))
  step_stmt X Y Z stmt_of arm_of block_of k y p =
      let l = map-Stmt X Y Z Stmt Arm Code stmt_of arm_of block_of y in
      subst (P (Unit {0})) (sym (fold-roll-Stmt (Act (Unit {0})) ArmAct (Act (List Val)) (stmt_step w) arm_step (block_step w) l))
      (stmt_layer X Y Z stmt_of arm_of block_of k y (sym (fold-roll-Stmt Bool Bool Bool (known_stmt_step known) (known_arm_step known) (known_block_step known) l) ∙ p))

  step_arm : (X Y Z : Type 0) (stmt_of : X → Stmt) (arm_of : Y → Arm) (block_of : Z → Code) → ((z : Z) → HoldsBlock (block_of z)) → (y : Arm-F X Y Z)
      → HoldsOfArm (roll-Arm (map-Arm X Y Z Stmt Arm Code stmt_of arm_of block_of y))
  step_arm X Y Z stmt_of arm_of block_of k y p =
      let l = map-Arm X Y Z Stmt Arm Code stmt_of arm_of block_of y in
      let both = and_parts (list_all known (arm_names y.pattern)) (is_code_known known (block_of y.body)) (sym (fold-roll-Arm Bool Bool Bool (known_stmt_step known) (known_arm_step known) (known_block_step known) l) ∙ p) in
      subst HoldsArm (sym (fold-roll-Arm (Act (Unit {0})) ArmAct (Act (List Val)) (stmt_step w) arm_step (block_step w) l)) (record { named = both.0; runs = k y.body both.1 })

  step_block : (X Y Z : Type 0) (stmt_of : X → Stmt) (arm_of : Y → Arm) (block_of : Z → Code) → ((x : X) → HoldsStmt (stmt_of x)) → (y : Block-F X Y Z)
      → HoldsBlock (roll-Block (map-Block X Y Z Stmt Arm Code stmt_of arm_of block_of y))
  step_block X Y Z stmt_of arm_of block_of k y p =
      let l = map-Block X Y Z Stmt Arm Code stmt_of arm_of block_of y in
      let both = and_parts (are_known (map (is_stmt_known known) (map stmt_of y.stmts))) (is_tail_known known y.tail) (sym (fold-roll-Block Bool Bool Bool (known_stmt_step known) (known_arm_step known) (known_block_step known) l) ∙ p) in
      subst (P (List Val)) (sym (fold-roll-Block (Act (Unit {0})) ArmAct (Act (List Val)) (stmt_step w) arm_step (block_step w) l))
      (h.follows (Unit {0}) (List Val) (each (map (run_stmt w) (map stmt_of y.stmts))) (λ _. all (map (eval w) (results y.tail))) (runs_each X stmt_of k y.stmts both.0) (λ _. walks_results y.tail both.1))

  walks_stmt : (s : Stmt) → HoldsStmt s
  walks_stmt =
      ind-Stmt HoldsStmt HoldsOfArm HoldsBlock
      (λ l y is. subst (λ z. HoldsStmt (roll-Stmt z)) is (step_stmt _ _ _ (λ x. x.0) (λ x. x.0) (λ x. x.0) (λ x. x.1) y))
      (λ l y is. subst (λ z. HoldsOfArm (roll-Arm z)) is (step_arm _ _ _ (λ x. x.0) (λ x. x.0) (λ x. x.0) (λ x. x.1) y))
      (λ l y is. subst (λ z. HoldsBlock (roll-Block z)) is (step_block _ _ _ (λ x. x.0) (λ x. x.0) (λ x. x.0) (λ x. x.1) y))

  pub walks_stmts : (stmts : List Stmt) → list_all (is_stmt_known known) stmts ≡ true → P (Unit {0}) (run_stmts w stmts)
  walks_stmts [] k = h.gives (Unit {0}) tt
  walks_stmts (s ∷ stmts) k =
      let both = and_parts (is_stmt_known known s) (list_all (is_stmt_known known) stmts) k in
      h.follows (Unit {0}) (Unit {0}) (run_stmt w s) (λ _. run_stmts w stmts) (walks_stmt s both.0) (λ _. walks_stmts stmts both.1)

  walks_tail : (tail : Option Expr) → is_tail_known known tail ≡ true → P Val (run_tail w tail)
  walks_tail None k = h.gives Val (val.Value value.Unit)
  walks_tail (Some e) k = walks_expr e k

  pub walks_block : (b : Code) → is_block_known known b ≡ true → P Val (run_block w b)
  walks_block b k =
      let l = out-Block b in
      let both = and_parts (list_all (is_stmt_known known) l.stmts) (is_tail_known known l.tail) k in
      h.follows (Unit {0}) Val (run_stmts w l.stmts) (λ _. run_tail w l.tail) (walks_stmts l.stmts both.0) (λ _. walks_tail l.tail both.1)

  pub walks_given : (b : Code) → is_block_known known b ≡ true → P (List Val) (run_results w b)
  walks_given b k =
      let l = out-Block b in
      let both = and_parts (list_all (is_stmt_known known) l.stmts) (is_tail_known known l.tail) k in
      h.follows (Unit {0}) (List Val) (run_stmts w l.stmts) (λ _. all (map (eval w) (results l.tail))) (walks_stmts l.stmts both.0) (λ _. walks_results l.tail both.1)
