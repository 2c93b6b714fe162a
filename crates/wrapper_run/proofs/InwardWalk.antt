-- What holds of the acts that inward code is made of holds of all inward code, by induction over expressions and statements.
use Rattle.std.proofs.Common.{◌≡◌, ℕ, Bool, true, false, cond, List, [], ◌∷◌, map, Option, None, Some, refl, sym, ap, subst, ◌∙◌, ◌&&◌}
use Rattle.std.specs.Prelude.{ℤ, Result, Ok, Err, option_and_then}
use Rattle.std.specs.List.{list_all}
use Rattle.std.specs.Option.{option_map}
use Rattle.std.specs.Str.{bytes_eq}
use Rattle.std.proofs.lemmas.Bool.{and_from, and_parts}
use Rattle.std.proofs.lemmas.Slice.Eq.{bytes_eq-Decides}
use Rattle.wit_model.specs.Bytes.{Bytes}
use Rattle.wit_model.specs.declared.size.ArchitectureSize.{ArchitectureSize}
use Rattle.wit_model.specs.declared.wasm_type.WasmType.{WasmType}
use Rattle.rust_tree.specs.declared.expr.Expr.{Expr, Expr-F, fold-roll-Expr, ind-Expr, map-Expr, out-Expr, roll-Expr, roll-out-Expr}
use Rattle.rust_tree.specs.declared.expr.SmallType.{SmallType}
use Rattle.rust_tree.specs.declared.path.Path.{Path}
use Rattle.rust_tree.specs.declared.pattern.ArmPattern.{ArmPattern}
use Rattle.rust_tree.specs.declared.pattern.ArmPattern.TheVariants as arm
use Rattle.rust_tree.specs.declared.pattern.Pattern.{Pattern}
use Rattle.rust_tree.specs.declared.repr.Repr.{Repr}
use Rattle.rust_tree.specs.declared.runtime_item.RuntimeItem.{RuntimeItem}
use Rattle.rust_tree.specs.declared.runtime_item.RuntimeItem.TheVariants.{CabiDealloc, InvalidEnumDiscriminant, StringLift}
use Rattle.rust_tree.specs.declared.stmt.Arm.{Arm, Arm-F, fold-Arm, fold-roll-Arm, map-Arm, roll-Arm}
use Rattle.rust_tree.specs.declared.stmt.Block.{Block as Code, Block-F, fold-Block, fold-roll-Block, map-Block, out-Block, roll-Block}
use Rattle.rust_tree.specs.declared.stmt.ImportDecl.{ImportDecl}
use Rattle.rust_tree.specs.declared.stmt.MatchNames.{MatchNames}
use Rattle.rust_tree.specs.declared.stmt.MatchNames.TheVariants as names_of
use Rattle.rust_tree.specs.declared.stmt.Stmt.{Stmt, Stmt-F, fold-roll-Stmt, ind-Stmt, map-Stmt, roll-Stmt}
use Rattle.wrapper_data.specs.declared.form.Form.{Form}
use Rattle.wrapper_data.specs.declared.form.Form.TheVariants as form
use Rattle.wrapper_data.specs.declared.run.Stop.{Stop}
use Rattle.wrapper_data.specs.declared.run.Stop.TheVariants as stop_of
use Rattle.wrapper_data.specs.declared.run.TrapKind.{TrapKind}
use Rattle.wrapper_data.specs.declared.run.TrapKind.TheVariants as trap
use Rattle.wrapper_data.specs.declared.value.RustValue.{RustValue}
use Rattle.wrapper_data.specs.declared.value.RustValue.TheVariants as value
use Rattle.wrapper_data.specs.declared.word.Word.{Word}
use Rattle.wrapper_data.specs.declared.word.Word.TheVariants as word
use Rattle.wrapper_values.specs.declared.core_words.CoreFn.{CoreFn}
use Rattle.wrapper_values.specs.declared.owning.View.{View}
use Rattle.wrapper_values.specs.declared.owning.View.TheVariants as view_of
use Rattle.wrapper_values.specs.declared.state.Local.{Local}
use Rattle.wrapper_values.specs.declared.state.Val.{Val}
use Rattle.wrapper_values.specs.declared.state.Val.TheVariants as val
use Rattle.wrapper_values.specs.Act.{Act, ◌>>=◌, ◌>>◌, all, keyed, or_stop, pure, stop}
use Rattle.wrapper_run.specs.Arms.{ArmAct, run_arm_or, run_arms, run_match}
use Rattle.wrapper_run.specs.Blocks.{in_scope, box_buffer, boxed, dealloc, dealloc_words, drop_local, drop_locals, drop_value, free, free_all, lift_text, release, release_all, store_small, store_word}
use Rattle.wrapper_values.specs.CoreWords.{called_on, core_word, empty_slot, zero_word}
use Rattle.wrapper_values.specs.Effect.{cast_to, converted, lift_of, word_of_bool}
use Rattle.wrapper_values.specs.Enums.{enum_lift_of, is_enum, word_of_case}
use Rattle.wrapper_values.specs.Flags.{flags_from, flags_of_words}
use Rattle.wrapper_values.specs.Fields.{arranged}
use Rattle.wrapper_values.specs.Locals.{ask_local, bind, declare, lend_local, local_named, use_local, value_of, write_slot}
use Rattle.wrapper_values.specs.Matches.{assert_last, bind_results, bind_values, enter_arm, expect_number, i32_of, is_number, left_out, takes}
use Rattle.wrapper_values.specs.Owning.{buffer_of, owned, owned_in}
use Rattle.wrapper_run.specs.LastParts.{results, results_in}
use Rattle.wrapper_run.specs.Results.{run_results}
use Rattle.wrapper_run.specs.Run.{alone, apply, apply_item, apply_one, arm_act, arm_step, block_act, block_step, call_callee, call_core, call_member, call_runtime, Callee, callee, converted_or_lifted, core_case, core_forget, core_function, each, eval, eval_step, forget_one, lift_act, lift_case, lift_name, load_small, load_word, make_case, member_of, no_case, of_runtime, run_block, run_stmt, run_stmts, run_tail, runtime_item_named, size_word, stmt_step, take_bytes, unknown}
use Rattle.wrapper_values.specs.Setting.{Setting, failed, stuck}
use Rattle.wrapper_run.specs.UnusedLocals.{are_known}
use Rattle.wrapper_values.specs.Variants.{bare_case, full_case, number_at_root, payload_of}
use Rattle.wrapper_values.specs.Whole.{bind_parts, field_act, given_names, parts_of, record_of, take_apart, whole, whole_of}
use Rattle.wrapper_run.specs.Inward.{StmtTest, are_inward, declares_slot, inward_arm_step, inward_block_step, inward_step, inward_stmt_step, is_fresh, is_inward, is_inward_expr, is_inward_tail, is_no_import, plain, stmt_test, writes_slot}

-- what holds of each of these acts, and of one after the other
pub record Within (w : Setting) (P : (A : Type 0) → Act A → Type 0) : Type 1 where
  pub gives : (A : Type 0) (a : A) → P A (pure a)
  pub stops : (A : Type 0) (e : Stop) → P A (stop e)
  pub follows : (A B : Type 0) (act : Act A) (f : A → Act B) → P A act → ((a : A) → P B (f a)) → P B (act >>= f)
  pub uses : (name : Bytes) → P Val (use_local (stuck w) name)
  pub lends : (name : Bytes) → P Val (lend_local (stuck w) name)
  pub asks : (of : View) (name : Bytes) → P Val (ask_local (stuck w) of name)
  pub binds : (name : Bytes) (v : Val) → P (Unit {0}) (bind name v)
  pub declares : (d : ImportDecl) → P (Unit {0}) (declare d)
  pub frees : (address : ℕ) → P (Unit {0}) (free w address)
  pub releases : (address : ℕ) → P (Unit {0}) (release w address)
  pub deallocates : (address size : ℕ) → P (Unit {0}) (dealloc w address size)
  pub takes : (name : Bytes) (v : Val) → P Val (λ s. take_bytes w (value_of (local_named name s.locals)) v s)
  pub lifts : (v : Val) → P Val (lift_text w v)
  pub loads : (offset : ArchitectureSize) (ty : WasmType) (v : Val) → P Val (load_word w offset ty v)
  pub loads_small : (offset : ArchitectureSize) (ty : SmallType) (v : Val) → P Val (load_small w offset ty v)
  pub stores : (offset : ArchitectureSize) (ty : WasmType) (v at : Val) → P (Unit {0}) (store_word w offset ty v at)
  pub stores_small : (offset : ArchitectureSize) (ty : SmallType) (v at : Val) → P (Unit {0}) (store_small w offset ty v at)
  pub scopes : (A : Type 0) (act : Act A) → P A act → P A (in_scope w act)
  pub writes : (name : Bytes) (e : Expr) (act : Act (Unit {0})) → P Val (eval w e) → P (Unit {0}) act → P (Unit {0}) (bind name empty_slot >> ((eval w e >>= write_slot (stuck w) name) >> act))

-- the tests of the arms and blocks in a match

abbrev arm_test : Arm → Bool
arm_test = fold-Arm StmtTest Bool Bool inward_stmt_step inward_arm_step inward_block_step

abbrev block_test : Code → Bool
block_test = fold-Block StmtTest Bool Bool inward_stmt_step inward_arm_step inward_block_step

module _ (w : Setting) (P : (A : Type 0) → Act A → Type 0) (h : Within w P) where
  -- acts made of these

  or_stops : (A : Type 0) (e : Stop) (o : Option A) → P A (or_stop e o)
  or_stops A e None = h.stops A e
  or_stops A e (Some a) = h.gives A a

  or_follows : (A B : Type 0) (e : Stop) (o : Option A) (f : A → Act B) → ((a : A) → P B (f a)) → P B (or_stop e o >>= f)
  or_follows A B e None f k = h.stops B e
  or_follows A B e (Some a) f k = k a

  frees_all : (addresses : List ℕ) → P (Unit {0}) (free_all w addresses)
  frees_all [] = h.gives (Unit {0}) tt
  frees_all (a ∷ more) = h.follows (Unit {0}) (Unit {0}) (free w a) (λ _. free_all w more) (h.frees a) (λ _. frees_all more)

  pub drops_value : (v : Val) → P (Unit {0}) (drop_value w v)
  drops_value v = frees_all (owned v)

  pub drops_locals : (locals : List Local) → P (Unit {0}) (drop_locals w locals)
  drops_locals [] = h.gives (Unit {0}) tt
  drops_locals (l ∷ locals) = h.follows (Unit {0}) (Unit {0}) (drop_locals w locals) (λ _. drop_local w l.value) (drops_locals locals) (λ _. frees_all (owned_in l.value))

  releases_all : (addresses : List ℕ) → P (Unit {0}) (release_all w addresses)
  releases_all [] = h.gives (Unit {0}) tt
  releases_all (a ∷ more) = h.follows (Unit {0}) (Unit {0}) (release w a) (λ _. release_all w more) (h.releases a) (λ _. releases_all more)

  forgets : (vs : List Val) → P Val (forget_one w vs)
  forgets [] = h.stops Val (stuck w)
  forgets (v ∷ []) = h.follows (Unit {0}) Val (release_all w (owned v)) (λ _. pure (val.Value value.Unit)) (releases_all (owned v)) (λ _. h.gives Val (val.Value value.Unit))
  forgets (v ∷ u ∷ vs) = h.stops Val (stuck w)

  -- calls

  deallocates_words : (vs : List Val) → P Val (dealloc_words w vs)
  deallocates_words (val.Word (word.Pointer address) ∷ val.Word (word.Length size) ∷ val.Word (word.Length align) ∷ []) =
      h.follows (Unit {0}) Val (dealloc w address size) (λ _. pure (val.Value value.Unit)) (h.deallocates address size) (λ _. h.gives Val (val.Value value.Unit))
  deallocates_words _ = h.stops Val (stuck w)

  lifts_act : (o : Option (Result RustValue TrapKind)) → P Val (lift_act w o)
  lifts_act None = h.stops Val (stuck w)
  lifts_act (Some (Ok v)) = h.gives Val (val.Value v)
  lifts_act (Some (Err kind)) = h.stops Val (failed w kind)

  converts : (o : Option Word) (l : Option (Result RustValue TrapKind)) → P Val (converted_or_lifted w o l)
  converts None l = lifts_act l
  converts (Some x) l = h.gives Val (val.Word x)

  applies_item : (i : RuntimeItem) (v : Val) → P Val (apply_item w i v)
  applies_item StringLift v = h.lifts v
  applies_item i v = converts (converted i v) (lift_of w.form i v)

  applies_one : (i : Option RuntimeItem) (vs : List Val) → P Val (apply_one w i vs)
  applies_one (Some i) (v ∷ []) = applies_item i v
  applies_one _ _ = h.stops Val (stuck w)

  no_cases : (vs : List Val) → P Val (no_case w vs)
  no_cases [] = h.stops Val (failed w trap.Discriminant)
  no_cases (v ∷ vs) = h.stops Val (stuck w)

  applies : (i : Option RuntimeItem) (vs : List Val) → P Val (apply w i vs)
  applies (Some CabiDealloc) vs = deallocates_words vs
  applies (Some InvalidEnumDiscriminant) vs = no_cases vs
  applies i vs = applies_one i vs

  calls_runtime : (name : Bytes) (vs : List Val) → P Val (call_runtime w name vs)
  unfolding call_runtime
  calls_runtime name vs = applies (runtime_item_named w.items name) vs

  lifts_case : (name : Bytes) (vs : List Val) → P Val (lift_case w name vs)
  lifts_case name [] = h.stops Val (stuck w)
  lifts_case name (v ∷ []) = lifts_act (enum_lift_of w.items name v)
  lifts_case name (v ∷ u ∷ vs) = h.stops Val (stuck w)

  makes_case : (number : Option ℕ) (vs : List Val) → P Val (make_case w number vs)
  makes_case number [] = h.stops Val (stuck w)
  makes_case number (v ∷ []) = or_stops Val (stuck w) (full_case number v)
  makes_case number (v ∷ u ∷ vs) = h.stops Val (stuck w)

  calls_member : (ty name : Bytes) (vs : List Val) → P Val (call_member w ty name vs)
  calls_member ty name vs = go (is_enum w.items ty && bytes_eq name lift_name)
    where
      go : (b : Bool) → P Val (cond b (lift_case w ty vs) (make_case w (number_at_root w.items ty name) vs))
      go true = lifts_case ty vs
      go false = makes_case (number_at_root w.items ty name) vs

  calls_core : (f : CoreFn) (vs : List Val) → P Val (call_core w f vs)
  calls_core f [] = h.stops Val (stuck w)
  calls_core f (v ∷ []) = or_stops Val (stuck w) (option_map val.Word (core_word f v))
  calls_core f (v ∷ u ∷ vs) = h.stops Val (stuck w)

  calls_callee : (k : Callee) (vs : List Val) → is_no_import k ≡ true → P Val (call_callee w k vs)
  calls_callee (alone name) vs k = absurd (cc)
  calls_callee (of_runtime name) vs k = calls_runtime name vs
  calls_callee (member_of ty name) vs k = calls_member ty name vs
  calls_callee (core_case number) vs k = makes_case (Some number) vs
  calls_callee (core_function f) vs k = calls_core f vs
  calls_callee core_forget vs k = forgets vs
  calls_callee unknown vs k = h.stops Val (stuck w)

  boxes : (v : Val) → P Val (boxed w v)
  unfolding boxed
  boxes v = go (buffer_of v)
    where
      go : (o : Option (ℕ × ℕ × Bool)) → P Val (box_buffer w v o)
      go (Some (address, size, true)) = h.gives Val v
      go _ = h.stops Val (stuck w)

  -- values with parts

  binds_parts : (names : List Bytes) (rs : List RustValue) → P (Unit {0}) (bind_parts w names rs)
  binds_parts [] [] = h.gives (Unit {0}) tt
  binds_parts [] (r ∷ rs) = h.stops (Unit {0}) (stuck w)
  binds_parts (name ∷ names) [] = h.stops (Unit {0}) (stuck w)
  binds_parts (name ∷ names) (r ∷ rs) = h.follows (Unit {0}) (Unit {0}) (bind name (val.Value r)) (λ _. bind_parts w names rs) (h.binds name (val.Value r)) (λ _. binds_parts names rs)

  takes_apart : (p : Pattern) (v : Val) → P (Unit {0}) (take_apart w p v)
  takes_apart p v =
      or_follows (List RustValue) (Unit {0}) (stuck w) (parts_of v) (λ rs. or_stop (stuck w) (given_names w.items p) >>= (λ names. bind_parts w names rs))
      (λ rs. or_follows (List Bytes) (Unit {0}) (stuck w) (given_names w.items p) (λ names. bind_parts w names rs) (λ names. binds_parts names rs))

  wholes : (acts : List (Act Val)) → P (List Val) (all acts) → P Val (whole w acts)
  wholes acts k = h.follows (List Val) Val (all acts) (λ vs. or_stop (stuck w) (whole_of vs)) k (λ vs. or_stops Val (stuck w) (whole_of vs))

  records : (path : Path) (fields : List (Bytes × Act Val)) → P (List (Bytes × Val)) (all (map field_act fields)) → P Val (record_of w path fields)
  records path fields k =
      h.follows (List (Bytes × Val)) Val (all (map field_act fields)) (λ vs. or_stop (stuck w) (option_and_then whole_of (arranged w.items path vs))) k
      (λ vs. or_stops Val (stuck w) (option_and_then whole_of (arranged w.items path vs)))

  joins : (path : Path) (repr : Repr) (words : List (ℕ × Act Val)) → P (List (ℕ × Val)) (all (map keyed words)) → P Val (flags_of_words w path repr words)
  joins path repr words k =
      h.follows (List (ℕ × Val)) Val (all (map keyed words)) (λ vs. or_stop (stuck w) (flags_from w.items path repr vs)) k (λ vs. or_stops Val (stuck w) (flags_from w.items path repr vs))

  -- every expression

  -- the expressions in a layer
  abbrev All : (X : Type 0) → (X → Expr) → Type 0
  All X of = (x : X) → is_inward_expr (of x) ≡ true → P Val (eval w (of x))

  follows_all : (X : Type 0) (of : X → Expr) → All X of → (xs : List X) → are_known (map is_inward_expr (map of xs)) ≡ true → P (List Val) (all (map (eval w) (map of xs)))
  follows_all X of k [] p = h.gives (List Val) []
  follows_all X of k (x ∷ xs) p =
      let both = and_parts (is_inward_expr (of x)) (are_known (map is_inward_expr (map of xs))) p in
      h.follows Val (List Val) (eval w (of x)) (λ v. all (map (eval w) (map of xs)) >>= (λ vs. pure (v ∷ vs))) (k x both.0)
      (λ v. h.follows (List Val) (List Val) (all (map (eval w) (map of xs))) (λ vs. pure (v ∷ vs)) (follows_all X of k xs both.1) (λ vs. h.gives (List Val) (v ∷ vs)))

  -- the acts of fields, or of words behind their shifts, and the answers for them
  abbrev acts_of : (K X : Type 0) → (X → Expr) → List (K × X) → List (K × Act Val)
  acts_of K X of fields = map (λ (f : K × Expr). (f.0, eval w f.1)) (map (λ (f : K × X). (f.0, of f.1)) fields)

  abbrev answers_of : (K X : Type 0) → (X → Expr) → List (K × X) → List (K × Bool)
  answers_of K X of fields = map (λ (f : K × Expr). (f.0, is_inward_expr f.1)) (map (λ (f : K × X). (f.0, of f.1)) fields)

  follows_fields : (K X : Type 0) (of : X → Expr) → All X of → (fields : List (K × X)) → list_all (λ f. f.1) (answers_of K X of fields) ≡ true → P (List (K × Val)) (all (map keyed (acts_of K X of fields)))
  follows_fields K X of k [] p = h.gives (List (K × Val)) []
  follows_fields K X of k (f ∷ fields) p =
      let both = and_parts (is_inward_expr (of f.1)) (list_all (λ (f : K × Bool). f.1) (answers_of K X of fields)) p in
      h.follows (K × Val) (List (K × Val)) (keyed (f.0, eval w (of f.1))) (λ v. all (map keyed (acts_of K X of fields)) >>= (λ vs. pure (v ∷ vs)))
      (h.follows Val (K × Val) (eval w (of f.1)) (λ v. pure (f.0, v)) (k f.1 both.0) (λ v. h.gives (K × Val) (f.0, v)))
      (λ v. h.follows (List (K × Val)) (List (K × Val)) (all (map keyed (acts_of K X of fields))) (λ vs. pure (v ∷ vs)) (follows_fields K X of k fields both.1) (λ vs. h.gives (List (K × Val)) (v ∷ vs)))

  layer : (X : Type 0) (of : X → Expr) → All X of → (l : Expr-F X) → inward_step (map-Expr Expr Bool is_inward_expr (map-Expr X Expr of l)) ≡ true
      → P Val (eval_step w (map-Expr Expr (Act Val) (eval w) (map-Expr X Expr of l)))
  layer X of k (Expr-F.Local name) p = h.uses name
  layer X of k (Expr-F.Ref name) p = h.lends name
  layer X of k (Expr-F.Cast e to) p = h.follows Val Val (eval w (of e)) (λ v. or_stop (stuck w) (cast_to to v)) (k e p) (λ v. or_stops Val (stuck w) (cast_to to v))
  layer X of k (Expr-F.Call path arguments) p =
      let both = and_parts (is_no_import (callee path)) (are_known (map is_inward_expr (map of arguments))) p in
      h.follows (List Val) Val (all (map (eval w) (map of arguments))) (λ vs. call_callee w (callee path) vs) (follows_all X of k arguments both.1) (λ vs. calls_callee (callee path) vs both.0)
  layer X of k (Expr-F.I32FromBool e) p =
      h.follows Val Val (eval w (of e)) (λ v. or_stop (stuck w) (option_map val.Word (word_of_bool v))) (k e p) (λ v. or_stops Val (stuck w) (option_map val.Word (word_of_bool v)))
  layer X of k (Expr-F.AsPtr name) p = h.asks view_of.TextAddress name
  layer X of k (Expr-F.Len name) p = h.asks view_of.TextLength name
  layer X of k (Expr-F.CastMut name) p = h.asks view_of.Pointer name
  layer X of k (Expr-F.ReturnPointer name) p = h.asks view_of.AreaAddress name
  layer X of k (Expr-F.Load e offset ty) p = h.follows Val Val (eval w (of e)) (load_word w offset ty) (k e p) (h.loads offset ty)
  layer X of k (Expr-F.LoadSmall e offset ty) p = h.follows Val Val (eval w (of e)) (load_small w offset ty) (k e p) (h.loads_small offset ty)
  layer X of k (Expr-F.FromRawParts e name) p =
      h.follows Val Val (eval w (of e)) (λ v. λ s. take_bytes w (value_of (local_named name s.locals)) v s) (k e p) (λ v. h.takes name v)
  layer X of k (Expr-F.IntoBoxedBytes name) p = h.follows Val Val (use_local (stuck w) name) (boxed w) (h.uses name) boxes
  layer X of k Expr-F.StaticPointer p = absurd (cc)
  layer X of k (Expr-F.Size size) p = or_stops Val (stuck w) (size_word size)
  layer X of k (Expr-F.Record path fields) p = records path (acts_of Bytes X of fields) (follows_fields Bytes X of k fields p)
  layer X of k (Expr-F.Tuple parts) p = wholes (map (eval w) (map of parts)) (follows_all X of k parts p)
  layer X of k Expr-F.Unit p = h.gives Val (val.Value value.Unit)
  layer X of k (Expr-F.Array parts) p = wholes (map (eval w) (map of parts)) (follows_all X of k parts p)
  layer X of k (Expr-F.EnumNumber e) p =
      h.follows Val Val (eval w (of e)) (λ v. or_stop (stuck w) (option_map val.Word (word_of_case v))) (k e p) (λ v. or_stops Val (stuck w) (option_map val.Word (word_of_case v)))
  layer X of k (Expr-F.FlagsBits name by) p = h.asks (view_of.FlagsWord by) name
  layer X of k (Expr-F.FlagsOfWords path repr words) p = joins path repr (acts_of ℕ X of words) (follows_fields ℕ X of k words p)
  layer X of k (Expr-F.I32Const n) p = h.gives Val (val.Word (word.I32 n))
  layer X of k (Expr-F.Zero ty) p = h.gives Val (val.Word (zero_word ty))
  layer X of k (Expr-F.Case path) p = or_stops Val (stuck w) (bare_case w.items path)
  layer X of k (Expr-F.Method e method) p = h.follows Val Val (eval w (of e)) (λ v. or_stop (stuck w) (called_on method v)) (k e p) (λ v. or_stops Val (stuck w) (called_on method v))

  pub walks_expr : (e : Expr) → is_inward_expr e ≡ true → P Val (eval w e)
  walks_expr =
      ind-Expr (λ e. is_inward_expr e ≡ true → P Val (eval w e))
      (λ l y is. subst (λ z. is_inward_expr (roll-Expr z) ≡ true → P Val (eval w (roll-Expr z))) is
      (λ p. subst (P Val) (sym (fold-roll-Expr (Act Val) (eval_step w) (map-Expr _ Expr (λ e. e.0) y)))
      (layer _ (λ e. e.0) (λ e. e.1) y (sym (fold-roll-Expr Bool (inward_step) (map-Expr _ Expr (λ e. e.0) y)) ∙ p))))

  -- the results of an arm get their names

  binds_values : (names : List Bytes) (vs : List Val) → P (Unit {0}) (bind_values w names vs)
  binds_values [] [] = h.gives (Unit {0}) tt
  binds_values [] (v ∷ vs) = h.stops (Unit {0}) (stuck w)
  binds_values (name ∷ names) [] = h.stops (Unit {0}) (stuck w)
  binds_values (name ∷ names) (v ∷ vs) = h.follows (Unit {0}) (Unit {0}) (bind name v) (λ _. bind_values w names vs) (h.binds name v) (λ _. binds_values names vs)

  pub binds_results : (names : MatchNames) (vs : List Val) → P (Unit {0}) (bind_results w names vs)
  binds_results names_of.Nothing vs = binds_values [] vs
  binds_results (names_of.One name) [] = h.stops (Unit {0}) (stuck w)
  binds_results (names_of.One name) (v ∷ []) = h.binds name v
  binds_results (names_of.One name) (v ∷ u ∷ vs) = h.stops (Unit {0}) (stuck w)
  binds_results (names_of.Parts []) vs = h.stops (Unit {0}) (stuck w)
  binds_results (names_of.Parts (name ∷ [])) vs = h.stops (Unit {0}) (stuck w)
  binds_results (names_of.Parts (first ∷ second ∷ more)) vs = binds_values (first ∷ second ∷ more) vs

  -- arms

  leaves_out : (addresses : List ℕ) → P (Unit {0}) (left_out w addresses)
  leaves_out [] = h.gives (Unit {0}) tt
  leaves_out (a ∷ more) = h.stops (Unit {0}) (stuck w)

  pub enters : (p : ArmPattern) (v : Val) → P (Unit {0}) (enter_arm w p v)
  enters (arm.Case path) v = leaves_out (owned v)
  enters (arm.Payload path name) v =
      h.follows Val (Unit {0}) (or_stop (stuck w) (option_map val.Value (payload_of v))) (bind name) (or_stops Val (stuck w) (option_map val.Value (payload_of v))) (h.binds name)
  enters (arm.LeftOut path) v = leaves_out (owned v)
  enters (arm.Number n) v = h.gives (Unit {0}) tt
  enters (arm.Name name) v = h.binds name v
  enters arm.AnyOther v = leaves_out (owned v)

  tries : (o : Option Bool) (act others : Act (List Val)) → P (List Val) act → P (List Val) others → P (List Val) (run_arm_or w o act others)
  tries None act others p q = h.stops (List Val) (stuck w)
  tries (Some true) act others p q = p
  tries (Some false) act others p q = q

  abbrev HoldsBlock : Code → Type 0
  HoldsBlock b = block_test b ≡ true → P (List Val) (block_act w b)

  abbrev HoldsArm : Arm → Type 0
  HoldsArm a = arm_test a ≡ true → P (List Val) (arm_act w a).1

  runs_arms : (Y : Type 0) (of : Y → Arm) → ((y : Y) → HoldsArm (of y)) → (v : Val) (arms : List Y) → are_known (map arm_test (map of arms)) ≡ true → P (List Val) (run_arms w v (map (arm_act w) (map of arms)))
  runs_arms Y of k v [] p = h.stops (List Val) (stuck w)
  runs_arms Y of k v (a ∷ arms) p =
      let both = and_parts (arm_test (of a)) (are_known (map arm_test (map of arms))) p in
      let x : ArmAct = arm_act w (of a) in
      tries (takes w.items x.0 v) (in_scope w (enter_arm w x.0 v >> x.1)) (run_arms w v (map (arm_act w) (map of arms)))
      (h.scopes (List Val) (enter_arm w x.0 v >> x.1) (h.follows (Unit {0}) (List Val) (enter_arm w x.0 v) (λ _. x.1) (enters x.0 v) (λ _. k a both.0)))
      (runs_arms Y of k v arms both.1)

  asserts : (n : ℕ) (v : Val) → P (Unit {0}) (assert_last w n v)
  asserts n v = go w.form (i32_of v)
    where
      test : (b : Bool) → P (Unit {0}) (cond b (pure tt) (stop (stop_of.Trap trap.Discriminant)))
      test true = h.gives (Unit {0}) tt
      test false = h.stops (Unit {0}) (stop_of.Trap trap.Discriminant)

      go : (f : Form) (o : Option ℤ) → P (Unit {0}) (expect_number f (stuck w) n o)
      go form.Release o = h.gives (Unit {0}) tt
      go form.Debug None = h.stops (Unit {0}) (stuck w)
      go form.Debug (Some z) = test (is_number n z)

  -- every statement, and blocks of them

  -- what a statement does, by its test
  abbrev HoldsAs : StmtTest → Act (Unit {0}) → Type 0
  HoldsAs (plain b) act = b ≡ true → P (Unit {0}) act
  HoldsAs (declares_slot name) act = act ≡ bind name empty_slot
  HoldsAs (writes_slot name b) act = (e : Expr) × (act ≡ (eval w e >>= write_slot (stuck w) name)) × (b ≡ true → P Val (eval w e))

  abbrev HoldsStmt : Stmt → Type 0
  HoldsStmt s = HoldsAs (stmt_test s) (run_stmt w s)

  stmt_layer : (X Y Z : Type 0) (stmt_of : X → Stmt) (arm_of : Y → Arm) (block_of : Z → Code) → ((y : Y) → HoldsArm (arm_of y)) → (l : Stmt-F X Y Z)
      → HoldsAs (inward_stmt_step (map-Stmt Stmt Arm Code StmtTest Bool Bool stmt_test arm_test block_test (map-Stmt X Y Z Stmt Arm Code stmt_of arm_of block_of l)))
      (stmt_step w (map-Stmt Stmt Arm Code (Act (Unit {0})) ArmAct (Act (List Val)) (run_stmt w) (arm_act w) (block_act w) (map-Stmt X Y Z Stmt Arm Code stmt_of arm_of block_of l)))
  stmt_layer X Y Z stmt_of arm_of block_of arms (Stmt-F.Import d) = λ k. h.declares d
  stmt_layer X Y Z stmt_of arm_of block_of arms (Stmt-F.Let name e) = λ k. h.follows Val (Unit {0}) (eval w e) (bind name) (walks_expr e k) (h.binds name)
  stmt_layer X Y Z stmt_of arm_of block_of arms (Stmt-F.Expr e) = λ k. h.follows Val (Unit {0}) (eval w e) (drop_value w) (walks_expr e k) drops_value
  stmt_layer X Y Z stmt_of arm_of block_of arms (Stmt-F.Area a) = λ k. absurd (cc)
  stmt_layer X Y Z stmt_of arm_of block_of arms (Stmt-F.LetParts p e) = λ k. h.follows Val (Unit {0}) (eval w e) (take_apart w p) (walks_expr e k) (takes_apart p)
  stmt_layer X Y Z stmt_of arm_of block_of arms (Stmt-F.Store address offset ty e) = λ k.
      let both = and_parts (is_inward_expr e) (is_inward_expr address) k in
      h.follows Val (Unit {0}) (eval w e) (λ v. eval w address >>= store_word w offset ty v) (walks_expr e both.0)
      (λ v. h.follows Val (Unit {0}) (eval w address) (store_word w offset ty v) (walks_expr address both.1) (h.stores offset ty v))
  stmt_layer X Y Z stmt_of arm_of block_of arms (Stmt-F.StoreSmall address offset ty e) = λ k.
      let both = and_parts (is_inward_expr e) (is_inward_expr address) k in
      h.follows Val (Unit {0}) (eval w e) (λ v. eval w address >>= store_small w offset ty v) (walks_expr e both.0)
      (λ v. h.follows Val (Unit {0}) (eval w address) (store_small w offset ty v) (walks_expr address both.1) (h.stores_small offset ty v))
  stmt_layer X Y Z stmt_of arm_of block_of arms (Stmt-F.Match names e each_arm) = λ k.
      let both = and_parts (is_inward_expr e) (are_known (map arm_test (map arm_of each_arm))) k in
      let acts = map (arm_act w) (map arm_of each_arm) in
      h.follows Val (Unit {0}) (eval w e) (run_match w names acts) (walks_expr e both.0)
      (λ v. h.follows (List Val) (Unit {0}) (run_arms w v acts) (bind_results w names) (runs_arms Y arm_of arms v each_arm both.1) (binds_results names))
  stmt_layer X Y Z stmt_of arm_of block_of arms (Stmt-F.AssertLast name n) = λ k. h.follows Val (Unit {0}) (lend_local (stuck w) name) (assert_last w n) (h.lends name) (asserts n)
  stmt_layer X Y Z stmt_of arm_of block_of arms (Stmt-F.LetSlot name) = refl
  stmt_layer X Y Z stmt_of arm_of block_of arms (Stmt-F.WriteSlot name e) = (e, refl, walks_expr e)

  abbrev AllHold : List StmtTest → List (Act (Unit {0})) → Type 0
  AllHold [] [] = Unit {0}
  AllHold [] (act ∷ acts) = ⊥
  AllHold (t ∷ tests) [] = ⊥
  AllHold (t ∷ tests) (act ∷ acts) = HoldsAs t act × AllHold tests acts

  all_hold : (X : Type 0) (of : X → Stmt) → ((x : X) → HoldsStmt (of x)) → (xs : List X) → AllHold (map stmt_test (map of xs)) (map (run_stmt w) (map of xs))
  all_hold X of k [] = tt
  all_hold X of k (x ∷ xs) = (k x, all_hold X of k xs)

  -- an act behind the declaration of the slot, if one stands there
  abbrev behind_slot : Option Bytes → Act (Unit {0}) → Act (Unit {0})
  behind_slot None act = act
  behind_slot (Some name) act = bind name empty_slot >> act

  behind : (slot : Option Bytes) (act : Act (Unit {0})) → P (Unit {0}) act → P (Unit {0}) (behind_slot slot act)
  behind None act k = k
  behind (Some name) act k = h.follows (Unit {0}) (Unit {0}) (bind name empty_slot) (λ _. act) (h.binds name empty_slot) (λ _. k)

  -- the slot that is written is the one that was declared right before
  written : (slot : Option Bytes) (name : Bytes) (e : Expr) (act : Act (Unit {0})) → is_fresh slot name ≡ true → P Val (eval w e) → P (Unit {0}) act
      → P (Unit {0}) (behind_slot slot ((eval w e >>= write_slot (stuck w) name) >> act))
  written None name e act k p q = absurd (cc)
  written (Some declared) name e act k p q =
      let same : declared ≡ name = (bytes_eq-Decides declared name).0 k in
      subst (λ n. P (Unit {0}) (bind n empty_slot >> ((eval w e >>= write_slot (stuck w) name) >> act))) (sym same) (h.writes name e act p q)

  -- statements one after another
  runs_each : (slot : Option Bytes) (tests : List StmtTest) (acts : List (Act (Unit {0}))) → AllHold tests acts → are_inward slot tests ≡ true → P (Unit {0}) (behind_slot slot (each acts))
  runs_each slot [] [] k p = behind slot (pure tt) (h.gives (Unit {0}) tt)
  runs_each slot [] (act ∷ acts) k p = absurd k
  runs_each slot (t ∷ tests) [] k p = absurd k
  runs_each slot (plain b ∷ tests) (act ∷ acts) k p =
      let both = and_parts b (are_inward None tests) p in
      behind slot (act >> each acts) (h.follows (Unit {0}) (Unit {0}) act (λ _. each acts) (k.0 both.0) (λ _. runs_each None tests acts k.1 both.1))
  runs_each slot (declares_slot name ∷ tests) (act ∷ acts) k p =
      behind slot (act >> each acts) (subst (λ (a : Act (Unit {0})). P (Unit {0}) (a >> each acts)) (sym k.0) (runs_each (Some name) tests acts k.1 p))
  runs_each slot (writes_slot name b ∷ tests) (act ∷ acts) k p =
      let both = and_parts (is_fresh slot name && b) (are_inward None tests) p in
      let fresh = and_parts (is_fresh slot name) b both.0 in
      let (e, is, holds) = k.0 in
      subst (λ (a : Act (Unit {0})). P (Unit {0}) (behind_slot slot (a >> each acts))) (sym is)
      (written slot name e (each acts) fresh.0 (holds fresh.1) (runs_each None tests acts k.1 both.1))

  -- the results of a block

  walks_each : (es : List Expr) → are_known (map is_inward_expr es) ≡ true → P (List Val) (all (map (eval w) es))
  walks_each [] k = h.gives (List Val) []
  walks_each (e ∷ es) k =
      let both = and_parts (is_inward_expr e) (are_known (map is_inward_expr es)) k in
      h.follows Val (List Val) (eval w e) (λ v. all (map (eval w) es) >>= (λ vs. pure (v ∷ vs))) (walks_expr e both.0)
      (λ v. h.follows (List Val) (List Val) (all (map (eval w) es)) (λ vs. pure (v ∷ vs)) (walks_each es both.1) (λ vs. h.gives (List Val) (v ∷ vs)))

  walks_in : (e : Expr) (l : Expr-F Expr) → is_inward_expr e ≡ true → inward_step (map-Expr Expr Bool is_inward_expr l) ≡ true → P (List Val) (all (map (eval w) (results_in e l)))
  walks_in e (Expr-F.Tuple (first ∷ second ∷ more)) k p = walks_each (first ∷ second ∷ more) p
  walks_in e _ k p = walks_each (e ∷ []) (and_from (is_inward_expr e) true k refl)

  walks_results : (tail : Option Expr) → is_inward_tail tail ≡ true → P (List Val) (all (map (eval w) (results tail)))
  walks_results None k = h.gives (List Val) []
  walks_results (Some e) k = walks_in e (out-Expr e) k (sym (fold-roll-Expr Bool (inward_step) (out-Expr e)) ∙ ap is_inward_expr (roll-out-Expr e) ∙ k)

  step_stmt : (X Y Z : Type 0) (stmt_of : X → Stmt) (arm_of : Y → Arm) (block_of : Z → Code) → ((y : Y) → HoldsArm (arm_of y)) → (y : Stmt-F X Y Z)
      → HoldsStmt (roll-Stmt (map-Stmt X Y Z Stmt Arm Code stmt_of arm_of block_of y))
  step_stmt X Y Z stmt_of arm_of block_of k y =
      let l = map-Stmt X Y Z Stmt Arm Code stmt_of arm_of block_of y in
      subst (λ t. HoldsAs t (run_stmt w (roll-Stmt l))) (sym (fold-roll-Stmt StmtTest Bool Bool inward_stmt_step inward_arm_step inward_block_step l))
      (subst (HoldsAs (inward_stmt_step (map-Stmt Stmt Arm Code StmtTest Bool Bool stmt_test arm_test block_test l))) (sym (fold-roll-Stmt (Act (Unit {0})) ArmAct (Act (List Val)) (stmt_step w) arm_step (block_step w) l))
      (stmt_layer X Y Z stmt_of arm_of block_of k y))

  step_arm : (X Y Z : Type 0) (stmt_of : X → Stmt) (arm_of : Y → Arm) (block_of : Z → Code) → ((z : Z) → HoldsBlock (block_of z)) → (y : Arm-F X Y Z)
      → HoldsArm (roll-Arm (map-Arm X Y Z Stmt Arm Code stmt_of arm_of block_of y))
  step_arm X Y Z stmt_of arm_of block_of k y p =
      let l = map-Arm X Y Z Stmt Arm Code stmt_of arm_of block_of y in
      subst (λ (a : ArmAct). P (List Val) a.1) (sym (fold-roll-Arm (Act (Unit {0})) ArmAct (Act (List Val)) (stmt_step w) arm_step (block_step w) l))
      (k y.body (sym (fold-roll-Arm StmtTest Bool Bool inward_stmt_step inward_arm_step inward_block_step l) ∙ p))

  step_block : (X Y Z : Type 0) (stmt_of : X → Stmt) (arm_of : Y → Arm) (block_of : Z → Code) → ((x : X) → HoldsStmt (stmt_of x)) → (y : Block-F X Y Z)
      → HoldsBlock (roll-Block (map-Block X Y Z Stmt Arm Code stmt_of arm_of block_of y))
  step_block X Y Z stmt_of arm_of block_of k y p =
      let l = map-Block X Y Z Stmt Arm Code stmt_of arm_of block_of y in
      let tests = map stmt_test (map stmt_of y.stmts) in
      let acts = map (run_stmt w) (map stmt_of y.stmts) in
      let both = and_parts (are_inward None tests) (is_inward_tail y.tail) (sym (fold-roll-Block StmtTest Bool Bool inward_stmt_step inward_arm_step inward_block_step l) ∙ p) in
      subst (P (List Val)) (sym (fold-roll-Block (Act (Unit {0})) ArmAct (Act (List Val)) (stmt_step w) arm_step (block_step w) l))
      (h.follows (Unit {0}) (List Val) (each acts) (λ _. all (map (eval w) (results y.tail))) (runs_each None tests acts (all_hold X stmt_of k y.stmts) both.0) (λ _. walks_results y.tail both.1))

  walks_stmt : (s : Stmt) → HoldsStmt s
  walks_stmt =
      ind-Stmt HoldsStmt HoldsArm HoldsBlock
      (λ l y is. subst (λ z. HoldsStmt (roll-Stmt z)) is (step_stmt _ _ _ (λ x. x.0) (λ x. x.0) (λ x. x.0) (λ x. x.1) y))
      (λ l y is. subst (λ z. HoldsArm (roll-Arm z)) is (step_arm _ _ _ (λ x. x.0) (λ x. x.0) (λ x. x.0) (λ x. x.1) y))
      (λ l y is. subst (λ z. HoldsBlock (roll-Block z)) is (step_block _ _ _ (λ x. x.0) (λ x. x.0) (λ x. x.0) (λ x. x.1) y))

  stmts_hold : (stmts : List Stmt) → AllHold (map stmt_test stmts) (map (run_stmt w) stmts)
  stmts_hold [] = tt
  stmts_hold (s ∷ stmts) = (walks_stmt s, stmts_hold stmts)

  pub walks_stmts : (stmts : List Stmt) → are_inward None (map stmt_test stmts) ≡ true → P (Unit {0}) (run_stmts w stmts)
  walks_stmts stmts k = runs_each None (map stmt_test stmts) (map (run_stmt w) stmts) (stmts_hold stmts) k

  walks_tail : (tail : Option Expr) → is_inward_tail tail ≡ true → P Val (run_tail w tail)
  walks_tail None k = h.gives Val (val.Value value.Unit)
  walks_tail (Some e) k = walks_expr e k

  pub walks_block : (b : Code) → is_inward b ≡ true → P Val (run_block w b)
  walks_block b k =
      let l = out-Block b in
      let both = and_parts (are_inward None (map stmt_test l.stmts)) (is_inward_tail l.tail) k in
      h.follows (Unit {0}) Val (run_stmts w l.stmts) (λ _. run_tail w l.tail) (walks_stmts l.stmts both.0) (λ _. walks_tail l.tail both.1)

  pub walks_given : (b : Code) → is_inward b ≡ true → P (List Val) (run_results w b)
  walks_given b k =
      let l = out-Block b in
      let both = and_parts (are_inward None (map stmt_test l.stmts)) (is_inward_tail l.tail) k in
      h.follows (Unit {0}) (List Val) (run_stmts w l.stmts) (λ _. all (map (eval w) (results l.tail))) (walks_stmts l.stmts both.0) (λ _. walks_results l.tail both.1)
