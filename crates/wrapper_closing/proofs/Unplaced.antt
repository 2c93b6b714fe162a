-- Statements that declare no area make requests only where they place the static area.
use Rattle.std.proofs.Common.{◌≡◌, ℕ, Bool, true, false, cond, List, [], ◌∷◌, length, map, Option, None, Some, sym, subst, ◌∙◌, ◌&&◌}
use Rattle.std.specs.Prelude.{ℤ, Result, Ok, Err, option_and_then}
use Rattle.std.specs.List.{list_all}
use Rattle.std.specs.Option.{option_map}
use Rattle.std.specs.Str.{bytes_eq}
use Rattle.std.proofs.lemmas.Bool.{and_parts}
use Rattle.wit_model.specs.Bytes.{Bytes}
use Rattle.rust_tree.specs.declared.export.CallBlock.{CallBlock}
use Rattle.rust_tree.specs.declared.expr.Expr.{Expr, Expr-F, fold-roll-Expr, ind-Expr, map-Expr, roll-Expr}
use Rattle.rust_tree.specs.declared.path.Path.{Path}
use Rattle.rust_tree.specs.declared.pattern.ArmPattern.{ArmPattern}
use Rattle.rust_tree.specs.declared.pattern.ArmPattern.TheVariants as arm
use Rattle.rust_tree.specs.declared.pattern.Pattern.{Pattern}
use Rattle.rust_tree.specs.declared.repr.Repr.{Repr}
use Rattle.rust_tree.specs.declared.runtime_item.RuntimeItem.{RuntimeItem}
use Rattle.rust_tree.specs.declared.runtime_item.RuntimeItem.TheVariants.{CabiDealloc, InvalidEnumDiscriminant, StringLift}
use Rattle.rust_tree.specs.declared.stmt.Arm.{Arm, Arm-F, fold-roll-Arm, map-Arm, roll-Arm}
use Rattle.rust_tree.specs.declared.stmt.Block.{Block as Code, Block-F, fold-roll-Block, map-Block, roll-Block}
use Rattle.rust_tree.specs.declared.stmt.MatchNames.{MatchNames}
use Rattle.rust_tree.specs.declared.stmt.MatchNames.TheVariants as names_of
use Rattle.rust_tree.specs.declared.stmt.Stmt.{Stmt, Stmt-F, fold-roll-Stmt, ind-Stmt, map-Stmt, roll-Stmt}
use Rattle.wrapper_data.specs.declared.form.Form.{Form}
use Rattle.wrapper_data.specs.declared.form.Form.TheVariants as form
use Rattle.wrapper_data.specs.declared.run.Stop.TheVariants as stop_of
use Rattle.wrapper_data.specs.declared.run.TrapKind.{TrapKind}
use Rattle.wrapper_data.specs.declared.run.TrapKind.TheVariants as trap
use Rattle.wrapper_data.specs.declared.value.RustValue.{RustValue}
use Rattle.wrapper_data.specs.declared.value.RustValue.TheVariants as value
use Rattle.wrapper_data.specs.declared.word.Word.{Word}
use Rattle.wrapper_data.specs.declared.word.Word.TheVariants as word
use Rattle.wrapper_values.specs.declared.core_words.CoreFn.{CoreFn}
use Rattle.wrapper_values.specs.declared.owning.View.TheVariants as view_of
use Rattle.wrapper_values.specs.declared.state.Val.{Val}
use Rattle.wrapper_values.specs.declared.state.Val.TheVariants as val
use Rattle.wrapper_values.specs.Act.{Act, ◌>>=◌, ◌>>◌, all, keyed, or_stop, pure, stop}
use Rattle.wrapper_values.specs.CoreWords.{called_on, core_word, empty_slot, zero_word}
use Rattle.wrapper_values.specs.Effect.{cast_to, converted, lift_of, word_of_bool}
use Rattle.wrapper_values.specs.Enums.{enum_lift_of, is_enum, word_of_case}
use Rattle.wrapper_values.specs.Fields.{arranged}
use Rattle.wrapper_values.specs.Flags.{flags_from, flags_of_words}
use Rattle.wrapper_values.specs.Locals.{bind, lend_local, local_named, use_local, value_of, write_slot}
use Rattle.wrapper_values.specs.Matches.{assert_last, bind_results, bind_values, enter_arm, expect_number, i32_of, is_number, left_out, takes}
use Rattle.wrapper_values.specs.Owning.{owned}
use Rattle.wrapper_values.specs.Setting.{Setting, failed, stuck}
use Rattle.wrapper_values.specs.Variants.{bare_case, full_case, number_at_root, payload_of}
use Rattle.wrapper_values.specs.Whole.{bind_parts, field_act, given_names, parts_of, record_of, take_apart, whole, whole_of}
use Rattle.wrapper_run.specs.Arms.{ArmAct, run_arm_or, run_arms, run_match}
use Rattle.wrapper_run.specs.Blocks.{boxed, dealloc, dealloc_words, drop_value, in_scope, leave_to, release_all, store_small, store_word}
use Rattle.wrapper_run.specs.ExportRun.{call_inside, call_method, call_with, keep_result, run_call}
use Rattle.wrapper_run.specs.LastParts.{results}
use Rattle.wrapper_run.specs.Run.{alone, apply, apply_item, apply_one, arm_act, arm_step, block_act, block_step, call_callee, call_core, call_member, call_runtime, Callee, callee, converted_or_lifted, core_case, core_forget, core_function, each, eval, eval_step, forget_one, lift_act, lift_case, lift_name, load_small, load_word, make_case, member_of, no_case, of_runtime, run_stmt, run_stmts, runtime_item_named, size_word, stmt_step, take_bytes, unknown}
use Rattle.wrapper_closing.specs.Declares.{Area, arm_without_step, block_without_step, declare_none, is_arm_without, is_block_without, is_without, without_step}
use Rattle.wrapper_run.proofs.Acts.{deallocates as deallocates_bytes, lifts as lifts_text, loads_number, loads_word, stores_number, stores_word}
use Rattle.wrapper_closing.proofs.Unasking.{Unasking, unasking_acts, unasking_ask, unasking_bind, unasking_box, unasking_declare, unasking_drop, unasking_import, unasking_leave, unasking_lend, unasking_method, unasking_or_stop, unasking_pure, unasking_releases, unasking_static, unasking_stop, unasking_take, unasking_then, unasking_use, unasking_write}

module _ (w : Setting) where
  -- calls

  deallocates : (vs : List Val) → Unasking (dealloc_words w vs)
  deallocates (val.Word (word.Pointer address) ∷ val.Word (word.Length size) ∷ val.Word (word.Length align) ∷ []) =
      unasking_then (dealloc w address size) (λ _. pure (val.Value value.Unit)) (deallocates_bytes w (λ A act. Unasking act) (unasking_acts w) address size) (λ _. unasking_pure (val.Value value.Unit))
  deallocates _ = unasking_stop (stuck w)

  lifts : (o : Option (Result RustValue TrapKind)) → Unasking (lift_act w o)
  lifts None = unasking_stop (stuck w)
  lifts (Some (Ok v)) = unasking_pure (val.Value v)
  lifts (Some (Err kind)) = unasking_stop (failed w kind)

  converts : (o : Option Word) (l : Option (Result RustValue TrapKind)) → Unasking (converted_or_lifted w o l)
  converts None l = lifts l
  converts (Some x) l = unasking_pure (val.Word x)

  applies_item : (i : RuntimeItem) (v : Val) → Unasking (apply_item w i v)
  applies_item StringLift v = lifts_text w (λ A act. Unasking act) (unasking_acts w) v
  applies_item i v = converts (converted i v) (lift_of w.form i v)

  applies_one : (i : Option RuntimeItem) (vs : List Val) → Unasking (apply_one w i vs)
  applies_one (Some i) (v ∷ []) = applies_item i v
  applies_one _ _ = unasking_stop (stuck w)

  no_cases : (vs : List Val) → Unasking (no_case w vs)
  no_cases [] = unasking_stop (failed w trap.Discriminant)
  no_cases (v ∷ vs) = unasking_stop (stuck w)

  applies : (i : Option RuntimeItem) (vs : List Val) → Unasking (apply w i vs)
  applies (Some CabiDealloc) vs = deallocates vs
  applies (Some InvalidEnumDiscriminant) vs = no_cases vs
  applies i vs = applies_one i vs

  calls_runtime : (name : Bytes) (vs : List Val) → Unasking (call_runtime w name vs)
  unfolding call_runtime
  calls_runtime name vs = applies (runtime_item_named w.items name) vs

  forgets : (vs : List Val) → Unasking (forget_one w vs)
  forgets (v ∷ []) = unasking_then (release_all w (owned v)) (λ _. pure (val.Value value.Unit)) (unasking_releases w (owned v)) (λ _. unasking_pure (val.Value value.Unit))
  forgets _ = unasking_stop (stuck w)

  lifts_case : (name : Bytes) (vs : List Val) → Unasking (lift_case w name vs)
  lifts_case name (v ∷ []) = lifts (enum_lift_of w.items name v)
  lifts_case name _ = unasking_stop (stuck w)

  makes_case : (number : Option ℕ) (vs : List Val) → Unasking (make_case w number vs)
  makes_case number (v ∷ []) = unasking_or_stop (stuck w) (full_case number v)
  makes_case number _ = unasking_stop (stuck w)

  calls_member : (ty name : Bytes) (vs : List Val) → Unasking (call_member w ty name vs)
  calls_member ty name vs = go (is_enum w.items ty && bytes_eq name lift_name)
    where
      go : (b : Bool) → Unasking (cond b (lift_case w ty vs) (make_case w (number_at_root w.items ty name) vs))
      go true = lifts_case ty vs
      go false = makes_case (number_at_root w.items ty name) vs

  calls_core : (f : CoreFn) (vs : List Val) → Unasking (call_core w f vs)
  calls_core f (v ∷ []) = unasking_or_stop (stuck w) (option_map val.Word (core_word f v))
  calls_core f _ = unasking_stop (stuck w)

  calls_callee : (k : Callee) (vs : List Val) → Unasking (call_callee w k vs)
  calls_callee (alone name) vs = unasking_import w name vs
  calls_callee (of_runtime name) vs = calls_runtime name vs
  calls_callee (member_of ty name) vs = calls_member ty name vs
  calls_callee (core_case number) vs = makes_case (Some number) vs
  calls_callee (core_function f) vs = calls_core f vs
  calls_callee core_forget vs = forgets vs
  calls_callee unknown vs = unasking_stop (stuck w)

  -- values with parts

  or_follows : {A B : Type 0} (o : Option A) (f : A → Act B) → ((a : A) → Unasking (f a)) → Unasking (or_stop (stuck w) o >>= f)
  or_follows o f k = unasking_then (or_stop (stuck w) o) f (unasking_or_stop (stuck w) o) k

  binds_parts : (names : List Bytes) (rs : List RustValue) → Unasking (bind_parts w names rs)
  binds_parts [] [] = unasking_pure tt
  binds_parts [] (r ∷ rs) = unasking_stop (stuck w)
  binds_parts (name ∷ names) [] = unasking_stop (stuck w)
  binds_parts (name ∷ names) (r ∷ rs) = unasking_then (bind name (val.Value r)) (λ _. bind_parts w names rs) (unasking_bind name (val.Value r)) (λ _. binds_parts names rs)

  takes_apart : (p : Pattern) (v : Val) → Unasking (take_apart w p v)
  takes_apart p v =
      or_follows (parts_of v) (λ rs. or_stop (stuck w) (given_names w.items p) >>= (λ names. bind_parts w names rs)) (λ rs. or_follows (given_names w.items p) (λ names. bind_parts w names rs) (λ names. binds_parts names rs))

  wholes : (acts : List (Act Val)) → Unasking (all acts) → Unasking (whole w acts)
  wholes acts k = unasking_then (all acts) (λ vs. or_stop (stuck w) (whole_of vs)) k (λ vs. unasking_or_stop (stuck w) (whole_of vs))

  records : (path : Path) (fields : List (Bytes × Act Val)) → Unasking (all (map field_act fields)) → Unasking (record_of w path fields)
  records path fields k =
      unasking_then (all (map field_act fields)) (λ vs. or_stop (stuck w) (option_and_then whole_of (arranged w.items path vs))) k (λ vs. unasking_or_stop (stuck w) (option_and_then whole_of (arranged w.items path vs)))

  joins : (path : Path) (repr : Repr) (words : List (ℕ × Act Val)) → Unasking (all (map keyed words)) → Unasking (flags_of_words w path repr words)
  joins path repr words k = unasking_then (all (map keyed words)) (λ vs. or_stop (stuck w) (flags_from w.items path repr vs)) k (λ vs. unasking_or_stop (stuck w) (flags_from w.items path repr vs))

  -- every expression

  -- one act before others
  follows_more : {A : Type 0} (act : Act A) (acts : List (Act A)) → Unasking act → Unasking (all acts) → Unasking (all (act ∷ acts))
  follows_more act acts h k = unasking_then act (λ x. all acts >>= (λ xs. pure (x ∷ xs))) h (λ x. unasking_then (all acts) (λ xs. pure (x ∷ xs)) k (λ xs. unasking_pure (x ∷ xs)))

  -- the expressions in a layer
  abbrev All : (X : Type 0) → (X → Expr) → Type 0
  All X of = (x : X) → Unasking (eval w (of x))

  follows_all : (X : Type 0) (of : X → Expr) → All X of → (xs : List X) → Unasking (all (map (eval w) (map of xs)))
  follows_all X of k [] = unasking_pure []
  follows_all X of k (x ∷ xs) = follows_more (eval w (of x)) (map (eval w) (map of xs)) (k x) (follows_all X of k xs)

  -- those of fields, or of words behind their shifts
  abbrev acts_of : (K X : Type 0) → (X → Expr) → List (K × X) → List (K × Act Val)
  acts_of K X of fields = map (λ (f : K × Expr). (f.0, eval w f.1)) (map (λ (f : K × X). (f.0, of f.1)) fields)

  follows_fields : (K X : Type 0) (of : X → Expr) → All X of → (fields : List (K × X)) → Unasking (all (map keyed (acts_of K X of fields)))
  follows_fields K X of k [] = unasking_pure []
  follows_fields K X of k (f ∷ fields) =
      follows_more (keyed (f.0, eval w (of f.1))) (map keyed (acts_of K X of fields)) (unasking_then (eval w (of f.1)) (λ v. pure (f.0, v)) (k f.1) (λ v. unasking_pure (f.0, v))) (follows_fields K X of k fields)

  layer : (X : Type 0) (of : X → Expr) → All X of → (l : Expr-F X) → Unasking (eval_step w (map-Expr Expr (Act Val) (eval w) (map-Expr X Expr of l)))
  layer X of k (Expr-F.Local name) = unasking_use (stuck w) name
  layer X of k (Expr-F.Ref name) = unasking_lend (stuck w) name
  layer X of k (Expr-F.Cast e to) = unasking_then (eval w (of e)) (λ v. or_stop (stuck w) (cast_to to v)) (k e) (λ v. unasking_or_stop (stuck w) (cast_to to v))
  layer X of k (Expr-F.Call path arguments) =
      unasking_then (all (map (eval w) (map of arguments))) (λ vs. call_callee w (callee path) vs) (follows_all X of k arguments) (λ vs. calls_callee (callee path) vs)
  layer X of k (Expr-F.I32FromBool e) =
      unasking_then (eval w (of e)) (λ v. or_stop (stuck w) (option_map val.Word (word_of_bool v))) (k e) (λ v. unasking_or_stop (stuck w) (option_map val.Word (word_of_bool v)))
  layer X of k (Expr-F.AsPtr name) = unasking_ask (stuck w) view_of.TextAddress name
  layer X of k (Expr-F.Len name) = unasking_ask (stuck w) view_of.TextLength name
  layer X of k (Expr-F.CastMut name) = unasking_ask (stuck w) view_of.Pointer name
  layer X of k (Expr-F.ReturnPointer name) = unasking_ask (stuck w) view_of.AreaAddress name
  layer X of k (Expr-F.Load e offset ty) = unasking_then (eval w (of e)) (load_word w offset ty) (k e) (loads_word w (λ A act. Unasking act) (unasking_acts w) offset ty)
  layer X of k (Expr-F.LoadSmall e offset ty) = unasking_then (eval w (of e)) (load_small w offset ty) (k e) (loads_number w (λ A act. Unasking act) (unasking_acts w) offset ty)
  layer X of k (Expr-F.FromRawParts e name) = unasking_then (eval w (of e)) (λ v. λ s. take_bytes w (value_of (local_named name s.locals)) v s) (k e) (unasking_take w name)
  layer X of k (Expr-F.IntoBoxedBytes name) = unasking_then (use_local (stuck w) name) (boxed w) (unasking_use (stuck w) name) (unasking_box w)
  layer X of k Expr-F.StaticPointer = unasking_static w
  layer X of k (Expr-F.Size size) = unasking_or_stop (stuck w) (size_word size)
  layer X of k (Expr-F.Record path fields) = records path (acts_of Bytes X of fields) (follows_fields Bytes X of k fields)
  layer X of k (Expr-F.Tuple parts) = wholes (map (eval w) (map of parts)) (follows_all X of k parts)
  layer X of k Expr-F.Unit = unasking_pure (val.Value value.Unit)
  layer X of k (Expr-F.Array parts) = wholes (map (eval w) (map of parts)) (follows_all X of k parts)
  layer X of k (Expr-F.EnumNumber e) =
      unasking_then (eval w (of e)) (λ v. or_stop (stuck w) (option_map val.Word (word_of_case v))) (k e) (λ v. unasking_or_stop (stuck w) (option_map val.Word (word_of_case v)))
  layer X of k (Expr-F.FlagsBits name by) = unasking_ask (stuck w) (view_of.FlagsWord by) name
  layer X of k (Expr-F.FlagsOfWords path repr words) = joins path repr (acts_of ℕ X of words) (follows_fields ℕ X of k words)
  layer X of k (Expr-F.I32Const n) = unasking_pure (val.Word (word.I32 n))
  layer X of k (Expr-F.Zero ty) = unasking_pure (val.Word (zero_word ty))
  layer X of k (Expr-F.Case path) = unasking_or_stop (stuck w) (bare_case w.items path)
  layer X of k (Expr-F.Method e method) = unasking_then (eval w (of e)) (λ v. or_stop (stuck w) (called_on method v)) (k e) (λ v. unasking_or_stop (stuck w) (called_on method v))

  pub unasking_eval : (e : Expr) → Unasking (eval w e)
  unasking_eval =
      ind-Expr (λ e. Unasking (eval w e))
      (λ l y is. subst (λ z. Unasking (eval w (roll-Expr z))) is
      (subst (λ act. Unasking act) (sym (fold-roll-Expr (Act Val) (eval_step w) (map-Expr _ Expr (λ e. e.0) y))) (layer _ (λ e. e.0) (λ e. e.1) y)))

  -- the results of a block

  gives_each : (es : List Expr) → Unasking (all (map (eval w) es))
  gives_each [] = unasking_pure []
  gives_each (e ∷ es) = follows_more (eval w e) (map (eval w) es) (unasking_eval e) (gives_each es)

  -- arms

  binds_values : (names : List Bytes) (vs : List Val) → Unasking (bind_values w names vs)
  binds_values [] [] = unasking_pure tt
  binds_values [] (v ∷ vs) = unasking_stop (stuck w)
  binds_values (name ∷ names) [] = unasking_stop (stuck w)
  binds_values (name ∷ names) (v ∷ vs) = unasking_then (bind name v) (λ _. bind_values w names vs) (unasking_bind name v) (λ _. binds_values names vs)

  binds_results : (names : MatchNames) (vs : List Val) → Unasking (bind_results w names vs)
  binds_results names_of.Nothing vs = binds_values [] vs
  binds_results (names_of.One name) (v ∷ []) = unasking_bind name v
  binds_results (names_of.One name) _ = unasking_stop (stuck w)
  binds_results (names_of.Parts (first ∷ second ∷ more)) vs = binds_values (first ∷ second ∷ more) vs
  binds_results (names_of.Parts _) vs = unasking_stop (stuck w)

  leaves_out : (addresses : List ℕ) → Unasking (left_out w addresses)
  leaves_out [] = unasking_pure tt
  leaves_out (a ∷ more) = unasking_stop (stuck w)

  enters : (p : ArmPattern) (v : Val) → Unasking (enter_arm w p v)
  enters (arm.Case path) v = leaves_out (owned v)
  enters (arm.Payload path name) v = or_follows (option_map val.Value (payload_of v)) (bind name) (unasking_bind name)
  enters (arm.LeftOut path) v = leaves_out (owned v)
  enters (arm.Number n) v = unasking_pure tt
  enters (arm.Name name) v = unasking_bind name v
  enters arm.AnyOther v = leaves_out (owned v)

  asserts : (n : ℕ) (v : Val) → Unasking (assert_last w n v)
  asserts n v = go w.form (i32_of v)
    where
      test : (b : Bool) → Unasking {A = Unit {0}} (cond b (pure tt) (stop (stop_of.Trap trap.Discriminant)))
      test true = unasking_pure tt
      test false = unasking_stop (stop_of.Trap trap.Discriminant)

      go : (f : Form) (o : Option ℤ) → Unasking (expect_number f (stuck w) n o)
      go form.Release o = unasking_pure tt
      go form.Debug None = unasking_stop (stuck w)
      go form.Debug (Some z) = test (is_number n z)

  unasking_scope : {A : Type 0} (act : Act A) → Unasking act → Unasking (in_scope w act)
  unasking_scope act h = record {
    unasking = λ s. (unasking_then act (λ v. leave_to w (length s.locals) >> pure v) h
        (λ v. unasking_then (leave_to w (length s.locals)) (λ _. pure v) (unasking_leave w (length s.locals)) (λ _. unasking_pure v))).unasking s;
  }

  tries : (o : Option Bool) (act others : Act (List Val)) → Unasking act → Unasking others → Unasking (run_arm_or w o act others)
  tries None act others h k = unasking_stop (stuck w)
  tries (Some true) act others h k = h
  tries (Some false) act others h k = k

  -- every statement but that of an area, and arms and blocks of these

  abbrev StmtHolds : Stmt → Type 0
  StmtHolds s = is_without Area s ≡ true → Unasking (run_stmt w s)

  abbrev ArmHolds : Arm → Type 0
  ArmHolds a = is_arm_without Area a ≡ true → Unasking (arm_act w a).1

  abbrev BlockHolds : Code → Type 0
  BlockHolds b = is_block_without Area b ≡ true → Unasking (block_act w b)

  runs_arms : (Y : Type 0) (of : Y → Arm) → ((y : Y) → ArmHolds (of y)) → (v : Val) (arms : List Y) → list_all (λ b. b) (map (is_arm_without Area) (map of arms)) ≡ true → Unasking (run_arms w v (map (arm_act w) (map of arms)))
  runs_arms Y of k v [] p = unasking_stop (stuck w)
  runs_arms Y of k v (a ∷ arms) p =
      let both = and_parts (is_arm_without Area (of a)) (list_all (λ b. b) (map (is_arm_without Area) (map of arms))) p in
      let x : ArmAct = arm_act w (of a) in
      tries (takes w.items x.0 v) (in_scope w (enter_arm w x.0 v >> x.1)) (run_arms w v (map (arm_act w) (map of arms)))
      (unasking_scope (enter_arm w x.0 v >> x.1) (unasking_then (enter_arm w x.0 v) (λ _. x.1) (enters x.0 v) (λ _. k a both.0)))
      (runs_arms Y of k v arms both.1)

  runs_each : (X : Type 0) (of : X → Stmt) → ((x : X) → StmtHolds (of x)) → (xs : List X) → list_all (λ b. b) (map (is_without Area) (map of xs)) ≡ true → Unasking (each (map (run_stmt w) (map of xs)))
  runs_each X of k [] p = unasking_pure tt
  runs_each X of k (x ∷ xs) p =
      let both = and_parts (is_without Area (of x)) (list_all (λ b. b) (map (is_without Area) (map of xs))) p in
      unasking_then (run_stmt w (of x)) (λ _. each (map (run_stmt w) (map of xs))) (k x both.0) (λ _. runs_each X of k xs both.1)

  stmt_layer : (X Y Z : Type 0) (stmt_in : X → Stmt) (arm_in : Y → Arm) (block_in : Z → Code) → ((y : Y) → ArmHolds (arm_in y)) → (l : Stmt-F X Y Z)
      → without_step Area (map-Stmt Stmt Arm Code Bool Bool Bool (is_without Area) (is_arm_without Area) (is_block_without Area) (map-Stmt X Y Z Stmt Arm Code stmt_in arm_in block_in l)) ≡ true
      → Unasking (stmt_step w (map-Stmt Stmt Arm Code (Act (Unit {0})) ArmAct (Act (List Val)) (run_stmt w) (arm_act w) (block_act w) (map-Stmt X Y Z Stmt Arm Code stmt_in arm_in block_in l)))
  stmt_layer X Y Z stmt_in arm_in block_in k (Stmt-F.Import d) p = unasking_declare d
  stmt_layer X Y Z stmt_in arm_in block_in k (Stmt-F.Let name e) p = unasking_then (eval w e) (bind name) (unasking_eval e) (unasking_bind name)
  stmt_layer X Y Z stmt_in arm_in block_in k (Stmt-F.Expr e) p = unasking_then (eval w e) (drop_value w) (unasking_eval e) (unasking_drop w)
  stmt_layer X Y Z stmt_in arm_in block_in k (Stmt-F.Area a) p = absurd (cc)
  stmt_layer X Y Z stmt_in arm_in block_in k (Stmt-F.LetParts q e) p = unasking_then (eval w e) (take_apart w q) (unasking_eval e) (takes_apart q)
  stmt_layer X Y Z stmt_in arm_in block_in k (Stmt-F.Store address offset ty e) p =
      unasking_then (eval w e) (λ v. eval w address >>= store_word w offset ty v) (unasking_eval e) (λ v. unasking_then (eval w address) (store_word w offset ty v) (unasking_eval address) (stores_word w (λ A act. Unasking act) (unasking_acts w) offset ty v))
  stmt_layer X Y Z stmt_in arm_in block_in k (Stmt-F.StoreSmall address offset ty e) p =
      unasking_then (eval w e) (λ v. eval w address >>= store_small w offset ty v) (unasking_eval e) (λ v. unasking_then (eval w address) (store_small w offset ty v) (unasking_eval address) (stores_number w (λ A act. Unasking act) (unasking_acts w) offset ty v))
  stmt_layer X Y Z stmt_in arm_in block_in k (Stmt-F.Match names e arms) p =
      let acts = map (arm_act w) (map arm_in arms) in
      unasking_then (eval w e) (run_match w names acts) (unasking_eval e)
      (λ v. unasking_then (run_arms w v acts) (bind_results w names) (runs_arms Y arm_in k v arms p) (binds_results names))
  stmt_layer X Y Z stmt_in arm_in block_in k (Stmt-F.AssertLast name n) p = unasking_then (lend_local (stuck w) name) (assert_last w n) (unasking_lend (stuck w) name) (asserts n)
  stmt_layer X Y Z stmt_in arm_in block_in k (Stmt-F.LetSlot name) p = unasking_bind name empty_slot
  stmt_layer X Y Z stmt_in arm_in block_in k (Stmt-F.WriteSlot name e) p = unasking_then (eval w e) (write_slot (stuck w) name) (unasking_eval e) (unasking_write (stuck w) name)

  step_stmt : (X Y Z : Type 0) (stmt_in : X → Stmt) (arm_in : Y → Arm) (block_in : Z → Code) → ((y : Y) → ArmHolds (arm_in y)) → (y : Stmt-F X Y Z)
      → StmtHolds (roll-Stmt (map-Stmt X Y Z Stmt Arm Code stmt_in arm_in block_in y))
  step_stmt X Y Z stmt_in arm_in block_in k y p =
      let l = map-Stmt X Y Z Stmt Arm Code stmt_in arm_in block_in y in
      subst (λ act. Unasking act) (sym (fold-roll-Stmt (Act (Unit {0})) ArmAct (Act (List Val)) (stmt_step w) arm_step (block_step w) l))
      (stmt_layer X Y Z stmt_in arm_in block_in k y (sym (fold-roll-Stmt Bool Bool Bool (without_step Area) arm_without_step block_without_step l) ∙ p))

  step_arm : (X Y Z : Type 0) (stmt_in : X → Stmt) (arm_in : Y → Arm) (block_in : Z → Code) → ((z : Z) → BlockHolds (block_in z)) → (y : Arm-F X Y Z)
      → ArmHolds (roll-Arm (map-Arm X Y Z Stmt Arm Code stmt_in arm_in block_in y))
  step_arm X Y Z stmt_in arm_in block_in k y p =
      let l = map-Arm X Y Z Stmt Arm Code stmt_in arm_in block_in y in
      subst (λ (a : ArmAct). Unasking a.1) (sym (fold-roll-Arm (Act (Unit {0})) ArmAct (Act (List Val)) (stmt_step w) arm_step (block_step w) l))
      (k y.body (sym (fold-roll-Arm Bool Bool Bool (without_step Area) arm_without_step block_without_step l) ∙ p))

  step_block : (X Y Z : Type 0) (stmt_in : X → Stmt) (arm_in : Y → Arm) (block_in : Z → Code) → ((x : X) → StmtHolds (stmt_in x)) → (y : Block-F X Y Z)
      → BlockHolds (roll-Block (map-Block X Y Z Stmt Arm Code stmt_in arm_in block_in y))
  step_block X Y Z stmt_in arm_in block_in k y p =
      let l = map-Block X Y Z Stmt Arm Code stmt_in arm_in block_in y in
      subst (λ act. Unasking act) (sym (fold-roll-Block (Act (Unit {0})) ArmAct (Act (List Val)) (stmt_step w) arm_step (block_step w) l))
      (unasking_then (each (map (run_stmt w) (map stmt_in y.stmts))) (λ _. all (map (eval w) (results y.tail)))
      (runs_each X stmt_in k y.stmts (sym (fold-roll-Block Bool Bool Bool (without_step Area) arm_without_step block_without_step l) ∙ p)) (λ _. gives_each (results y.tail)))

  unasking_stmt : (s : Stmt) → StmtHolds s
  unasking_stmt =
      ind-Stmt StmtHolds ArmHolds BlockHolds
      (λ l y is. subst (λ z. StmtHolds (roll-Stmt z)) is (step_stmt _ _ _ (λ x. x.0) (λ x. x.0) (λ x. x.0) (λ x. x.1) y))
      (λ l y is. subst (λ z. ArmHolds (roll-Arm z)) is (step_arm _ _ _ (λ x. x.0) (λ x. x.0) (λ x. x.0) (λ x. x.1) y))
      (λ l y is. subst (λ z. BlockHolds (roll-Block z)) is (step_block _ _ _ (λ x. x.0) (λ x. x.0) (λ x. x.0) (λ x. x.1) y))

  pub unasking_stmts : (stmts : List Stmt) → declare_none Area stmts ≡ true → Unasking (run_stmts w stmts)
  unasking_stmts [] k = unasking_pure tt
  unasking_stmts (s ∷ stmts) k =
      let both = and_parts (is_without Area s) (declare_none Area stmts) k in
      unasking_then (run_stmt w s) (λ _. run_stmts w stmts) (unasking_stmt s both.0) (λ _. unasking_stmts stmts both.1)

  -- the call of an implementation

  inside : (bound : Bytes) (c : CallBlock) → declare_none Area c.stmts ≡ true → Unasking (call_inside w bound c)
  inside bound c k =
      unasking_then (run_stmts w c.stmts) (λ _. call_with w bound c) (unasking_stmts c.stmts k)
      (λ _. unasking_then (all (map (eval w) c.arguments)) (call_method w bound c.method) (gives_each c.arguments) (unasking_method w bound c.method))

  kept : (result : Option Bytes) (v : Val) → Unasking (keep_result w result v)
  kept None v = unasking_drop w v
  kept (Some name) v = unasking_bind name v

  pub unasking_call : (bound : Bytes) (c : CallBlock) → declare_none Area c.stmts ≡ true → Unasking (run_call w bound c >>= keep_result w c.result)
  unasking_call bound c k =
      unasking_then (run_call w bound c) (keep_result w c.result)
      (unasking_scope (call_inside w bound c) (inside bound c k))
      (kept c.result)
