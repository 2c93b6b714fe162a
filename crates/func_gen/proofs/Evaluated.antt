-- What an operand reads is what it evaluates to, where that owns no block.
use Rattle.std.proofs.Common.{◌≡◌, ℕ, [], ◌∷◌, map, Option, None, Some, refl, sym, ap, ◌∙◌, subst}
use Rattle.std.specs.Prelude.{ℤ, option_and_then, Result}
use Rattle.std.specs.Option.{option_map}
use Rattle.wit_model.specs.Bytes.{Bytes}
use Rattle.rust_tree.specs.declared.expr.CastType.{CastType}
use Rattle.rust_tree.specs.declared.expr.Expr.{Expr, Expr-F, fold-roll-Expr, ind-Expr, map-Expr, roll-Expr}
use Rattle.rust_tree.specs.declared.expr.Expr.TheVariants as expr
use Rattle.rust_tree.specs.declared.expr.Expr.TheVariants.{rolls-Call, rolls-Cast, rolls-CastMut, rolls-EnumNumber, rolls-FlagsBits, rolls-I32Const, rolls-Local, rolls-Method, rolls-Ref, rolls-Zero}
use Rattle.rust_tree.specs.declared.expr.Method.{Method}
use Rattle.rust_tree.specs.declared.expr.ZeroType.{ZeroType}
use Rattle.rust_tree.specs.declared.path.Path.{Path}
use Rattle.rust_tree.specs.declared.runtime_item.RuntimeItem.{RuntimeItem}
use Rattle.rust_tree.specs.declared.runtime_item.RuntimeItem.TheVariants.{CabiDealloc, InvalidEnumDiscriminant, StringLift}
use Rattle.wrapper_data.specs.declared.run.TrapKind.{TrapKind}
use Rattle.wrapper_data.specs.declared.value.RustValue.{RustValue}
use Rattle.wrapper_data.specs.declared.word.Word.{Word}
use Rattle.wrapper_data.specs.declared.word.Word.TheVariants as word
use Rattle.wrapper_meaning.proofs.Lists.{some_same}
use Rattle.wrapper_values.specs.declared.owning.View.TheVariants as view_of
use Rattle.wrapper_values.specs.declared.state.State.{State}
use Rattle.wrapper_values.specs.declared.state.Val.{Val}
use Rattle.wrapper_values.specs.declared.state.Val.TheVariants as val
use Rattle.wrapper_values.specs.Act.{Done, ◌>>=◌, all, and_then, or_stop, pure}
use Rattle.wrapper_values.specs.CoreWords.{called_on, zero_word}
use Rattle.wrapper_values.specs.Effect.{cast_to, converted, lift_of}
use Rattle.wrapper_values.specs.Locals.{ask_local, lend_local, local_named, usable, use_local, used, value_of}
use Rattle.wrapper_values.specs.Owning.{lent, owned, view}
use Rattle.wrapper_values.specs.Enums.{word_of_case}
use Rattle.wrapper_values.specs.Flags.{bits_of_flags, word_at}
use Rattle.wrapper_values.specs.Setting.{Setting, stuck}
use Rattle.wrapper_run.specs.Run.{Callee, alone, apply, call, call_callee, call_runtime, callee, converted_or_lifted, core_case, core_forget, core_function, eval, member_of, of_runtime, runtime_item_named, unknown}
use Rattle.wrapper_run.proofs.EnumSteps.{eval-case}
use Rattle.wrapper_run.proofs.FlagsSteps.{eval-bits}
use Rattle.wrapper_run.proofs.StepLemmas.{eval-call, eval-cast, eval-cast_mut, eval-local, eval-ref}
use Rattle.wrapper_run.proofs.VariantSteps.{eval-i32, eval-zero, method_gives}
use Rattle.func_gen.specs.Read.{Read, as_case_word, as_flags_word, as_pointer, conversion, converts, env_of, nothing, on_bare, read, read_step}
use Rattle.func_gen.specs.ReadForms.{at_read, bare_value, lent_of, read-call, read-cast, read-cast_mut, read-enum_number, read-flags_bits, read-i32_const, read-local, read-method, read-ref, read-zero}

module _ (w : Setting) where
  abbrev pub Gives : Expr → Type 0
  Gives e = (s : State) (v : Val) → (read w.items e).at (env_of s) ≡ Some v → owned v ≡ [] → eval w e s ≡ Done v s

  uses_bare : (name : Bytes) (v : Val) (s : State) → option_and_then usable (value_of (local_named name s.locals)) ≡ Some v → owned v ≡ [] → use_local (stuck w) name s ≡ Done v s
  unfolding use_local
  uses_bare name v s h o = ap (λ x. and_then (or_stop (stuck w) x s) (λ v. used name v (owned v))) h ∙ ap (λ x. used name v x s) o

  lends_bare : (name : Bytes) (v : Val) (s : State) → option_and_then lent (value_of (local_named name s.locals)) ≡ Some v → lend_local (stuck w) name s ≡ Done v s
  unfolding lend_local
  lends_bare name v s h = ap (λ o. or_stop (stuck w) o s) h

  points : (name : Bytes) (v : Val) (s : State) → option_and_then as_pointer (value_of (local_named name s.locals)) ≡ Some v → ask_local (stuck w) view_of.Pointer name s ≡ Done v s
  unfolding ask_local
  points name v s h = go (value_of (local_named name s.locals)) h
    where
      go : (o : Option Val) → option_and_then as_pointer o ≡ Some v → or_stop (stuck w) (option_map val.Word (option_and_then (view view_of.Pointer) o)) s ≡ Done v s
      go None k = absurd cc
      go (Some x) k = ap (λ o. or_stop (stuck w) o s) k

  gives-local : (name : Bytes) → Gives (expr.Local name)
  gives-local name s v h o = ap (λ act. act s) (eval-local w name) ∙ uses_bare name v s (at_read w.items _ _ (env_of s) v (read-local w.items name) h) o

  gives-ref : (name : Bytes) → Gives (expr.Ref name)
  gives-ref name s v h o = ap (λ act. act s) (eval-ref w name) ∙ lends_bare name v s (lent_of (env_of s name) v (at_read w.items _ _ (env_of s) v (read-ref w.items name) h)).1

  gives-cast_mut : (name : Bytes) → Gives (expr.CastMut name)
  gives-cast_mut name s v h o = ap (λ act. act s) (eval-cast_mut w name) ∙ points name v s (at_read w.items _ _ (env_of s) v (read-cast_mut w.items name) h)

  tells_word : (name : Bytes) (by : ℕ) (v : Val) (s : State) → option_and_then (on_bare (as_flags_word by)) (value_of (local_named name s.locals)) ≡ Some v → ask_local (stuck w) (view_of.FlagsWord by) name s ≡ Done v s
  unfolding ask_local
  tells_word name by v s h =
      let x = bare_value (as_flags_word by) (value_of (local_named name s.locals)) v h in
      ap (λ o. or_stop (stuck w) (option_map val.Word (option_and_then (view (view_of.FlagsWord by)) o)) s) x.1 ∙ ap (λ o. or_stop (stuck w) o s) (word_again (bits_of_flags x.0) x.3)
    where
      word_again : (o : Option ℕ) → option_map (λ bits. val.Word (word_at by bits)) o ≡ Some v → option_map val.Word (option_map (word_at by) o) ≡ Some v
      word_again None k = k
      word_again (Some bits) k = k

  gives-flags_bits : (name : Bytes) (by : ℕ) → Gives (expr.FlagsBits name by)
  gives-flags_bits name by s v h o = ap (λ act. act s) (eval-bits w name by) ∙ tells_word name by v s (at_read w.items _ _ (env_of s) v (read-flags_bits w.items name by) h)

  gives-enum_number : (e : Expr) → Gives e → Gives (expr.EnumNumber e)
  gives-enum_number e g s v h o =
      let x = bare_value as_case_word ((read w.items e).at (env_of s)) v (at_read w.items _ _ (env_of s) v (read-enum_number w.items e) h) in
      ap (λ act. act s) (eval-case w e) ∙ ap (λ z. and_then z (λ v. or_stop (stuck w) (option_map val.Word (word_of_case v)))) (g s x.0 x.1 x.2) ∙ ap (λ z. or_stop (stuck w) z s) x.3

  gives-cast : (e : Expr) (to : CastType) → Gives e → Gives (expr.Cast e to)
  gives-cast e to g s v h o =
      let x = bare_value (cast_to to) ((read w.items e).at (env_of s)) v (at_read w.items _ _ (env_of s) v (read-cast w.items e to) h) in
      ap (λ act. act s) (eval-cast w e to) ∙ ap (λ z. and_then z (λ v. or_stop (stuck w) (cast_to to v))) (g s x.0 x.1 x.2) ∙ ap (λ z. or_stop (stuck w) z s) x.3

  gives-method : (e : Expr) (method : Method) → Gives e → Gives (expr.Method e method)
  gives-method e method g s v h o =
      let x = bare_value (called_on method) ((read w.items e).at (env_of s)) v (at_read w.items _ _ (env_of s) v (read-method w.items e method) h) in
      method_gives w e method x.0 v s s (g s x.0 x.1 x.2) x.3

  gives-i32_const : (n : ℤ) → Gives (expr.I32Const n)
  gives-i32_const n s v h o = ap (λ act. act s) (eval-i32 w n) ∙ ap (λ x. Done x s) (some_same (val.Word (word.I32 n)) v (at_read w.items _ _ (env_of s) v (read-i32_const w.items n) h))

  gives-zero : (ty : ZeroType) → Gives (expr.Zero ty)
  gives-zero ty s v h o = ap (λ act. act s) (eval-zero w ty) ∙ ap (λ x. Done x s) (some_same (val.Word (zero_word ty)) v (at_read w.items _ _ (env_of s) v (read-zero w.items ty) h))

  covers : (v : Val) (s : State) (o : Option Word) (l : Option (Result RustValue TrapKind)) → option_map val.Word o ≡ Some v → converted_or_lifted w o l s ≡ Done v s
  covers v s None l h = absurd cc
  covers v s (Some y) l h = let e : val.Word y ≡ v = cc in ap (λ z. Done z s) e

  converted_is : (i : RuntimeItem) (x v : Val) (s : State) → option_map val.Word (converted i x) ≡ Some v → apply w (Some i) (x ∷ []) s ≡ Done v s
  unfolding converted
  converted_is CabiDealloc x v s h = absurd cc
  converted_is InvalidEnumDiscriminant x v s h = absurd cc
  converted_is StringLift x v s h = absurd cc
  converted_is i x v s h = covers v s (converted i x) (lift_of w.form i x) h

  callee_is : (c : Callee) (x v : Val) (s : State) → conversion w.items c x ≡ Some v → call_callee w c (x ∷ []) s ≡ Done v s
  unfolding call_runtime
  callee_is (of_runtime name) x v s h = go (runtime_item_named w.items name) h
    where
      go : (o : Option RuntimeItem) → converts o x ≡ Some v → apply w o (x ∷ []) s ≡ Done v s
      go None k = absurd cc
      go (Some i) k = converted_is i x v s k
  callee_is (alone name) x v s h = absurd cc
  callee_is (member_of ty name) x v s h = absurd cc
  callee_is (core_case number) x v s h = absurd cc
  callee_is (core_function f) x v s h = ap (λ o. or_stop (stuck w) o s) h
  callee_is core_forget x v s h = absurd cc
  callee_is unknown x v s h = absurd cc

  gives-call : (path : Path) (e : Expr) → Gives e → Gives (expr.Call path (e ∷ []))
  gives-call path e g s v h o =
      let x = bare_value (conversion w.items (callee path)) ((read w.items e).at (env_of s)) v (at_read w.items _ _ (env_of s) v (read-call w.items path (e ∷ [])) h) in
      ap (λ act. act s) (eval-call w path (e ∷ [])) ∙ ap (λ z. and_then (and_then z (λ y. all [] >>= (λ ys. pure (y ∷ ys)))) (λ vs. call w path vs)) (g s x.0 x.1 x.2) ∙ callee_is (callee path) x.0 v s x.3

  nothing_read : (l : Expr-F Expr) → read_step w.items (map-Expr Expr Read (read w.items) l) ≡ nothing → Gives (roll-Expr l)
  nothing_read l none s v h o =
      let e : nothing.at (env_of s) ≡ Some v = at_read w.items _ _ (env_of s) v (fold-roll-Expr Read (read_step w.items) l ∙ none) h in
      absurd (let k : (let n : Option Val = None in n ≡ Some v) = e in cc)

  step : {X : Type 0} (fst : X → Expr) → ((x : X) → Gives (fst x)) → (l : Expr-F Expr) (y : Expr-F X) → map-Expr X Expr fst y ≡ l → Gives (roll-Expr l)
  step fst snd l (Expr-F.Local name) is = subst (λ z. Gives (roll-Expr z)) is (subst Gives (sym (rolls-Local name)) (gives-local name))
  step fst snd l (Expr-F.Ref name) is = subst (λ z. Gives (roll-Expr z)) is (subst Gives (sym (rolls-Ref name)) (gives-ref name))
  step fst snd l (Expr-F.CastMut name) is = subst (λ z. Gives (roll-Expr z)) is (subst Gives (sym (rolls-CastMut name)) (gives-cast_mut name))
  step fst snd l (Expr-F.FlagsBits name by) is = subst (λ z. Gives (roll-Expr z)) is (subst Gives (sym (rolls-FlagsBits name by)) (gives-flags_bits name by))
  step fst snd l (Expr-F.EnumNumber x) is = subst (λ z. Gives (roll-Expr z)) is (subst Gives (sym (rolls-EnumNumber (fst x))) (gives-enum_number (fst x) (snd x)))
  step fst snd l (Expr-F.Cast x to) is = subst (λ z. Gives (roll-Expr z)) is (subst Gives (sym (rolls-Cast (fst x) to)) (gives-cast (fst x) to (snd x)))
  step fst snd l (Expr-F.I32Const n) is = subst (λ z. Gives (roll-Expr z)) is (subst Gives (sym (rolls-I32Const n)) (gives-i32_const n))
  step fst snd l (Expr-F.Zero ty) is = subst (λ z. Gives (roll-Expr z)) is (subst Gives (sym (rolls-Zero ty)) (gives-zero ty))
  step fst snd l (Expr-F.Method x method) is = subst (λ z. Gives (roll-Expr z)) is (subst Gives (sym (rolls-Method (fst x) method)) (gives-method (fst x) method (snd x)))
  step fst snd l (Expr-F.Call path []) is = subst (λ z. Gives (roll-Expr z)) is (nothing_read (Expr-F.Call path []) refl)
  step fst snd l (Expr-F.Call path (x ∷ [])) is = subst (λ z. Gives (roll-Expr z)) is (subst Gives (sym (rolls-Call path (fst x ∷ []))) (gives-call path (fst x) (snd x)))
  step fst snd l (Expr-F.Call path (x ∷ x2 ∷ xs)) is = subst (λ z. Gives (roll-Expr z)) is (nothing_read (Expr-F.Call path (fst x ∷ fst x2 ∷ map fst xs)) refl)
  step {X} fst snd l y is = subst (λ z. Gives (roll-Expr z)) is (nothing_read (map-Expr X Expr fst y) refl)

  pub gives : (e : Expr) → Gives e
  gives = ind-Expr Gives (λ l y is. step (λ e. e.0) (λ e. e.1) l y is)
