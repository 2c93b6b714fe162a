-- A word is read where no more names are known than those of values that own nothing, which are known elsewhere too.
use Rattle.std.proofs.Common.{◌≡◌, ℕ, List, [], ◌∷◌, map, Option, None, Some, refl, sym, ap, ◌∙◌, subst, arith}
use Rattle.std.specs.Prelude.{option_and_then}
use Rattle.std.specs.List.{AllByRecursion}
use Rattle.wit_model.specs.Bytes.{Bytes}
use Rattle.rust_tree.specs.declared.expr.CastType.{CastType}
use Rattle.rust_tree.specs.declared.expr.Expr.{Expr, Expr-F, fold-roll-Expr, ind-Expr, map-Expr, roll-Expr}
use Rattle.rust_tree.specs.declared.expr.Method.{Method}
use Rattle.rust_tree.specs.declared.expr.ZeroType.{ZeroType}
use Rattle.wrapper_data.specs.declared.word.Word.TheVariants as word
use Rattle.wrapper_values.specs.CoreWords.{called_on, zero_word}
use Rattle.std.specs.Prelude.{ℤ}
use Rattle.rust_tree.specs.declared.expr.Expr.TheVariants as expr
use Rattle.rust_tree.specs.declared.expr.Expr.TheVariants.{rolls-Call, rolls-Cast, rolls-CastMut, rolls-EnumNumber, rolls-FlagsBits, rolls-I32Const, rolls-Local, rolls-Method, rolls-Ref, rolls-Zero}
use Rattle.rust_tree.specs.declared.item.Item.{Item}
use Rattle.rust_tree.specs.declared.path.Path.{Path}
use Rattle.wrapper_data.specs.declared.value.RustValue.{RustValue}
use Rattle.wrapper_meaning.specs.Items.{total}
use Rattle.wrapper_values.specs.declared.state.Val.{Val}
use Rattle.wrapper_values.specs.declared.state.Val.TheVariants as val
use Rattle.wrapper_values.specs.Effect.{cast_to}
use Rattle.wrapper_values.specs.Locals.{usable}
use Rattle.wrapper_values.specs.Owning.{owned}
use Rattle.wrapper_run.specs.Run.{callee}
use Rattle.abi_bindgen.specs.Blocks.{IsOfWord}
use Rattle.abi_bindgen.specs.Meaning.{Fact, arg, bound, item, of, word}
use Rattle.func_gen.specs.declared.function_bindgen.ParamSite.{ParamSite}
use Rattle.func_gen.specs.declared.operand.ExprOperand.{ExprOperand}
use Rattle.func_gen.specs.FactLemmas.{is_said, said, word_denoted, word_read}
use Rattle.func_gen.specs.Facts.{wrong}
use Rattle.func_gen.specs.Read.{Env, Read, as_case_word, as_flags_word, as_pointer, conversion, lent_bare, nothing, on_bare, read, read_step}
use Rattle.func_gen.specs.ReadForms.{at_read, bare_value, flags_bare, lent_of, pointer_bare, read-call, read-cast, read-cast_mut, read-enum_number, read-flags_bits, read-i32_const, read-local, read-method, read-ref, read-zero, usable_is}
use Rattle.func_gen.specs.Slot.{Slot}

some_of : (f : Val → Option Val) (o : Option Val) (v : Val) → option_and_then f o ≡ Some v → (x : Val) × (o ≡ Some x)
some_of f None v h = absurd cc
some_of f (Some x) v h = (x, refl)

-- what owns nothing in the second, and is known in the first, is the same in the third
module _ (items : List Item) (a b c : Env) (kept : (n : Bytes) (y z : Val) → a n ≡ Some y → b n ≡ Some z → owned z ≡ [] → c n ≡ Some z) where
  abbrev pub Narrows : Expr → Type 0
  Narrows e = (y z : Val) → (read items e).at a ≡ Some y → (read items e).at b ≡ Some z → owned z ≡ [] → (read items e).at c ≡ Some z

  -- one step on what is read by a name
  by_name : (f : Val → Option Val) (e : Expr) (k : Bytes) → ((env : Env) → (read items e).at env ≡ option_and_then f (env k)) → ((o : Option Val) (v : Val) → option_and_then f o ≡ Some v → owned v ≡ [] → (x : Val) × (o ≡ Some x) × (owned x ≡ [])) → Narrows e
  by_name f e k reads bare y z ha hb none =
      let (w, is_a) = some_of f (a k) y (sym (reads a) ∙ ha) in
      let (x, is_b, bare_x) = bare (b k) z (sym (reads b) ∙ hb) none in
      reads c ∙ ap (option_and_then f) (kept k w x is_a is_b bare_x ∙ sym is_b) ∙ sym (reads b) ∙ hb

  narrows-local : (k : Bytes) → Narrows (expr.Local k)
  narrows-local k = by_name usable (expr.Local k) k (λ env. ap (λ (r : Read). r.at env) (read-local items k)) (λ o v h none. (v, usable_is items o v h, none))

  narrows-ref : (k : Bytes) → Narrows (expr.Ref k)
  narrows-ref k = by_name lent_bare (expr.Ref k) k (λ env. ap (λ (r : Read). r.at env) (read-ref items k)) (λ o v h none. (lent_of o v h).0)

  narrows-cast_mut : (k : Bytes) → Narrows (expr.CastMut k)
  narrows-cast_mut k = by_name as_pointer (expr.CastMut k) k (λ env. ap (λ (r : Read). r.at env) (read-cast_mut items k)) (λ o v h none. pointer_bare items o v h)

  narrows-flags_bits : (k : Bytes) (by : ℕ) → Narrows (expr.FlagsBits k by)
  narrows-flags_bits k by = by_name (on_bare (as_flags_word by)) (expr.FlagsBits k by) k (λ env. ap (λ (r : Read). r.at env) (read-flags_bits items k by)) (λ o v h none. flags_bare items by o v h)

  -- one step on what another operand reads
  by_operand : (f : Val → Option Val) (e whole : Expr) → ((env : Env) → (read items whole).at env ≡ option_and_then (on_bare f) ((read items e).at env)) → Narrows e → Narrows whole
  by_operand f e whole reads narrows y z ha hb none =
      let (w, is_a, bare_w, first) = bare_value f ((read items e).at a) y (sym (reads a) ∙ ha) in
      let (x, is_b, bare_x, second) = bare_value f ((read items e).at b) z (sym (reads b) ∙ hb) in
      reads c ∙ ap (option_and_then (on_bare f)) (narrows w x is_a is_b bare_x ∙ sym is_b) ∙ sym (reads b) ∙ hb

  narrows-cast : (e : Expr) (to : CastType) → Narrows e → Narrows (expr.Cast e to)
  narrows-cast e to = by_operand (cast_to to) e (expr.Cast e to) (λ env. ap (λ (r : Read). r.at env) (read-cast items e to))

  narrows-enum_number : (e : Expr) → Narrows e → Narrows (expr.EnumNumber e)
  narrows-enum_number e = by_operand as_case_word e (expr.EnumNumber e) (λ env. ap (λ (r : Read). r.at env) (read-enum_number items e))

  narrows-call : (path : Path) (e : Expr) → Narrows e → Narrows (expr.Call path (e ∷ []))
  narrows-call path e = by_operand (conversion items (callee path)) e (expr.Call path (e ∷ [])) (λ env. ap (λ (r : Read). r.at env) (read-call items path (e ∷ [])))

  narrows-method : (e : Expr) (method : Method) → Narrows e → Narrows (expr.Method e method)
  narrows-method e method = by_operand (called_on method) e (expr.Method e method) (λ env. ap (λ (r : Read). r.at env) (read-method items e method))

  -- a constant is read whatever names there are
  by_constant : (x : Val) (whole : Expr) → ((env : Env) → (read items whole).at env ≡ Some x) → Narrows whole
  by_constant x whole reads y z ha hb bare = reads c ∙ sym (reads b) ∙ hb

  narrows-i32_const : (n : ℤ) → Narrows (expr.I32Const n)
  narrows-i32_const n = by_constant (val.Word (word.I32 n)) (expr.I32Const n) (λ env. ap (λ (r : Read). r.at env) (read-i32_const items n))

  narrows-zero : (ty : ZeroType) → Narrows (expr.Zero ty)
  narrows-zero ty = by_constant (val.Word (zero_word ty)) (expr.Zero ty) (λ env. ap (λ (r : Read). r.at env) (read-zero items ty))

  nothing_narrows : (l : Expr-F Expr) → read_step items (map-Expr Expr Read (read items) l) ≡ nothing → Narrows (roll-Expr l)
  nothing_narrows l none y z ha hb bare =
      let e : nothing.at b ≡ Some z = at_read items _ _ b z (fold-roll-Expr Read (read_step items) l ∙ none) hb in
      absurd (let k : (let o : Option Val = None in o ≡ Some z) = e in cc)

  step : {X : Type 0} (fst : X → Expr) → ((x : X) → Narrows (fst x)) → (l : Expr-F Expr) (y : Expr-F X) → map-Expr X Expr fst y ≡ l → Narrows (roll-Expr l)
  step fst snd l (Expr-F.Local name) is = subst (λ z. Narrows (roll-Expr z)) is (subst Narrows (sym (rolls-Local name)) (narrows-local name))
  step fst snd l (Expr-F.Ref name) is = subst (λ z. Narrows (roll-Expr z)) is (subst Narrows (sym (rolls-Ref name)) (narrows-ref name))
  step fst snd l (Expr-F.CastMut name) is = subst (λ z. Narrows (roll-Expr z)) is (subst Narrows (sym (rolls-CastMut name)) (narrows-cast_mut name))
  step fst snd l (Expr-F.FlagsBits name by) is = subst (λ z. Narrows (roll-Expr z)) is (subst Narrows (sym (rolls-FlagsBits name by)) (narrows-flags_bits name by))
  step fst snd l (Expr-F.EnumNumber x) is = subst (λ z. Narrows (roll-Expr z)) is (subst Narrows (sym (rolls-EnumNumber (fst x))) (narrows-enum_number (fst x) (snd x)))
  step fst snd l (Expr-F.Cast x to) is = subst (λ z. Narrows (roll-Expr z)) is (subst Narrows (sym (rolls-Cast (fst x) to)) (narrows-cast (fst x) to (snd x)))
  step fst snd l (Expr-F.I32Const n) is = subst (λ z. Narrows (roll-Expr z)) is (subst Narrows (sym (rolls-I32Const n)) (narrows-i32_const n))
  step fst snd l (Expr-F.Zero ty) is = subst (λ z. Narrows (roll-Expr z)) is (subst Narrows (sym (rolls-Zero ty)) (narrows-zero ty))
  step fst snd l (Expr-F.Method x method) is = subst (λ z. Narrows (roll-Expr z)) is (subst Narrows (sym (rolls-Method (fst x) method)) (narrows-method (fst x) method (snd x)))
  step fst snd l (Expr-F.Call path []) is = subst (λ z. Narrows (roll-Expr z)) is (nothing_narrows (Expr-F.Call path []) refl)
  step fst snd l (Expr-F.Call path (x ∷ [])) is = subst (λ z. Narrows (roll-Expr z)) is (subst Narrows (sym (rolls-Call path (fst x ∷ []))) (narrows-call path (fst x) (snd x)))
  step fst snd l (Expr-F.Call path (x ∷ x2 ∷ xs)) is = subst (λ z. Narrows (roll-Expr z)) is (nothing_narrows (Expr-F.Call path (fst x ∷ fst x2 ∷ map fst xs)) refl)
  step {X} fst snd l y is = subst (λ z. Narrows (roll-Expr z)) is (nothing_narrows (map-Expr X Expr fst y) refl)

  pub narrows : (e : Expr) → Narrows e
  narrows = ind-Expr Narrows (λ l y is. step (λ e. e.0) (λ e. e.1) l y is)

  -- facts of words
  module _ (pa pb pc : List ParamSite) where
    word_narrowed : (f : Fact ExprOperand Slot RustValue) → IsOfWord f → wrong items pa a f ≡ 0 → wrong items pb b f ≡ 0 → wrong items pc c f ≡ 0
    word_narrowed (of o (word x)) t ha hb =
        let at_a = word_read items o a x (is_said items pa a (of o (word x)) ha) in
        let at_b = word_read items o b x (is_said items pb b (of o (word x)) hb) in
        said items pc c (of o (word x)) (word_denoted items o c x at_a.0 (narrows o.expr (val.Word x) (val.Word x) at_a.1 at_b.1 refl))
    word_narrowed (of o (item r)) t ha hb = absurd t
    word_narrowed (arg n d) t ha hb = absurd t
    word_narrowed (bound slot name (item r)) t ha hb = absurd t
    word_narrowed (bound slot name (word x)) t ha hb = said items pc c (bound slot name (word x)) (reads _ (is_said items pa a (bound slot name (word x)) ha) (is_said items pb b (bound slot name (word x)) hb))
      where
        reads : (k : Bytes) → option_and_then usable (a k) ≡ Some (val.Word x) → option_and_then usable (b k) ≡ Some (val.Word x) → option_and_then usable (c k) ≡ Some (val.Word x)
        reads k ha hb = ap (option_and_then usable) (kept k (val.Word x) (val.Word x) (usable_is items (a k) (val.Word x) ha) (usable_is items (b k) (val.Word x) hb) refl)

    pub words_narrowed : (facts : List (Fact ExprOperand Slot RustValue)) → AllByRecursion IsOfWord facts → total (wrong items pa a) facts ≡ 0 → total (wrong items pb b) facts ≡ 0 → total (wrong items pc c) facts ≡ 0
    words_narrowed [] t ha hb = refl
    words_narrowed (f ∷ facts) t ha hb =
        omega (arith, word_narrowed f t.0 (omega (arith, ha)) (omega (arith, hb)), words_narrowed facts t.1 (omega (arith, ha)) (omega (arith, hb)))
