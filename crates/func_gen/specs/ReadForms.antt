-- What each form of an operand reads, and that no more than a local by itself reads a value that owns a block.
use Rattle.std.proofs.Common.{rules, ◌≡◌, ℕ, Bool, true, false, cond, List, [], ◌∷◌, map, Option, None, Some, refl, sym, ap, ◌∙◌, subst}
use Rattle.std.specs.Prelude.{ℤ, option_and_then}
use Rattle.std.specs.Str.{bytes_eq}
use Rattle.std.proofs.lemmas.Slice.Eq.{bytes_eq-Decides}
use Rattle.wit_model.specs.Bytes.{Bytes}
use Rattle.rust_tree.specs.declared.expr.CastType.{CastType}
use Rattle.rust_tree.specs.declared.expr.Expr.{Expr, Expr-F, fold-roll-Expr, ind-Expr, map-Expr, roll-Expr, the_lemmas}
use Rattle.rust_tree.specs.declared.expr.Expr.TheVariants as expr
use Rattle.rust_tree.specs.declared.expr.Expr.TheVariants.{rolls-Call, rolls-Cast, rolls-CastMut, rolls-EnumNumber, rolls-FlagsBits, rolls-I32Const, rolls-Local, rolls-Method, rolls-Ref, rolls-Zero}
use Rattle.rust_tree.specs.declared.expr.Method.{Method}
use Rattle.rust_tree.specs.declared.expr.ZeroType.{ZeroType}
use Rattle.rust_tree.specs.declared.item.Item.{Item}
use Rattle.rust_tree.specs.declared.path.Path.{Path}
use Rattle.wrapper_data.specs.declared.word.Word.TheVariants as word
use Rattle.wrapper_values.specs.declared.state.Val.{Val}
use Rattle.wrapper_values.specs.declared.state.Val.TheVariants as val
use Rattle.wrapper_values.specs.CoreWords.{called_on, zero_word}
use Rattle.wrapper_values.specs.Effect.{cast_to}
use Rattle.wrapper_values.specs.Locals.{usable}
use Rattle.wrapper_values.specs.Owning.{lent, owned}
use Rattle.wrapper_run.specs.Run.{callee}
use Rattle.func_gen.specs.Facts.{Owns}
use Rattle.func_gen.specs.Read.{Env, Read, as_case_word, as_flags_word, as_pointer, bare, bare_or, conversion, less, lent_bare, nothing, on_bare, read, read_step}

module _ (items : List Item) where
  -- 1. What each form reads

  pub read-local : (name : Bytes) → read items (expr.Local name) ≡ read_step items (Expr-F.Local name)
  read-local name = search (rules, the_lemmas)

  pub read-ref : (name : Bytes) → read items (expr.Ref name) ≡ read_step items (Expr-F.Ref name)
  read-ref name = search (rules, the_lemmas)

  pub read-cast_mut : (name : Bytes) → read items (expr.CastMut name) ≡ read_step items (Expr-F.CastMut name)
  read-cast_mut name = search (rules, the_lemmas)

  pub read-flags_bits : (name : Bytes) (by : ℕ) → read items (expr.FlagsBits name by) ≡ read_step items (Expr-F.FlagsBits name by)
  read-flags_bits name by = search (rules, the_lemmas)

  pub read-enum_number : (e : Expr) → read items (expr.EnumNumber e) ≡ read_step items (Expr-F.EnumNumber (read items e))
  read-enum_number e = ap (read items) (sym (rolls-EnumNumber e)) ∙ fold-roll-Expr Read (read_step items) (Expr-F.EnumNumber e)

  pub read-cast : (e : Expr) (to : CastType) → read items (expr.Cast e to) ≡ read_step items (Expr-F.Cast (read items e) to)
  read-cast e to = ap (read items) (sym (rolls-Cast e to)) ∙ fold-roll-Expr Read (read_step items) (Expr-F.Cast e to)

  pub read-call : (path : Path) (es : List Expr) → read items (expr.Call path es) ≡ read_step items (Expr-F.Call path (map (read items) es))
  read-call path es = ap (read items) (sym (rolls-Call path es)) ∙ fold-roll-Expr Read (read_step items) (Expr-F.Call path es)

  pub read-i32_const : (n : ℤ) → read items (expr.I32Const n) ≡ read_step items (Expr-F.I32Const n)
  read-i32_const n = ap (read items) (sym (rolls-I32Const n)) ∙ fold-roll-Expr Read (read_step items) (Expr-F.I32Const n)

  pub read-zero : (ty : ZeroType) → read items (expr.Zero ty) ≡ read_step items (Expr-F.Zero ty)
  read-zero ty = ap (read items) (sym (rolls-Zero ty)) ∙ fold-roll-Expr Read (read_step items) (Expr-F.Zero ty)

  pub read-method : (e : Expr) (method : Method) → read items (expr.Method e method) ≡ read_step items (Expr-F.Method (read items e) method)
  read-method e method = ap (read items) (sym (rolls-Method e method)) ∙ fold-roll-Expr Read (read_step items) (Expr-F.Method e method)

  -- as one reader reads
  pub at_read : (a b : Read) (env : Env) (v : Val) → a ≡ b → a.at env ≡ Some v → b.at env ≡ Some v
  at_read a b env v e h = sym (ap (λ (r : Read). r.at env) e) ∙ h

-- 2. Values that own nothing

-- of a value that owns nothing
pub bare_same : (y v : Val) → bare y ≡ Some v → (y ≡ v) × (owned v ≡ [])
bare_same y v h = go (owned y) refl h
  where
    go : (bs : List ℕ) → owned y ≡ bs → bare_or y bs ≡ Some v → (y ≡ v) × (owned v ≡ [])
    go [] e k = let same : y ≡ v = cc in (same, ap owned (sym same) ∙ e)
    go (b ∷ bs) e k = absurd cc

-- what a step on a value without blocks was done to
pub bare_value : (f : Val → Option Val) (o : Option Val) (v : Val) → option_and_then (on_bare f) o ≡ Some v → (x : Val) × (o ≡ Some x) × (owned x ≡ []) × (f x ≡ Some v)
bare_value f None v h = absurd cc
bare_value f (Some x) v h = go (owned x) refl h
  where
    go : (bs : List ℕ) → owned x ≡ bs → option_and_then f (bare_or x bs) ≡ Some v → (y : Val) × (let o : Option Val = Some x in o ≡ Some y) × (owned y ≡ []) × (f y ≡ Some v)
    go [] e k = (x, refl, e, k)
    go (b ∷ bs) e k = absurd cc

bare_of : (o : Option Val) (v : Val) → option_and_then bare o ≡ Some v → (o ≡ Some v) × (owned v ≡ [])
bare_of None v h = absurd cc
bare_of (Some y) v h = let r = bare_same y v h in (ap (λ z. Some z) r.0, r.1)

-- a value is read behind a reference where it owns nothing
pub lent_of : (o : Option Val) (v : Val) → option_and_then lent_bare o ≡ Some v → ((x : Val) × (o ≡ Some x) × (owned x ≡ [])) × (option_and_then lent o ≡ Some v)
lent_of o v h = let (x, is, none, l) = bare_value (λ x. option_and_then bare (lent x)) o v h in ((x, is, none), ap (option_and_then lent) is ∙ (bare_of (lent x) v l).0)

pub ref_bare : (o : Option Val) (v : Val) → option_and_then lent_bare o ≡ Some v → owned v ≡ []
ref_bare o v h = let (x, is, none, l) = bare_value (λ x. option_and_then bare (lent x)) o v h in (bare_of (lent x) v l).1

-- 3. What owns nothing is read without any local that owns

-- a name that does not own is not the one that does
other_name : (env : Env) (k n : Bytes) (x : Val) → env k ≡ Some x → owned x ≡ [] → Owns (env n) → bytes_eq k n ≡ false
other_name env k n x is none owns = go (bytes_eq k n) refl
  where
    go : (c : Bool) → bytes_eq k n ≡ c → c ≡ false
    go false e = refl
    go true e = absurd ((subst Owns (ap env (sym ((bytes_eq-Decides k n).0 e)) ∙ is) owns) none)

pub still_there : (env : Env) (k n : Bytes) (x : Val) → env k ≡ Some x → owned x ≡ [] → Owns (env n) → less env n k ≡ Some x
still_there env k n x is none owns = ap (λ c. cond c None (env k)) (other_name env k n x is none owns) ∙ is

module _ (items : List Item) where
  abbrev pub Stable : Expr → Type 0
  Stable e = (env : Env) (v : Val) → (read items e).at env ≡ Some v → owned v ≡ [] → (n : Bytes) → Owns (env n) → (read items e).at (less env n) ≡ Some v

  pub usable_is : (o : Option Val) (v : Val) → option_and_then usable o ≡ Some v → o ≡ Some v
  usable_is None v h = absurd cc
  usable_is (Some (val.Word x)) v h = h
  usable_is (Some (val.Value r)) v h = h
  usable_is (Some (val.Area a n)) v h = absurd cc

  pub pointer_bare : (o : Option Val) (v : Val) → option_and_then as_pointer o ≡ Some v → (x : Val) × (o ≡ Some x) × (owned x ≡ [])
  pointer_bare None v h = absurd cc
  pointer_bare (Some (val.Word x)) v h = (val.Word x, refl, refl)
  pointer_bare (Some (val.Value r)) v h = absurd cc
  pointer_bare (Some (val.Area a n)) v h = absurd cc

  pub flags_bare : (by : ℕ) (o : Option Val) (v : Val) → option_and_then (on_bare (as_flags_word by)) o ≡ Some v → (x : Val) × (o ≡ Some x) × (owned x ≡ [])
  flags_bare by o v h = let (x, is, none, word) = bare_value (as_flags_word by) o v h in (x, is, none)

  -- one step on what is read by a name
  by_name : (f : Val → Option Val) (e : Expr) (k : Bytes) → ((env : Env) → (read items e).at env ≡ option_and_then f (env k)) → ((env : Env) (v : Val) → option_and_then f (env k) ≡ Some v → owned v ≡ [] → (x : Val) × (env k ≡ Some x) × (owned x ≡ [])) → Stable e
  by_name f e k reads bare env v h none n owns =
      let (x, is, bare_x) = bare env v (sym (reads env) ∙ h) none in
      reads (less env n) ∙ ap (option_and_then f) (still_there env k n x is bare_x owns ∙ sym is) ∙ sym (reads env) ∙ h

  stable-local : (k : Bytes) → Stable (expr.Local k)
  stable-local k = by_name usable (expr.Local k) k (λ env. ap (λ (r : Read). r.at env) (read-local items k)) (λ env v h none. (v, usable_is (env k) v h, none))

  stable-ref : (k : Bytes) → Stable (expr.Ref k)
  stable-ref k = by_name lent_bare (expr.Ref k) k (λ env. ap (λ (r : Read). r.at env) (read-ref items k)) (λ env v h none. (lent_of (env k) v h).0)

  stable-cast_mut : (k : Bytes) → Stable (expr.CastMut k)
  stable-cast_mut k = by_name as_pointer (expr.CastMut k) k (λ env. ap (λ (r : Read). r.at env) (read-cast_mut items k)) (λ env v h none. pointer_bare (env k) v h)

  stable-flags_bits : (k : Bytes) (by : ℕ) → Stable (expr.FlagsBits k by)
  stable-flags_bits k by = by_name (on_bare (as_flags_word by)) (expr.FlagsBits k by) k (λ env. ap (λ (r : Read). r.at env) (read-flags_bits items k by)) (λ env v h none. flags_bare by (env k) v h)

  -- one step on what another operand reads
  by_operand : (f : Val → Option Val) (e whole : Expr) → ((env : Env) → (read items whole).at env ≡ option_and_then (on_bare f) ((read items e).at env)) → Stable e → Stable whole
  by_operand f e whole reads stable env v h none n owns =
      let (x, is, bare_x, does) = bare_value f ((read items e).at env) v (sym (reads env) ∙ h) in
      reads (less env n) ∙ ap (option_and_then (on_bare f)) (stable env x is bare_x n owns ∙ sym is) ∙ sym (reads env) ∙ h

  stable-cast : (e : Expr) (to : CastType) → Stable e → Stable (expr.Cast e to)
  stable-cast e to = by_operand (cast_to to) e (expr.Cast e to) (λ env. ap (λ (r : Read). r.at env) (read-cast items e to))

  stable-enum_number : (e : Expr) → Stable e → Stable (expr.EnumNumber e)
  stable-enum_number e = by_operand as_case_word e (expr.EnumNumber e) (λ env. ap (λ (r : Read). r.at env) (read-enum_number items e))

  stable-call : (path : Path) (e : Expr) → Stable e → Stable (expr.Call path (e ∷ []))
  stable-call path e = by_operand (conversion items (callee path)) e (expr.Call path (e ∷ [])) (λ env. ap (λ (r : Read). r.at env) (read-call items path (e ∷ [])))

  stable-method : (e : Expr) (method : Method) → Stable e → Stable (expr.Method e method)
  stable-method e method = by_operand (called_on method) e (expr.Method e method) (λ env. ap (λ (r : Read). r.at env) (read-method items e method))

  -- what is read whatever the names stand for
  constant : (e : Expr) (x : Val) → ((env : Env) → (read items e).at env ≡ Some x) → Stable e
  constant e x reads env v h none n owns = reads (less env n) ∙ sym (reads env) ∙ h

  stable-i32_const : (n : ℤ) → Stable (expr.I32Const n)
  stable-i32_const n = constant (expr.I32Const n) (val.Word (word.I32 n)) (λ env. ap (λ (r : Read). r.at env) (read-i32_const items n))

  stable-zero : (ty : ZeroType) → Stable (expr.Zero ty)
  stable-zero ty = constant (expr.Zero ty) (val.Word (zero_word ty)) (λ env. ap (λ (r : Read). r.at env) (read-zero items ty))

  nothing_stable : (l : Expr-F Expr) → read_step items (map-Expr Expr Read (read items) l) ≡ nothing → Stable (roll-Expr l)
  nothing_stable l none env v h bare n owns =
      let e : nothing.at env ≡ Some v = at_read items _ _ env v (fold-roll-Expr Read (read_step items) l ∙ none) h in
      absurd (let k : (let o : Option Val = None in o ≡ Some v) = e in cc)

  step : {X : Type 0} (fst : X → Expr) → ((x : X) → Stable (fst x)) → (l : Expr-F Expr) (y : Expr-F X) → map-Expr X Expr fst y ≡ l → Stable (roll-Expr l)
  step fst snd l (Expr-F.Local name) is = subst (λ z. Stable (roll-Expr z)) is (subst Stable (sym (rolls-Local name)) (stable-local name))
  step fst snd l (Expr-F.Ref name) is = subst (λ z. Stable (roll-Expr z)) is (subst Stable (sym (rolls-Ref name)) (stable-ref name))
  step fst snd l (Expr-F.CastMut name) is = subst (λ z. Stable (roll-Expr z)) is (subst Stable (sym (rolls-CastMut name)) (stable-cast_mut name))
  step fst snd l (Expr-F.FlagsBits name by) is = subst (λ z. Stable (roll-Expr z)) is (subst Stable (sym (rolls-FlagsBits name by)) (stable-flags_bits name by))
  step fst snd l (Expr-F.EnumNumber x) is = subst (λ z. Stable (roll-Expr z)) is (subst Stable (sym (rolls-EnumNumber (fst x))) (stable-enum_number (fst x) (snd x)))
  step fst snd l (Expr-F.Cast x to) is = subst (λ z. Stable (roll-Expr z)) is (subst Stable (sym (rolls-Cast (fst x) to)) (stable-cast (fst x) to (snd x)))
  step fst snd l (Expr-F.I32Const n) is = subst (λ z. Stable (roll-Expr z)) is (subst Stable (sym (rolls-I32Const n)) (stable-i32_const n))
  step fst snd l (Expr-F.Zero ty) is = subst (λ z. Stable (roll-Expr z)) is (subst Stable (sym (rolls-Zero ty)) (stable-zero ty))
  step fst snd l (Expr-F.Method x method) is = subst (λ z. Stable (roll-Expr z)) is (subst Stable (sym (rolls-Method (fst x) method)) (stable-method (fst x) method (snd x)))
  step fst snd l (Expr-F.Call path []) is = subst (λ z. Stable (roll-Expr z)) is (nothing_stable (Expr-F.Call path []) refl)
  step fst snd l (Expr-F.Call path (x ∷ [])) is = subst (λ z. Stable (roll-Expr z)) is (subst Stable (sym (rolls-Call path (fst x ∷ []))) (stable-call path (fst x) (snd x)))
  step fst snd l (Expr-F.Call path (x ∷ x2 ∷ xs)) is = subst (λ z. Stable (roll-Expr z)) is (nothing_stable (Expr-F.Call path (fst x ∷ fst x2 ∷ map fst xs)) refl)
  step {X} fst snd l y is = subst (λ z. Stable (roll-Expr z)) is (nothing_stable (map-Expr X Expr fst y) refl)

  pub stable : (e : Expr) → Stable e
  stable = ind-Expr Stable (λ l y is. step (λ e. e.0) (λ e. e.1) l y is)
