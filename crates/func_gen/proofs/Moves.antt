-- A local that is moved out: what is read without it, and what the locals own then.
use Rattle.std.proofs.Common.{◌≡◌, ℕ, ◌+◌, Bool, true, false, cond, ◌||◌, List, [], ◌∷◌, Option, None, Some, refl, sym, ap, ◌∙◌, arith}
use Rattle.std.specs.Prelude.{option_to_list}
use Rattle.std.specs.List.{flat_map, list_any}
use Rattle.std.specs.Option.{option_or}
use Rattle.std.specs.Str.{bytes_eq}
use Rattle.std.proofs.lemmas.Slice.Eq.{bytes_eq-Decides}
use Rattle.wit_model.specs.Bytes.{Bytes}
use Rattle.wrapper_meaning.specs.Items.{total}
use Rattle.wrapper_values.specs.declared.state.Local.{Local}
use Rattle.wrapper_values.specs.declared.state.State.{State}
use Rattle.wrapper_values.specs.declared.state.Val.{Val}
use Rattle.wrapper_values.specs.Locals.{emptied, last, local_named, moved, value_of}
use Rattle.wrapper_values.specs.Owning.{owned, owned_in}
use Rattle.func_gen.specs.Meaning.{owns_of}
use Rattle.func_gen.specs.Read.{Under, env_of, less}
use Rattle.wrapper_meaning.proofs.PostReturn.{total-append}
use Rattle.wrapper_run.proofs.LocalLemmas.{last-none}

-- 1. The last of a list

some_last : {A : Type 0} (passes : A → Bool) (xs : List A) → list_any passes xs ≡ true → (x : A) × (last passes xs ≡ Some x)
some_last passes [] h = absurd cc
some_last {A} passes (x ∷ xs) h = go (list_any passes xs) (some_last passes xs) (passes x) h
  where
    second : (o : Option A) → (let p : Option A = Some x in (y : A) × (option_or o p ≡ Some y))
    second None = (x, refl)
    second (Some z) = (z, refl)

    first : (o : Option A) (p : Option A) → (y : A) × (o ≡ Some y) → (y : A) × (option_or o p ≡ Some y)
    first o p r = (r.0, ap (λ q. option_or q p) r.1)

    go : (c : Bool) → (c ≡ true → (y : A) × (last passes xs ≡ Some y)) → (b : Bool) → (b || c) ≡ true → (y : A) × (option_or (last passes xs) (cond b (Some x) None) ≡ Some y)
    go true there b k = first (last passes xs) (cond b (Some x) None) (there refl)
    go false there true k = second (last passes xs)
    go false there false k = absurd cc

-- 2. Another name reads as before

pub other_named : (n k : Bytes) (locals : List Local) → bytes_eq n k ≡ false → local_named k (moved n locals) ≡ local_named k locals
other_named n k [] e = refl
other_named n k (l ∷ locals) e = go (list_any (λ m. bytes_eq m.name n) locals) (bytes_eq l.name n) refl (other_named n k locals e)
  where
    go : (c b : Bool) → bytes_eq l.name n ≡ b → local_named k (moved n locals) ≡ local_named k locals → local_named k (cond c (l ∷ moved n locals) (cond b (emptied l) l ∷ locals)) ≡ local_named k (l ∷ locals)
    go true b same h = ap (λ o. option_or o (cond (bytes_eq l.name k) (Some l) None)) h
    go false false same h = refl
    go false true same h =
        let other : bytes_eq l.name k ≡ false = ap (λ x. bytes_eq x k) ((bytes_eq-Decides l.name n).0 same) ∙ e in
        ap (λ d. option_or (local_named k locals) (cond d (Some (emptied l)) None)) other ∙ sym (ap (λ d. option_or (local_named k locals) (cond d (Some l) None)) other)

-- 3. What the locals own without it

abbrev owns_in : List Local → List ℕ
owns_in locals = flat_map (λ (l : Local). owned_in l.value) locals

moved_owns : (f : ℕ → ℕ) (n : Bytes) (v : Val) (locals : List Local) → value_of (local_named n locals) ≡ Some v → total f (owns_in (moved n locals)) + total f (owned v) ≡ total f (owns_in locals)
moved_owns f n v [] h = absurd cc
moved_owns f n v (l ∷ locals) h = go (list_any (λ m. bytes_eq m.name n) locals) (bytes_eq l.name n) (some_last (λ m. bytes_eq m.name n) locals) (last-none (λ m. bytes_eq m.name n) locals) (moved_owns f n v locals) h
  where
    inner : (o p : Option Local) (y : Local) → o ≡ Some y → value_of (option_or o p) ≡ Some v → value_of o ≡ Some v
    inner o p y e k = ap value_of e ∙ sym (ap (λ q. value_of (option_or q p)) e) ∙ k

    go : (c b : Bool) → (c ≡ true → (y : Local) × (local_named n locals ≡ Some y)) → (c ≡ false → local_named n locals ≡ None) → (value_of (local_named n locals) ≡ Some v → total f (owns_in (moved n locals)) + total f (owned v) ≡ total f (owns_in locals))
        → value_of (option_or (local_named n locals) (cond b (Some l) None)) ≡ Some v → total f (owns_in (cond c (l ∷ moved n locals) (cond b (emptied l) l ∷ locals))) + total f (owned v) ≡ total f (owns_in (l ∷ locals))
    go true b there none ih k =
        let y = there refl in
        let here = ih (inner (local_named n locals) (cond b (Some l) None) y.0 y.1 k) in
        omega (arith, here, total-append f (owned_in l.value) (owns_in (moved n locals)), total-append f (owned_in l.value) (owns_in locals))
    go false true there none ih k =
        let at : l.value ≡ Some v = sym (ap (λ o. value_of (option_or o (Some l))) (none refl)) ∙ k in
        let own = ap (λ o. total f (owned_in o)) at in
        omega (arith, own, total-append f (owned_in l.value) (owns_in locals))
    go false false there none ih k = absurd (let e : (let o : Option Val = None in o ≡ Some v) = sym (ap (λ o. value_of (option_or o None)) (none refl)) ∙ k in cc)

-- 4. The state

abbrev pub without : State → Bytes → State
without s n = record s { locals = moved n s.locals }

pub less_stays : (s : State) (n : Bytes) → Under (less (env_of s) n) (env_of (without s n))
less_stays s n k v h = go (bytes_eq k n) refl (bytes_eq n k) refl h
  where
    go : (c : Bool) → bytes_eq k n ≡ c → (d : Bool) → bytes_eq n k ≡ d → cond c None (env_of s k) ≡ Some v → env_of (without s n) k ≡ Some v
    go true e d g x = absurd cc
    go false e true g x = absurd (let same : n ≡ k = (bytes_eq-Decides n k).0 g in let twice : bytes_eq k n ≡ true = (bytes_eq-Decides k n).1 (sym same) in let no : true ≡ false = sym twice ∙ e in cc)
    go false e false g x = ap value_of (other_named n k s.locals g) ∙ x

pub owns_without : (f : ℕ → ℕ) (s : State) (n : Bytes) (v : Val) → env_of s n ≡ Some v → total f (owns_of (without s n)) + total f (owned v) ≡ total f (owns_of s)
owns_without f s n v h =
    let placed = option_to_list s.place in
    omega (arith, moved_owns f n v s.locals h, total-append f placed (owns_in (moved n s.locals)), total-append f placed (owns_in s.locals))
