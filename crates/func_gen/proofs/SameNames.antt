-- Names take one number, and one alone.
use Rattle.std.proofs.Common.{◌≡◌, ℕ, ◌+◌, ◌<◌, Bool, true, false, not, ⊎_elim, List, [], ◌∷◌, ◌++◌, refl, sym, ap, ◌∙◌, subst, arith}
use Rattle.std.specs.List.{list_any}
use Rattle.std.proofs.lemmas.Bool.{cases_lt}
use Rattle.wit_model.specs.Bytes.{Bytes}
use Rattle.func_gen.specs.declared.scope.LocalName.{LocalName}
use Rattle.func_gen.specs.declared.scope.Scope.{Scope}
use Rattle.func_gen.specs.Scope.{IsLeastFree, Takes, TakesAll, TakesOne, declared_in, is_free, is_used, names_at, with_number}

not_both : (b : Bool) → b ≡ true → b ≡ false → ⊥
not_both b h g = let e = sym h ∙ g in absurd cc

free_as : (used : List Bytes) (xs ys : List LocalName) (t : ℕ) → names_at xs t ≡ names_at ys t → is_free used xs t ≡ is_free used ys t
free_as used xs ys t e = ap (λ names. not (list_any (λ name. is_used used name) names)) e

-- no free number is below one that is the least
not_below : (used : List Bytes) (next : ℕ) (xs ys : List LocalName) (t u : ℕ) → ((k : ℕ) → names_at xs k ≡ names_at ys k) → IsLeastFree used next xs t → IsLeastFree used next ys u → t < u → ⊥
not_below used next xs ys t u named h g l = not_both (is_free used ys t) (sym (free_as used xs ys t (named t)) ∙ h.free) (g.least t h.reached l)

pub least_same : (used : List Bytes) (next : ℕ) (xs ys : List LocalName) (t u : ℕ) → ((k : ℕ) → names_at xs k ≡ names_at ys k) → IsLeastFree used next xs t → IsLeastFree used next ys u → t ≡ u
least_same used next xs ys t u named h g =
    ⊎_elim (λ l. absurd (not_below used next xs ys t u named h g l))
    (λ k. ⊎_elim (λ l. absurd (not_below used next ys xs u t (λ n. sym (named n)) g h l)) (λ n. omega (arith, k, n)) (cases_lt u t)) (cases_lt t u)

-- what is declared by it
declared_as : (before : Scope) (xs ys : List LocalName) (t : ℕ) → names_at xs t ≡ names_at ys t → declared_in before xs t ≡ declared_in before ys t
declared_as before [] [] t e = refl
declared_as before [] (y ∷ ys) t e = absurd cc
declared_as before (x ∷ xs) [] t e = absurd cc
declared_as before (x ∷ xs) (y ∷ ys) t e = ap (λ names. record { used = before.used ++ names; next = t + 1 }) e

pub record SameTaken (t u : ℕ) (after later : Scope) : Type 0 where
  pub number : u ≡ t
  pub scope : later ≡ after

pub takes_same : (before : Scope) (names : ℕ → List Bytes) (t u : ℕ) (after later : Scope) → Takes before names t after → Takes before names u later → SameTaken t u after later
takes_same before names t u after later h g =
    let named : (k : ℕ) → names_at g.locals k ≡ names_at h.locals k = λ k. g.named k ∙ sym (h.named k) in
    let number = least_same before.used before.next g.locals h.locals u t named g.declares.number h.declares.number in
    record {
      number = number;
      scope = g.declares.leaves ∙ ap (declared_in before g.locals) number ∙ declared_as before g.locals h.locals t (named t) ∙ sym h.declares.leaves;
    }

-- from scopes that are equal
pub takes_from : (before other : Scope) (names : ℕ → List Bytes) (t u : ℕ) (after later : Scope) → other ≡ before → Takes before names t after → Takes other names u later → SameTaken t u after later
takes_from before other names t u after later same h g = takes_same before names t u after later h (subst (λ s. Takes s names u later) same g)

-- names that are told by their number
pub record SameAll (texts others : List Bytes) (after later : Scope) : Type 0 where
  pub names : others ≡ texts
  pub scope : later ≡ after

pub all_same : (before other : Scope) (names : ℕ → List Bytes) (texts others : List Bytes) (after later : Scope) → other ≡ before → TakesAll before names texts after → TakesAll other names others later → SameAll texts others after later
all_same before other names texts others after later same h g =
    let one = takes_from before other names h.number g.number after later same h.takes g.takes in
    record { names = g.are ∙ ap names one.number ∙ sym h.are; scope = one.scope }

pub record SameOne (n m : Bytes) (after later : Scope) : Type 0 where
  pub name : m ≡ n
  pub scope : later ≡ after

pub one_same : (before other : Scope) (prefix n m : Bytes) (after later : Scope) → other ≡ before → TakesOne before prefix n after → TakesOne other prefix m later → SameOne n m after later
one_same before other prefix n m after later same h g =
    let one = takes_from before other (λ k. with_number prefix k ∷ []) h.number g.number after later same h.takes g.takes in
    record { name = g.is ∙ ap (with_number prefix) one.number ∙ sym h.is; scope = one.scope }
