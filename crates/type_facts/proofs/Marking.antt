-- What marks say after some types are marked: those of before, and those types.
use Rattle.std.proofs.Common.{◌≡◌, ℕ, zero, suc, ◌<◌, ◌∙◌, ◌⊎◌, inl, inr, Bool, true, false, List, [], ◌∷◌, ◌++◌, length, get_or, set, Option, Some, None, refl, sym, ap, subst, arith, length-set}
use Rattle.std.proofs.lemmas.List.{get_or-set_same}
use Rattle.std.specs.List.{Contains, slice_get}
use Rattle.wit_model.specs.declared.name.TypeId.{TypeId}
use Rattle.wit_model.specs.declared.types.WitType.{WitType}
use Rattle.wit_model.specs.declared.types.WitType.TheVariants.{Id}
use Rattle.type_facts.specs.Passes.{mark, mark_all, mark_part, given, IsMarked}

-- membership, by the front of a list
pub among_front : {A : Type 0} (x : A) (xs : List A) → Contains (x ∷ xs) x
among_front x xs = (0, omega arith, refl)

pub among_rest : {A : Type 0} (x y : A) (xs : List A) → Contains xs y → Contains (x ∷ xs) y
among_rest x y xs (k, within, is) = (suc k, omega arith, is)

pub among_cases : {A : Type 0} (x y : A) (xs : List A) → Contains (x ∷ xs) y → (x ≡ y) ⊎ Contains xs y
among_cases x y xs (zero, within, is) = inl is
among_cases x y xs (suc k, within, is) = inr (k, omega arith, is)

none_among : {A : Type 0} (y : A) → Contains [] y → ⊥
none_among y (k, within, is) = omega arith

set_marked : (marks : List Bool) (i j : ℕ) → get_or (set marks i true) j false ≡ true → (get_or marks j false ≡ true) ⊎ (i ≡ j)
set_marked [] i j h = inl h
set_marked (m ∷ marks) zero zero h = inr refl
set_marked (m ∷ marks) zero (suc j) h = inl h
set_marked (m ∷ marks) (suc i) zero h = inl h
set_marked (m ∷ marks) (suc i) (suc j) h = elim (set_marked marks i j h) [ inl before ↦ inl before | inr same ↦ inr (ap suc same) ]

set_kept : (marks : List Bool) (i j : ℕ) → get_or marks j false ≡ true → get_or (set marks i true) j false ≡ true
set_kept [] i j h = h
set_kept (m ∷ marks) zero zero h = refl
set_kept (m ∷ marks) zero (suc j) h = h
set_kept (m ∷ marks) (suc i) zero h = h
set_kept (m ∷ marks) (suc i) (suc j) h = set_kept marks i j h

marked_by : (marks : List Bool) (ty : WitType) (j : ℕ) → IsMarked (mark marks ty) j → IsMarked marks j ⊎ ((id : TypeId) × (ty ≡ Id id) × (id.0 ≡ j))
marked_by marks (Id id) j h = elim (set_marked marks id.0 j h) [ inl before ↦ inl before | inr same ↦ inr (id, refl, same) ]
marked_by marks _ j h = inl h

kept_by : (marks : List Bool) (ty : WitType) (j : ℕ) → IsMarked marks j → IsMarked (mark marks ty) j
kept_by marks (Id id) j h = set_kept marks id.0 j h
kept_by marks _ j h = h

length-mark : (marks : List Bool) (ty : WitType) → length (mark marks ty) ≡ length marks
length-mark marks (Id id) = length-set marks id.0 true
length-mark marks _ = refl

pub length-mark_all : (marks : List Bool) (tys : List WitType) → length (mark_all marks tys) ≡ length marks
length-mark_all marks [] = refl
length-mark_all marks (ty ∷ tys) = length-mark_all (mark marks ty) tys ∙ length-mark marks ty

pub all_kept : (marks : List Bool) (tys : List WitType) (j : ℕ) → IsMarked marks j → IsMarked (mark_all marks tys) j
all_kept marks [] j h = h
all_kept marks (ty ∷ tys) j h = all_kept (mark marks ty) tys j (kept_by marks ty j h)

pub all_marked : (marks : List Bool) (tys : List WitType) (j : ℕ) → IsMarked (mark_all marks tys) j
    → IsMarked marks j ⊎ ((id : TypeId) × Contains tys (Id id) × (id.0 ≡ j))
all_marked marks [] j h = inl h
all_marked marks (ty ∷ tys) j h =
    elim (all_marked (mark marks ty) tys j h) [
      | inl first ↦ elim (marked_by marks ty j first) [
        | inl before ↦ inl before
        | inr here ↦ inr (here.0, subst (λ t. Contains (ty ∷ tys) t) here.1 (among_front ty tys), here.2)
      ]
      | inr later ↦ inr (later.0, among_rest ty (Id later.0) tys later.1, later.2)
    ]

there_by : (marks : List Bool) (ty : WitType) (id : TypeId) → ty ≡ Id id → id.0 < length marks → IsMarked (mark marks ty) id.0
there_by marks ty id e within = subst (λ t. IsMarked (mark marks t) id.0) (sym e) (get_or-set_same marks id.0 true false within)

pub all_there : (marks : List Bool) (tys : List WitType) (id : TypeId) → Contains tys (Id id) → id.0 < length marks → IsMarked (mark_all marks tys) id.0
all_there marks [] id among within = absurd (none_among (Id id) among)
all_there marks (ty ∷ tys) id among within =
    elim (among_cases ty (Id id) tys among) [
      | inl here ↦ all_kept (mark marks ty) tys id.0 (there_by marks ty id here within)
      | inr later ↦ all_there (mark marks ty) tys id later (subst (λ n. id.0 < n) (sym (length-mark marks ty)) within)
    ]

pub mark_all-append : (marks : List Bool) (xs ys : List WitType) → mark_all marks (xs ++ ys) ≡ mark_all (mark_all marks xs) ys
mark_all-append marks [] ys = refl
mark_all-append marks (x ∷ xs) ys = mark_all-append (mark marks x) xs ys

pub mark_all-given : (marks : List Bool) (part : Option WitType) (rest : List (Option WitType)) → mark_all marks (given (part ∷ rest)) ≡ mark_all (mark_part marks part) (given rest)
mark_all-given marks None rest = refl
mark_all-given marks (Some ty) rest = refl

pub given_at : (ps : List (Option WitType)) (nth : ℕ) (ty : WitType) → slice_get ps nth ≡ Some (Some ty) → Contains (given ps) ty
given_at [] nth ty e = cc
given_at (None ∷ ps) zero ty e = cc
given_at (None ∷ ps) (suc nth) ty e = given_at ps nth ty e
given_at (Some first ∷ ps) zero ty e =
    let same : first ≡ ty = cc in
    subst (λ t. Contains (first ∷ given ps) t) same (among_front first (given ps))
given_at (Some first ∷ ps) (suc nth) ty e = among_rest first ty (given ps) (given_at ps nth ty e)

pub at_given : (ps : List (Option WitType)) (ty : WitType) → Contains (given ps) ty → (nth : ℕ) × (slice_get ps nth ≡ Some (Some ty))
at_given [] ty among = absurd (none_among ty among)
at_given (None ∷ ps) ty among = let found = at_given ps ty among in (suc found.0, found.1)
at_given (Some first ∷ ps) ty among =
    elim (among_cases first ty (given ps) among) [
      | inl same ↦ (0, ap (λ t. Some (Some t)) same)
      | inr later ↦ let found = at_given ps ty later in (suc found.0, found.1)
    ]
