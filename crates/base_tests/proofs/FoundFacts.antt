-- Which facts hold of a type is found by computing, where each type of a table names only lower ones.
use Rattle.std.proofs.Common.{◌≡◌, ℕ, zero, suc, ◌<◌, ◌∙◌, inl, inr, Bool, true, false, not, ◌&&◌, ◌||◌, eqb, List, [], Option, None, Some, is_some, refl, sym, ap, subst, arith, Decides}
use Rattle.std.specs.List.{Contains, list_all, list_any, slice_get}
use Rattle.std.proofs.lemmas.Bool.{agree_below, agree_below_at, eqb-true, eq-eqb, lt-ltb, or_cases, or_left, or_right}
use Rattle.std.proofs.lemmas.Bool.Decides.{Decides-and, Decides-at, Decides-not}
use Rattle.std.proofs.lemmas.List.Folds.{Any-from_list_any, list_any-from_Any}
use Rattle.std.proofs.lemmas.List.Sums.{AllPass-from_list_all}
use Rattle.wit_model.specs.declared.types.TypeDef.{TypeDef}
use Rattle.wit_model.specs.declared.types.WitType.{WitType}
use Rattle.wit_model.specs.declared.types.WitType.TheVariants.{Id}
use Rattle.wit_model.specs.Parts.{parts}
use Rattle.wit_model.specs.Reaches.{Names, Reaches, reaches_itself, reaches_by}
use Rattle.wit_model.specs.TypeOrder.{GoesDown, type_below}
use Rattle.wit_model.proofs.BelowLemmas.{id_below, type_below_more}
use Rattle.type_facts.specs.Facts.{Has, IsCanonical, IsNamed, IsReachedFrom}
use Rattle.type_facts.specs.Own.{own}
use Rattle.type_facts.specs.Passes.{given}
use Rattle.type_facts.proofs.Marking.{at_given, given_at}
use Rattle.type_facts.proofs.Reaching.{part_below}
use Rattle.base_tests.proofs.Sample.{entry, type_id}

abbrev named_by : Option TypeDef → List WitType
named_by None = []
named_by (Some t) = given (parts t.kind)

-- the types that a type names
abbrev named : List TypeDef → WitType → List WitType
named types (Id id) = named_by (slice_get types id.0)
named types _ = []

-- whether a type reaches one that passes a test, by at most so many steps
abbrev reaches : List TypeDef → (WitType → Bool) → ℕ → WitType → Bool
reaches types test zero ty = test ty
reaches types test (suc n) ty = test ty || list_any (reaches types test n) (named types ty)

-- whether a type is the entry at a place
abbrev is_entry : ℕ → WitType → Bool
is_entry n (Id id) = eqb id.0 n
is_entry n _ = false

abbrev has_name : Option TypeDef → Bool
has_name None = false
has_name (Some t) = is_some t.name

same_entry : (n : ℕ) (ty : WitType) → is_entry n ty ≡ true → ty ≡ entry n
same_entry n (Id id) h = ap entry (eqb-true id.0 n h)
same_entry n _ h = cc

module _ (types : List TypeDef) where
  by_entry : (id : ℕ) (part : WitType) (o : Option TypeDef) → slice_get types id ≡ o → Contains (named_by o) part
      → Names types (entry id) part
  by_entry id part None at h = let none = h.1 in absurd (omega arith)
  by_entry id part (Some t) at h =
      let found = at_given (parts t.kind) part h in
      record { id = type_id id; entry = t; nth = found.0; is_entry = refl; entry_at = at; part_at = found.1 }

  names_from : (whole part : WitType) → Contains (named types whole) part → Names types whole part
  names_from (Id id) part h = by_entry id.0 part (slice_get types id.0) refl h
  names_from _ part h = let none = h.1 in absurd (omega arith)

  names_to : (whole part : WitType) → Names types whole part → Contains (named types whole) part
  names_to whole part names =
      let same : named types whole ≡ given (parts names.entry.kind) = ap (named types) names.is_entry ∙ ap named_by names.entry_at in
      subst (λ list. Contains list part) (sym same) (given_at (parts names.entry.kind) names.nth part names.part_at)

  name_found : (n : ℕ) → Decides (has_name (slice_get types n)) (IsNamed types (type_id n))
  name_found n = by (slice_get types n) refl
    where
      by : (o : Option TypeDef) → slice_get types n ≡ o → Decides (has_name o) (IsNamed types (type_id n))
      by None at = (λ h. cc, λ is. cc (at, is.entry_at))
      by (Some t) at = (
        λ h. record { entry = t; entry_at = at; named = h },
        λ is. let same : is.entry ≡ t = cc in subst (λ (e : TypeDef). is_some e.name ≡ true) same is.named,
      )

  among_found : (tys : List WitType) (n : ℕ) → Decides (list_any (is_entry n) tys) (Contains tys (entry n))
  among_found tys n = (
    λ h.
        let found = Any-from_list_any (is_entry n) tys h in
        subst (Contains tys) (same_entry n found.1 found.4) (found.0, found.2, found.3),
    λ at. list_any-from_Any (is_entry n) tys (at.0, entry n, at.1, at.2, eq-eqb n n refl),
  )

  -- a way that is found is one
  reached : (test : WitType → Bool) (n : ℕ) (ty : WitType) → reaches types test n ty ≡ true
      → (part : WitType) × Reaches types ty part × (test part ≡ true)
  reached test zero ty h = (ty, reaches_itself, h)
  reached test (suc n) ty h =
      elim (or_cases (test ty) (list_any (reaches types test n) (named types ty)) h) [
        | inl here ↦ (ty, reaches_itself, here)
        | inr on ↦
            let found = Any-from_list_any (reaches types test n) (named types ty) on in
            let way = reached test n found.1 found.4 in
            (way.0, reaches_by (names_from ty found.1 (found.0, found.2, found.3)) way.1, way.2)
      ]

  module _ (down : GoesDown types) where
    -- what a type below a bound names is below a lower one
    lower : (n : ℕ) (whole part : WitType) → Names types whole part → type_below n whole ≡ true
        → (m : ℕ) × (m < n) × (type_below m part ≡ true)
    lower n whole part names below = (
      names.id.0,
      id_below n names.id (subst (λ ty. type_below n ty ≡ true) names.is_entry below),
      part_below names.id.0 names.entry.kind names.nth part (down names.id.0 names.entry names.entry_at) names.part_at,
    )

    -- a way from a type below a bound is found by as many steps
    reaching : (test : WitType → Bool) {ty part : WitType} → Reaches types ty part → test part ≡ true
        → (n : ℕ) → type_below n ty ≡ true → reaches types test n ty ≡ true
    reaching test reaches_itself so zero below = so
    reaching test reaches_itself so (suc n) below = or_left _ _ so
    reaching test (reaches_by names rest) so zero below = let less = (lower zero _ _ names below).1 in absurd (omega arith)
    reaching test (reaches_by {part = part} names rest) so (suc n) below =
        let low = lower (suc n) _ part names below in
        let less = low.1 in
        let at = names_to _ part names in
        let on = reaching test rest so n (type_below_more low.0 n part (omega arith) low.2) in
        or_right _ _ (list_any-from_Any (reaches types test n) _ (at.0, part, at.1, at.2, on))

    use_found : (roots : List WitType) (n : ℕ) → list_all (type_below n) roots ≡ true → (id : ℕ)
        → Decides (list_any (reaches types (is_entry id) n) roots) (IsReachedFrom types roots (entry id))
    use_found roots n below id = (
      λ h.
          let found = Any-from_list_any (reaches types (is_entry id) n) roots h in
          let way = reached (is_entry id) n found.1 found.4 in
          let from : Reaches types found.1 (entry id) = subst (Reaches types found.1) (same_entry id way.0 way.2) way.1 in
          record { root = found.1; is_root = (found.0, found.2, found.3); reached = from },
      λ from.
          let at = from.is_root in
          let low = AllPass-from_list_all (type_below n) roots below at.0 from.root at.1 in
          let on = reaching (is_entry id) from.reached (eq-eqb id id refl) n (subst (λ ty. type_below n ty ≡ true) at.2 low) in
          list_any-from_Any (reaches types (is_entry id) n) roots (at.0, from.root, at.1, at.2, on),
    )

    -- so many types have a fact where it is wanted, and nowhere else, if a test that finds it computes as is wanted
    module _ (count : ℕ) (wanted : ℕ → Bool) where
      abbrev Holds : (ℕ → Type 0) → Type 0
      Holds Fact = (n : ℕ) → n < count → Decides (wanted n) (Fact n)

      abbrev IsWanted : (ℕ → Bool) → Type 0
      IsWanted found = agree_below found wanted count ≡ true

      row : {Fact : ℕ → Type 0} (found : ℕ → Bool) → ((n : ℕ) → n < count → Decides (found n) (Fact n)) → IsWanted found → Holds Fact
      row found decides agree n within =
          Decides-at (wanted n) (found n) (sym (agree_below_at found wanted count n agree within)) (decides n within)

      has_found : (is_so : _ → Bool) (n : ℕ) → n < count
          → Decides (reaches types (λ part. is_so (own types part)) count (entry n)) (Has types is_so (entry n))
      unfolding type_below
      has_found is_so n within = (
        λ h.
            let way = reached (λ part. is_so (own types part)) count (entry n) h in
            record { part = way.0; reached = way.1; so = way.2 },
        λ has. reaching (λ part. is_so (own types part)) has.reached has.so count (lt-ltb n count within),
      )

      pub has_row : (is_so : _ → Bool) → IsWanted (λ n. reaches types (λ part. is_so (own types part)) count (entry n))
          → Holds (λ n. Has types is_so (entry n))
      has_row is_so = row _ (has_found is_so)

      pub canonical_row : IsWanted (λ n. not (reaches types (λ part. (own types part).other) count (entry n)))
          → Holds (λ n. IsCanonical types (entry n))
      canonical_row = row _ (λ n within. Decides-not _ (has_found (λ r. r.other) n within))

      pub use_row : (roots : List WitType) → list_all (type_below count) roots ≡ true
          → IsWanted (λ n. has_name (slice_get types n) && list_any (reaches types (is_entry n) count) roots)
          → Holds (λ n. IsNamed types (type_id n) × IsReachedFrom types roots (entry n))
      use_row roots roots_below = row _ (λ n within. Decides-and _ _ (name_found n) (use_found roots count roots_below n))

      pub error_row : (errors : List WitType) → IsWanted (λ n. has_name (slice_get types n) && list_any (is_entry n) errors)
          → Holds (λ n. IsNamed types (type_id n) × Contains errors (entry n))
      error_row errors = row _ (λ n within. Decides-and _ _ (name_found n) (among_found errors n))
