-- What a test finds in a type is what the type reaches, so the facts of a named type tell whether a function uses it.
use Rattle.std.proofs.Common.{◌≡◌, ℕ, zero, suc, ◌⊎◌, inl, inr, ◌∙◌, Bool, true, false, ◌||◌, List, [], ◌∷◌, Option, Some, None, refl, sym, ap, subst, arith}
use Rattle.std.specs.List.{Contains, list_any, slice_get}
use Rattle.std.proofs.lemmas.Bool.{eq-eqb, eqb-true, or_left, or_right, not-true}
use Rattle.std.proofs.lemmas.List.Elements.{Contains-append_cases, Contains-append_left, Contains-append_right}
use Rattle.wit_model.specs.declared.name.TypeId.{TypeId}
use Rattle.wit_model.specs.declared.name.WorldId.{WorldId}
use Rattle.wit_model.specs.declared.resolve.Resolve.{Resolve}
use Rattle.wit_model.specs.declared.types.TypeDef.{TypeDef}
use Rattle.wit_model.specs.declared.types.WitType.{WitType}
use Rattle.wit_model.specs.declared.types.WitType.TheVariants.{Id}
use Rattle.wit_model.specs.declared.world.World.{World}
use Rattle.wit_model.specs.Parts.{parts}
use Rattle.wit_model.specs.Reaches.{Names, Reaches, reaches_by, reaches_itself}
use Rattle.wit_model.proofs.AllLemmas.{all_at}
use Rattle.type_facts.specs.declared.info.TypeInfo.{TypeInfo}
use Rattle.type_facts.specs.Facts.{IsInfoOf, IsNamed, IsReachedFrom}
use Rattle.type_facts.specs.Roots.{Roots, roots_of_world, world_roots}
use Rattle.type_defs.specs.Finds.{finds, finds_within}
use Rattle.type_defs.specs.Levels.{are_shallow, is_any_deeper, is_deeper, is_shallow, parts_of, passes}
use Rattle.type_defs.specs.Modes.{is_used}
use Rattle.type_defs.specs.Used.{function_types, is_at, uses}
use Rattle.type_defs.proofs.ListingLemmas.{any-false}

-- 1. Lists

-- what passes a test that some element passes
pub any-found : {A : Type 0} (test : A → Bool) (xs : List A) → list_any test xs ≡ true → (n : ℕ) × (x : A) × (slice_get xs n ≡ Some x) × (test x ≡ true)
any-found test [] h = cc
any-found test (x ∷ xs) h = go (test x) refl h (any-found test xs)
  where
    go : (b : Bool) → test x ≡ b → (test x || list_any test xs) ≡ true → (list_any test xs ≡ true → (n : ℕ) × (y : _) × (slice_get xs n ≡ Some y) × (test y ≡ true))
        → (n : ℕ) × (y : _) × (slice_get (x ∷ xs) n ≡ Some y) × (test y ≡ true)
    go true e h further = (0, x, refl, e)
    go false e h further = let rest = further (sym (ap (λ b. b || list_any test xs) e) ∙ h) in (suc rest.0, rest.1, rest.2, rest.3)

pub any-at : {A : Type 0} (test : A → Bool) (xs : List A) (n : ℕ) (x : A) → slice_get xs n ≡ Some x → test x ≡ true → list_any test xs ≡ true
any-at test [] n x e h = absurd (cc)
any-at test (y ∷ xs) zero x e h = let is : y ≡ x = cc in or_left (test y) (list_any test xs) (ap test is ∙ h)
any-at test (y ∷ xs) (suc n) x e h = or_right (test y) (list_any test xs) (any-at test xs n x e h)

pub any-contained : {A : Type 0} (test : A → Bool) (xs : List A) (x : A) → Contains xs x → test x ≡ true → list_any test xs ≡ true
any-contained test [] x (k, below, e) h = absurd (omega arith)
any-contained test (y ∷ xs) x (zero, below, e) h = or_left (test y) (list_any test xs) (ap test e ∙ h)
any-contained test (y ∷ xs) x (suc k, below, e) h = or_right (test y) (list_any test xs) (any-contained test xs x (k, omega arith, e) h)

pub contained-at : {A : Type 0} (xs : List A) (n : ℕ) (x : A) → slice_get xs n ≡ Some x → Contains xs x
contained-at [] n x e = absurd (cc)
contained-at (y ∷ xs) zero x e = let is : y ≡ x = cc in (0, omega arith, is)
contained-at (y ∷ xs) (suc n) x e = let rest = contained-at xs n x e in (suc rest.0, omega arith, rest.2)

-- 2. What a test finds

-- on the way from a type that names the part at a place
module _ (types : List TypeDef) (n : ℕ) {whole part : WitType} (names : Names types whole part) where
  pub part-low : is_deeper types (suc n) whole ≡ false → is_deeper types n part ≡ false
  part-low low =
      let lows : is_any_deeper types n (parts names.entry.kind) ≡ false =
      sym (ap (λ o. is_any_deeper types n (parts_of o)) names.entry_at) ∙ subst (λ w. is_deeper types (suc n) w ≡ false) names.is_entry low in
      any-false (passes (is_deeper types n)) (parts names.entry.kind) names.nth (Some part) lows names.part_at

  found-by : (test : WitType → Bool) → finds_within types test n part ≡ true → finds_within types test (suc n) whole ≡ true
  found-by test h =
      let some : list_any (passes (finds_within types test n)) (parts names.entry.kind) ≡ true = any-at (passes (finds_within types test n)) (parts names.entry.kind) names.nth (Some part) names.part_at h in
      let there : list_any (passes (finds_within types test n)) (parts_of (slice_get types names.id.0)) ≡ true = ap (λ o. list_any (passes (finds_within types test n)) (parts_of o)) names.entry_at ∙ some in
      subst (λ w. finds_within types test (suc n) w ≡ true) (sym names.is_entry) (or_right (test (Id names.id)) _ there)

no-step : (types : List TypeDef) {whole part : WitType} → Names types whole part → is_deeper types zero whole ≡ false → ⊥
no-step types names low = let wrong : is_deeper types zero (Id names.id) ≡ false = subst (λ w. is_deeper types zero w ≡ false) names.is_entry low in cc

found-here : (types : List TypeDef) (test : WitType → Bool) (n : ℕ) (ty : WitType) → test ty ≡ true → finds_within types test n ty ≡ true
found-here types test zero ty h = h
found-here types test (suc n) (Id id) h = or_left (test (Id id)) _ h
found-here types test (suc n) ty h = h

reached-within : (types : List TypeDef) (test : WitType → Bool) (n : ℕ) {ty part : WitType} → is_deeper types n ty ≡ false → Reaches types ty part → test part ≡ true → finds_within types test n ty ≡ true
reached-within types test n low reaches_itself h = found-here types test n _ h
reached-within types test zero low (reaches_by names rest) h = absurd (no-step types names low)
reached-within types test (suc n) low (reaches_by names rest) h = found-by types n names test (reached-within types test n (part-low types n names low) rest h)

abbrev Found : List TypeDef → (WitType → Bool) → WitType → Type 0
Found types test ty = (part : WitType) × Reaches types ty part × (test part ≡ true)

found-within : (types : List TypeDef) (test : WitType → Bool) (n : ℕ) (ty : WitType) → finds_within types test n ty ≡ true → Found types test ty
found-within types test zero ty h = (ty, reaches_itself, h)
found-within types test (suc n) (Id id) h = go (test (Id id)) refl (slice_get types id.0) refl h (found-within types test n)
  where
    tests : List (Option WitType) → Bool
    tests ps = list_any (passes (finds_within types test n)) ps

    on : (p : Option WitType) (entry : TypeDef) → slice_get types id.0 ≡ Some entry → (nth : ℕ) → slice_get (parts entry.kind) nth ≡ Some p → passes (finds_within types test n) p ≡ true
        → ((ty : WitType) → finds_within types test n ty ≡ true → Found types test ty) → Found types test (Id id)
    on None entry at nth there h further = absurd (cc)
    on (Some ty) entry at nth there h further =
        let rest = further ty h in
        (rest.0, reaches_by (record { id = id; entry = entry; nth = nth; is_entry = refl; entry_at = at; part_at = there }) rest.1, rest.2)

    go : (b : Bool) → test (Id id) ≡ b → (o : Option TypeDef) → slice_get types id.0 ≡ o → (test (Id id) || tests (parts_of (slice_get types id.0))) ≡ true
        → ((ty : WitType) → finds_within types test n ty ≡ true → Found types test ty) → Found types test (Id id)
    go true e o at h further = (Id id, reaches_itself, e)
    go false e None at h further = let no : false ≡ true = sym (ap (λ b. b || tests (parts_of (slice_get types id.0))) e ∙ ap (λ o. tests (parts_of o)) at) ∙ h in cc
    go false e (Some entry) at h further =
        let some : tests (parts entry.kind) ≡ true = sym (ap (λ b. b || tests (parts_of (slice_get types id.0))) e ∙ ap (λ o. tests (parts_of o)) at) ∙ h in
        let found = any-found (passes (finds_within types test n)) (parts entry.kind) some in
        on found.1 entry at found.0 found.2 found.3 further
found-within types test (suc n) ty h = (ty, reaches_itself, h)

-- a test is passed by what the type reaches
pub finds_reached : (types : List TypeDef) (test : WitType → Bool) (ty : WitType) → is_deeper types 100 ty ≡ false → finds types test ty ≡ true → (part : WitType) × Reaches types ty part × (test part ≡ true)
unfolding finds
finds_reached types test ty low h = found-within types test 100 ty h

-- and what the type reaches is found
pub reached_found : (types : List TypeDef) (test : WitType → Bool) (ty part : WitType) → is_deeper types 100 ty ≡ false → Reaches types ty part → test part ≡ true → finds types test ty ≡ true
unfolding finds
reached_found types test ty part low reaches h = reached-within types test 100 low reaches h

-- 3. What a function uses

-- a shallow table has no deep type, whatever the id
pub shallow_low : (types : List TypeDef) (ty : WitType) → are_shallow types ≡ true → is_deeper types 100 ty ≡ false
unfolding are_shallow is_shallow
shallow_low types (Id id) shallow = go (slice_get types id.0) refl
  where
    go : (o : Option TypeDef) → slice_get types id.0 ≡ o → is_deeper types 100 (Id id) ≡ false
    go None at = ap (λ o. is_any_deeper types 99 (parts_of o)) at
    go (Some t) at =
        let entry : is_shallow types t ≡ true = all_at (is_shallow types) types id.0 t shallow at in
        ap (λ o. is_any_deeper types 99 (parts_of o)) at ∙ not-true (is_any_deeper types 99 (parts t.kind)) entry
shallow_low types _ shallow = refl

is-at : (type : TypeId) (part : WitType) → is_at type.0 part ≡ true → part ≡ Id type
is-at type (Id id) h = ap (λ (n : ℕ). Id (record { 0 = n })) (eqb-true id.0 type.0 h)
is-at type _ h = absurd (cc)

-- a type of the table that a function uses is reached from one of its types, which stand among these
pub uses_reached : (r : Resolve) (world : World) (type : TypeId) → are_shallow r.types ≡ true → uses r world type.0 ≡ true → IsReachedFrom r.types (function_types r world) (Id type)
uses_reached r world type shallow h =
    let found = any-found (finds r.types (is_at type.0)) (function_types r world) h in
    let reached = finds_reached r.types (is_at type.0) found.1 (shallow_low r.types found.1 shallow) found.3 in
    record { root = found.1; is_root = contained-at (function_types r world) found.0 found.1 found.2; reached = subst (Reaches r.types found.1) (is-at type reached.0 reached.2) reached.1 }

-- and a function uses what is reached from one of its types
pub reached_uses : (r : Resolve) (world : World) (type : TypeId) → are_shallow r.types ≡ true → IsReachedFrom r.types (function_types r world) (Id type) → uses r world type.0 ≡ true
reached_uses r world type shallow from =
    any-contained (finds r.types (is_at type.0)) (function_types r world) from.root from.is_root
    (reached_found r.types (is_at type.0) from.root (Id type) (shallow_low r.types from.root shallow) from.reached (eq-eqb type.0 type.0 refl))

pub same-truth : (a b : Bool) → (a ≡ true → b ≡ true) → (b ≡ true → a ≡ true) → a ≡ b
same-truth true b f g = sym (f refl)
same-truth false true f g = g refl
same-truth false false f g = refl

either-true : (a b : Bool) → (a || b) ≡ true → (a ≡ true) ⊎ (b ≡ true)
either-true true b h = inl refl
either-true false b h = inr h

-- the facts of a named type tell whether a function of the world uses it
pub used_is : (r : Resolve) (id : WorldId) (world : World) (type : TypeId) (info : TypeInfo) → are_shallow r.types ≡ true → slice_get r.worlds id.0 ≡ Some world → IsNamed r.types type → IsInfoOf r id type info
    → is_used info ≡ uses r world type.0
unfolding world_roots
used_is r id world type info shallow found named facts = same-truth (is_used info) (uses r world type.0) here there
  where
    roots : world_roots r id ≡ roots_of_world r (Some world)
    roots = ap (roots_of_world r) found

    all : Roots
    all = roots_of_world r (Some world)

    here : is_used info ≡ true → uses r world type.0 ≡ true
    here h =
        elim (either-true info.owned info.borrowed h) [
          | inl o ↦ let from = subst (λ (rs : Roots). IsReachedFrom r.types rs.owned (Id type)) roots (facts.owned.0 o).1 in
              reached_uses r world type shallow (record { root = from.root; is_root = Contains-append_right all.borrowed all.owned from.root from.is_root; reached = from.reached })
          | inr b ↦ let from = subst (λ (rs : Roots). IsReachedFrom r.types rs.borrowed (Id type)) roots (facts.borrowed.0 b).1 in
              reached_uses r world type shallow (record { root = from.root; is_root = Contains-append_left all.borrowed all.owned from.root from.is_root; reached = from.reached })
        ]

    there : uses r world type.0 ≡ true → is_used info ≡ true
    there h =
        let from = uses_reached r world type shallow h in
        elim (Contains-append_cases all.borrowed all.owned from.root from.is_root) [
          | inl b ↦ or_right info.owned info.borrowed (facts.borrowed.1 (named, subst (λ (rs : Roots). IsReachedFrom r.types rs.borrowed (Id type)) (sym roots) (record { root = from.root; is_root = b; reached = from.reached })))
          | inr o ↦ or_left info.owned info.borrowed (facts.owned.1 (named, subst (λ (rs : Roots). IsReachedFrom r.types rs.owned (Id type)) (sym roots) (record { root = from.root; is_root = o; reached = from.reached })))
        ]

pub reaches_through : {types : List TypeDef} {from middle ty : WitType} → Reaches types from middle → Reaches types middle ty → Reaches types from ty
reaches_through reaches_itself after = after
reaches_through (reaches_by names rest) after = reaches_by names (reaches_through rest after)

-- what a type that a function uses reaches is used too
pub reached_from : (types : List TypeDef) (roots : List WitType) (ty part : WitType) → IsReachedFrom types roots ty → Reaches types ty part → IsReachedFrom types roots part
reached_from types roots ty part from reaches = record { root = from.root; is_root = from.is_root; reached = reaches_through from.reached reaches }
