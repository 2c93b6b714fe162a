-- What a type reaches is listed where the parts of each are.
use Rattle.std.proofs.Common.{◌≡◌, ℕ, zero, suc, ◌+◌, ◌<◌, ◌≤◌, ◌∙◌, Bool, true, false, cond, ◌&&◌, ◌||◌, nat_eq, inl, inr, List, [], ◌∷◌, ◌++◌, length, take, get_or, Option, Some, None, is_none, refl, sym, ap, subst, add-zero, arith}
use Rattle.std.specs.List.{enumerate_from, list_all, list_any, slice_get}
use Rattle.std.proofs.lemmas.Bool.{and_from, and_parts, lt-ltb}
use Rattle.std.proofs.lemmas.List.Folds.{list_any-append}
use Rattle.std.proofs.lemmas.Option.{slice_get-get_or, slice_get_within}
use Rattle.wit_model.specs.declared.name.TypeId.{TypeId}
use Rattle.wit_model.specs.declared.types.WitType.{WitType}
use Rattle.wit_model.specs.declared.types.WitType.TheVariants.{Id}
use Rattle.wit_model.specs.declared.types.TypeDef.{TypeDef}
use Rattle.wit_model.specs.declared.resolve.Resolve.{Resolve}
use Rattle.wit_model.specs.declared.world.World.{World}
use Rattle.wit_model.specs.Parts.{parts}
use Rattle.wit_model.specs.Reaches.{Reaches, reaches_by, reaches_itself}
use Rattle.wit_model.specs.TypeOrder.{type_below, payload_below, parts_below, GoesDown}
use Rattle.wit_model.proofs.AllLemmas.{all_at}
use Rattle.wit_model.proofs.BelowLemmas.{id_below, type_below_more}
use Rattle.wit_model.proofs.ListLemmas.{at_end}
use Rattle.type_defs.specs.ListedTypes.{listed_types}
use Rattle.type_defs.specs.Levels.{is_any_deeper, is_deeper, parts_of, passes}
use Rattle.type_defs.specs.Listing.{AreCovered, are_listed, are_listed_well, covered_by, covers, depth, is_covered, is_covered_whole, keeps_listing, lists, may_list}
use Rattle.type_defs.specs.FunctionTypes.{functions_pass, passes_or_none}
use Rattle.type_defs.proofs.CutLemmas.{take_at}
use Rattle.type_defs.proofs.FunctionTypeLemmas.{all-same, functions-more, functions-same}
use Rattle.std.proofs.lemmas.List.{nil_from_length}

-- an id of any table
abbrev pub first-id : TypeId
first-id = record { 0 = 0 }

pub or-cond : (a b : Bool) → cond a true b ≡ (b || (a || false))
or-cond true true = refl
or-cond true false = refl
or-cond false true = refl
or-cond false false = refl

-- what the set has, with one id more
pub lists-more : (listed : List TypeId) (n : ℕ) (id : TypeId) (nth : ℕ) {before after : Bool} → slice_get listed n ≡ Some id → before ≡ lists (take n listed) nth
    → after ≡ cond (nat_eq id.0 nth) true before → after ≡ lists (take (n + 1) listed) nth
lists-more listed n id nth {before = before} at b a =
    a ∙ or-cond (nat_eq id.0 nth) before ∙ ap (λ x. x || (nat_eq id.0 nth || false)) b
    ∙ sym (ap (λ ids. lists ids nth) (take_at listed n id at) ∙ list_any-append (λ i. nat_eq i.0 nth) (take n listed) (id ∷ []))

or-false : (a b : Bool) → (a || b) ≡ false → (a ≡ false) × (b ≡ false)
or-false true b h = cc
or-false false b h = (refl, h)

-- no type behind the end of a table is covered
or-past : (known : List Bool) (types : List TypeDef) (n : ℕ) → length known ≡ length types → slice_get types n ≡ None → get_or known n false ≡ false
or-past [] types n count none = refl
or-past (b ∷ known) [] n count none = absurd (omega (arith, count))
or-past (b ∷ known) (t ∷ types) zero count none = absurd (cc)
or-past (b ∷ known) (t ∷ types) (suc n) count none = or-past known types n (omega (arith, count)) none

-- a type that is covered before the table is gone up is none of its entries
outside-covered : (types : List TypeDef) (listed : List TypeId) (ty : WitType) → covered_by [] (Some ty) ≡ true → is_covered_whole types listed ty ≡ true
outside-covered types listed (Id id) h = absurd (cc)
outside-covered types listed ty h = refl

module _ (types : List TypeDef) (down : GoesDown types) where
  parts-low : (n bound : ℕ) → ((ty : WitType) → type_below bound ty ≡ true → is_deeper types n ty ≡ false) → (ps : List (Option WitType)) → list_all (λ part. payload_below bound part) ps ≡ true → is_any_deeper types n ps ≡ false
  unfolding payload_below
  parts-low n bound low [] h = refl
  parts-low n bound low (None ∷ ps) h = parts-low n bound low ps h
  parts-low n bound low (Some ty ∷ ps) h =
      let both = and_parts (type_below bound ty) (list_all (λ part. payload_below bound part) ps) h in
      ap (λ b. b || is_any_deeper types n ps) (low ty both.0) ∙ parts-low n bound low ps both.1

  entry-low : (n : ℕ) (id : TypeId) → ((ty : WitType) → type_below id.0 ty ≡ true → is_deeper types n ty ≡ false) → (o : Option TypeDef) → slice_get types id.0 ≡ o → is_deeper types (suc n) (Id id) ≡ false
  unfolding parts_below
  entry-low n id low None at = ap (λ o. is_any_deeper types n (parts_of o)) at
  entry-low n id low (Some t) at = ap (λ o. is_any_deeper types n (parts_of o)) at ∙ parts-low n id.0 low (parts t.kind) (down id.0 t at)

  -- no more entries than a bound lie on a way down from a type below it
  below-low : (n : ℕ) (ty : WitType) → type_below n ty ≡ true → is_deeper types n ty ≡ false
  below-low zero (Id id) below = absurd (omega (arith, id_below zero id below))
  below-low (suc n) (Id id) below =
      let within : id.0 ≤ n = omega (arith, id_below (suc n) id below) in
      entry-low n id (λ ty lower. below-low n ty (type_below_more id.0 n ty within lower)) (slice_get types id.0) refl
  below-low zero ty below = refl
  below-low (suc n) ty below = refl

  -- nor as many as the table has, and one more
  known-low : (id : TypeId) (o : Option TypeDef) → slice_get types id.0 ≡ o → is_deeper types (depth types) (Id id) ≡ false
  unfolding type_below
  known-low id None at = ap (λ o. is_any_deeper types (length types) (parts_of o)) at
  known-low id (Some t) at = let within = slice_get_within types id.0 t at in below-low (depth types) (Id id) (lt-ltb id.0 (depth types) (omega (arith, within)))

  pub whole-low : (ty : WitType) → is_deeper types (depth types) ty ≡ false
  whole-low (Id id) = known-low id (slice_get types id.0) refl
  whole-low ty = refl

module _ (types : List TypeDef) (down : GoesDown types) (listed : List TypeId) (known : List Bool) (are : AreCovered types listed known) where
  type-covered : (n : ℕ) (ty : WitType) → type_below (length known) ty ≡ true → is_deeper types n ty ≡ false → is_covered types listed n ty ≡ covered_by known (Some ty)
  type-covered n (Id id) below low = are id (get_or known id.0 false) (slice_get-get_or known id.0 false (id_below (length known) id below)) n low
  type-covered zero ty below low = refl
  type-covered (suc n) ty below low = refl

  parts-covered : (n : ℕ) (ps : List (Option WitType)) → list_all (λ part. payload_below (length known) part) ps ≡ true → is_any_deeper types n ps ≡ false
      → list_all (passes_or_none (is_covered types listed n)) ps ≡ list_all (covered_by known) ps
  unfolding payload_below
  parts-covered n [] h low = refl
  parts-covered n (None ∷ ps) h low = parts-covered n ps h low
  parts-covered n (Some ty ∷ ps) h low =
      let below = and_parts (type_below (length known) ty) (list_all (λ part. payload_below (length known) part) ps) h in
      let both = or-false (is_deeper types n ty) (is_any_deeper types n ps) low in
      ap (λ b. b && list_all (passes_or_none (is_covered types listed n)) ps) (type-covered n ty below.0 both.0) ∙ ap (λ b. covered_by known (Some ty) && b) (parts-covered n ps below.1 both.1)

  module _ (id : ℕ) (entry : TypeDef) (at : slice_get types id ≡ Some entry) (count : length known ≡ id) where
    abbrev covered : Bool
    covered = (is_none entry.name || lists listed id) && list_all (covered_by known) (parts entry.kind)

    entry-covered : (n : ℕ) (of : TypeId) → of.0 ≡ id → is_deeper types n (Id of) ≡ false → is_covered types listed n (Id of) ≡ covered
    unfolding parts_below
    entry-covered zero of is low = cc
    entry-covered (suc n) of is low =
        let there : slice_get types of.0 ≡ Some entry = ap (slice_get types) is ∙ at in
        let deeper : is_any_deeper types n (parts entry.kind) ≡ false = sym (ap (λ o. is_any_deeper types n (parts_of o)) there) ∙ low in
        let below = subst (λ k. list_all (λ part. payload_below k part) (parts entry.kind) ≡ true) (sym count) (down id entry at) in
        ap (covers (is_covered types listed n) listed of.0) there
        ∙ ap (λ k. (is_none entry.name || lists listed k) && list_all (passes_or_none (is_covered types listed n)) (parts entry.kind)) is
        ∙ ap (λ b. (is_none entry.name || lists listed id) && b) (parts-covered n (parts entry.kind) below deeper)

    pub covered_more : AreCovered types listed (known ++ covered ∷ [])
    covered_more of b e n low =
        elim (at_end known covered of.0 b e) [
          | inl before ↦ are of b before n low
          | inr last ↦ entry-covered n of (last.0 ∙ count) low ∙ last.1
        ]

  -- of any type, once the whole table is known
  module _ (count : length known ≡ length types) where
    id-covered : (id : TypeId) (entry : Option TypeDef) → slice_get types id.0 ≡ entry → covered_by known (Some (Id id)) ≡ is_covered_whole types listed (Id id)
    id-covered id None at =
        or-past known types id.0 count at ∙ sym (ap (covers (is_covered types listed (length types)) listed id.0) at)
    id-covered id (Some t) at =
        let within : id.0 < length known = subst (λ n. id.0 < n) (sym count) (slice_get_within types id.0 t at) in
        sym (are id (get_or known id.0 false) (slice_get-get_or known id.0 false within) (depth types) (whole-low types down (Id id)))

    pub covered-whole : (ty : WitType) → covered_by known (Some ty) ≡ is_covered_whole types listed ty
    covered-whole (Id id) = id-covered id (slice_get types id.0) refl
    covered-whole ty = refl

    pub listed-whole : (nth : ℕ) (world : World)
        → (list_all (λ id. may_list nth (slice_get types id.0) && covered_by known (Some (Id id))) listed && functions_pass (λ ty. covered_by known (Some ty)) world)
        ≡ (are_listed types nth listed && functions_pass (is_covered_whole types listed) world)
    listed-whole nth world =
        ap (λ b. b && functions_pass (λ ty. covered_by known (Some ty)) world)
        (all-same (λ id. may_list nth (slice_get types id.0) && covered_by known (Some (Id id))) (λ id. may_list nth (slice_get types id.0) && is_covered_whole types listed (Id id))
        (λ id. ap (λ b. may_list nth (slice_get types id.0) && b) (covered-whole (Id id))) listed)
        ∙ ap (λ b. are_listed types nth listed && b) (functions-same (λ ty. covered_by known (Some ty)) (is_covered_whole types listed) covered-whole world)

-- a world that lists nothing, and whose functions name no entry of the table, keeps its listing
pub nothing-listed : (types : List TypeDef) (nth : ℕ) (world : World) → length (listed_types world) ≡ 0 → functions_pass (λ ty. covered_by [] (Some ty)) world ≡ true → keeps_listing types nth world ≡ true
unfolding keeps_listing
nothing-listed types nth world none outside =
    let listed : listed_types world ≡ [] = nil_from_length (listed_types world) none in
    and_from (are_listed types nth (listed_types world)) (functions_pass (is_covered_whole types (listed_types world)) world) (ap (are_listed types nth) listed)
    (functions-more (λ ty. covered_by [] (Some ty)) (is_covered_whole types (listed_types world)) (outside-covered types (listed_types world)) world outside)

-- what is known of a world whose listing is kept

pub any-false : {A : Type 0} (test : A → Bool) (xs : List A) (n : ℕ) (x : A) → list_any test xs ≡ false → slice_get xs n ≡ Some x → test x ≡ false
any-false test [] n x h e = absurd (cc)
any-false test (y ∷ xs) zero x h e = let is : y ≡ x = cc in ap test (sym is) ∙ (or-false (test y) (list_any test xs) h).0
any-false test (y ∷ xs) (suc n) x h e = any-false test xs n x (or-false (test y) (list_any test xs) h).1 e

-- a type with a name is listed, where it is reached from one that is covered
pub listed-reached : (types : List TypeDef) (listed : List TypeId) (n : ℕ) {ty : WitType} (id : TypeId) (t : TypeDef) → is_deeper types n ty ≡ false
    → is_covered types listed n ty ≡ true → Reaches types ty (Id id) → slice_get types id.0 ≡ Some t → is_none t.name ≡ false → lists listed id.0 ≡ true
listed-reached types listed zero id t low covered reaches_itself at named = cc
listed-reached types listed (suc n) id t low covered reaches_itself at named =
    let here = and_parts (is_none t.name || lists listed id.0) _ (sym (ap (covers (is_covered types listed n) listed id.0) at) ∙ covered) in
    sym (ap (λ b. b || lists listed id.0) named) ∙ here.0
listed-reached types listed zero id t low covered (reaches_by names rest) at named =
    let wrong : is_deeper types zero (Id names.id) ≡ false = subst (λ w. is_deeper types zero w ≡ false) names.is_entry low in cc
listed-reached types listed (suc n) id t low covered (reaches_by {part = part} names rest) at named =
    let low_there : is_deeper types (suc n) (Id names.id) ≡ false = subst (λ w. is_deeper types (suc n) w ≡ false) names.is_entry low in
    let covered_there : is_covered types listed (suc n) (Id names.id) ≡ true = subst (λ w. is_covered types listed (suc n) w ≡ true) names.is_entry covered in
    let lows : is_any_deeper types n (parts names.entry.kind) ≡ false = sym (ap (λ o. is_any_deeper types n (parts_of o)) names.entry_at) ∙ low_there in
    let covereds = (and_parts (is_none names.entry.name || lists listed names.id.0) (list_all (passes_or_none (is_covered types listed n)) (parts names.entry.kind)) (sym (ap (covers (is_covered types listed n) listed names.id.0) names.entry_at) ∙ covered_there)).1 in
    listed-reached types listed n id t (any-false (passes (is_deeper types n)) (parts names.entry.kind) names.nth (Some part) lows names.part_at)
    (all_at (passes_or_none (is_covered types listed n)) (parts names.entry.kind) names.nth (Some part) covereds names.part_at) rest at named

pub all-numbered : {A : Type 0} (test : ℕ × A → Bool) (xs : List A) (n k : ℕ) (x : A) → list_all test (enumerate_from n xs) ≡ true → slice_get xs k ≡ Some x → test (n + k, x) ≡ true
all-numbered test [] n k x h e = absurd (cc)
all-numbered test (y ∷ xs) n zero x h e =
    let is : y ≡ x = cc in
    rw (add-zero n) (ap (λ z. test (n, z)) (sym is) ∙ (and_parts (test (n, y)) (list_all test (enumerate_from (n + 1) xs)) h).0)
all-numbered test (y ∷ xs) n (suc k) x h e =
    let next : n + 1 + k ≡ n + suc k = omega arith in
    ap (λ m. test (m, x)) (sym next) ∙ all-numbered test xs (n + 1) k x (and_parts (test (n, y)) (list_all test (enumerate_from (n + 1) xs)) h).1 e

-- the listing of one world
pub world-listing : (r : Resolve) (k : ℕ) (world : World) → are_listed_well r ≡ true → slice_get r.worlds k ≡ Some world → keeps_listing r.types k world ≡ true
unfolding are_listed_well
world-listing r k world h e =
    let same : 0 + k ≡ k = omega arith in
    ap (λ n. keeps_listing r.types n world) (sym same) ∙ all-numbered (λ entry. keeps_listing r.types entry.0 entry.1) r.worlds 0 k world h e
