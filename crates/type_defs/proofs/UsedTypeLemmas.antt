-- The types that are defined, one listed type at a time.
use Rattle.std.proofs.Common.{◌≡◌, ◌∙◌, ℕ, ◌<◌, Bool, true, false, cond, ◌&&◌, ◌||◌, List, [], ◌∷◌, ◌++◌, Option, Some, None, filter, is_some, length, refl, sym, ap}
use Rattle.std.specs.List.{flat_map, slice_get}
use Rattle.std.proofs.lemmas.Bool.{and_parts}
use Rattle.std.proofs.lemmas.Option.{slice_get_within}
use Rattle.wit_model.specs.declared.name.TypeId.{TypeId}
use Rattle.wit_model.specs.declared.name.WorldId.{WorldId}
use Rattle.wit_model.specs.declared.resolve.Resolve.{Resolve}
use Rattle.wit_model.specs.declared.types.TypeDef.{TypeDef}
use Rattle.wit_model.specs.declared.types.TypeDefKind.{TypeDefKind}
use Rattle.wit_model.specs.declared.types.TypeDefKind.TheVariants as kind
use Rattle.wit_model.specs.declared.types.WitType.TheVariants.{Id}
use Rattle.wit_model.specs.declared.world.World.{World}
use Rattle.wit_model.specs.Parts.{parts}
use Rattle.wit_model.specs.Reaches.{Reaches, reaches_by, reaches_itself}
use Rattle.wit_model.proofs.AllLemmas.{all_at}
use Rattle.type_facts.specs.declared.info.TypeInfo.{TypeInfo}
use Rattle.type_facts.specs.Facts.{IsInfoOf, IsNamed}
use Rattle.type_defs.specs.declared.type_opts.TypeOpts.{TypeOpts}
use Rattle.type_defs.specs.FunctionTypes.{functions_pass}
use Rattle.type_defs.specs.ListedTypes.{listed_types}
use Rattle.type_defs.specs.Listing.{are_listed, are_listed_well, is_covered_whole, keeps_listing, may_list, owns}
use Rattle.type_defs.specs.Levels.{are_shallow}
use Rattle.type_defs.specs.Modes.{is_always_defined, is_used, is_wanted}
use Rattle.type_defs.specs.PrintedTypes.{entry_at, entry_or_none}
use Rattle.type_defs.specs.Used.{is_always_entry, is_wanted_at, uses}
use Rattle.type_defs.proofs.ListingLemmas.{world-listing}
use Rattle.type_defs.proofs.UsedLemmas.{used_is}

-- what passes a filter, one element at a time
pub filtered : {A B : Type 0} (test : A → Bool) (g : A → List B) (xs : List A) → flat_map g (filter test xs) ≡ flat_map (λ x. cond (test x) (g x) []) xs
filtered test g [] = refl
filtered test g (x ∷ xs) = go (test x) refl (filtered test g xs)
  where
    go : (b : Bool) → test x ≡ b → flat_map g (filter test xs) ≡ flat_map (λ x. cond (test x) (g x) []) xs → flat_map g (filter test (x ∷ xs)) ≡ flat_map (λ x. cond (test x) (g x) []) (x ∷ xs)
    go true e rest = ap (λ b. flat_map g (cond b (x ∷ filter test xs) (filter test xs))) e ∙ ap (λ ys. g x ++ ys) rest ∙ sym (ap (λ b. cond b (g x) [] ++ flat_map (λ x. cond (test x) (g x) []) xs) e)
    go false e rest = ap (λ b. flat_map g (cond b (x ∷ filter test xs) (filter test xs))) e ∙ rest ∙ sym (ap (λ b. cond b (g x) [] ++ flat_map (λ x. cond (test x) (g x) []) xs) e)

-- a kind that is always defined names no types
always-bare : (k : TypeDefKind) → is_always_defined k ≡ true → parts k ≡ []
unfolding parts
always-bare (kind.Enum cases) e = refl
always-bare (kind.Flags members) e = refl
always-bare kind.Resource e = refl
always-bare _ e = absurd (cc)

bare-reaches : (types : List TypeDef) (type part : TypeId) (entry : TypeDef) → slice_get types type.0 ≡ Some entry → parts entry.kind ≡ [] → Reaches types (Id type) (Id part) → part.0 ≡ type.0
bare-reaches types type part entry at bare reaches_itself = refl
bare-reaches types type part entry at bare (reaches_by names rest) = cc

-- so it reaches itself alone
pub reaches-alone : (types : List TypeDef) (type part : TypeId) → is_always_entry (slice_get types type.0) ≡ true → Reaches types (Id type) (Id part) → part.0 ≡ type.0
reaches-alone types type part e reaches = go (slice_get types type.0) refl e
  where
    go : (o : Option TypeDef) → slice_get types type.0 ≡ o → is_always_entry o ≡ true → part.0 ≡ type.0
    go None at h = cc
    go (Some entry) at h = bare-reaches types type part entry at (always-bare entry.kind h) reaches

may-named : (r : Resolve) (k : ℕ) (id : TypeId) (o : Option TypeDef) → slice_get r.types id.0 ≡ o → may_list k (slice_get r.types id.0) ≡ true → IsNamed r.types id
may-named r k id None at h = let wrong : may_list k None ≡ true = sym (ap (may_list k) at) ∙ h in absurd (cc)
may-named r k id (Some t) at h =
    let may : may_list k (Some t) ≡ true = sym (ap (may_list k) at) ∙ h in
    record { entry = t; entry_at = at; named = (and_parts (is_some t.name) (owns k t.owner) may).0 }

-- a type that a world lists has a name
pub listed-named : (r : Resolve) (k : ℕ) (world : World) → are_listed_well r ≡ true → slice_get r.worlds k ≡ Some world → (n : ℕ) (id : TypeId) → slice_get (listed_types world) n ≡ Some id → IsNamed r.types id
unfolding keeps_listing
listed-named r k world well found n id at =
    let listed = listed_types world in
    let keep = and_parts (are_listed r.types k listed) (functions_pass (is_covered_whole r.types listed) world) (world-listing r k world well found) in
    let own = all_at (λ id. may_list k (slice_get r.types id.0) && is_covered_whole r.types listed (Id id)) listed n id keep.0 at in
    may-named r k id (slice_get r.types id.0) refl (and_parts (may_list k (slice_get r.types id.0)) (is_covered_whole r.types listed (Id id)) own).0

pub named-within : (types : List TypeDef) (id : TypeId) → IsNamed types id → id.0 < length types
named-within types id named = slice_get_within types id.0 named.entry named.entry_at

none-either : {A : Type 0} (b : Bool) → [] ≡ cond b (let xs : List A = [] in xs) []
none-either true = refl
none-either false = refl

-- the entry of a type that is defined by its facts, and of no other
pub wanted-entry : (opts : TypeOpts) (r : Resolve) (id : WorldId) (world : World) (type : TypeId) (info : TypeInfo) → are_shallow r.types ≡ true → slice_get r.worlds id.0 ≡ Some world → IsNamed r.types type → IsInfoOf r id type info
    → filter (λ t. is_wanted opts info t.kind) (entry_at r.types type) ≡ cond (is_wanted_at opts r world type.0) (entry_at r.types type) []
wanted-entry opts r id world type info shallow found named facts = go (slice_get r.types type.0)
  where
    used : is_used info ≡ uses r world type.0
    used = used_is r id world type info shallow found named facts

    go : (o : Option TypeDef) → filter (λ t. is_wanted opts info t.kind) (entry_or_none o) ≡ cond (is_always_entry o || (uses r world type.0 || opts.generate_unused_types)) (entry_or_none o) []
    go None = none-either (uses r world type.0 || opts.generate_unused_types)
    go (Some t) = ap (λ u. cond (is_always_defined t.kind || (u || opts.generate_unused_types)) (t ∷ []) []) used
