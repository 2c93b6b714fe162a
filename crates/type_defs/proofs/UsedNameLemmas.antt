-- The named types that the functions of a world reach have names that a type may have.
use Rattle.std.proofs.Common.{◌≡◌, ℕ, zero, suc, true, ◌||◌, List, [], ◌∷◌, is_some, ap, subst, ◌∙◌, eqb, arith}
use Rattle.std.specs.List.{AllZip, Contains}
use Rattle.std.specs.Prelude.{Some, slice_get}
use Rattle.std.proofs.lemmas.Bool.{eqb-true, or_left, or_right}
use Rattle.wit_model.specs.declared.name.TypeId.{TypeId}
use Rattle.wit_model.specs.declared.name.WorldId.{WorldId}
use Rattle.wit_model.specs.declared.resolve.Resolve.{Resolve}
use Rattle.wit_model.specs.declared.types.TypeDef.{TypeDef}
use Rattle.wit_model.specs.declared.types.WitType.{WitType}
use Rattle.wit_model.specs.declared.world.World.{World}
use Rattle.wit_model.specs.Reaches.{reaches_itself}
use Rattle.rust_tree.specs.declared.type_item.TypeItem.{TypeItem}
use Rattle.type_defs.specs.declared.type_opts.TypeOpts.{TypeOpts}
use Rattle.type_defs.specs.Defined.{AreDefinitions, AreDefinitionsOf}
use Rattle.type_defs.specs.DefinedNames.{AreDefinable, IsNamedDefinition}
use Rattle.type_defs.specs.ListedTypes.{listed_types}
use Rattle.type_defs.specs.Listing.{lists}
use Rattle.type_defs.specs.Modes.{is_always_defined, is_used, is_wanted}
use Rattle.type_defs.specs.NamedParts.{HasNamedParts}
use Rattle.type_defs.specs.Used.{function_types, uses}
use Rattle.type_defs.proofs.UsedLemmas.{any-found, contained-at, reached_uses, used_is, uses_reached}

zip-at : {A B : Type 0} (R : A → B → Type 0) (xs : List A) (ys : List B) (x : A) → AllZip R xs ys → Contains xs x → (y : B) × R x y
zip-at R [] ys x z (k, below, e) = absurd (omega arith)
zip-at R (a ∷ xs) [] x z c = absurd z
zip-at R (a ∷ xs) (b ∷ ys) x z (zero, below, e) = (b, subst (λ a. R a b) e z.0)
zip-at R (a ∷ xs) (b ∷ ys) x z (suc k, below, e) = zip-at R xs ys x z.1 (k, omega arith, e)

lists-contained : (listed : List TypeId) (id : TypeId) → lists listed id.0 ≡ true → Contains listed id
lists-contained listed id h =
    let found = any-found (λ i. eqb i.0 id.0) listed h in
    let is : found.1 ≡ id = ap (λ (n : ℕ). (let i : TypeId = record { 0 = n } in i)) (eqb-true found.1.0 id.0 found.3) in
    subst (Contains listed) is (contained-at listed found.0 found.1 found.2)

-- an entry with a name that a function uses may be defined, since the world lists it, and so defines it
pub used-named : (opts : TypeOpts) (r : Resolve) (id : WorldId) (world : World) (items : List TypeItem) → AreDefinable opts r id world → AreDefinitions opts r id world items
    → (part : TypeId) (entry : TypeDef) → uses r world part.0 ≡ true → slice_get r.types part.0 ≡ Some entry → is_some entry.name ≡ true → IsNamedDefinition r.types part
used-named opts r id world items may defs part entry uses at named =
    let from = uses_reached r world part may.shallow uses in
    let listed : Contains (listed_types world) part = lists-contained (listed_types world) part (may.covered from.root from.is_root part entry from.reached at named) in
    let found = zip-at (AreDefinitionsOf opts r id) (listed_types world) defs.of_each part defs.defined listed in
    let facts = found.1.facts in
    let used : is_used found.1.info ≡ true = used_is r id world part found.1.info may.shallow may.found (record { entry = entry; entry_at = at; named = named }) facts ∙ uses in
    let asked : is_wanted opts found.1.info entry.kind ≡ true =
    or_right (is_always_defined entry.kind) (is_used found.1.info || opts.generate_unused_types) (or_left (is_used found.1.info) opts.generate_unused_types used) in
    may.named part entry found.1.info listed at facts asked

pub functions-named : (opts : TypeOpts) (r : Resolve) (id : WorldId) (world : World) (items : List TypeItem) → AreDefinable opts r id world → AreDefinitions opts r id world items
    → (ty : WitType) → Contains (function_types r world) ty → HasNamedParts r.types ty
functions-named opts r id world items may defs ty root part entry name reached at is =
    let used = reached_uses r world part may.shallow (record { root = ty; is_root = root; reached = reached }) in
    (used-named opts r id world items may defs part entry used at (ap is_some is)).reached part entry name reaches_itself at is
