-- The types that a world lists are places of the table.
use Rattle.std.proofs.Common.{◌≡◌, ℕ, true, ◌&&◌, nat_lt, [], ◌∷◌, length, None, Some, refl}
use Rattle.std.specs.Prelude.{slice_get}
use Rattle.std.specs.List.{list_all}
use Rattle.std.proofs.lemmas.Bool.{and_from, and_parts}
use Rattle.wit_model.specs.declared.resolve.Resolve.{Resolve}
use Rattle.wit_model.specs.declared.world.World.{World}
use Rattle.wit_model.specs.declared.world.WorldItem.TheVariants as entry
use Rattle.wit_model.specs.IndexRange.{item_in_range, key_in_range, listed_in_range, world_in_range, first_out_of_range}
use Rattle.wit_model.specs.WellFormed.{IsWellFormed, first_fault}
use Rattle.wit_model.proofs.InRange.{neither, passes_at, none_out_of_range}
use Rattle.type_defs.specs.ListedTypes.{Entries, listed_types, types_in}

pub world-in : (r : Resolve) (k : ℕ) (world : World) → first_fault r ≡ None → slice_get r.worlds k ≡ Some world → world_in_range r world ≡ true
unfolding first_out_of_range
world-in r k world h e = passes_at _ (world_in_range r) r.worlds k world (neither _ _ (neither _ _ (none_out_of_range r h)).1).1 e

types-within : (r : Resolve) (entries : Entries) → list_all (λ l. key_in_range r l.0 && item_in_range r l.1) entries ≡ true → list_all (λ type. nat_lt type.0 (length r.types)) (types_in entries) ≡ true
unfolding item_in_range
types-within r [] h = refl
types-within r ((k, entry.Function f) ∷ entries) h = types-within r entries (and_parts _ (list_all (λ l. key_in_range r l.0 && item_in_range r l.1) entries) h).1
types-within r ((k, entry.Interface i) ∷ entries) h = types-within r entries (and_parts _ (list_all (λ l. key_in_range r l.0 && item_in_range r l.1) entries) h).1
types-within r ((k, entry.Named id) ∷ entries) h =
    let parts = and_parts (key_in_range r k && nat_lt id.0 (length r.types)) (list_all (λ l. key_in_range r l.0 && item_in_range r l.1) entries) h in
    and_from (nat_lt id.0 (length r.types)) (list_all (λ type. nat_lt type.0 (length r.types)) (types_in entries)) (and_parts (key_in_range r k) (nat_lt id.0 (length r.types)) parts.0).1 (types-within r entries parts.1)

pub listed-within : (r : Resolve) (k : ℕ) (world : World) → IsWellFormed r → slice_get r.worlds k ≡ Some world → list_all (λ type. nat_lt type.0 (length r.types)) (listed_types world) ≡ true
unfolding world_in_range listed_in_range
listed-within r k world checked found =
    let range = world-in r k world checked.unbroken found in
    types-within r world.imports (and_parts _ (listed_in_range r world.imports) (and_parts _ (listed_in_range r world.exports) range).0).1
