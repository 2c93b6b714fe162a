-- What a kind takes in memory where a pointer has 2 ^ w bytes, by what the types that it names take.
use Rattle.std.specs.Prelude.{ℕ, List, [], map, length, Option, Some}
use Rattle.wit_model.specs.declared.types.WitType.{WitType}
use Rattle.wit_model.specs.declared.types.TypeDefKind.{TypeDefKind}
use Rattle.wit_model.specs.declared.types.TypeDefKind.TheVariants as kind
use Rattle.wit_model.specs.Parts.{parts}
use Rattle.wit_layout.specs.Extent.{Extent, extent, places, greatest, record_extent, fixed_extent, payload_place, variant_extent, flags_extent}
use Rattle.wit_layout.specs.Sizes.{pointer_and_length}

-- how many cases a kind has
abbrev pub case_count : TypeDefKind → ℕ
case_count (kind.Option _) = 2
case_count (kind.Result _ _) = 2
case_count (kind.Variant members) = length members
case_count (kind.Enum members) = length members
case_count _ = 0

-- what its parts take, each in its place
abbrev pub part_extents : (Option WitType → Extent) → TypeDefKind → List Extent
part_extents f kind = map f (parts kind)

abbrev pub kind_extent : ℕ → (Option WitType → Extent) → TypeDefKind → Extent
kind_extent w f (kind.Alias ty) = f (Some ty)
kind_extent w f (kind.Handle _) = extent 2 4
kind_extent w f (kind.List _) = pointer_and_length w
kind_extent w f (kind.Map _ _) = pointer_and_length w
kind_extent w f (kind.FixedLengthList element n) = fixed_extent (f (Some element)) n
kind_extent w f (kind.Tuple members) = record_extent (part_extents f (kind.Tuple members))
kind_extent w f (kind.Option payload) = variant_extent 2 (greatest (part_extents f (kind.Option payload)))
kind_extent w f (kind.Result ok err) = variant_extent 2 (greatest (part_extents f (kind.Result ok err)))
kind_extent w f (kind.Record members) = record_extent (part_extents f (kind.Record members))
kind_extent w f (kind.Variant members) = variant_extent (length members) (greatest (part_extents f (kind.Variant members)))
kind_extent w f (kind.Enum members) = variant_extent (length members) (greatest (part_extents f (kind.Enum members)))
kind_extent w f (kind.Flags members) = flags_extent (length members)
kind_extent w f kind.Resource = extent 2 4
kind_extent w f (kind.Future _) = extent 2 4
kind_extent w f (kind.Stream _) = extent 2 4
kind_extent w f kind.Unknown = extent 2 4

-- where the payload of a kind with cases stands; nothing else has one, and an alias keeps no place of its own
abbrev pub kind_payload : (Option WitType → Extent) → TypeDefKind → ℕ
kind_payload f (kind.Option payload) = payload_place 2 (greatest (part_extents f (kind.Option payload)))
kind_payload f (kind.Result ok err) = payload_place 2 (greatest (part_extents f (kind.Result ok err)))
kind_payload f (kind.Variant members) = payload_place (length members) (greatest (part_extents f (kind.Variant members)))
kind_payload f (kind.Enum members) = payload_place (length members) (greatest (part_extents f (kind.Enum members)))
kind_payload f _ = 0

-- where the fields stand, if it has any of its own
abbrev pub kind_offsets : (Option WitType → Extent) → TypeDefKind → List ℕ
kind_offsets f (kind.Map k v) = places (part_extents f (kind.Map k v)) 0
kind_offsets f (kind.Tuple members) = places (part_extents f (kind.Tuple members)) 0
kind_offsets f (kind.Record members) = places (part_extents f (kind.Record members)) 0
kind_offsets f _ = []
