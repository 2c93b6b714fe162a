-- For which table the sizes were made, and which of its types is too large for them.
use Rattle.std.specs.Prelude.{◌≡◌, ℕ, ◌^◌, ◌<◌, ◌≤◌, ◌⊎◌, Bool, true, nat_le, nat_lt, List, length, map, take, position, Option, Some}
use Rattle.std.specs.List.{list_all}
use Rattle.wit_model.specs.declared.types.WitType.{WitType}
use Rattle.wit_model.specs.declared.types.TypeDef.{TypeDef}
use Rattle.wit_model.specs.TypeOrder.{type_below}
use Rattle.wit_layout.specs.declared.fault.LayoutFault.{LayoutFault}
use Rattle.wit_layout.specs.declared.fault.LayoutFault.TheVariants.{TooLarge, OutOfMemory}
use Rattle.wit_layout.specs.declared.running_offset.RunningOffset.{RunningOffset}
use Rattle.wit_layout.specs.declared.size_align.SizeAlign.{SizeAlign}
use Rattle.wit_layout.specs.Extent.{Extent, end, record_extent}
use Rattle.wit_layout.specs.Tree.{trees}
use Rattle.wit_layout.specs.Sizes.{elem_size}
use Rattle.wit_layout.specs.inside.Stored.{seen_type, AreLayoutsOf}

-- the sizes are those of the types of this table
abbrev pub IsFilledFor : SizeAlign → List TypeDef → Type 0
IsFilledFor sizes types = AreLayoutsOf sizes.layouts types (length types)

-- a type that is a primitive or a place of the table
abbrev pub has_size : SizeAlign → WitType → Bool
has_size sizes ty = type_below (length sizes.layouts) ty

-- each of some types is one that has a size
abbrev pub have_sizes : SizeAlign → List WitType → Bool
have_sizes sizes members = list_all (has_size sizes) members

-- what each of some types takes
abbrev pub members_seen : ℕ → SizeAlign → List WitType → List Extent
members_seen w sizes members = map (seen_type w sizes.layouts) members

-- whether a record of some types has at most 2^31 - 1 bytes where a pointer has 8
abbrev pub fits_in_record : SizeAlign → List WitType → Bool
fits_in_record sizes members = nat_lt (record_extent (members_seen 3 sizes members)).bytes (2 ^ 31)

-- two types, or a record that is not too large
abbrev pub IsMeasurable : SizeAlign → List WitType → Type 0
IsMeasurable sizes members = (length members ≤ 2) ⊎ (fits_in_record sizes members ≡ true)

-- and the same of where the last of them ends
abbrev pub EndsInRoom : SizeAlign → List WitType → Type 0
EndsInRoom sizes members = (length members ≤ 2) ⊎ (end (members_seen 3 sizes members) 0 < 2 ^ 31)

-- so many of some types have been gone along, and that is where the last of them ends in a record
abbrev pub IsBehind : SizeAlign → List WitType → RunningOffset → Type 0
IsBehind sizes members at =
    (at.end.at4 ≡ end (members_seen 2 sizes (take at.nth members)) 0) × (at.end.at8 ≡ end (members_seen 3 sizes (take at.nth members)) 0)

-- the first type that has more than 2^31 - 1 bytes where a pointer has 8, and so more than where it has 4
unfoldable pub first_too_large : List TypeDef → Option ℕ
first_too_large types = position (λ t. nat_le (2 ^ 31) (elem_size 3 t)) (trees types)

-- the refusal of a table
abbrev pub IsLayoutFaultOf : List TypeDef → LayoutFault → Type 0
IsLayoutFaultOf types (TooLarge id) = first_too_large types ≡ Some id.0
IsLayoutFaultOf types OutOfMemory = Unit {0}
