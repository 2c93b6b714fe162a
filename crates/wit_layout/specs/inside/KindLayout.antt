-- What the layout of a kind is, by the layouts of the entries of the table before it.
use Rattle.std.specs.Prelude.{◌^◌, ◌≤◌, List, Option, None, Some}
use Rattle.wit_model.specs.declared.types.TypeDefKind.{TypeDefKind}
use Rattle.wit_layout.specs.declared.type_layout.TypeLayout.{TypeLayout}
use Rattle.wit_layout.specs.inside.Kind.{kind_extent, kind_payload, kind_offsets}
use Rattle.wit_layout.specs.inside.Stored.{seen_payload, IsStored}
use Rattle.wit_layout.specs.Told.{IsPairOf, ArePairsOf}

-- none where it has more than 2^31 - 1 bytes
abbrev pub IsKindLayout : List TypeLayout → TypeDefKind → Option TypeLayout → Type 0
IsKindLayout layouts kind None = 2 ^ 31 ≤ (kind_extent 3 (seen_payload 3 layouts) kind).bytes
IsKindLayout layouts kind (Some layout) =
    IsStored (Some layout.extent) (λ w. kind_extent w (seen_payload w layouts) kind)
    × IsPairOf layout.payload (λ w. kind_payload (seen_payload w layouts) kind)
    × ArePairsOf layout.offsets (λ w. kind_offsets (seen_payload w layouts) kind)
