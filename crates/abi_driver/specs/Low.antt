-- Which records have few bytes, and which values stand low: all their bytes are among the first 2^31 - 1, where pointers have 8 bytes, and so
-- where they have 4.
use Rattle.std.specs.Prelude.{◌≡◌, ◌<◌, ◌+◌, ◌^◌, ℕ, false, List, length, Some, slice_get, slice_index}
use Rattle.wit_model.specs.Size.{bytes_at}
use Rattle.wit_model.specs.declared.size.ArchitectureSize.{ArchitectureSize}
use Rattle.wit_model.specs.declared.types.TypeDef.{TypeDef}
use Rattle.wit_model.specs.declared.types.WitType.{WitType}
use Rattle.wit_layout.specs.Sizes.{elem_size, field_offsets, payload_offset}
use Rattle.wit_layout.specs.Told.{is_alias}
use Rattle.wit_layout.specs.Tree.{record_of, tree_at}
use Rattle.wrapper_meaning.specs.Layout.{layout}
use Rattle.wrapper_meaning.specs.Shape.{Shape, Shapes}
use Rattle.wrapper_meaning.specs.Shape.Shapes.{none, more}

-- a record of values of these types has at most 2^31 - 1 bytes
abbrev pub IsSmallRecord : List TypeDef → List WitType → Type 0
IsSmallRecord types tys = elem_size 3 (record_of types tys) < 2 ^ 31

-- a value at an offset ends low
abbrev pub EndsLow : Shape → ArchitectureSize → Type 0
EndsLow t offset = bytes_at offset 8 + elem_size 3 (layout t) < 2 ^ 31

-- whichever of them stands there
abbrev pub EachEndsLow : Shapes → ArchitectureSize → Type 0
EachEndsLow none offset = Unit {0}
EachEndsLow (more t ts) offset = EndsLow t offset × EachEndsLow ts offset

-- an entry of the table that stands at an offset has a part of this number, and it begins low
pub record HasLowPart (types : List TypeDef) (id nth : ℕ) (offset : ArchitectureSize) : Type 0 where
  pub entry : TypeDef
  pub stands : slice_get types id ≡ Some entry
  pub own : is_alias entry.kind ≡ false
  pub within : nth < length (field_offsets 3 (tree_at types id))
  pub low : bytes_at offset 8 + slice_index (field_offsets 3 (tree_at types id)) nth < 2 ^ 31

-- and its payloads begin low
pub record HasLowPayload (types : List TypeDef) (id : ℕ) (offset : ArchitectureSize) : Type 0 where
  pub entry : TypeDef
  pub stands : slice_get types id ≡ Some entry
  pub own : is_alias entry.kind ≡ false
  pub low : bytes_at offset 8 + payload_offset 3 (tree_at types id) < 2 ^ 31
