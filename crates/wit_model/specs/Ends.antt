-- Which ends the chains of aliases of a table have, found for all its types at once.
use Rattle.std.specs.Prelude.{◌≡◌, List, length, Option, None, Some, slice_get, slice_index_or, unwrap_or}
use Rattle.std.specs.Option.{option_map}
use Rattle.wit_model.specs.declared.name.TypeId.{TypeId}
use Rattle.wit_model.specs.declared.types.TypeDefKind.{TypeDefKind}
use Rattle.wit_model.specs.declared.types.TypeDef.{TypeDef}
use Rattle.wit_model.specs.declared.alias_ends.AliasEnds.{AliasEnds}
use Rattle.wit_model.specs.Dealias.{aliased, dealias}
use Rattle.wit_model.specs.TypeOrder.{GoesDown}

-- the type behind all aliases, by the ends that are known of the entries before it
abbrev pub end_of : List (Option TypeId) → TypeId → TypeId
end_of ends id = unwrap_or (slice_index_or ends id.0 None) id

abbrev pub end_of_kind : List (Option TypeId) → TypeDefKind → Option TypeId
end_of_kind ends kind = option_map (end_of ends) (aliased kind)

-- the ends of aliases, where no end stands for the type itself
abbrev pub AreEnds : List TypeDef → List (Option TypeId) → Type 0
AreEnds types ends = (id : TypeId) (end : Option TypeId) → slice_get ends id.0 ≡ Some end → unwrap_or end id ≡ dealias types id

-- a table that goes down, and the ends of all its types
pub record HasEnds (types : List TypeDef) (all : AliasEnds) : Type 0 where
  pub down : GoesDown types
  pub count : length all.ends ≡ length types
  pub are_ends : AreEnds types all.ends
