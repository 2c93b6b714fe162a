-- To which type of the table a chain of aliases leads.
use Rattle.std.specs.Prelude.{ℕ, zero, suc, List, Option, None, Some, slice_get, unwrap_or}
use Rattle.std.specs.Option.{option_map, option_and_then}
use Rattle.wit_model.specs.declared.name.TypeId.{TypeId}
use Rattle.wit_model.specs.declared.types.WitType.TheVariants.{Id}
use Rattle.wit_model.specs.declared.types.TypeDefKind.{TypeDefKind}
use Rattle.wit_model.specs.declared.types.TypeDefKind.TheVariants as kind
use Rattle.wit_model.specs.declared.types.TypeDef.{TypeDef}

-- the type of the table that a kind is another name of, if it is one
abbrev pub aliased : TypeDefKind → Option TypeId
aliased (kind.Alias (Id id)) = Some id
aliased _ = None

abbrev pub next_alias : List TypeDef → TypeId → Option TypeId
next_alias types id = option_and_then (λ t. aliased t.kind) (slice_get types id.0)

-- the type behind at most so many aliases
abbrev pub behind_aliases : List TypeDef → ℕ → TypeId → TypeId
behind_aliases types zero id = id
behind_aliases types (suc most) id = unwrap_or (option_map (behind_aliases types most) (next_alias types id)) id

-- the type behind all aliases; since ids go down along them, there are at most as many as the id's number
unfoldable pub dealias : List TypeDef → TypeId → TypeId
dealias types id = behind_aliases types id.0 id
