-- How a type is printed in the owned mode: as a part of a definition, as a result, and as a parameter that is handed over.
use Rattle.std.specs.Prelude.{ℕ, zero, suc, List, Option, None, Some, map, slice_get}
use Rattle.wit_model.specs.declared.name.Name.{Name}
use Rattle.wit_model.specs.declared.types.TypeDef.{TypeDef}
use Rattle.wit_model.specs.declared.types.TypeDefKind.{TypeDefKind}
use Rattle.wit_model.specs.declared.types.TypeDefKind.TheVariants as kind
use Rattle.wit_model.specs.declared.types.WitType.{WitType}
use Rattle.wit_model.specs.declared.types.WitType.TheVariants as wit
use Rattle.rust_tree.specs.declared.type_expr.TypeExpr.{TypeExpr}
use Rattle.rust_tree.specs.declared.type_expr.TypeExpr.TheVariants as type
use Rattle.rust_tree.specs.Ident.{type_ident}
use Rattle.type_defs.specs.Paths.{local_path}
use Rattle.type_defs.specs.Printed.{printed_type}

-- a payload; one that is left out is printed as `()`
abbrev pub payload_type : (WitType → TypeExpr) → Option WitType → TypeExpr
payload_type printed None = type.Unit
payload_type printed (Some ty) = printed ty

-- `::core::result::Result<T, E>`, of its payloads
abbrev pub result_type : (WitType → TypeExpr) → (ok err : Option WitType) → TypeExpr
result_type printed ok err = type.Result (payload_type printed ok) (payload_type printed err)

-- an unnamed type is printed by its kind; other kinds have no unnamed types so far
abbrev pub unnamed_type : (WitType → TypeExpr) → TypeDefKind → TypeExpr
unnamed_type printed (kind.Alias ty) = printed ty
unnamed_type printed (kind.Tuple parts) = type.Tuple (map printed parts)
unnamed_type printed (kind.Option ty) = type.Optional (printed ty)
unnamed_type printed (kind.Result ok err) = result_type printed ok err
unnamed_type printed _ = type.Unit

-- a named type is printed by its path from the module that holds the definition; so far that is the root, for all
abbrev pub entry_type : (WitType → TypeExpr) → TypeDefKind → Option Name → TypeExpr
entry_type printed kind None = unnamed_type printed kind
entry_type printed kind (Some name) = type.Path (local_path (type_ident name))

abbrev pub found_type : (WitType → TypeExpr) → Option TypeDef → TypeExpr
found_type printed None = type.Unit
found_type printed (Some entry) = entry_type printed entry.kind entry.name

-- a type with at most so many unnamed types in one another
abbrev pub type_within : List TypeDef → ℕ → WitType → TypeExpr
type_within types zero (wit.Id id) = type.Unit
type_within types (suc levels) (wit.Id id) = found_type (type_within types levels) (slice_get types id.0)
type_within types _ ty = printed_type ty

-- since ids go down from a type to its parts, there are at most as many as the id's number, and one
abbrev pub levels_of : WitType → ℕ
levels_of (wit.Id id) = suc id.0
levels_of _ = 0

unfoldable pub part_type : List TypeDef → WitType → TypeExpr
part_type types ty = type_within types (levels_of ty) ty

-- of a function's result; without one it answers `()`
abbrev pub printed_result : List TypeDef → Option WitType → TypeExpr
printed_result types answer = payload_type (part_type types) answer
