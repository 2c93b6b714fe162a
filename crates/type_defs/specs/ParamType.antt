-- How the type of an imported function's parameter is printed, where types are owned: what reaches a text is lent.
use Rattle.std.specs.Prelude.{◌≡◌, ℕ, zero, suc, Bool, true, false, List, Option, None, Some, map, slice_get, if◌then◌else◌}
use Rattle.wit_model.specs.declared.name.Name.{Name}
use Rattle.wit_model.specs.declared.resolve.Resolve.{Resolve}
use Rattle.wit_model.specs.declared.types.TypeDef.{TypeDef}
use Rattle.wit_model.specs.declared.types.TypeDefKind.{TypeDefKind}
use Rattle.wit_model.specs.declared.types.TypeDefKind.TheVariants as kind
use Rattle.wit_model.specs.declared.types.WitType.{WitType}
use Rattle.wit_model.specs.declared.types.WitType.TheVariants as wit
use Rattle.wit_model.specs.Dealias.{dealias}
use Rattle.wit_model.specs.WellFormed.{IsWellFormed}
use Rattle.rust_tree.specs.declared.type_expr.TypeExpr.{TypeExpr}
use Rattle.rust_tree.specs.declared.type_expr.TypeExpr.TheVariants as type
use Rattle.rust_tree.specs.Ident.{type_ident}
use Rattle.type_facts.specs.declared.types.Types.{Types}
use Rattle.type_facts.specs.Facts.{IsAnalyzed}
use Rattle.type_facts.specs.Own.{is_string, own}
use Rattle.type_defs.specs.Finds.{finds}
use Rattle.type_defs.specs.Levels.{are_shallow}
use Rattle.type_defs.specs.PartType.{levels_of, part_type, result_type}
use Rattle.type_defs.specs.Paths.{local_path}
use Rattle.type_defs.specs.Printed.{printed_type}

-- it reaches a text or a list
abbrev pub has_list : List TypeDef → WitType → Bool
has_list types ty = finds types (λ part. (own types part).list) ty

-- another name of a text
abbrev pub is_text_alias : TypeDefKind → Bool
is_text_alias (kind.Alias ty) = is_string ty
is_text_alias _ = false

abbrev pub is_text_entry : Option TypeDef → Bool
is_text_entry None = false
is_text_entry (Some entry) = is_text_alias entry.kind

-- a text stands behind its aliases
abbrev pub is_text : List TypeDef → WitType → Bool
is_text types (wit.Id id) = is_text_entry (slice_get types (dealias types id).0)
is_text types ty = is_string ty

-- what reaches no text is printed as it is where it is handed over
abbrev pub param_by : List TypeDef → (WitType → TypeExpr) → WitType → TypeExpr
param_by types lent ty = if has_list types ty then lent ty else part_type types ty

-- an unnamed tuple, option or result is lent part by part; what an unnamed alias stands for is printed as a parameter would be
abbrev pub lent_unnamed : List TypeDef → (WitType → TypeExpr) → TypeDefKind → TypeExpr
lent_unnamed types lent (kind.Alias ty) = param_by types lent ty
lent_unnamed types lent (kind.Tuple parts) = type.Tuple (map lent parts)
lent_unnamed types lent (kind.Option ty) = type.Optional (lent ty)
lent_unnamed types lent (kind.Result ok err) = result_type lent ok err
lent_unnamed types lent _ = type.Unit

-- a named type is lent whole, whatever it reaches
abbrev pub lent_entry : List TypeDef → (WitType → TypeExpr) → TypeDefKind → Option Name → TypeExpr
lent_entry types lent kind None = lent_unnamed types lent kind
lent_entry types lent kind (Some name) = type.Ref (type.Path (local_path (type_ident name)))

abbrev pub lent_found : List TypeDef → (WitType → TypeExpr) → Option TypeDef → TypeExpr
lent_found types lent None = type.Unit
lent_found types lent (Some entry) = lent_entry types lent entry.kind entry.name

-- what is no text
abbrev pub lent_by : List TypeDef → (WitType → TypeExpr) → WitType → TypeExpr
lent_by types lent (wit.Id id) = lent_found types lent (slice_get types id.0)
lent_by types lent ty = printed_type ty

abbrev pub text_or : Bool → TypeExpr → TypeExpr
text_or is otherwise = if is then type.Ref type.Str else otherwise

-- a lent type with at most so many unnamed types in one another
abbrev pub lent_within : List TypeDef → ℕ → WitType → TypeExpr
lent_within types zero ty = text_or (is_text types ty) (printed_type ty)
lent_within types (suc levels) ty = text_or (is_text types ty) (lent_by types (lent_within types levels) ty)

-- a type that is lent, or a part of one; ids go down, as in a definition
unfoldable pub lent_type : List TypeDef → WitType → TypeExpr
lent_type types ty = lent_within types (levels_of ty) ty

abbrev pub param_type : List TypeDef → WitType → TypeExpr
param_type types ty = param_by types (lent_type types) ty

-- well-formed tables in which no way down is too long, and the facts of their types
pub record HasFacts (r : Resolve) (facts : Types) : Type 0 where
  pub checked : IsWellFormed r
  pub shallow : are_shallow r.types ≡ true
  pub analyzed : IsAnalyzed r facts
