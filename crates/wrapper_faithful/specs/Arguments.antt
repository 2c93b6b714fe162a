-- What the printed types of an import's parameters say of its arguments.
use Rattle.std.specs.Prelude.{◌≡◌, List, Some, map}
use Rattle.std.specs.List.{AllZip}
use Rattle.rust_tree.specs.declared.item.FnParam.{FnParam}
use Rattle.rust_tree.specs.declared.item.Item.{Item}
use Rattle.rust_tree.specs.declared.type_expr.TypeExpr.{TypeExpr, TypeExpr-F, fold-TypeExpr}
use Rattle.rust_tree.specs.declared.type_expr.TypeExpr.TheVariants as type
use Rattle.wrapper_data.specs.declared.value.RustValue.{RustValue}
use Rattle.wrapper_values.specs.Owning.{lent_value}
use Rattle.wrapper_values.specs.Typed.{typed}

-- one level of a type, with the type of an owner in the place of each reference: `&T` is lent of a `T`, and `&str` of a text
abbrev pub unlent_level : TypeExpr-F TypeExpr → TypeExpr
unlent_level (TypeExpr-F.Primitive p) = type.Primitive p
unlent_level TypeExpr-F.Unit = type.Unit
unlent_level TypeExpr-F.Str = type.String
unlent_level TypeExpr-F.String = type.String
unlent_level (TypeExpr-F.Ref ty) = ty
unlent_level (TypeExpr-F.Path path) = type.Path path
unlent_level (TypeExpr-F.Tuple types) = type.Tuple types
unlent_level (TypeExpr-F.Optional ty) = type.Optional ty
unlent_level (TypeExpr-F.Array ty n) = type.Array ty n
unlent_level (TypeExpr-F.Result ok err) = type.Result ok err

abbrev pub unlent : TypeExpr → TypeExpr
unlent = fold-TypeExpr TypeExpr unlent_level

-- a value is what is lent of one of the type
pub record IsArgument (items : List Item) (ty : TypeExpr) (r : RustValue) : Type 0 where
  pub owner : RustValue
  pub typed : typed items owner (unlent ty) ≡ Some owner
  pub lent : lent_value owner ≡ r

-- one for each parameter
abbrev pub AreArguments : List Item → List FnParam → List RustValue → Type 0
AreArguments items params rs = AllZip (IsArgument items) (map (λ p. p.ty) params) rs
