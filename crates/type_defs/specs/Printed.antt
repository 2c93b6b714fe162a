-- How a WIT type that is no entry of the table is printed: a scalar or a text. An error context is refused before it is printed.
use Rattle.wit_model.specs.declared.types.WitType.{WitType}
use Rattle.wit_model.specs.declared.types.WitType.TheVariants as wit
use Rattle.rust_tree.specs.declared.type_expr.Primitive.TheVariants as prim
use Rattle.rust_tree.specs.declared.type_expr.TypeExpr.{TypeExpr}
use Rattle.rust_tree.specs.declared.type_expr.TypeExpr.TheVariants as type

abbrev pub printed_type : WitType → TypeExpr
printed_type wit.Bool = type.Primitive prim.Bool
printed_type wit.U8 = type.Primitive prim.U8
printed_type wit.U16 = type.Primitive prim.U16
printed_type wit.U32 = type.Primitive prim.U32
printed_type wit.U64 = type.Primitive prim.U64
printed_type wit.S8 = type.Primitive prim.I8
printed_type wit.S16 = type.Primitive prim.I16
printed_type wit.S32 = type.Primitive prim.I32
printed_type wit.S64 = type.Primitive prim.I64
printed_type wit.F32 = type.Primitive prim.F32
printed_type wit.F64 = type.Primitive prim.F64
printed_type wit.Char = type.Primitive prim.Char
printed_type wit.String = type.String
printed_type _ = type.Unit
