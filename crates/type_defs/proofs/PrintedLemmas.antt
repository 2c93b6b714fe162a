-- The printed types that are no entries of the table may stand in a tree.
use Rattle.std.proofs.Common.{◌≡◌, true}
use Rattle.wit_model.specs.declared.types.WitType.{WitType}
use Rattle.wit_model.specs.declared.types.WitType.TheVariants as wit
use Rattle.rust_tree.specs.declared.type_expr.Primitive.TheVariants as prim
use Rattle.rust_tree.specs.WellNamed.{is_named_type}
use Rattle.rust_tree.proofs.NamedTypeLemmas.{is_named-primitive, is_named-string, is_named-unit}
use Rattle.type_defs.specs.Printed.{printed_type}

pub type-named : (ty : WitType) → is_named_type (printed_type ty) ≡ true
type-named wit.Bool = is_named-primitive prim.Bool
type-named wit.U8 = is_named-primitive prim.U8
type-named wit.U16 = is_named-primitive prim.U16
type-named wit.U32 = is_named-primitive prim.U32
type-named wit.U64 = is_named-primitive prim.U64
type-named wit.S8 = is_named-primitive prim.I8
type-named wit.S16 = is_named-primitive prim.I16
type-named wit.S32 = is_named-primitive prim.I32
type-named wit.S64 = is_named-primitive prim.I64
type-named wit.F32 = is_named-primitive prim.F32
type-named wit.F64 = is_named-primitive prim.F64
type-named wit.Char = is_named-primitive prim.Char
type-named wit.String = is_named-string
type-named _ = is_named-unit
