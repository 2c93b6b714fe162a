-- When a printed type is that of a shape in a file of these items, whatever other names the file has for it.
use Rattle.std.specs.Prelude.{◌≡◌, true, false, List, [], ◌∷◌, length, map, Option, None, Some}
use Rattle.rust_tree.specs.declared.flags_item.FlagsItem.{FlagsItem}
use Rattle.rust_tree.specs.declared.item.Item.{Item}
use Rattle.rust_tree.specs.declared.item.FnParam.{FnParam}
use Rattle.rust_tree.specs.declared.type_expr.Primitive.TheVariants as prim
use Rattle.rust_tree.specs.declared.type_expr.TypeExpr.{TypeExpr, TypeExpr-F, out-TypeExpr}
use Rattle.rust_tree.specs.declared.type_expr.TypeExpr.TheVariants as type
use Rattle.rust_tree.specs.declared.type_item.StructItem.{StructItem}
use Rattle.rust_tree.specs.declared.type_item.TypeItem.{TypeItem}
use Rattle.rust_tree.specs.declared.type_item.TypeItem.TheVariants.{Enum, Flags, Struct, Variant}
use Rattle.wit_layout.specs.Tree.{Scalar}
use Rattle.wrapper_meaning.specs.Numbers.{flags_width}
use Rattle.wrapper_meaning.specs.Shape.{Shape, Shapes, is_nothing}
use Rattle.wrapper_meaning.specs.Shape.Shape.{cases, fields, flags, scalar, text, tuple}
use Rattle.wrapper_meaning.specs.Shape.Shapes.{more, none}
use Rattle.wrapper_values.specs.Flags.{repr_bits}
use Rattle.wrapper_values.specs.Typed.{definition_in, unaliased}
use Rattle.wrapper_faithful.specs.Arguments.{unlent}

-- a scalar is printed as its primitive; no shape is a scalar that is a handle
abbrev pub scalar_type : Scalar → TypeExpr
scalar_type Scalar.bool = type.Primitive prim.Bool
scalar_type Scalar.u8 = type.Primitive prim.U8
scalar_type Scalar.u16 = type.Primitive prim.U16
scalar_type Scalar.u32 = type.Primitive prim.U32
scalar_type Scalar.u64 = type.Primitive prim.U64
scalar_type Scalar.s8 = type.Primitive prim.I8
scalar_type Scalar.s16 = type.Primitive prim.I16
scalar_type Scalar.s32 = type.Primitive prim.I32
scalar_type Scalar.s64 = type.Primitive prim.I64
scalar_type Scalar.f32 = type.Primitive prim.F32
scalar_type Scalar.f64 = type.Primitive prim.F64
scalar_type Scalar.char = type.Primitive prim.Char
scalar_type Scalar.handle = type.Unit

-- the payloads of the cases of a type of the file, which an enum's cases have not
abbrev pub item_payloads : Option TypeItem → Option (List (Option TypeExpr))
item_payloads (Some (Enum e)) = Some (map (λ c. None) e.cases)
item_payloads (Some (Variant v)) = Some (map (λ c. c.ty) v.cases)
item_payloads _ = None

-- a side of a result is the payload, or `()` where that is left out
abbrev pub IsSide : TypeExpr → Option TypeExpr → Type 0
IsSide ty None = ty ≡ type.Unit
IsSide ty (Some payload) = ty ≡ payload

module _ (items : List Item) where
  -- the cases of a type, which is no alias, have these payloads
  abbrev pub HavePayloads : TypeExpr-F TypeExpr → List (Option TypeExpr) → Type 0
  HavePayloads (TypeExpr-F.Optional ty) payloads = payloads ≡ None ∷ Some ty ∷ []
  HavePayloads (TypeExpr-F.Result ok err) payloads = (x : Option TypeExpr) × (y : Option TypeExpr) × (payloads ≡ x ∷ y ∷ []) × IsSide ok x × IsSide err y
  HavePayloads l payloads = item_payloads (definition_in items l) ≡ Some payloads

  abbrev mutual
    -- a text is a `String`, a tuple one of types that its parts are printed as, and a record a struct of the file whose fields have such types,
    -- in order. Cases are those of an option or a result, or of an enum or a variant of the file. Flags are a flags type of the file with as
    -- many members, held by as many bits
    pub IsPrintedAs : Shape → TypeExpr → Type 0
    IsPrintedAs (scalar s) ty = unaliased items ty ≡ scalar_type s
    IsPrintedAs text ty = unaliased items ty ≡ type.String
    IsPrintedAs (tuple ts) ty = (types : List TypeExpr) × (unaliased items ty ≡ type.Tuple types) × ArePrintedAs ts types
    IsPrintedAs (fields ts) ty = (s : StructItem) × (definition_in items (out-TypeExpr (unaliased items ty)) ≡ Some (Struct s)) × ArePrintedAs ts (map (λ f. f.ty) s.fields)
    IsPrintedAs (cases ts) ty = (payloads : List (Option TypeExpr)) × HavePayloads (out-TypeExpr (unaliased items ty)) payloads × ArePrintedCases ts payloads
    IsPrintedAs (flags n) ty =
        (f : FlagsItem) × (definition_in items (out-TypeExpr (unaliased items ty)) ≡ Some (Flags f)) × (length f.members ≡ n) × (repr_bits f.repr ≡ flags_width n)
    IsPrintedAs _ ty = ⊥

    pub ArePrintedAs : Shapes → List TypeExpr → Type 0
    ArePrintedAs none [] = Unit {0}
    ArePrintedAs none (_ ∷ _) = ⊥
    ArePrintedAs (more t ts) [] = ⊥
    ArePrintedAs (more t ts) (ty ∷ types) = IsPrintedAs t ty × ArePrintedAs ts types

    -- each case has a payload that is printed so, or none where that is nothing
    pub ArePrintedCases : Shapes → List (Option TypeExpr) → Type 0
    ArePrintedCases none [] = Unit {0}
    ArePrintedCases none (_ ∷ _) = ⊥
    ArePrintedCases (more t ts) [] = ⊥
    ArePrintedCases (more t ts) (None ∷ payloads) = (is_nothing t ≡ true) × ArePrintedCases ts payloads
    ArePrintedCases (more t ts) (Some ty ∷ payloads) = (is_nothing t ≡ false) × IsPrintedAs t ty × ArePrintedCases ts payloads

  -- what gives nothing is printed as `()`
  abbrev pub IsPrintedResult : Option Shape → TypeExpr → Type 0
  IsPrintedResult None ty = unaliased items ty ≡ type.Unit
  IsPrintedResult (Some t) ty = IsPrintedAs t ty

  abbrev pub ArePrintedParams : Shapes → List FnParam → Type 0
  ArePrintedParams ts params = ArePrintedAs ts (map (λ p. p.ty) params)

  -- the type of each parameter is lent of one that is printed so
  abbrev pub ArePrintedLent : Shapes → List FnParam → Type 0
  ArePrintedLent ts params = ArePrintedAs ts (map (λ p. unlent p.ty) params)
