-- What is lent of each form of a type, and that a part of a definition is lent of nothing else.
use Rattle.std.proofs.Common.{◌≡◌, ℕ, zero, suc, List, [], ◌∷◌, map, Option, None, Some, refl, sym, ap, ap₂, ◌∙◌}
use Rattle.std.specs.Prelude.{slice_get}
use Rattle.wit_model.specs.declared.name.Name.{Name}
use Rattle.wit_model.specs.declared.types.TypeDef.{TypeDef}
use Rattle.wit_model.specs.declared.types.TypeDefKind.{TypeDefKind}
use Rattle.wit_model.specs.declared.types.TypeDefKind.TheVariants as kind
use Rattle.wit_model.specs.declared.types.WitType.{WitType}
use Rattle.wit_model.specs.declared.types.WitType.TheVariants as wit
use Rattle.rust_tree.specs.declared.path.Path.{Path}
use Rattle.rust_tree.specs.declared.type_expr.Primitive.{Primitive}
use Rattle.rust_tree.specs.declared.type_expr.Primitive.TheVariants as prim
use Rattle.rust_tree.specs.declared.type_expr.TypeExpr.{TypeExpr, TypeExpr-F, fold-roll-TypeExpr, map-TypeExpr, roll-TypeExpr}
use Rattle.rust_tree.specs.declared.type_expr.TypeExpr.TheVariants as type
use Rattle.rust_tree.specs.declared.type_expr.TypeExpr.TheVariants.{rolls-Optional, rolls-Path, rolls-Primitive, rolls-Ref, rolls-Result, rolls-Str, rolls-String, rolls-Tuple, rolls-Unit}
use Rattle.type_defs.specs.PartType.{entry_type, found_type, levels_of, part_type, payload_type, type_within, unnamed_type}
use Rattle.type_defs.specs.Printed.{printed_type}
use Rattle.wrapper_faithful.specs.Arguments.{unlent, unlent_level}

unlent-roll : (l : TypeExpr-F TypeExpr) (ty : TypeExpr) → roll-TypeExpr l ≡ ty → unlent ty ≡ unlent_level (map-TypeExpr TypeExpr TypeExpr unlent l)
unlent-roll l ty e = ap unlent (sym e) ∙ fold-roll-TypeExpr TypeExpr unlent_level l

pub unlent-ref : (ty : TypeExpr) → unlent (type.Ref ty) ≡ unlent ty
unlent-ref ty = unlent-roll (TypeExpr-F.Ref ty) (type.Ref ty) (rolls-Ref ty)

pub unlent-str : unlent type.Str ≡ type.String
unlent-str = unlent-roll TypeExpr-F.Str type.Str rolls-Str

pub unlent-path : (path : Path) → unlent (type.Path path) ≡ type.Path path
unlent-path path = unlent-roll (TypeExpr-F.Path path) (type.Path path) (rolls-Path path)

pub unlent-unit : unlent type.Unit ≡ type.Unit
unlent-unit = unlent-roll TypeExpr-F.Unit type.Unit rolls-Unit

pub unlent-tuple : (types : List TypeExpr) → unlent (type.Tuple types) ≡ type.Tuple (map unlent types)
unlent-tuple types = unlent-roll (TypeExpr-F.Tuple types) (type.Tuple types) (rolls-Tuple types)

pub unlent-optional : (ty : TypeExpr) → unlent (type.Optional ty) ≡ type.Optional (unlent ty)
unlent-optional ty = unlent-roll (TypeExpr-F.Optional ty) (type.Optional ty) (rolls-Optional ty)

pub unlent-result : (ok err : TypeExpr) → unlent (type.Result ok err) ≡ type.Result (unlent ok) (unlent err)
unlent-result ok err = unlent-roll (TypeExpr-F.Result ok err) (type.Result ok err) (rolls-Result ok err)

unlent-string : unlent type.String ≡ type.String
unlent-string = unlent-roll TypeExpr-F.String type.String rolls-String

unlent-primitive : (p : Primitive) → unlent (type.Primitive p) ≡ type.Primitive p
unlent-primitive p = unlent-roll (TypeExpr-F.Primitive p) (type.Primitive p) (rolls-Primitive p)

-- a payload that is left out is lent of `()`
pub unlent-payload : (lent : WitType → TypeExpr) (payload : Option WitType) → unlent (payload_type lent payload) ≡ payload_type (λ ty. unlent (lent ty)) payload
unlent-payload lent None = unlent-unit
unlent-payload lent (Some ty) = refl

-- a scalar or a text is lent of itself, and so is each part of a definition
pub unlent-printed : (ty : WitType) → unlent (printed_type ty) ≡ printed_type ty
unlent-printed wit.Bool = unlent-primitive prim.Bool
unlent-printed wit.U8 = unlent-primitive prim.U8
unlent-printed wit.U16 = unlent-primitive prim.U16
unlent-printed wit.U32 = unlent-primitive prim.U32
unlent-printed wit.U64 = unlent-primitive prim.U64
unlent-printed wit.S8 = unlent-primitive prim.I8
unlent-printed wit.S16 = unlent-primitive prim.I16
unlent-printed wit.S32 = unlent-primitive prim.I32
unlent-printed wit.S64 = unlent-primitive prim.I64
unlent-printed wit.F32 = unlent-primitive prim.F32
unlent-printed wit.F64 = unlent-primitive prim.F64
unlent-printed wit.Char = unlent-primitive prim.Char
unlent-printed wit.String = unlent-string
unlent-printed wit.ErrorContext = unlent-unit
unlent-printed (wit.Id id) = unlent-unit

module _ (p : WitType → TypeExpr) (same : (ty : WitType) → unlent (p ty) ≡ p ty) where
  unlent-parts : (tys : List WitType) → map unlent (map p tys) ≡ map p tys
  unlent-parts [] = refl
  unlent-parts (ty ∷ tys) = ap₂ (λ e es. e ∷ es) (same ty) (unlent-parts tys)

  unlent-side : (payload : Option WitType) → unlent (payload_type p payload) ≡ payload_type p payload
  unlent-side None = unlent-unit
  unlent-side (Some ty) = same ty

  unlent-unnamed : (k : TypeDefKind) → unlent (unnamed_type p k) ≡ unnamed_type p k
  unlent-unnamed (kind.Alias ty) = same ty
  unlent-unnamed (kind.Tuple tys) = unlent-tuple (map p tys) ∙ ap type.Tuple (unlent-parts tys)
  unlent-unnamed (kind.Option ty) = unlent-optional (p ty) ∙ ap type.Optional (same ty)
  unlent-unnamed (kind.Result ok err) = unlent-result (payload_type p ok) (payload_type p err) ∙ ap₂ type.Result (unlent-side ok) (unlent-side err)
  unlent-unnamed _ = unlent-unit

  unlent-entry : (k : TypeDefKind) (name : Option Name) → unlent (entry_type p k name) ≡ entry_type p k name
  unlent-entry k None = unlent-unnamed k
  unlent-entry k (Some name) = unlent-path _

  unlent-found : (entry : Option TypeDef) → unlent (found_type p entry) ≡ found_type p entry
  unlent-found None = unlent-unit
  unlent-found (Some entry) = unlent-entry entry.kind entry.name

unlent-within : (types : List TypeDef) (n : ℕ) (ty : WitType) → unlent (type_within types n ty) ≡ type_within types n ty
unlent-within types zero (wit.Id id) = unlent-unit
unlent-within types (suc n) (wit.Id id) = unlent-found (type_within types n) (unlent-within types n) (slice_get types id.0)
unlent-within types zero wit.Bool = unlent-printed wit.Bool
unlent-within types zero wit.U8 = unlent-printed wit.U8
unlent-within types zero wit.U16 = unlent-printed wit.U16
unlent-within types zero wit.U32 = unlent-printed wit.U32
unlent-within types zero wit.U64 = unlent-printed wit.U64
unlent-within types zero wit.S8 = unlent-printed wit.S8
unlent-within types zero wit.S16 = unlent-printed wit.S16
unlent-within types zero wit.S32 = unlent-printed wit.S32
unlent-within types zero wit.S64 = unlent-printed wit.S64
unlent-within types zero wit.F32 = unlent-printed wit.F32
unlent-within types zero wit.F64 = unlent-printed wit.F64
unlent-within types zero wit.Char = unlent-printed wit.Char
unlent-within types zero wit.String = unlent-printed wit.String
unlent-within types zero wit.ErrorContext = unlent-printed wit.ErrorContext
unlent-within types (suc n) wit.Bool = unlent-printed wit.Bool
unlent-within types (suc n) wit.U8 = unlent-printed wit.U8
unlent-within types (suc n) wit.U16 = unlent-printed wit.U16
unlent-within types (suc n) wit.U32 = unlent-printed wit.U32
unlent-within types (suc n) wit.U64 = unlent-printed wit.U64
unlent-within types (suc n) wit.S8 = unlent-printed wit.S8
unlent-within types (suc n) wit.S16 = unlent-printed wit.S16
unlent-within types (suc n) wit.S32 = unlent-printed wit.S32
unlent-within types (suc n) wit.S64 = unlent-printed wit.S64
unlent-within types (suc n) wit.F32 = unlent-printed wit.F32
unlent-within types (suc n) wit.F64 = unlent-printed wit.F64
unlent-within types (suc n) wit.Char = unlent-printed wit.Char
unlent-within types (suc n) wit.String = unlent-printed wit.String
unlent-within types (suc n) wit.ErrorContext = unlent-printed wit.ErrorContext

pub unlent-part : (types : List TypeDef) (ty : WitType) → unlent (part_type types ty) ≡ part_type types ty
unfolding part_type
unlent-part types ty = unlent-within types (levels_of ty) ty
