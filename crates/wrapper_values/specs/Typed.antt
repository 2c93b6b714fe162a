-- Which values are those of a printed type, where the type may be one of the file, an alias, a record, a variant, an enum or a flags
-- type; or a tuple, an array, an option or a result.
use Rattle.std.specs.Prelude.{ℕ, zero, suc, ◌^◌, List, [], ◌∷◌, Option, None, Some, if◌then◌else◌, length, map, nat_eq, nat_lt, option_and_then, slice_get}
use Rattle.std.specs.Option.{option_map, option_or}
use Rattle.rust_tree.specs.declared.enum_item.EnumItem.{EnumItem}
use Rattle.rust_tree.specs.declared.flags_item.FlagsItem.{FlagsItem}
use Rattle.rust_tree.specs.declared.item.Item.{Item}
use Rattle.rust_tree.specs.declared.type_expr.TypeExpr.{TypeExpr, TypeExpr-F, out-TypeExpr}
use Rattle.rust_tree.specs.declared.type_expr.TypeExpr.TheVariants as type
use Rattle.rust_tree.specs.declared.type_item.TypeItem.{TypeItem}
use Rattle.rust_tree.specs.declared.type_item.TypeItem.TheVariants.{Alias, Variant}
use Rattle.rust_tree.specs.declared.variant_item.VariantCase.{VariantCase}
use Rattle.wrapper_data.specs.declared.value.RustValue.{RustValue, RustValue-F, fold-RustValue}
use Rattle.wrapper_data.specs.declared.value.RustValue.TheVariants as value
use Rattle.wrapper_values.specs.declared.state.Val.{Val}
use Rattle.wrapper_values.specs.declared.state.Val.TheVariants as val
use Rattle.wrapper_values.specs.Effect.{answer_of}
use Rattle.wrapper_values.specs.Enums.{enum_in}
use Rattle.wrapper_values.specs.Fields.{fields_in, root_name, type_named}
use Rattle.wrapper_values.specs.Flags.{flags_in, repr_bits}

-- types of the file

-- the definition of a type that is named by a path
abbrev pub definition_in : List Item → TypeExpr-F TypeExpr → Option TypeItem
definition_in items (TypeExpr-F.Path path) = option_and_then (type_named items) (root_name path)
definition_in items _ = None

abbrev pub target_in : Option TypeItem → Option TypeExpr
target_in (Some (Alias a)) = Some a.ty
target_in _ = None

-- the type that a type is another name of
abbrev pub target_of : List Item → TypeExpr → Option TypeExpr
target_of items ty = target_in (definition_in items (out-TypeExpr ty))

abbrev pub behind_one : (TypeExpr → TypeExpr) → TypeExpr → Option TypeExpr → TypeExpr
behind_one further ty None = ty
behind_one further ty (Some target) = further target

-- behind at most as many aliases as there are such items
abbrev pub behind : List Item → List Item → TypeExpr → TypeExpr
behind [] items ty = ty
behind (_ ∷ more) items ty = behind_one (behind more items) ty (target_of items ty)

-- a type behind all aliases of the file
abbrev pub unaliased : List Item → TypeExpr → TypeExpr
unaliased items ty = behind items items ty

-- the types of the parts of a tuple or record
abbrev pub part_types_in : List Item → TypeExpr-F TypeExpr → Option (List TypeExpr)
part_types_in items (TypeExpr-F.Tuple types) = Some types
part_types_in items l = option_map (map (λ f. f.ty)) (fields_in (definition_in items l))

-- values

-- the value of the Rust side that is passed for one of a plain type
abbrev pub plain_as : TypeExpr → Val → Option RustValue
plain_as ty v = option_and_then (λ r. r) (answer_of ty v)

-- a value without parts
abbrev pub leaf_of : {A : Type 0} → RustValue-F A → Option RustValue
leaf_of (RustValue-F.Bool b) = Some (value.Bool b)
leaf_of (RustValue-F.Num kind z) = Some (value.Num kind z)
leaf_of (RustValue-F.F32 bits) = Some (value.F32 bits)
leaf_of (RustValue-F.F64 bits) = Some (value.F64 bits)
leaf_of (RustValue-F.Char c) = Some (value.Char c)
leaf_of (RustValue-F.Buffer address len owned) = Some (value.Buffer address len owned)
leaf_of _ = None

-- a value, as one of a type
abbrev pub Typed : Type 0
Typed = TypeExpr → Option RustValue

-- each part of the type of its place
abbrev pub typed_each : List Typed → List TypeExpr → Option (List RustValue)
typed_each [] [] = Some []
typed_each [] (_ ∷ _) = None
typed_each (_ ∷ _) [] = None
typed_each (part ∷ parts) (ty ∷ types) = option_and_then (λ r. option_map (λ rs. r ∷ rs) (typed_each parts types)) (part ty)

-- each part of one type
abbrev pub typed_alike : TypeExpr → List Typed → Option (List RustValue)
typed_alike ty [] = Some []
typed_alike ty (part ∷ parts) = option_and_then (λ r. option_map (λ rs. r ∷ rs) (typed_alike ty parts)) (part ty)

-- the parts of an array, which are so many; and of a tuple or record
abbrev pub typed_parts : List Item → List Typed → TypeExpr-F TypeExpr → Option (List RustValue)
typed_parts items parts (TypeExpr-F.Array ty n) = if nat_eq (length parts) n then typed_alike ty parts else None
typed_parts items parts l = option_and_then (typed_each parts) (part_types_in items l)

-- a case of this number that has no payload, or `()`
abbrev pub typed_bare : ℕ → Option Typed → Option RustValue
typed_bare number None = Some (value.Case number None)
typed_bare number (Some payload) = option_map (λ r. value.Case number (Some r)) (payload type.Unit)

-- an option of a type: the case 0 without a payload, or with `()`; or the case 1, with a payload of the type
abbrev pub typed_option : ℕ → Option Typed → TypeExpr → Option RustValue
typed_option zero payload ty = typed_bare 0 payload
typed_option (suc zero) (Some payload) ty = option_map (λ r. value.Case 1 (Some r)) (payload ty)
typed_option _ _ ty = None

-- one of an enum's cases
abbrev pub typed_enum : ℕ → Option Typed → Option EnumItem → Option RustValue
typed_enum number payload None = None
typed_enum number payload (Some e) = if nat_lt number (length e.cases) then typed_bare number payload else None

-- a case with a payload of this type, which may be left out where it is `()`

abbrev pub typed_absent : ℕ → TypeExpr-F TypeExpr → Option RustValue
typed_absent number TypeExpr-F.Unit = Some (value.Case number None)
typed_absent number _ = None

abbrev pub typed_payload : ℕ → Option Typed → TypeExpr → Option RustValue
typed_payload number None ty = typed_absent number (out-TypeExpr ty)
typed_payload number (Some payload) ty = option_map (λ r. value.Case number (Some r)) (payload ty)

-- a result of two types
abbrev pub typed_result : ℕ → Option Typed → (ok err : TypeExpr) → Option RustValue
typed_result zero payload ok err = typed_payload 0 payload ok
typed_result (suc zero) payload ok err = typed_payload 1 payload err
typed_result _ payload ok err = None

-- a variant's case, with a payload where it has one
abbrev pub typed_by : ℕ → Option Typed → Option TypeExpr → Option RustValue
typed_by number payload None = typed_bare number payload
typed_by number payload (Some ty) = typed_payload number payload ty

abbrev pub typed_variant : ℕ → Option Typed → Option VariantCase → Option RustValue
typed_variant number payload None = None
typed_variant number payload (Some c) = typed_by number payload c.ty

-- a case of a type of the file
abbrev pub typed_defined : ℕ → Option Typed → Option TypeItem → Option RustValue
typed_defined number payload (Some (Variant v)) = typed_variant number payload (slice_get v.cases number)
typed_defined number payload t = typed_enum number payload (enum_in t)

abbrev pub typed_case : List Item → ℕ → Option Typed → TypeExpr-F TypeExpr → Option RustValue
typed_case items number payload (TypeExpr-F.Optional ty) = typed_option number payload ty
typed_case items number payload (TypeExpr-F.Result ok err) = typed_result number payload ok err
typed_case items number payload l = typed_defined number payload (definition_in items l)

-- flags, with none but the bits that hold them
abbrev pub typed_flags : ℕ → Option FlagsItem → Option RustValue
typed_flags bits None = None
typed_flags bits (Some f) = if nat_lt bits (2 ^ repr_bits f.repr) then Some (value.Bits bits) else None

abbrev pub typed_unit : TypeExpr-F TypeExpr → Option RustValue
typed_unit TypeExpr-F.Unit = Some value.Unit
typed_unit _ = None

-- one level of a value, with its parts, as one of a type that is no alias
abbrev pub typed_level : List Item → RustValue-F Typed → Typed
typed_level items (RustValue-F.Struct parts) ty = option_map value.Struct (typed_parts items parts (out-TypeExpr ty))
typed_level items (RustValue-F.Case number payload) ty = typed_case items number payload (out-TypeExpr ty)
typed_level items (RustValue-F.Bits bits) ty = typed_flags bits (flags_in (definition_in items (out-TypeExpr ty)))
typed_level items RustValue-F.Unit ty = typed_unit (out-TypeExpr ty)
typed_level items l ty = option_and_then (λ r. plain_as ty (val.Value r)) (leaf_of l)

abbrev pub typed : List Item → RustValue → Typed
typed items = fold-RustValue Typed (λ l ty. typed_level items l (unaliased items ty))

abbrev pub whole_as : List Item → TypeExpr → Val → Option RustValue
whole_as items ty (val.Value r) = typed items r ty
whole_as items ty _ = None

-- what a function of this printed type answers: no value for `()`
abbrev pub answer_in : List Item → TypeExpr → Val → Option (Option RustValue)
answer_in items ty v = option_or (answer_of (unaliased items ty) v) (option_map Some (whole_as items ty v))
