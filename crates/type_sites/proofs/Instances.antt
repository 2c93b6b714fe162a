-- A world with a record in a record, an alias of a tuple of such, and a variant in an option in a result: how it is printed, and which types
-- have sites.
use Rattle.std.proofs.Common.{◌≡◌, ℕ, false, List, [], ◌∷◌, map, Option, None, Some, refl, sym, subst, rules}
use Rattle.std.specs.Prelude.{codes}
use Rattle.wit_model.specs.Bytes.{Bytes}
use Rattle.wit_model.specs.Parts.{parts}
use Rattle.wit_model.specs.declared.function.Function.{Function}
use Rattle.wit_model.specs.declared.function.FunctionKind.TheVariants as function
use Rattle.wit_model.specs.declared.name.Docs.{Docs}
use Rattle.wit_model.specs.declared.name.Name.{Name}
use Rattle.wit_model.specs.declared.resolve.Resolve.{Resolve}
use Rattle.wit_model.specs.declared.types.Case.{Case}
use Rattle.wit_model.specs.declared.types.Field.{Field}
use Rattle.wit_model.specs.declared.types.TypeDef.{TypeDef}
use Rattle.wit_model.specs.declared.types.TypeDefKind.{TypeDefKind}
use Rattle.wit_model.specs.declared.types.TypeDefKind.TheVariants as kind
use Rattle.wit_model.specs.declared.types.TypeOwner.TheVariants as owner
use Rattle.wit_model.specs.declared.types.WitType.{WitType}
use Rattle.wit_model.specs.declared.types.WitType.TheVariants as wit
use Rattle.wit_model.specs.declared.world.World.{World}
use Rattle.wit_model.specs.declared.world.WorldItem.TheVariants as entry
use Rattle.wit_model.specs.declared.world.WorldKey.TheVariants as key
use Rattle.rust_tree.specs.Ident.{rust_ident, type_ident}
use Rattle.rust_tree.specs.declared.item.Item.{Item}
use Rattle.rust_tree.specs.declared.item.Item.TheVariants as item
use Rattle.rust_tree.specs.declared.type_expr.Primitive.TheVariants as prim
use Rattle.rust_tree.specs.declared.type_expr.TypeExpr.{TypeExpr, TypeExpr-F, out-TypeExpr, the_lemmas as type_lemmas}
use Rattle.rust_tree.specs.declared.type_expr.TypeExpr.TheVariants as type
use Rattle.rust_tree.specs.declared.type_item.StructField.{StructField}
use Rattle.rust_tree.specs.declared.type_item.StructItem.{StructItem}
use Rattle.rust_tree.specs.declared.type_item.TypeItem.TheVariants.{Alias, Struct, Variant}
use Rattle.rust_tree.specs.declared.variant_item.VariantItem.{VariantItem}
use Rattle.type_defs.specs.Finds.{finds}
use Rattle.type_defs.specs.PartType.{part_type}
use Rattle.type_defs.specs.Paths.{local_path}
use Rattle.wit_layout.specs.Tree.{Scalar}
use Rattle.wrapper_meaning.specs.Shape.{Shape, Shapes, nothing, shape_of, shapes}
use Rattle.wrapper_meaning.specs.Shape.Shape.{cases, scalar}
use Rattle.wrapper_meaning.specs.Shape.Shapes.{more, none}
use Rattle.wrapper_values.specs.Typed.{unaliased}
use Rattle.wrapper_closing.specs.PrintedAs.{ArePrintedCases, HavePayloads, IsPrintedAs}
use Rattle.func_gen.specs.declared.type_site.TypeSite.{TypeSite}
use Rattle.func_gen.specs.declared.type_site.TypeSite.TheVariants as written
use Rattle.type_sites.specs.Sites.{type_sites}

-- 1. The table and the world

abbrev same : Bytes → Name
same t = record { wit = t; snake = t; camel = t; upper = t }

abbrev no_docs : Docs
no_docs = record { contents = None }

abbrev defined : Option Name → TypeDefKind → TypeDef
defined name kind = record { name = name; owner = owner.None; kind = kind; docs = no_docs }

abbrev member : Bytes → WitType → Field
member name ty = record { name = same name; ty = ty; docs = no_docs }

abbrev choice : Bytes → Option WitType → Case
choice name ty = record { name = same name; ty = ty; docs = no_docs }

abbrev id : ℕ → WitType
id n = wit.Id (record { 0 = n })

-- `Spare` is used by no function
abbrev types : List TypeDef
types =
    defined (Some (same (codes "Point"))) (kind.Record (member (codes "x") wit.U32 ∷ member (codes "label") wit.String ∷ []))
    ∷ defined (Some (same (codes "Line"))) (kind.Record (member (codes "start") (id 0) ∷ member (codes "tag") wit.Char ∷ []))
    ∷ defined None (kind.Tuple (id 1 ∷ wit.U8 ∷ []))
    ∷ defined (Some (same (codes "Pair"))) (kind.Alias (id 2))
    ∷ defined (Some (same (codes "Spare"))) (kind.Record (member (codes "x") wit.U8 ∷ []))
    ∷ defined (Some (same (codes "Mark"))) (kind.Variant (choice (codes "Circle") (Some wit.U32) ∷ choice (codes "Blank") None ∷ []))
    ∷ defined None (kind.Option (id 5))
    ∷ defined (Some (same (codes "Outcome"))) (kind.Result None (Some (id 6)))
    ∷ []

abbrev draw : Function
draw = record { name = same (codes "draw"); kind = function.Freestanding; params = record { name = same (codes "p"); ty = id 3 } ∷ []; result = Some (id 7); docs = no_docs }

abbrev world : World
world = record { name = same (codes "w"); «package» = record { 0 = 0 }; imports = (key.Name (same (codes "draw")), entry.Function draw) ∷ []; exports = [] }

abbrev tables : Resolve
tables = record { worlds = world ∷ []; packages = []; interfaces = []; types = types }

-- 2. Which types have sites

abbrev site : Bytes → List Bytes → TypeSite
site name fields = written.Record (record { lifted = local_path (type_ident (same name)); lowered = local_path (type_ident (same name)); fields = map (λ f. rust_ident (same f)) fields })

abbrev variant_site : Bytes → List Bytes → TypeSite
variant_site name names = written.Variant (record { lifted = local_path (type_ident (same name)); lowered = local_path (type_ident (same name)); cases = names })

pub sites_are : type_sites tables world ≡ Some (site (codes "Point") (codes "x" ∷ codes "label" ∷ [])) ∷ Some (site (codes "Line") (codes "start" ∷ codes "tag" ∷ [])) ∷ None ∷ None ∷ None ∷ Some (variant_site (codes "Mark") (codes "Circle" ∷ codes "Blank" ∷ [])) ∷ None ∷ None ∷ []
unfolding type_sites finds parts
sites_are = refl

-- 3. How the types are printed

abbrev named : Bytes → TypeExpr
named name = type.Path (local_path name)

abbrev field : Bytes → TypeExpr → StructField
field name ty = record { docs = []; name = name; wit = name; ty = ty }

abbrev struct : Bytes → List StructField → StructItem
struct name fields = record { docs = []; repr_c = false; derives = []; name = name; fields = fields; error = None }

abbrev point : StructItem
point = struct (codes "Point") (field (codes "x") (type.Primitive prim.U32) ∷ field (codes "label") type.String ∷ [])

abbrev line : StructItem
line = struct (codes "Line") (field (codes "start") (named (codes "Point")) ∷ field (codes "tag") (type.Primitive prim.Char) ∷ [])

abbrev pair_types : List TypeExpr
pair_types = named (codes "Line") ∷ type.Primitive prim.U8 ∷ []

-- enum Mark { Circle(u32), Blank }
abbrev mark : VariantItem
mark = record {
  docs = [];
  derives = [];
  name = codes "Mark";
  cases = record { docs = []; name = codes "Circle"; ty = Some (type.Primitive prim.U32) } ∷ record { docs = []; name = codes "Blank"; ty = None } ∷ [];
  error = None;
}

-- struct Point { x: u32, label: String }, struct Line { start: Point, tag: char }, type Pair = (Line, u8), the variant, and
-- type Outcome = Result<(), Option<Mark>>
abbrev items : List Item
items =
    item.Type (Struct point)
    ∷ item.Type (Struct line)
    ∷ item.Type (Alias (record { docs = []; name = codes "Pair"; ty = type.Tuple pair_types }))
    ∷ item.Type (Variant mark)
    ∷ item.Type (Alias (record { docs = []; name = codes "Outcome"; ty = type.Result type.Unit (type.Optional (named (codes "Mark"))) }))
    ∷ []

pub line_is_printed : IsPrintedAs items (shape_of types (id 1)) (part_type types (id 1))
unfolding shapes part_type
line_is_printed = (line, search (rules, type_lemmas), ((point, search (rules, type_lemmas), (search (rules, type_lemmas), (search (rules, type_lemmas), tt))), (search (rules, type_lemmas), tt)))

-- the alias and the tuple without a name are printed otherwise, and are of one shape

pub tuple_is_printed : IsPrintedAs items (shape_of types (id 2)) (part_type types (id 2))
unfolding shapes part_type
tuple_is_printed = (pair_types, search (rules, type_lemmas), (line_is_printed, (search (rules, type_lemmas), tt)))

pub pair_is_printed : IsPrintedAs items (shape_of types (id 3)) (part_type types (id 3))
unfolding shapes part_type
pair_is_printed = (pair_types, search (rules, type_lemmas), (line_is_printed, (search (rules, type_lemmas), tt)))

-- the variant, the option without a name, and the result under another name

abbrev mark_shape : Shape
mark_shape = cases (more (scalar Scalar.u32) (more nothing none))

abbrev maybe_shape : Shape
maybe_shape = cases (more nothing (more mark_shape none))

by_form : (ty : TypeExpr) (l : TypeExpr-F TypeExpr) (ts : Shapes) (payloads : List (Option TypeExpr)) → out-TypeExpr (unaliased items ty) ≡ l → HavePayloads items l payloads → ArePrintedCases items ts payloads → IsPrintedAs items (cases ts) ty
by_form ty l ts payloads is have p = (payloads, subst (λ l. HavePayloads items l payloads) (sym is) have, p)

pub mark_is_printed : IsPrintedAs items (shape_of types (id 5)) (part_type types (id 5))
unfolding shapes part_type
mark_is_printed =
    by_form (named (codes "Mark")) (TypeExpr-F.Path (local_path (codes "Mark"))) (more (scalar Scalar.u32) (more nothing none)) (Some (type.Primitive prim.U32) ∷ None ∷ []) (search (rules, type_lemmas)) refl (refl, search (rules, type_lemmas), (refl, tt))

pub maybe_is_printed : IsPrintedAs items (shape_of types (id 6)) (part_type types (id 6))
unfolding shapes part_type
maybe_is_printed =
    by_form (type.Optional (named (codes "Mark"))) (TypeExpr-F.Optional (named (codes "Mark"))) (more nothing (more mark_shape none)) (None ∷ Some (named (codes "Mark")) ∷ []) (search (rules, type_lemmas)) refl (refl, (refl, mark_is_printed, tt))

pub outcome_is_printed : IsPrintedAs items (shape_of types (id 7)) (part_type types (id 7))
unfolding shapes part_type
outcome_is_printed =
    by_form (named (codes "Outcome")) (TypeExpr-F.Result type.Unit (type.Optional (named (codes "Mark")))) (more nothing (more maybe_shape none)) (None ∷ Some (type.Optional (named (codes "Mark"))) ∷ []) (search (rules, type_lemmas))
    (None, Some (type.Optional (named (codes "Mark"))), refl, refl, refl) (refl, (refl, maybe_is_printed, tt))
