-- Records that a file may define: none, and one of two fields; and that the order of the fields is kept.
use Rattle.std.proofs.Common.{◌≡◌, Bool, true, false, List, [], ◌∷◌, Option, None, Some, refl, ap}
use Rattle.std.specs.Prelude.{codes}
use Rattle.std.specs.Str.{bytes_eq}
use Rattle.wit_model.specs.Bytes.{Bytes}
use Rattle.rust_tree.specs.declared.path.Path.{Path}
use Rattle.rust_tree.specs.declared.type_expr.TypeExpr.TheVariants as type
use Rattle.rust_tree.specs.declared.type_item.StructField.{StructField}
use Rattle.rust_tree.specs.declared.type_item.TypeItem.{TypeItem}
use Rattle.rust_tree.specs.declared.type_item.TypeItem.TheVariants.{Struct}
use Rattle.func_gen.specs.declared.type_site.TypeSite.{TypeSite}
use Rattle.func_gen.specs.declared.type_site.TypeSite.TheVariants as site
use Rattle.func_gen.specs.TypeSites.{CanBeDefined, Defines, items_of}

abbrev field : Bytes → StructField
field name = record { docs = []; name = name; wit = name; ty = type.Unit }

abbrev point : TypeItem
point = Struct (record { docs = []; repr_c = false; derives = []; name = codes "Point"; fields = field (codes "x") ∷ field (codes "y") ∷ []; error = None })

abbrev point_path : Path
point_path = record { lead = false; supers = 0; names = codes "Point" ∷ [] }

abbrev site_of : List Bytes → TypeSite
site_of fields = site.Record (record { lifted = point_path; lowered = point_path; fields = fields })

pub none_is_defined : CanBeDefined (None ∷ None ∷ [])
none_is_defined = ([], (tt, (tt, tt)))

pub point_is_defined : CanBeDefined (None ∷ Some (site_of (codes "x" ∷ codes "y" ∷ [])) ∷ [])
point_is_defined = (point ∷ [], (tt, (record { lifted = refl; lowered = refl; distinct = refl }, tt)))

begins_with_x : Option (List Bytes) → Bool
begins_with_x (Some (name ∷ names)) = bytes_eq name (codes "x")
begins_with_x _ = false

pub order_is_kept : Defines (items_of (point ∷ [])) (site_of (codes "y" ∷ codes "x" ∷ [])) → ⊥
unfolding begins_with_x
order_is_kept h = absurd (let no : true ≡ false = ap begins_with_x h.lifted in cc)
