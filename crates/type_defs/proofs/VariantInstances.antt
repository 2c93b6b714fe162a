-- The definitions of an option, of results and of an error variant, and how unnamed ones are lent.
use Rattle.std.proofs.Common.{◌≡◌, ℕ, false, true, List, [], ◌∷◌, Option, None, Some, refl}
use Rattle.std.specs.Prelude.{codes}
use Rattle.wit_model.specs.Bytes.{Bytes}
use Rattle.wit_model.specs.Dealias.{dealias}
use Rattle.wit_model.specs.Parts.{parts}
use Rattle.wit_model.specs.declared.name.Docs.{Docs}
use Rattle.wit_model.specs.declared.name.Name.{Name}
use Rattle.wit_model.specs.declared.types.Case.{Case}
use Rattle.wit_model.specs.declared.types.TypeDef.{TypeDef}
use Rattle.wit_model.specs.declared.types.TypeDefKind.{TypeDefKind}
use Rattle.wit_model.specs.declared.types.TypeDefKind.TheVariants as kind
use Rattle.wit_model.specs.declared.types.TypeOwner.TheVariants as owner
use Rattle.wit_model.specs.declared.types.WitType.{WitType}
use Rattle.wit_model.specs.declared.types.WitType.TheVariants as wit
use Rattle.rust_tree.specs.declared.type_expr.Primitive.TheVariants as prim
use Rattle.rust_tree.specs.declared.type_expr.TypeExpr.{TypeExpr}
use Rattle.rust_tree.specs.declared.type_expr.TypeExpr.TheVariants as type
use Rattle.rust_tree.specs.declared.type_item.TypeItem.{TypeItem}
use Rattle.rust_tree.specs.declared.type_item.TypeItem.TheVariants as item
use Rattle.rust_tree.specs.declared.variant_item.VariantItem.{VariantItem}
use Rattle.type_facts.specs.declared.info.TypeInfo.{TypeInfo}
use Rattle.type_defs.specs.Defined.{kind_items}
use Rattle.type_defs.specs.Derives.{clone_name}
use Rattle.type_defs.specs.Docs.{doc_lines}
use Rattle.type_defs.specs.Finds.{finds}
use Rattle.type_defs.specs.ParamType.{lent_type, param_type}
use Rattle.type_defs.specs.PartType.{part_type}
use Rattle.type_defs.specs.Paths.{local_path}

-- the table

abbrev none : Docs
none = record { contents = None }

abbrev same : Bytes → Name
same t = record { wit = t; snake = t; camel = t; upper = t }

abbrev entry : Option Name → TypeDefKind → TypeDef
entry name kind = record { name = name; owner = owner.None; kind = kind; docs = none }

abbrev id : ℕ → WitType
id n = wit.Id (record { 0 = n })

-- an alias of `string`, an unnamed option of it, and an unnamed result of that with a number as error
abbrev types : List TypeDef
types = entry (Some (same (codes "Label"))) (kind.Alias wit.String) ∷ entry None (kind.Option (id 0)) ∷ entry None (kind.Result (Some (id 1)) (Some wit.U8)) ∷ []

abbrev facts : TypeInfo
facts = record { borrowed = false; owned = true; error = true; has_list = true; has_resource = false; has_tuple = false; has_borrow_handle = false; has_own_handle = false }

abbrev label : TypeExpr
label = type.Path (local_path (codes "Label"))

abbrev byte : TypeExpr
byte = type.Primitive prim.U8

abbrev named : Bytes → TypeExpr → List TypeItem
named name ty = item.Alias (record { docs = []; name = name; ty = ty }) ∷ []

-- names for options and results

an_option : kind_items types facts none (codes "Found") (kind.Option (id 0)) ≡ named (codes "Found") (type.Optional label)
unfolding part_type
an_option = refl

a_result_of_an_error : kind_items types facts none (codes "Done") (kind.Result None (Some wit.U8)) ≡ named (codes "Done") (type.Result type.Unit byte)
unfolding part_type
a_result_of_an_error = refl

a_result_of_nothing : kind_items types facts none (codes "Done") (kind.Result None None) ≡ named (codes "Done") (type.Result type.Unit type.Unit)
a_result_of_nothing = refl

-- a variant: its payload is printed whole where it has no name

abbrev plain : Case
plain = record { name = record { wit = codes "plain"; snake = codes "plain"; camel = codes "Plain"; upper = codes "PLAIN" }; ty = None; docs = record { contents = Some (codes " without more ") } }

abbrev told : Case
told = record { name = record { wit = codes "told-so"; snake = codes "told_so"; camel = codes "ToldSo"; upper = codes "TOLD_SO" }; ty = Some (id 2); docs = none }

abbrev wanted : VariantItem
wanted = record {
  docs = [];
  derives = local_path clone_name ∷ [];
  name = codes "Fault";
  cases =
      record { docs = doc_lines plain.docs; name = codes "Plain"; ty = None }
      ∷ record { docs = []; name = codes "ToldSo"; ty = Some (type.Result (type.Optional label) byte) } ∷ [];
  error = Some (record { std_feature = false });
}

a_variant : kind_items types facts none (codes "Fault") (kind.Variant (plain ∷ told ∷ [])) ≡ item.Variant wanted ∷ []
unfolding part_type
a_variant = refl

-- an unnamed option and result that reach a text are lent payload by payload

abbrev text : TypeExpr
text = type.Ref type.Str

a_lent_option : param_type types (id 1) ≡ type.Optional text
unfolding finds parts dealias lent_type
a_lent_option = refl

a_lent_result : param_type types (id 2) ≡ type.Result (type.Optional text) byte
unfolding finds parts dealias lent_type
a_lent_result = refl
