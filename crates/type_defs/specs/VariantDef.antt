-- The definition of a variant.
use Rattle.std.specs.Prelude.{List, map}
use Rattle.std.specs.Option.{option_map}
use Rattle.wit_model.specs.declared.name.Docs.{Docs}
use Rattle.wit_model.specs.declared.types.Case.{Case}
use Rattle.wit_model.specs.declared.types.TypeDef.{TypeDef}
use Rattle.rust_tree.specs.declared.variant_item.VariantCase.{VariantCase}
use Rattle.rust_tree.specs.declared.variant_item.VariantItem.{VariantItem}
use Rattle.type_facts.specs.declared.info.TypeInfo.{TypeInfo}
use Rattle.type_defs.specs.Derives.{derives_of}
use Rattle.type_defs.specs.Docs.{doc_lines}
use Rattle.type_defs.specs.ErrorDef.{error_type}
use Rattle.type_defs.specs.PartType.{part_type}
use Rattle.wit_model.specs.Bytes.{Bytes}

-- a payload is printed as a part of the definition
abbrev pub variant_case : List TypeDef → Case → VariantCase
variant_case types c = record { docs = doc_lines c.docs; name = c.name.camel; ty = option_map (part_type types) c.ty }

abbrev pub variant_item : List TypeDef → TypeInfo → Docs → Bytes → List Case → VariantItem
variant_item types info docs name cases = record {
  docs = doc_lines docs;
  derives = derives_of info;
  name = name;
  cases = map (variant_case types) cases;
  error = error_type info;
}
