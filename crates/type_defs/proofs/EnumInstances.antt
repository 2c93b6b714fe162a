-- The numbers of enums and flags types, and the definition of an error enum.
use Rattle.std.proofs.Common.{◌≡◌, false, true, [], ◌∷◌, None, Some, refl}
use Rattle.std.specs.Prelude.{codes}
use Rattle.std.specs.Str.{trim}
use Rattle.wit_model.specs.declared.name.Docs.{Docs}
use Rattle.wit_model.specs.declared.types.Member.{Member}
use Rattle.rust_tree.specs.declared.enum_item.EnumItem.{EnumItem}
use Rattle.rust_tree.specs.declared.repr.Repr.TheVariants.{U8, U16, U32, U64, U128}
use Rattle.type_facts.specs.declared.info.TypeInfo.{TypeInfo}
use Rattle.type_defs.specs.Derives.{enum_derives}
use Rattle.type_defs.specs.Docs.{doc_lines}
use Rattle.type_defs.specs.EnumDef.{enum_item, enum_repr}
use Rattle.type_defs.specs.FlagsDef.{flags_repr}

-- numbers

repr-byte : enum_repr 256 ≡ U8
repr-byte = refl

repr-two : enum_repr 257 ≡ U16
repr-two = refl

repr-two-last : enum_repr 65536 ≡ U16
repr-two-last = refl

repr-four : enum_repr 65537 ≡ U32
repr-four = refl

flags-byte : flags_repr 8 ≡ U8
flags-byte = refl

flags-two : flags_repr 16 ≡ U16
flags-two = refl

flags-four : flags_repr 32 ≡ U32
flags-four = refl

flags-eight : flags_repr 64 ≡ U64
flags-eight = refl

flags-sixteen : flags_repr 65 ≡ U128
flags-sixteen = refl

-- an error type, of which one case has docs

abbrev none : Docs
none = record { contents = None }

abbrev told : Docs
told = record { contents = Some (codes " Not there.\nOr \"gone\". ") }

abbrev lost : Member
lost = record { name = record { wit = codes "lost-it"; snake = codes "lost_it"; camel = codes "LostIt"; upper = codes "LOST_IT" }; docs = told }

abbrev late : Member
late = record { name = record { wit = codes "late"; snake = codes "late"; camel = codes "Late"; upper = codes "LATE" }; docs = none }

abbrev facts : TypeInfo
facts = record { borrowed = false; owned = true; error = true; has_list = false; has_resource = false; has_tuple = false; has_borrow_handle = false; has_own_handle = false }

abbrev wanted : EnumItem
wanted = record {
  docs = [];
  repr = U8;
  derives = enum_derives;
  name = codes "Trouble";
  cases = record { docs = doc_lines told; name = codes "LostIt" } ∷ record { docs = []; name = codes "Late" } ∷ [];
  error = Some (record {
    std_feature = false;
    cases =
        record { name = codes "LostIt"; wit = codes "lost-it"; message = trim (codes " Not there.\nOr \"gone\". ") }
        ∷ record { name = codes "Late"; wit = codes "late"; message = [] } ∷ [];
  });
}

error-told : enum_item facts none (codes "Trouble") (lost ∷ late ∷ []) ≡ wanted
error-told = refl
