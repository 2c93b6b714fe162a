-- The definition of a flags type.
use Rattle.std.specs.Prelude.{ℕ, Bool, true, false, nat_le, List, length, map, if◌then◌else◌}
use Rattle.wit_model.specs.declared.name.Docs.{Docs}
use Rattle.wit_model.specs.declared.types.Member.{Member}
use Rattle.wit_model.specs.declared.types.TypeDefKind.{TypeDefKind}
use Rattle.wit_model.specs.declared.types.TypeDefKind.TheVariants as kind
use Rattle.rust_tree.specs.declared.flags_item.FlagsItem.{FlagsItem}
use Rattle.rust_tree.specs.declared.flags_item.FlagsMember.{FlagsMember}
use Rattle.rust_tree.specs.declared.repr.Repr.{Repr}
use Rattle.rust_tree.specs.declared.repr.Repr.TheVariants.{U8, U16, U32, U64, U128}
use Rattle.type_defs.specs.Docs.{doc_lines}
use Rattle.type_defs.specs.Paths.{bitflags_path}
use Rattle.wit_model.specs.Bytes.{Bytes}

abbrev pub is_flags_kind : TypeDefKind → Bool
is_flags_kind (kind.Flags _) = true
is_flags_kind _ = false

-- the bits of so many members, which are 128 at most
abbrev pub flags_repr : ℕ → Repr
flags_repr count =
    if nat_le count 8 then U8 else if nat_le count 16 then U16 else if nat_le count 32 then U32 else if nat_le count 64 then U64 else U128

abbrev pub flags_member : Member → FlagsMember
flags_member m = record { docs = doc_lines m.docs; name = m.name.upper }

abbrev pub flags_item : Docs → Bytes → List Member → FlagsItem
flags_item docs name members = record {
  bitflags = bitflags_path;
  docs = doc_lines docs;
  name = name;
  repr = flags_repr (length members);
  members = map flags_member members;
}
