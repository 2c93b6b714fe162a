-- What a type is by itself, without what it reaches.
use Rattle.std.specs.Prelude.{Bool, true, false, not, List, Option, None, Some, slice_get}
use Rattle.wit_model.specs.declared.types.Handle.TheVariants.{Own, Borrow}
use Rattle.wit_model.specs.declared.types.WitType.{WitType}
use Rattle.wit_model.specs.declared.types.WitType.TheVariants as wit
use Rattle.wit_model.specs.declared.types.TypeDefKind.{TypeDefKind}
use Rattle.wit_model.specs.declared.types.TypeDefKind.TheVariants as kind
use Rattle.wit_model.specs.declared.types.TypeDef.{TypeDef}
use Rattle.type_facts.specs.declared.reach.Reach.{Reach}

-- a whole number or a float
abbrev pub is_number : WitType → Bool
is_number wit.U8 = true
is_number wit.U16 = true
is_number wit.U32 = true
is_number wit.U64 = true
is_number wit.S8 = true
is_number wit.S16 = true
is_number wit.S32 = true
is_number wit.S64 = true
is_number wit.F32 = true
is_number wit.F64 = true
is_number _ = false

abbrev pub is_string : WitType → Bool
is_string wit.String = true
is_string _ = false

abbrev pub is_list : TypeDefKind → Bool
is_list (kind.List _) = true
is_list (kind.Map _ _) = true
is_list _ = false

abbrev pub is_resource : TypeDefKind → Bool
is_resource kind.Resource = true
is_resource _ = false

abbrev pub is_tuple : TypeDefKind → Bool
is_tuple (kind.Tuple _) = true
is_tuple _ = false

abbrev pub is_borrow_handle : TypeDefKind → Bool
is_borrow_handle (kind.Handle (Borrow _)) = true
is_borrow_handle _ = false

abbrev pub is_own_handle : TypeDefKind → Bool
is_own_handle (kind.Handle (Own _)) = true
is_own_handle _ = false

-- a kind whose values are laid out as those of its parts, one after another
abbrev pub is_plain : TypeDefKind → Bool
is_plain (kind.Alias _) = true
is_plain (kind.Record _) = true
is_plain (kind.FixedLengthList _ _) = true
is_plain _ = false

abbrev pub own_of_primitive : WitType → Reach
own_of_primitive ty = record {
  list = is_string ty;
  resource = false;
  tuple = false;
  borrow_handle = false;
  own_handle = false;
  other = not (is_number ty);
}

abbrev pub own_of_kind : TypeDefKind → Reach
own_of_kind kind = record {
  list = is_list kind;
  resource = is_resource kind;
  tuple = is_tuple kind;
  borrow_handle = is_borrow_handle kind;
  own_handle = is_own_handle kind;
  other = not (is_plain kind);
}

abbrev pub nothing : Reach
nothing = record { list = false; resource = false; tuple = false; borrow_handle = false; own_handle = false; other = false }

abbrev pub own_of_entry : Option TypeDef → Reach
own_of_entry None = nothing
own_of_entry (Some entry) = own_of_kind entry.kind

abbrev pub own : List TypeDef → WitType → Reach
own types (wit.Id id) = own_of_entry (slice_get types id.0)
own types ty = own_of_primitive ty
