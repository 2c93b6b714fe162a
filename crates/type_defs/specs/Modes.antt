-- In which mode a type is printed, and under which names it is defined: with or without a lifetime, its lists lent or owned.
use Rattle.std.specs.Prelude.{Bool, true, false, not, ◌&&◌, ◌||◌, List, [], ◌∷◌, ◌++◌, Option, None, Some, codes, is_some, if◌then◌else◌}
use Rattle.wit_model.specs.declared.name.Name.{Name}
use Rattle.wit_model.specs.declared.types.TypeDefKind.{TypeDefKind}
use Rattle.wit_model.specs.declared.types.TypeDefKind.TheVariants as kind
use Rattle.wit_model.specs.Bytes.{Bytes}
use Rattle.rust_tree.specs.Ident.{type_ident}
use Rattle.type_facts.specs.declared.info.TypeInfo.{TypeInfo}
use Rattle.type_defs.specs.declared.type_opts.TypeOpts.{TypeOpts}
use Rattle.type_defs.specs.declared.ownership.Ownership.{Ownership}
use Rattle.type_defs.specs.declared.ownership.Ownership.TheVariants.{Owning, Borrowing}

pub data Style : Type 0 where
  Owned : Style
  Borrowed : Style
  OnlyTopBorrowed : Style

-- the lifetime of a definition, or one that is left out
pub data Lifetime : Type 0 where
  Defined : Lifetime
  Elided : Lifetime

pub record Mode : Type 0 where
  pub lifetime : Option Lifetime
  pub lends_lists : Bool
  pub style : Style

abbrev pub owned_mode : Mode
owned_mode = record { lifetime = None; lends_lists = false; style = Owned }

abbrev pub is_owned : Style → Bool
is_owned Owned = true
is_owned Borrowed = false
is_owned OnlyTopBorrowed = false

abbrev pub is_owning : Ownership → Bool
is_owning Owning = true
is_owning (Borrowing _) = false

-- a type that is borrowed and owned has a definition for each, where that is asked for
abbrev pub has_two_names : Ownership → TypeInfo → Bool
has_two_names Owning info = false
has_two_names (Borrowing duplicates) info = duplicates && info.borrowed && info.owned && info.has_list && not info.has_own_handle

-- the lifetime that a type's facts decide, by the first of these that fits; nothing where none fits
abbrev pub decided_lifetime : Ownership → TypeInfo → Style → Lifetime → Option (Option Lifetime)
decided_lifetime ownership info style lifetime =
    if info.has_borrow_handle then Some (Some lifetime)
    else if is_owned style then Some None
    else if info.has_own_handle || not info.has_list then Some None
    else if not info.owned || has_two_names ownership info then Some (Some lifetime)
    else if is_owning ownership then Some (Some lifetime) else None

-- lists are lent where there is a lifetime, and a type with a handle that owns is owned
abbrev pub mode_by : TypeInfo → Style → Lifetime → Option (Option Lifetime) → Mode
mode_by info style lifetime None = record { lifetime = Some lifetime; lends_lists = true; style = OnlyTopBorrowed }
mode_by info style lifetime (Some decided) = record {
  lifetime = decided;
  lends_lists = is_some decided && not (is_owned style);
  style = if info.has_own_handle then Owned else style;
}

-- the mode of a type of the table with these facts
unfoldable pub mode_of_type : Ownership → TypeInfo → Style → Lifetime → Mode
mode_of_type ownership info style lifetime = mode_by info style lifetime (decided_lifetime ownership info style lifetime)

-- whether two modes are the same

abbrev pub is_same_lifetime : Option Lifetime → Option Lifetime → Bool
is_same_lifetime None None = true
is_same_lifetime (Some Defined) (Some Defined) = true
is_same_lifetime (Some Elided) (Some Elided) = true
is_same_lifetime _ _ = false

abbrev pub is_same_style : Style → Style → Bool
is_same_style Owned Owned = true
is_same_style Borrowed Borrowed = true
is_same_style OnlyTopBorrowed OnlyTopBorrowed = true
is_same_style _ _ = false

abbrev pub is_same_flag : Bool → Bool → Bool
is_same_flag true b = b
is_same_flag false b = not b

abbrev pub is_same_mode : Mode → Mode → Bool
is_same_mode a b = is_same_lifetime a.lifetime b.lifetime && is_same_flag a.lends_lists b.lends_lists && is_same_style a.style b.style

-- names

abbrev pub owned_name : Ownership → TypeInfo → Name → Bytes
owned_name ownership info name = if has_two_names ownership info then type_ident name ++ codes "Result" else type_ident name

abbrev pub lent_name : Ownership → TypeInfo → Name → Bytes
lent_name ownership info name = if has_two_names ownership info then type_ident name ++ codes "Param" else type_ident name

-- which definitions a type has: each a name and a mode

-- a kind that has its one definition whether a function uses it or not
abbrev pub is_always_defined : TypeDefKind → Bool
is_always_defined (kind.Enum _) = true
is_always_defined (kind.Flags _) = true
is_always_defined kind.Resource = true
is_always_defined _ = false

abbrev pub is_used : TypeInfo → Bool
is_used info = info.owned || info.borrowed

-- of a type that is used in these two modes
abbrev pub used_definitions : Ownership → TypeInfo → Name → (owned lent : Mode) → List (Bytes × Mode)
used_definitions ownership info name owned lent =
    if has_two_names ownership info then (owned_name ownership info name, owned) ∷ (lent_name ownership info name, lent) ∷ []
    else if is_same_mode owned lent || info.owned || is_owning ownership then (owned_name ownership info name, owned) ∷ []
    else (lent_name ownership info name, lent) ∷ []

-- whether a type is defined at all
abbrev pub is_wanted : TypeOpts → TypeInfo → TypeDefKind → Bool
is_wanted opts info kind = is_always_defined kind || (is_used info || opts.generate_unused_types)

unfoldable pub definitions : TypeOpts → TypeInfo → TypeDefKind → Name → List (Bytes × Mode)
definitions opts info kind name =
    if is_always_defined kind then (owned_name opts.ownership info name, mode_of_type opts.ownership info Owned Defined) ∷ []
    else if is_used info || opts.generate_unused_types
    then used_definitions opts.ownership info name (mode_of_type opts.ownership info Owned Defined) (mode_of_type opts.ownership info Borrowed Defined)
    else []
