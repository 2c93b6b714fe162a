-- Enums and flags that a file may define; and that the number of cases is kept, and the number that holds members.
use Rattle.std.proofs.Common.{◌≡◌, ℕ, nat_eq, Bool, true, false, [], ◌∷◌, Option, None, Some, refl, ap}
use Rattle.std.specs.Prelude.{codes}
use Rattle.wit_model.specs.Bytes.{Bytes}
use Rattle.rust_tree.specs.declared.enum_item.EnumCase.{EnumCase}
use Rattle.rust_tree.specs.declared.flags_item.FlagsMember.{FlagsMember}
use Rattle.rust_tree.specs.declared.path.Path.{Path}
use Rattle.rust_tree.specs.declared.repr.Repr.{Repr}
use Rattle.rust_tree.specs.declared.repr.Repr.TheVariants as repr_of
use Rattle.rust_tree.specs.declared.type_item.TypeItem.{TypeItem}
use Rattle.rust_tree.specs.declared.type_item.TypeItem.TheVariants.{Enum, Flags}
use Rattle.wrapper_values.specs.Flags.{repr_bits}
use Rattle.func_gen.specs.declared.type_site.TypeSite.{TypeSite}
use Rattle.func_gen.specs.declared.type_site.TypeSite.TheVariants as site
use Rattle.func_gen.specs.TypeSites.{CanBeDefined, Defines, items_of}

abbrev path_of : Bytes → Path
path_of name = record { lead = false; supers = 0; names = name ∷ [] }

abbrev case : Bytes → EnumCase
case name = record { docs = []; name = name }

abbrev color : TypeItem
color = Enum (record { docs = []; repr = repr_of.U8; derives = []; name = codes "Color"; cases = case (codes "Red") ∷ case (codes "Green") ∷ []; error = None })

abbrev color_of : ℕ → TypeSite
color_of cases = site.Enum (record { path = path_of (codes "Color"); repr = repr_of.U8; cases = cases })

abbrev member : Bytes → FlagsMember
member name = record { docs = []; name = name }

abbrev perms : TypeItem
perms = Flags (record { bitflags = path_of (codes "bitflags"); docs = []; name = codes "Perms"; repr = repr_of.U8; members = member (codes "READ") ∷ [] })

abbrev perms_of : Repr → TypeSite
perms_of repr = site.Flags (record { path = path_of (codes "Perms"); repr = repr; members = 1 })

pub both_are_defined : CanBeDefined (Some (color_of 2) ∷ Some (perms_of repr_of.U8) ∷ [])
both_are_defined = (color ∷ perms ∷ [], (refl, (refl, tt)))

has_two : Option (Repr × ℕ) → Bool
has_two (Some held) = nat_eq held.1 2
has_two None = false

pub cases_are_kept : Defines (items_of (color ∷ [])) (color_of 3) → ⊥
unfolding has_two
cases_are_kept h = absurd (let no : true ≡ false = ap has_two h in cc)

has_byte : Option (Repr × ℕ) → Bool
has_byte (Some held) = nat_eq (repr_bits held.0) 8
has_byte None = false

pub width_is_kept : Defines (items_of (perms ∷ [])) (perms_of repr_of.U16) → ⊥
unfolding has_byte
width_is_kept h = absurd (let no : true ≡ false = ap has_byte h in cc)
