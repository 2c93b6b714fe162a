-- Which rule of well-formed tables is broken first, and by which entry.
use Rattle.std.specs.Prelude.{◌≡◌, ⊤, true, List, [], ◌∷◌, Option, None, Some}
use Rattle.std.specs.Option.{option_map, option_or}
use Rattle.wit_model.specs.declared.resolve.Resolve.{Resolve}
use Rattle.wit_model.specs.declared.resolve.Rule.{Rule}
use Rattle.wit_model.specs.declared.resolve.Rule.TheVariants.{IndexRange, TypeOrder, Members, MapKey}
use Rattle.wit_model.specs.declared.resolve.WorldFault.{WorldFault}
use Rattle.wit_model.specs.declared.resolve.WorldFault.TheVariants.{InvalidWorld, OutOfMemory}
use Rattle.wit_model.specs.IndexRange.{first_out_of_range}
use Rattle.wit_model.specs.TypeOrder.{first_out_of_order}
use Rattle.wit_model.specs.Members.{first_without_members}
use Rattle.wit_model.specs.MapKey.{first_bad_key}
use Rattle.wit_model.specs.Numbered.{is_numbered}
use Rattle.wit_model.specs.Place.{Place}

-- the rules in their order, each with the first entry that breaks it
abbrev pub broken_rules : Resolve → List (Rule × Option Place)
broken_rules r =
    (IndexRange, first_out_of_range r) ∷ (TypeOrder, first_out_of_order r) ∷ (Members, first_without_members r) ∷ (MapKey, first_bad_key r) ∷ []

-- the first rule that some entry breaks, with that entry
abbrev pub first_broken : List (Rule × Option Place) → Option (Rule × Place)
first_broken [] = None
first_broken (rule ∷ rules) = option_or (option_map (λ place. (rule.0, place)) rule.1) (first_broken rules)

unfoldable pub first_fault : Resolve → Option (Rule × Place)
first_fault r = first_broken (broken_rules r)

-- a refusal names the first fault, or a `u32` does not number a table or a list, or there is no memory
abbrev pub IsFaultOf : Resolve → WorldFault → Type 0
IsFaultOf r (InvalidWorld rule table index) = first_fault r ≡ Some (rule, (table, index))
IsFaultOf r OutOfMemory = ⊤

-- tables that the check passes: no rule is broken, and a `u32` numbers each table and each list
pub record IsWellFormed (r : Resolve) : Type 0 where
  pub unbroken : first_fault r ≡ None
  pub numbered : is_numbered r ≡ true
