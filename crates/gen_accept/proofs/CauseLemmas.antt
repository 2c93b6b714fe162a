-- What was tested of a world that is accepted.
use Rattle.std.proofs.Common.{◌≡◌, ◌∙◌, true, false, ◌&&◌, Option, None, Some, is_none, cond, refl, sym, ap}
use Rattle.std.specs.List.{list_all}
use Rattle.std.specs.Option.{option_map, option_or}
use Rattle.std.proofs.lemmas.Bool.{and_from, and_parts}
use Rattle.wit_model.proofs.InRange.{neither, unmapped}
use Rattle.wit_model.specs.declared.resolve.Resolve.{Resolve}
use Rattle.wit_model.specs.declared.world.World.{World}
use Rattle.type_defs.specs.Levels.{are_shallow}
use Rattle.type_defs.specs.Listing.{are_listed_well}
use Rattle.type_defs.specs.TypeNames.{are_type_names}
use Rattle.gen_accept.specs.declared.error.Clash.{Clash}
use Rattle.gen_accept.specs.declared.error.GenError.TheVariants.{NameClash, TooLarge}
use Rattle.gen_accept.specs.declared.opts.Opts.{Opts}
use Rattle.gen_accept.specs.Cause.{is_accepted, is_well_named, keeps_rules, later_cause, rule_cause, unbuilt}
use Rattle.gen_accept.specs.Clash.{first_clash}
use Rattle.gen_accept.specs.DeclaredNames.{declared_names, declares_well, has_distinct_names}
use Rattle.gen_accept.specs.NameText.{are_written_tables}
use Rattle.gen_accept.specs.TooLarge.{first_large}
use Rattle.gen_accept.proofs.LargeLemmas.{none-shallow}

is-none : {A : Type 0} (o : Option A) → is_none o ≡ true → o ≡ None
is-none None h = refl
is-none (Some x) h = cc

pub rules-parts : (r : Resolve) → keeps_rules r ≡ true → (are_type_names r.types ≡ true) × (are_listed_well r ≡ true) × (are_written_tables r ≡ true) × (list_all has_distinct_names r.worlds ≡ true)
unfolding keeps_rules
rules-parts r h =
    let a = and_parts (are_type_names r.types && are_listed_well r && are_written_tables r) (list_all has_distinct_names r.worlds) h in
    let b = and_parts (are_type_names r.types && are_listed_well r) (are_written_tables r) a.0 in
    let c = and_parts (are_type_names r.types) (are_listed_well r) b.0 in
    (c.0, c.1, b.1, a.1)

pub accepted-from : (opts : Opts) (r : Resolve) (world : World) → keeps_rules r ≡ true → first_large r.types world ≡ None → first_clash (declared_names opts r world) ≡ None → is_accepted opts r world ≡ true
unfolding is_accepted
accepted-from opts r world rules small clear =
    let last = λ (c : Option Clash). option_map NameClash c in
    let rule : rule_cause r world ≡ None = ap (λ b. cond b None (Some (unbuilt world))) rules in
    ap is_none
    (ap (λ c. option_or c (option_or (option_map TooLarge (first_large r.types world)) (last (first_clash (declared_names opts r world))))) rule
    ∙ ap (λ o. option_or (option_map TooLarge o) (last (first_clash (declared_names opts r world)))) small ∙ ap last clear)

module _ (opts : Opts) (r : Resolve) (world : World) (accepted : is_accepted opts r world ≡ true) where
  none : later_cause opts r world ≡ None
  unfolding is_accepted
  none = is-none (later_cause opts r world) accepted

  parts : (rule_cause r world ≡ None) × (option_map TooLarge (first_large r.types world) ≡ None) × (option_map NameClash (first_clash (declared_names opts r world)) ≡ None)
  parts =
      let a = neither (rule_cause r world) _ none in
      let b = neither (option_map TooLarge (first_large r.types world)) _ a.1 in
      (a.0, b.0, b.1)

  rules : keeps_rules r ≡ true
  rules = go (keeps_rules r) refl
    where
      go : (b : _) → keeps_rules r ≡ b → keeps_rules r ≡ true
      go true e = e
      go false e = let wrong : cond false None (Some (unbuilt world)) ≡ None = sym (ap (λ b. cond b None (Some (unbuilt world))) e) ∙ parts.0 in cc

  tests : (are_type_names r.types ≡ true) × (are_listed_well r ≡ true) × (are_written_tables r ≡ true) × (list_all has_distinct_names r.worlds ≡ true)
  tests = rules-parts r rules

  -- nothing is too large
  pub accepted-small : first_large r.types world ≡ None
  accepted-small = unmapped TooLarge (first_large r.types world) parts.1

  pub accepted-shallow : are_shallow r.types ≡ true
  accepted-shallow = none-shallow r.types world accepted-small

  pub accepted-type_names : are_type_names r.types ≡ true
  accepted-type_names = tests.0

  pub accepted-listed : are_listed_well r ≡ true
  accepted-listed = tests.1

  pub accepted-written : are_written_tables r ≡ true
  accepted-written = tests.2

  pub accepted-distinct : list_all has_distinct_names r.worlds ≡ true
  accepted-distinct = tests.3

  pub accepted-declares : declares_well opts r world ≡ true
  unfolding declares_well
  accepted-declares = ap is_none (unmapped NameClash (first_clash (declared_names opts r world)) parts.2)

  pub accepted-named : is_well_named opts r world ≡ true
  unfolding is_well_named
  accepted-named =
      and_from (are_written_tables r && list_all has_distinct_names r.worlds) (declares_well opts r world)
      (and_from (are_written_tables r) (list_all has_distinct_names r.worlds) accepted-written accepted-distinct) accepted-declares
