use Rattle.std.proofs.Common.{◌≡◌, ◌∙◌, ◌&&◌, IfOk, List, length, sym, ap, subst}
use Rattle.std.proofs.lemmas.Bool.{eqb-true}
use Rattle.wit_model.specs.declared.name.TypeId.{TypeId}
use Rattle.type_defs.specs.FunctionTypes.{functions_pass}
use Rattle.type_defs.specs.ListedTypes.{listed_types, types_in}
use Rattle.type_defs.specs.Listing.{are_listed, is_covered_whole, keeps_listing}
use Rattle.type_defs.proofs.ListingLemmas.{nothing-listed}
use Rattle.type_defs.proofs.listing.keeps_listing.Goals as goal

pub returns-then-are_functions_covered : goal.returns-then-are_functions_covered
returns-then-are_functions_covered c =
    let world = c.args.world.now in
    let listed : c.as_slice-2.result.now ≡ listed_types world = c.as_slice-2.ensures ∙ c.in_ok-listed.ensures ∙ ap types_in c.as_slice.ensures in
    let none : length (listed_types world) ≡ 0 = ap length (sym listed) ∙ eqb-true (length c.as_slice-2.result.now) 0 (sym c.is_empty.ensures ∙ c.if-is_empty.true) in
    sym (nothing-listed c.args.types.now c.args.nth world none (sym c.are_functions_covered.ensures ∙ c.if-are_functions_covered.true))

pub returns : goal.returns
unfolding keeps_listing
returns c =
    let types = c.args.types.now in
    let world = c.args.world.now in
    let listed : c.as_slice-3.result.now ≡ listed_types world = c.as_slice-3.ensures ∙ c.in_ok-listed.ensures ∙ ap types_in c.as_slice.ensures in
    subst (λ (ids : List TypeId). IfOk c.keeps_listed.result (λ b. b ≡ (are_listed types c.args.nth ids && functions_pass (is_covered_whole types ids) world))) listed c.keeps_listed.ensures
