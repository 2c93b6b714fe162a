use Rattle.std.proofs.Common.{◌≡◌, ◌∙◌, List, None, Some, ap, sym, slice_get}
use Rattle.std.specs.Option.{option_copied}
use Rattle.wit_model.specs.declared.world.WorldKey.{WorldKey}
use Rattle.wit_model.specs.declared.world.WorldItem.{WorldItem}
use Rattle.type_facts.specs.declared.side.Side.TheVariants.{Import, Export}
use Rattle.type_facts.specs.declared.uses.Uses.{Uses}
use Rattle.type_facts.specs.Passes.{with_marked}
use Rattle.type_facts.specs.Roots.{listed_roots, world_roots, roots_of_world}
use Rattle.type_facts.proofs.Using.{with_marked-both}
use Rattle.type_facts.proofs.uses.Uses.mark_world.Goals as goal

pub returns-in-None : goal.returns-in-None
unfolding world_roots
returns-in-None c =
    let none : slice_get c.args.resolve.now.worlds c.args.world.0 ≡ None = sym c.world.ensures ∙ ap option_copied c.in-None.is in
    sym (ap (λ o. with_marked c.args.self.now (roots_of_world c.args.resolve.now o)) none)

pub returns-in-Some : goal.returns-in-Some
unfolding world_roots
returns-in-Some c =
    let r = c.args.resolve.now in
    let world = c.in-Some.entry.now in
    let there : slice_get r.worlds c.args.world.0 ≡ Some world = sym c.world.ensures ∙ ap option_copied c.in-Some.is in
    let imports = ap (λ (listed : List (WorldKey × WorldItem)). with_marked c.args.self.now (listed_roots r Import listed)) c.as_slice.ensures in
    let exports = ap (λ (listed : List (WorldKey × WorldItem)). with_marked c.mark_listed.new.self (listed_roots r Export listed)) c.as_slice-in-Some.ensures in
    c.mark_listed-in-Some.ensures ∙ exports
    ∙ ap (λ (uses : Uses). with_marked uses (listed_roots r Export world.exports)) (c.mark_listed.ensures ∙ imports)
    ∙ sym (with_marked-both c.args.self.now (listed_roots r Import world.imports) (listed_roots r Export world.exports))
    ∙ sym (ap (λ o. with_marked c.args.self.now (roots_of_world r o)) there)
