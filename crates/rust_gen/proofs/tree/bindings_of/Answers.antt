use Rattle.std.proofs.Common.{◌∙◌, ap, subst, sym}
use Rattle.rust_tree.specs.WellNamed.{are_well_named}
use Rattle.type_sites.specs.Sites.{type_sites}
use Rattle.rust_gen.specs.Asking.{AskInOrder}
use Rattle.rust_gen.specs.Body.{ArePartsWritten, IsWritten}
use Rattle.rust_gen.specs.Bound.{AreItems}
use Rattle.rust_gen.proofs.NamedLemmas.{tree-named}
use Rattle.rust_gen.proofs.TreeLemmas.{places_fit}
use Rattle.rust_gen.proofs.tree.bindings_of.Goals as goal

pub new-requires : goal.new-requires
new-requires c = record {
  placed = places_fit c.args.opts.now c.args.resolve.now c.args.id c.args.world.now _ _ c.in_ok-items.ensures.are c.in_ok-places.ensures;
  named = tree-named c.args.opts.now c.args.resolve.now c.args.id c.args.world.now _ _ c.requires c.in_ok-options.ensures c.in_ok-items.ensures.are;
}

pub returns-clause-bound : goal.returns-clause-bound
returns-clause-bound c =
    let types = c.args.resolve.now.types in
    let sites = type_sites c.args.resolve.now c.args.world.now in
    record {
      items = subst (AreItems (IsWritten types sites) (ArePartsWritten types sites) c.args.opts.now c.args.resolve.now c.args.id c.args.world.now) (sym (ap (λ t. t.items) c.in_ok-tree.ensures)) c.in_ok-items.ensures.are;
      places = ap (λ t. t.places) c.in_ok-tree.ensures ∙ c.in_ok-places.ensures;
      options = ap (λ t. t.options) c.in_ok-tree.ensures ∙ c.in_ok-options.ensures;
    }

pub returns-clause-order : goal.returns-clause-order
returns-clause-order c =
    let world = c.args.world.now in
    subst (AskInOrder c.args.resolve.now.types (type_sites c.args.resolve.now world) world) (sym (ap (λ t. t.items) c.in_ok-tree.ensures)) c.in_ok-items.ensures.order

pub returns-clause-named : goal.returns-clause-named
returns-clause-named c =
    ap (λ t. are_well_named t.options t.items) c.in_ok-tree.ensures
    ∙ tree-named c.args.opts.now c.args.resolve.now c.args.id c.args.world.now _ _ c.requires c.in_ok-options.ensures c.in_ok-items.ensures.are
