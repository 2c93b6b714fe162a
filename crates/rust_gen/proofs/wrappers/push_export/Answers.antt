use Rattle.std.proofs.Common.{◌∙◌, ◌++◌, ◌∷◌, [], ap, append_assoc, refl}
use Rattle.rust_tree.specs.declared.item.Item.TheVariants as item
use Rattle.rust_gen.specs.Bound.{return_items}
use Rattle.rust_gen.proofs.wrappers.push_export.Goals as goal

pub returns : goal.returns
returns c =
    let (e, wrapped, adds, asks) = c.in_ok-area.ensures in
    let (p, returned, adds_more, asks_more) = c.in_ok-push_post_return.ensures in (
      ((e.0, p.0, c.in_ok-area.area), e.1 ++ p.1),
      returned ∙ ap (λ is. is ++ return_items p.0) wrapped ∙ append_assoc c.args.items.now (item.Export e.0 ∷ []) (return_items p.0),
      c.in_ok-push_needed.ensures,
      adds_more ∙ ap (λ xs. xs ++ p.1) adds ∙ append_assoc c.args.asked.now e.1 p.1,
      (e.1, p.1, refl, asks, asks_more),
    )
