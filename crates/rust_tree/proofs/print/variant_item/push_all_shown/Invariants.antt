use Rattle.std.proofs.Common.{◌≡◌, ◌++◌, drop}
use Rattle.std.specs.List.{flat_map}
use Rattle.rust_tree.specs.VariantText.{shown_text}
use Rattle.rust_tree.proofs.print.variant_item.push_all_shown.Given as goal

abbrev pub invariant-loop-case : goal.invariant-loop-case
invariant-loop-case l =
    l.out ++ flat_map (λ c. shown_text l.name c.name c.ty) (drop l.case-index l.cases) ≡ l.initial.out ++ flat_map (λ c. shown_text l.name c.name c.ty) l.cases
