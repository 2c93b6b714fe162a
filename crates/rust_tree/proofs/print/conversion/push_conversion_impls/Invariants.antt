use Rattle.std.proofs.Common.{◌≡◌, ◌++◌, drop, map}
use Rattle.std.specs.List.{flat_map}
use Rattle.rust_tree.specs.RuntimeText.{conversion_impl_text}
use Rattle.rust_tree.proofs.print.conversion.push_conversion_impls.Given as goal

abbrev pub invariant-loop-source : goal.invariant-loop-source
invariant-loop-source l =
    l.out ++ flat_map (conversion_impl_text l.item l.bound l.ty) (map (λ source. source.now) (drop l.source-index l.sources)) ≡ l.initial.out ++ flat_map (conversion_impl_text l.item l.bound l.ty) (map (λ source. source.now) l.sources)
