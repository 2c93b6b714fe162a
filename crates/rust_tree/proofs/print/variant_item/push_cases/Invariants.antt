use Rattle.std.proofs.Common.{◌≡◌, ◌++◌, drop}
use Rattle.std.specs.List.{flat_map}
use Rattle.rust_tree.specs.VariantText.{variant_case_text}
use Rattle.rust_tree.proofs.print.variant_item.push_cases.Given as goal

abbrev pub invariant-loop-case : goal.invariant-loop-case
invariant-loop-case l = l.out ++ flat_map variant_case_text (drop l.case-index l.cases) ≡ l.initial.out ++ flat_map variant_case_text l.cases
