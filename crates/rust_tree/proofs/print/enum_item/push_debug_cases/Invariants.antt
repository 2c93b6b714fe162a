use Rattle.std.proofs.Common.{◌≡◌, ◌++◌, drop}
use Rattle.std.specs.List.{flat_map}
use Rattle.rust_tree.specs.EnumText.{debug_case_text}
use Rattle.rust_tree.proofs.print.enum_item.push_debug_cases.Given as goal

abbrev pub invariant-loop-case : goal.invariant-loop-case
invariant-loop-case l =
    l.out ++ flat_map (λ c. debug_case_text l.name c.name) (drop l.case-index l.cases) ≡ l.initial.out ++ flat_map (λ c. debug_case_text l.name c.name) l.cases
