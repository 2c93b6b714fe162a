use Rattle.std.proofs.Common.{◌≡◌, ◌++◌, drop, length, reverse}
use Rattle.std.specs.List.{AllByRecursion, list_all}
use Rattle.func_gen.specs.declared.function_bindgen.FinishedBlock.{FinishedBlock}
use Rattle.func_gen.specs.InwardCode.{IsInwardBlock}
use Rattle.func_gen.specs.MatchForms.{is_lowerable, lowered_arms}
use Rattle.func_gen.proofs.emit.matches.lowered_arms.Given as goal

abbrev pub invariant-loop-case : goal.invariant-loop-case
invariant-loop-case l =
    (l.arms ++ lowered_arms (drop l.case-index l.cases) (reverse l.left.items) ≡ lowered_arms l.cases (reverse l.initial.left.items))
    × (list_all (is_lowerable l.count) (reverse l.left.items) ≡ list_all (is_lowerable l.count) (reverse l.initial.left.items)) × (length (drop l.case-index l.cases) ≡ length l.left.items)
    × AllByRecursion (λ (b : FinishedBlock). length b.results ≡ l.count) (reverse l.left.items) × AllByRecursion IsInwardBlock (reverse l.left.items)
