use Rattle.std.proofs.Common.{◌≡◌, true, ◌++◌, drop, length, reverse}
use Rattle.std.specs.List.{AllByRecursion, list_all}
use Rattle.wrapper_run.specs.Inward.{is_inward}
use Rattle.func_gen.specs.InwardCode.{IsInwardBlock}
use Rattle.func_gen.specs.LiftedCases.{is_inward_case, is_liftable, lifted_bodies, numbered_arms}
use Rattle.func_gen.proofs.emit.lifted_cases.lifted_arms.Given as goal

abbrev pub invariant-loop-i : goal.invariant-loop-i
invariant-loop-i l =
    (l.arms ++ numbered_arms l.i (lifted_bodies (drop l.i l.cases) (reverse l.left.items)) ≡ numbered_arms 0 (lifted_bodies l.cases (reverse l.initial.left.items)))
    × (list_all is_liftable (reverse l.left.items) ≡ true)
    × (list_all is_inward (lifted_bodies (drop l.i l.cases) (reverse l.left.items)) ≡ list_all is_inward (lifted_bodies l.cases (reverse l.initial.left.items))) × (length (drop l.i l.cases) ≡ length l.left.items)
    × (list_all is_inward_case (drop l.i l.cases) ≡ true) × AllByRecursion IsInwardBlock (reverse l.left.items)
