use Rattle.std.proofs.Common.{◌≡◌, drop}
use Rattle.std.specs.List.{AllByRecursion, fold}
use Rattle.func_gen.specs.Body.{greater}
use Rattle.func_gen.specs.Whole.{IsSmall}
use Rattle.func_gen.proofs.body.needed_area.Given as goal

-- what is left leads to the same, and is small
abbrev pub invariant-loop-record : goal.invariant-loop-record
invariant-loop-record l = (fold greater l.area (drop l.record-index l.asked) ≡ fold greater l.initial.area l.asked) × IsSmall l.area × AllByRecursion IsSmall (drop l.record-index l.asked)
