use Rattle.std.proofs.Common.{◌≡◌, drop}
use Rattle.wit_model.specs.Parts.{parts}
use Rattle.type_defs.specs.Levels.{greater, greatest, greatest_below}
use Rattle.type_defs.proofs.levels.greatest_below.Given as goal

abbrev pub invariant-loop-nth : goal.invariant-loop-nth
invariant-loop-nth l = greater l.greatest (greatest l.known (drop l.nth (parts l.kind))) ≡ greatest_below l.known l.kind
