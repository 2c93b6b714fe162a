use Rattle.std.proofs.Common.{◌≡◌, true, take}
use Rattle.std.specs.List.{list_all}
use Rattle.wit_model.specs.Parts.{parts}
use Rattle.wit_model.specs.TypeOrder.{payload_below}
use Rattle.wit_model.proofs.type_order.parts_below.Given as goal

abbrev pub invariant-loop-nth : goal.invariant-loop-nth
invariant-loop-nth l = list_all (λ part. payload_below l.bound part) (take l.nth (parts l.kind)) ≡ true
