use Rattle.std.proofs.Common.{Some, ap, ◌∙◌, refl, length, arith}
use Rattle.command_tests.proofs.bodies.memory.give_nothing.Goals as goal

pub send-requires : goal.send-requires
send-requires c = record { built = refl; operands = ap length c.new-none.ensures; suits = omega arith }

pub returns-clause-closed : goal.returns-clause-closed
returns-clause-closed c = c.in_ok-send.ensures.adds.grows.opened

pub returns-clause-nothing : goal.returns-clause-nothing
returns-clause-nothing c = c.in_ok-send.ensures.returned ∙ ap Some c.new-none.ensures
