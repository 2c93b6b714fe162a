use Rattle.std.proofs.Common.{◌≡◌, ◌++◌, drop}
use Rattle.abi_bindgen.proofs.sending.push_copies.Given as goal

abbrev pub invariant-loop-operand : goal.invariant-loop-operand
invariant-loop-operand g l = l.all.items ++ drop l.operand-index l.operands ≡ l.initial.all.items ++ l.operands
