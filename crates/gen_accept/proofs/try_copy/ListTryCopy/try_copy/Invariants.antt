use Rattle.std.proofs.Common.{◌≡◌, take}
use Rattle.gen_accept.proofs.try_copy.ListTryCopy.try_copy.Given as goal

abbrev pub invariant-loop-value : goal.invariant-loop-value
invariant-loop-value g l = l.copies ≡ take l.value-index l.value-items
