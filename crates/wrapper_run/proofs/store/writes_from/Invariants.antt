use Rattle.std.proofs.Common.{◌≡◌, ◌+◌, ◌++◌, drop}
use Rattle.wrapper_run.specs.Memory.{writes_from}
use Rattle.wrapper_run.proofs.store.writes_from.Given as goal

abbrev pub invariant-loop-byte : goal.invariant-loop-byte
invariant-loop-byte l = (l.next ≡ l.address + l.byte-index) × (l.writes.items ++ writes_from l.next (drop l.byte-index l.bytes) ≡ writes_from l.address l.bytes)
