use Rattle.std.proofs.Common.{◌≡◌, drop}
use Rattle.wrapper_data.specs.Answered.{with_writes}
use Rattle.wrapper_data.proofs.answered.write_bytes.Given as goal

abbrev pub invariant-loop-write : goal.invariant-loop-write
invariant-loop-write l = with_writes l.live.items (drop l.write-index l.writes) ≡ with_writes l.initial.live.items l.writes
