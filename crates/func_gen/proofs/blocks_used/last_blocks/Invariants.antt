use Rattle.std.proofs.Common.{◌≡◌, ◌+◌, ◌++◌, length, reverse}
use Rattle.func_gen.proofs.blocks_used.last_blocks.Given as goal

abbrev pub invariant-loop-i : goal.invariant-loop-i
invariant-loop-i l = (reverse l.initial.finished.items ≡ l.blocks ++ reverse l.finished.items) × (length l.blocks ≡ l._i) × (length l.finished.items + l._i ≡ length l.initial.finished.items)
