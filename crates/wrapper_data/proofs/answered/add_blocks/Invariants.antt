use Rattle.std.proofs.Common.{◌≡◌, drop}
use Rattle.wrapper_data.specs.Answered.{with_blocks}
use Rattle.wrapper_data.proofs.answered.add_blocks.Given as goal

abbrev pub invariant-loop-block : goal.invariant-loop-block
invariant-loop-block l = with_blocks l.live.items (drop l.block-index l.blocks) ≡ with_blocks l.initial.live.items l.blocks
