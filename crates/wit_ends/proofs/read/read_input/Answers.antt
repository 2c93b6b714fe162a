use Rattle.std.proofs.Common.{vec_len, ◌+◌, ◌-◌, arith}
use Rattle.wit_ends.specs.declared.read.TheConstants.{INPUT_LIMIT}
use Rattle.wit_ends.proofs.ToldLemmas.{LosesAtMost-after}
use Rattle.wit_ends.proofs.read.read_input.Goals as goal

pub returns-in_err-read_piece-clause-took : goal.returns-in_err-read_piece-clause-took
returns-in_err-read_piece-clause-took g c =
    let bytes = c.loop-turn.bytes in
    LosesAtMost-after _ _ _ bytes.items (INPUT_LIMIT + 1 - vec_len bytes) (INPUT_LIMIT + 1) c.loop-turn.invariant.left c.in_err-read_piece.ensures.took (omega (arith, bytes.ok.0))
