use Rattle.std.proofs.Common.{◌≡◌, ◌≤◌, ◌<◌, vec_len}
use Rattle.std.specs.Io.KnownBytes.{prepend_known}
use Rattle.wit_ends.specs.declared.read.TheConstants.{INPUT_LIMIT}
use Rattle.wit_ends.proofs.read.read_input.Given as goal

abbrev pub invariant-loop-turn : goal.invariant-loop-turn
invariant-loop-turn g l =
    let source = g.S.Source in
    record {
      piece_has_room : 0 < vec_len l.piece;
      each_turn_took : l._turn ≤ vec_len l.bytes;
      within : vec_len l.bytes ≤ INPUT_LIMIT;
      left : source.left l.fn.source ≡ prepend_known l.bytes.items (source.left l.source);
      never_falls : source.faults l.fn.source ≤ source.faults l.source;
    }
