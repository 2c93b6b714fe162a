use Rattle.std.proofs.Common.{length, ◌-◌, ◌≡◌, ◌≤◌, take}
use Rattle.std.specs.Io.KnownBytes.{append_known}
use Rattle.wit_ends.proofs.write.write_all.Given as goal

abbrev pub invariant-loop-done : goal.invariant-loop-done
invariant-loop-done g l =
    let sink = g.K.Sink in
    record {
      within : l.done ≤ length l.bytes;
      taken : sink.taken l.sink ≡ append_known (sink.taken l.fn.sink) (take l.done l.bytes);
      never_falls : sink.faults l.fn.sink ≤ sink.faults l.sink;
    }

abbrev pub decreases-loop-done : goal.decreases-loop-done
decreases-loop-done g l = length l.bytes - l.done
