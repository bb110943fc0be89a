use Rattle.std.proofs.Common.{◌≡◌, ◌-◌, ◌≤◌, length, take}
use Rattle.std.specs.Io.KnownBytes.{append_known}
use Rattle.fsrm_outside.proofs.writing.write_front.Given as goal

-- a front of the bytes is shown
abbrev pub invariant-pieces : goal.invariant-pieces
invariant-pieces g l =
    let sink = g.S.Sink in
    record {
      within : l.done ≤ length l.bytes;
      shown : sink.shown l.sink ≡ append_known (sink.shown l.fn.sink) (take l.done l.bytes);
      kept : sink.write_faults l.sink ≡ sink.write_faults l.fn.sink;
      by : sink.by_write l.fn.sink l.sink;
    }

abbrev pub decreases-pieces : goal.decreases-pieces
decreases-pieces g l = length l.bytes - l.done
