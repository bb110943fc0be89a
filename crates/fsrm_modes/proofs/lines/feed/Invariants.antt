use Rattle.std.proofs.Common.{◌≡◌, ◌≤◌, ◌+◌, ◌++◌, List, ℕ, length}
use Rattle.fsrm_session.specs.Members.{members}
use Rattle.fsrm_session.specs.Underway.{CanTake}
use Rattle.fsrm_store.specs.Amortized.{bytes_since}
use Rattle.fsrm_modes.specs.Looks.{SpendsLines}
use Rattle.fsrm_modes.specs.Places.{place_of}
use Rattle.fsrm_modes.specs.Reading.{Fed}
use Rattle.fsrm_modes.proofs.lines.feed.Given as goal

-- what was cut off the piece is fed
abbrev pub invariant-lines : goal.invariant-lines
invariant-lines g l =
    (done : List ℕ) × record {
      cut : l.piece ≡ done ++ l.rest;
      fed : Fed (members g.O.Source g.O.Sink g.O.Disk) l.fn.session.store.engine.size (place_of l.fn.lines) (place_of l.lines) done l.fn.session l.session l.fn.outside l.outside;
      spent : SpendsLines (members g.O.Source g.O.Sink g.O.Disk) l.fn.session.store.engine.size (place_of l.fn.lines) done l.fn.session l.fn.outside l.fn.steps l.steps (bytes_since l.session.store.journal);
      number : l.lines.number ≤ l.fn.lines.number + length done;
      ready : CanTake g.O.Disk.reads l.session l.outside;
      size : l.session.store.engine.size ≡ l.fn.session.store.engine.size;
      writes : g.O.Sink.write_faults l.outside ≡ g.O.Sink.write_faults l.fn.outside;
      calls : g.O.Disk.disk_faults l.outside ≡ g.O.Disk.disk_faults l.fn.outside;
      reads : g.O.Source.read_faults l.outside ≡ g.O.Source.read_faults l.fn.outside;
      left : g.O.Source.left l.outside ≡ g.O.Source.left l.fn.outside;
    }

abbrev pub decreases-lines : goal.decreases-lines
decreases-lines g l = length l.rest
