use Rattle.std.proofs.Common.{◌≡◌, ◌<◌, ◌-◌, ◌^◌, length}
use Rattle.fsrm_journal.specs.Opened.{ReadsOn}
use Rattle.fsrm_store.specs.Recovery.{OnlyReads, Taken}
use Rattle.fsrm_store.proofs.reading.take_image.Given as goal

abbrev pub invariant-pieces : goal.invariant-pieces
invariant-pieces g l =
    let D = g.D.Disk in
    record {
      room : 0 < length l.buffer;
      taken : Taken l.fn.head (D.reads l.fn.disk) l.fn.journal l.journal l.image;
      same : ReadsOn l.fn.journal l.journal;
      quiet : OnlyReads D.reads D.disk_clock D.images D.by_disk l.fn.disk l.disk;
      kept : D.disk_faults l.disk ≡ D.disk_faults l.fn.disk;
    }

abbrev pub decreases-pieces : goal.decreases-pieces
decreases-pieces g l = 2 ^ 62 - l.journal.end
