use Rattle.std.proofs.Common.{◌≡◌, ◌≤◌, ◌-◌, ◌^◌, length}
use Rattle.fsrm_model.specs.values.Limits.{longest_entry}
use Rattle.fsrm_journal.specs.Opened.{ReadsOn}
use Rattle.fsrm_store.specs.Recovery.{OnlyReads, Redone}
use Rattle.fsrm_store.proofs.replay.replay.Given as goal

abbrev pub invariant-entries : goal.invariant-entries
invariant-entries g l =
    let D = g.D.Disk in
    record {
      room : longest_entry ≤ length l.buffer;
      redone : Redone (D.reads l.fn.disk) l.fn.journal l.journal l.fn.engine l.engine l.fn.steps l.steps;
      same : ReadsOn l.fn.journal l.journal;
      quiet : OnlyReads D.reads D.disk_clock D.images D.by_disk l.fn.disk l.disk;
      kept : D.disk_faults l.disk ≡ D.disk_faults l.fn.disk;
    }

abbrev pub decreases-entries : goal.decreases-entries
decreases-entries g l = 2 ^ 62 - l.journal.end
