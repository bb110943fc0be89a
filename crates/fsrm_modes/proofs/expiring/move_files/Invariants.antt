use Rattle.std.proofs.Common.{◌≡◌, ◌+◌, take}
use Rattle.fsrm_session.specs.Members.{members}
use Rattle.fsrm_store.specs.Amortized.{bytes_since}
use Rattle.fsrm_session.specs.Spending.{Spends}
use Rattle.fsrm_session.specs.Turns.{rows_after}
use Rattle.fsrm_session.specs.Underway.{CanTake, Goes}
use Rattle.file_jobs.proofs.StayLaws.{SameKinds}
use Rattle.fsrm_modes.specs.Expiry.{files_cost, files_turns}
use Rattle.fsrm_modes.proofs.expiring.move_files.Given as goal

abbrev pub invariant-loop-place : goal.invariant-loop-place
invariant-loop-place g l =
    let K = l.fn.session.store.engine.size in
    let R = l.fn.session.store.engine.rows in
    let turns = files_turns K R l.mover.folder l.mover.moment 1 (take l.place l.files) in
    record {
      goes : Goes (members g.O.Source g.O.Sink g.O.Disk) turns l.fn.session l.session l.fn.outside l.outside;
      ready : CanTake g.O.Disk.reads l.session l.outside;
      size : l.session.store.engine.size ≡ K;
      rows : l.session.store.engine.rows ≡ rows_after R turns;
      spends : Spends (members g.O.Source g.O.Sink g.O.Disk) turns l.fn.session l.fn.outside (l.fn.steps + files_cost K R l.mover.folder l.mover.moment 1 (take l.place l.files)) l.steps (bytes_since l.session.store.journal);
      kinds : SameKinds R.nodes l.session.store.engine.rows.nodes;
      writes : g.O.Sink.write_faults l.outside ≡ g.O.Sink.write_faults l.fn.outside;
      calls : g.O.Disk.disk_faults l.outside ≡ g.O.Disk.disk_faults l.fn.outside;
      reads : g.O.Source.read_faults l.outside ≡ g.O.Source.read_faults l.fn.outside;
      left : g.O.Source.left l.outside ≡ g.O.Source.left l.fn.outside;
    }
