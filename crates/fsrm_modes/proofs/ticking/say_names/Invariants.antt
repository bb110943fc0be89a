use Rattle.std.proofs.Common.{◌≡◌, take}
use Rattle.fsrm_store.specs.Amortized.{bytes_since}
use Rattle.fsrm_session.specs.Members.{members}
use Rattle.fsrm_session.specs.Spending.{Spends}
use Rattle.fsrm_session.specs.Underway.{CanTake, Goes}
use Rattle.fsrm_modes.specs.Ticks.{unread_turns}
use Rattle.fsrm_modes.proofs.ticking.say_names.Given as goal

abbrev pub invariant-loop-place : goal.invariant-loop-place
invariant-loop-place g l = record {
  goes : Goes (members g.O.Source g.O.Sink g.O.Disk) (unread_turns (take l.place l.names)) l.fn.session l.session l.fn.outside l.outside;
  ready : CanTake g.O.Disk.reads l.session l.outside;
  engine : l.session.store.engine ≡ l.fn.session.store.engine;
  writes : g.O.Sink.write_faults l.outside ≡ g.O.Sink.write_faults l.fn.outside;
  calls : g.O.Disk.disk_faults l.outside ≡ g.O.Disk.disk_faults l.fn.outside;
  reads : g.O.Source.read_faults l.outside ≡ g.O.Source.read_faults l.fn.outside;
  left : g.O.Source.left l.outside ≡ g.O.Source.left l.fn.outside;
  looks : Spends (members g.O.Source g.O.Sink g.O.Disk) (unread_turns (take l.place l.names)) l.fn.session l.fn.outside l.fn.steps l.steps (bytes_since l.session.store.journal);
}
