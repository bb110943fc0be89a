use Rattle.std.proofs.Common.{◌≡◌}
use Rattle.made_script.specs.Rest.{lines_left}
use Rattle.fsrm_session.specs.Members.{members}
use Rattle.fsrm_session.specs.Underway.{CanTake}
use Rattle.fsrm_modes.proofs.Working.{Counted}
use Rattle.fsrm_modes.proofs.work.count_lines.Given as goal

-- some lines are taken, and their replies counted
abbrev pub invariant-lines : goal.invariant-lines
invariant-lines g l = record {
  counted : Counted (members g.O.Source g.O.Sink g.O.Disk) l.fn.work.number (lines_left l.fn.work) (lines_left l.work) l.work.number l.tally l.fn.session l.session l.fn.outside l.outside l.fn.steps l.steps;
  ready : CanTake g.O.Disk.reads l.session l.outside;
  writes : g.O.Sink.write_faults l.outside ≡ g.O.Sink.write_faults l.fn.outside;
  calls : g.O.Disk.disk_faults l.outside ≡ g.O.Disk.disk_faults l.fn.outside;
  reads : g.O.Source.read_faults l.outside ≡ g.O.Source.read_faults l.fn.outside;
  left : g.O.Source.left l.outside ≡ g.O.Source.left l.fn.outside;
}

abbrev pub decreases-lines : goal.decreases-lines
decreases-lines g l = l.work.left
