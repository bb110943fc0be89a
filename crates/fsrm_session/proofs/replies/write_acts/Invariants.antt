use Rattle.std.proofs.Common.{◌≡◌, ◌+◌, ◌-◌, ◌≤◌, List, ◌++◌, length}
use Rattle.std.specs.Prelude.{◌^◌, min}
use Rattle.fsrm_model.specs.declared.command.Act.{Act}
use Rattle.fsrm_model.specs.texts.ActText.{act_lines}
use Rattle.fsrm_model.specs.commands.Cost.{acts_cost}
use Rattle.fsrm_store.specs.Standing.{KeepsJournal, StandsAlike}
use Rattle.line_parts.proofs.Each.{Written}
use Rattle.fsrm_session.proofs.replies.write_acts.Given as goal

-- the acts that were handed out are written
abbrev pub invariant-loop-act : goal.invariant-loop-act
invariant-loop-act g l =
    (done : List Act) × record {
      size : l.store.engine.size ≡ l.fn.store.engine.size;
      rows : l.store.engine.rows ≡ l.fn.store.engine.rows;
      journal : KeepsJournal l.fn.store l.store;
      stands : StandsAlike l.fn.store l.store;
      count : l.count ≡ min (length done) (2 ^ 64 - 1);
      handed : l.fn.store.engine.waiting ≡ done ++ l.store.engine.waiting;
      writes : Written g.S.Sink l.fn.sink l.sink (act_lines l.fn.store.engine.rows done);
      looks : l.steps ≤ l.fn.steps + acts_cost l.fn.store.engine.rows.nodes done;
    }

abbrev pub decreases-loop-act : goal.decreases-loop-act
decreases-loop-act g l = length l.store.engine.waiting
