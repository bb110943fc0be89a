use Rattle.std.proofs.Common.{◌≡◌, ℕ, ◌+◌, ◌∙◌, List, ap, subst, sym}
use Rattle.std.specs.Prelude.{IfErr, Option}
use Rattle.fsrm_model.specs.declared.row.Capacity.{Capacity}
use Rattle.fsrm_model.specs.declared.row.Rows.{Rows}
use Rattle.fsrm_outside.specs.Members.{Members}
use Rattle.fsrm_outside.proofs.OutsideLaws.{Laws}
use Rattle.fsrm_store.specs.Amortized.{bytes_since, Amortized}
use Rattle.fsrm_store.specs.Standing.{IsReady}
use Rattle.fsrm_store.specs.declared.store.Store.{Store}
use Rattle.fsrm_session.specs.Members.{members}
use Rattle.fsrm_session.specs.Spending.{renewing}
use Rattle.fsrm_session.specs.Turns.{bytes_of, looks_of}
use Rattle.fsrm_session.proofs.Object.{laws_of}
use Rattle.fsrm_modes.specs.Looks.{left_after}
use Rattle.fsrm_modes.specs.Promises.{Begins}
use Rattle.fsrm_modes.specs.Statuses.{IsReadEnd}
use Rattle.fsrm_modes.specs.Tasks.{task_cost, task_turns, IsGiven}
use Rattle.fsrm_modes.proofs.OwnEnds.{fault_takes, fault_turns, run_turns}
use Rattle.fsrm_modes.proofs.ReplayEnds.{fault_quiet}
use Rattle.fsrm_modes.proofs.TaskRuns.{fault_draws, fault_ends, fault_fits, run_draws, run_fits, takes_took, task_done, task_ends}
use Rattle.fsrm_modes.proofs.WholeRuns.{begins, early_safe, fault_run, opened_kept, opened_not, refused_tells, run_counts, run_tells, since_safe}
use Rattle.fsrm_modes.proofs.tasks.serve.Given as given
use Rattle.fsrm_modes.proofs.tasks.serve.Goals as goal

abbrev object : (g : given.Over) → Members g.row.O.Denot
object g = members g.O.Source g.O.Sink g.O.Disk

laws : (g : given.Over) → Laws (object g)
laws g = laws_of g.met.O.Sink g.met.O.Disk g.met.O.Outside

pub take-ended-requires : goal.take-ended-requires
take-ended-requires g c =
    let is = c.new-session.ensures.store in
    record {
      fit = c.requires.fit;
      sound = ap (λ (s : Store). s.sound) is ∙ c.in-Ok.ensures.sound;
      idle = ap (λ (s : Store). s.engine.waiting) is ∙ c.in-Ok.ensures.idle;
      none = ap (λ (s : Store). s.journal.held) is ∙ c.in-Ok.ensures.none;
      ready = subst (λ (s : Store). IsReady g.O.Disk.reads s.journal c.recover.new.disk) (sym is) c.in-Ok.ensures.ready;
    }

pub conclude-requires : goal.conclude-requires
conclude-requires g c = let p = c.take-ended.ensures.performs in record { ready = p.ready; only = task_ends c.args.task c.take-ended.result p.only }

-- the store couldn't be opened
pub returns-in-Err : goal.returns-in-Err
returns-in-Err g c = record {
  serves =
      let M = object g in
      let task = c.args.task in
      let old = c.args.outside.now in
      let new = c.recover.new.disk in
      let fault = c.in-Err.fault in
      let status = c.from.result in
      let is = c.from.ensures in
      let says = c.recover.ensures in
      let same = (g.met.O.Outside.disk_keeps_source old new says.by).same_left in
      record {
        runs = λ K R script before told b. fault_takes fault status K R (task_turns task script K R) before old new (laws g) is says.by b;
        ends = λ K R script before told b. fault_ends M task fault status K R script before old new is;
        crash = λ K R script before start told b at to. early_safe K R (task_turns task script K R) before start old new (laws g) says.by says.any_moment says.crash says.reads b at to;
        looks = λ K R script before told b. fault_turns b.parts R (task_turns task script K R) (task_cost task K R) c.args.steps.now c.recover.new.steps (says.looks b.parts b.reads);
        fits = fault_fits task c.recover.result fault status c.in-Err.is says.only is;
        tells = λ parts reads. refused_tells parts fault status is (c.in-Err.ensures.refused parts reads);
        quiet = λ parts reads none. fault_quiet old new (laws g) says.by says.reads says.crash;
        draws = fault_draws task fault status (g.O.Source.left old) (g.O.Source.left new) is same;
        counts = fault_run M c.recover.result fault status old new (laws g) c.in-Err.is is says.by says.later says.failed says.counted;
      };
}

-- it was opened
pub returns : goal.returns
returns g c = record {
  serves =
      let M = object g in
      let task = c.args.task in
      let first = c.args.outside.now in
      let mid = c.recover.new.disk in
      let now = c.take-ended.new.outside in
      let new = c.conclude.new.outside in
      let store = c.in-Ok.opened in
      let was = c.new-session.result in
      let session = c.take-ended.new.session in
      let ended = c.take-ended.result in
      let status = c.conclude.result in
      let opened = c.recover.ensures in
      let p = c.take-ended.ensures.performs in
      let says = c.conclude.ensures in
      let same : M.left mid ≡ M.left first = (g.met.O.Outside.disk_keeps_source first mid opened.by).same_left in
      let kept : M.disk_faults mid ≡ M.disk_faults first = opened_kept c.recover.result store _ _ c.in-Ok.is opened.counted in
      let only : IfErr ended IsReadEnd = task_ends task ended p.only in
      let given = λ (script : List ℕ) (told : IsGiven task (M.left first) script). subst (λ (o : Option (List ℕ)). IsGiven task o script) (sym same) told in
      let here = λ (K : Capacity) (R : Rows) (before : List ℕ) (b : Begins M K R before first). begins K R before store was first mid (laws g) opened.by b (c.in-Ok.ensures.state b.parts b.reads) (c.in-Ok.ensures.stands b.parts b.reads) c.new-session.ensures.store c.new-session.ensures.empty in
      let takes = λ (K : Capacity) (R : Rows) (script before : List ℕ) (told : IsGiven task (M.left first) script) (b : Begins M K R before first). p.takes K R script before (given script told) (here K R before b) in
      let took = λ (K : Capacity) (R : Rows) (script before : List ℕ) (told : IsGiven task (M.left first) script) (b : Begins M K R before first). takes_took task ended K R script before session mid now (takes K R script before told b) in
      record {
        runs = λ K R script before told b. let out = says.concludes K R (task_turns task script K R) before mid (took K R script before told b) in record { front = out.front; whole = out.whole; kept = out.kept };
        ends = λ K R script before told b. task_done task ended status K R script before session first mid now new (laws g) opened.by kept only (takes K R script before told b) (λ turns words v. says.whole K R turns words before v) p.counts says.status says.counts says.left;
        crash = λ K R script before start told b at to.
            let out = says.concludes K R (task_turns task script K R) before mid (took K R script before told b) in
            since_safe K R (task_turns task script K R) before start first mid new (laws g) opened.by opened.any_moment (opened_not c.recover.result store c.in-Ok.is) opened.crash opened.reads b at to out.safe;
        looks = λ K R script before told b.
            let turns = task_turns task script K R in
            let beside = task_cost task K R in
            run_turns b.parts K R turns beside store c.args.steps.now c.recover.new.steps c.conclude.new.steps (opened.looks b.parts b.reads) b.holds (c.in-Ok.ensures.state b.parts b.reads) (c.in-Ok.ensures.old b.parts b.reads) (c.in-Ok.ensures.tail b.parts b.reads)
            (λ most within.
            says.looks K R turns before mid (took K R script before told b) most (((c.recover.new.steps + renewing store) + beside) + looks_of R turns) (bytes_since store.journal + bytes_of R turns) within
            (subst (λ (s : Store). Amortized most (((c.recover.new.steps + renewing s) + beside) + looks_of R turns) c.take-ended.new.steps (bytes_since s.journal + bytes_of R turns) (left_after ended session)) c.new-session.ensures.store
            (c.take-ended.ensures.looks K R script before (given script told) (here K R before b) most within)));
        fits = run_fits task ended status _ _ _ _ p.only says.status says.counts;
        tells = λ parts reads. run_tells ended status parts store.engine.size store.engine.rows _ _ _ _ only says.status says.counts (c.in-Ok.ensures.state parts reads);
        quiet = λ parts reads none. absurd (none store.engine.size store.engine.rows (c.in-Ok.ensures.state parts reads));
        draws = run_draws task ended status (M.left first) (M.left mid) (M.left now) (M.left new) _ _ _ _ same says.left says.status says.counts p.draws;
        counts = run_counts M ended status first mid now new (laws g) opened.by kept only p.counts says.status says.counts says.reads;
      };
}
