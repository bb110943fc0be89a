use Rattle.std.proofs.Common.{ap, arith, length, refl}
use Rattle.fsrm_model.specs.store.Lasting.{lasting}
use Rattle.fsrm_store.specs.Amortized.{bytes_since}
use Rattle.fsrm_store.specs.declared.store.Store.{Store}
use Rattle.fsrm_session.specs.declared.session.Session.{Session}
use Rattle.fsrm_session.specs.Spending.{bytes_after}
use Rattle.fsrm_session.specs.Turns.{rows_after}
use Rattle.fsrm_session.proofs.Going.{flushed_breaks, flushed_calms}
use Rattle.fsrm_session.proofs.Object.{laws_of}
use Rattle.fsrm_session.proofs.Results.{after_calms}
use Rattle.fsrm_session.proofs.Spending.{after_most, allowed}
use Rattle.fsrm_session.proofs.session.Session.settle.Goals as goal

pub returns-in-Ok-clause-runs : goal.returns-in-Ok-clause-runs
returns-in-Ok-clause-runs g c =
    let laws = laws_of g.met.O.Sink g.met.O.Disk g.met.O.Outside in
    let was = c.args.self.now in
    let flushed : Session = record { store = c.flush.new.self; kept = was.kept; alloc = was.alloc; scratch = was.scratch } in
    after_calms c.show.result was flushed c.show.new.self c.args.outside.now c.flush.new.disk c.show.new.outside laws
    (flushed_calms was flushed c.args.outside.now c.flush.new.disk laws c.flush.ensures.by refl c.flush.ensures.engine c.flush.ensures.leaves c.in-Ok.ensures.store)
    c.show.ensures.runs

pub returns-in-Err-clause-runs : goal.returns-in-Err-clause-runs
returns-in-Err-clause-runs g c =
    let was = c.args.self.now in
    flushed_breaks was (record { store = c.flush.new.self; kept = was.kept; alloc = was.alloc; scratch = was.scratch }) c.args.outside.now c.flush.new.disk (laws_of g.met.O.Sink g.met.O.Disk g.met.O.Outside) c.flush.ensures.by c.flush.ensures.leaves

pub returns-in-Ok-clause-looks : goal.returns-in-Ok-clause-looks
returns-in-Ok-clause-looks g c = record {
  eases = λ K R turns words before u.
      let was = c.args.self.now in
      let nodes = length was.store.engine.rows.nodes in
      let since = bytes_since was.store.journal in
      let shown = c.show.new.self in
      allowed nodes nodes c.args.steps.now c.args.steps.now c.flush.new.steps since since (bytes_since c.flush.new.self.journal) (bytes_after c.show.result shown) (omega arith) (omega arith) (omega arith)
      (omega (arith, after_most c.show.result shown, ap (λ (s : Store). bytes_since s.journal) c.show.ensures.store))
      (c.in-Ok.ensures.amortized (lasting (rows_after R u.first)) u.standing);
}

pub returns-in-Err-clause-looks : goal.returns-in-Err-clause-looks
returns-in-Err-clause-looks g c = record {
  eases = λ K R turns words before u.
      let was = c.args.self.now in
      let nodes = length was.store.engine.rows.nodes in
      let since = bytes_since was.store.journal in
      allowed nodes nodes c.args.steps.now c.args.steps.now c.flush.new.steps since since _ 0 (omega arith) (omega arith) (omega arith) (omega arith)
      (c.in-Err.ensures.amortized (lasting (rows_after R u.first)) u.standing);
}
