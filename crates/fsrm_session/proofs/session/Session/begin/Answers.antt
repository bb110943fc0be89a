use Rattle.std.proofs.Common.{◌≡◌, Err, rules, refl, ◌∙◌, ap, arith}
use Rattle.fsrm_engine.specs.Machine.{Machine}
use Rattle.fsrm_session.specs.declared.session.Session.{Session}
use Rattle.fsrm_session.proofs.Going.{alike_calms, calms_full, calms_then, ready_alike}
use Rattle.fsrm_session.proofs.Object.{laws_of}
use Rattle.fsrm_session.proofs.Results.{breaks_passed}
use Rattle.fsrm_session.proofs.Spending.{after_fault, since_alike}
use Rattle.fsrm_session.proofs.session.Session.begin.Goals as goal

pub returns-in-Ok-clause-runs : goal.returns-in-Ok-clause-runs
returns-in-Ok-clause-runs g c =
    let laws = laws_of g.met.O.Sink g.met.O.Disk g.met.O.Outside in
    let was = c.args.self.now in
    let renewed = c.renew.new.self in
    let next : Session = record { store = c.set_group.new.self; kept = renewed.kept; alloc = renewed.alloc; scratch = renewed.scratch } in
    calms_then was renewed next c.args.outside.now c.renew.new.outside c.renew.new.outside laws c.in_ok-renew.ensures.runs (alike_calms renewed next c.renew.new.outside laws c.set_group.ensures.stands refl)

pub returns-in-Ok-clause-ready : goal.returns-in-Ok-clause-ready
returns-in-Ok-clause-ready g c =
    let renewed = c.renew.new.self in
    record {
      flush = ready_alike g.O.Disk.reads renewed (record { store = c.set_group.new.self; kept = renewed.kept; alloc = renewed.alloc; scratch = renewed.scratch }) c.renew.new.outside c.set_group.ensures.stands c.set_group.ensures.sound c.in_ok-renew.ensures.ready;
      idle = ap (λ (m : Machine). m.waiting) (c.set_group.ensures.engine ∙ c.renew.ensures.engine) ∙ c.requires.idle;
    }

pub returns-in-Err-clause-runs : goal.returns-in-Err-clause-runs
returns-in-Err-clause-runs g c =
    let laws = laws_of g.met.O.Sink g.met.O.Disk g.met.O.Outside in
    let was = c.args.self.now in
    let renewed = c.renew.new.self in
    let next : Session = record { store = c.set_group.new.self; kept = renewed.kept; alloc = renewed.alloc; scratch = renewed.scratch } in
    calms_full was next c.args.outside.now c.renew.new.outside
    (calms_then was renewed next c.args.outside.now c.renew.new.outside c.renew.new.outside laws c.in_ok-renew.ensures.runs (alike_calms renewed next c.renew.new.outside laws c.set_group.ensures.stands refl))

pub returns-in-Err-clause-memory : goal.returns-in-Err-clause-memory
returns-in-Err-clause-memory g c is =
    let renewed = c.renew.new.self in
    ready_alike g.O.Disk.reads renewed (record { store = c.set_group.new.self; kept = renewed.kept; alloc = renewed.alloc; scratch = renewed.scratch }) c.renew.new.outside c.set_group.ensures.stands c.set_group.ensures.sound c.in_ok-renew.ensures.ready

pub returns-in_err-renew-clause-runs : goal.returns-in_err-renew-clause-runs
returns-in_err-renew-clause-runs g c =
    let fault : c.from_residual.result ≡ Err c.in_err-renew.field-0.0 = search rules in
    breaks_passed c.from_residual.result c.in_err-renew.field-0.0 c.args.self.now c.renew.new.self c.args.outside.now c.renew.new.outside fault c.in_err-renew.ensures.runs

pub returns-in-Ok-clause-paid : goal.returns-in-Ok-clause-paid
returns-in-Ok-clause-paid g c =
    let alike = c.set_group.ensures.stands in
    omega (arith, since_alike c.renew.new.self.store.journal c.set_group.new.self.journal alike.end alike.image_end c.set_group.ensures.none, c.in_ok-renew.ensures.paid)

pub returns-in-Err-clause-paid : goal.returns-in-Err-clause-paid
returns-in-Err-clause-paid g c =
    let alike = c.set_group.ensures.stands in
    omega (arith, since_alike c.renew.new.self.store.journal c.set_group.new.self.journal alike.end alike.image_end c.set_group.ensures.none, c.in_ok-renew.ensures.paid)

pub returns-in_err-renew-clause-paid : goal.returns-in_err-renew-clause-paid
returns-in_err-renew-clause-paid g c =
    let fault : c.from_residual.result ≡ Err c.in_err-renew.field-0.0 = search rules in
    omega (arith, after_fault c.from_residual.result c.in_err-renew.field-0.0 c.renew.new.self fault, c.in_err-renew.ensures.paid)
