use Rattle.std.proofs.Common.{refl}
use Rattle.fsrm_session.proofs.Going.{calms_nothing, flushed_breaks, flushed_calms}
use Rattle.fsrm_session.proofs.Object.{laws_of}
use Rattle.fsrm_session.proofs.session.Session.renew.Goals as goal

pub returns-then-not-old-clause-runs : goal.returns-then-not-old-clause-runs
returns-then-not-old-clause-runs g c = calms_nothing c.args.self.now c.args.outside.now (laws_of g.met.O.Sink g.met.O.Disk g.met.O.Outside)

pub returns-in-Ok-clause-runs : goal.returns-in-Ok-clause-runs
returns-in-Ok-clause-runs g c =
    let was = c.args.self.now in
    flushed_calms was (record { store = c.checkpoint.new.self; kept = was.kept; alloc = was.alloc; scratch = was.scratch }) c.args.outside.now c.checkpoint.new.disk (laws_of g.met.O.Sink g.met.O.Disk g.met.O.Outside)
    c.checkpoint.ensures.by refl c.checkpoint.ensures.engine c.checkpoint.ensures.leaves c.in-Ok.ensures.store

pub returns-in-Err-clause-runs : goal.returns-in-Err-clause-runs
returns-in-Err-clause-runs g c =
    let was = c.args.self.now in
    flushed_breaks was (record { store = c.checkpoint.new.self; kept = was.kept; alloc = was.alloc; scratch = was.scratch }) c.args.outside.now c.checkpoint.new.disk (laws_of g.met.O.Sink g.met.O.Disk g.met.O.Outside)
    c.checkpoint.ensures.by c.checkpoint.ensures.leaves
