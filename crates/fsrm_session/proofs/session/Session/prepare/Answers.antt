use Rattle.fsrm_session.proofs.Going.{calms_nothing}
use Rattle.fsrm_session.proofs.Object.{laws_of}
use Rattle.fsrm_session.proofs.Spending.{eases_nothing}
use Rattle.fsrm_session.proofs.session.Session.prepare.Goals as goal

pub returns-then-not-is_long-clause-runs : goal.returns-then-not-is_long-clause-runs
returns-then-not-is_long-clause-runs g c = calms_nothing c.args.self.now c.args.outside.now (laws_of g.met.O.Sink g.met.O.Disk g.met.O.Outside)

pub returns-then-not-is_long-clause-looks : goal.returns-then-not-is_long-clause-looks
returns-then-not-is_long-clause-looks g c = eases_nothing c.args.self.now c.args.outside.now c.args.steps.now
