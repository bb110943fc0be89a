use Rattle.fsrm_session.proofs.Going.{calms_nothing}
use Rattle.fsrm_session.proofs.Object.{laws_of}
use Rattle.fsrm_session.proofs.Spending.{eases_nothing}
use Rattle.fsrm_session.proofs.session.Session.ease.Goals as goal

pub returns-then-len-lt-MOST_KEPT-clause-runs : goal.returns-then-len-lt-MOST_KEPT-clause-runs
returns-then-len-lt-MOST_KEPT-clause-runs g c = calms_nothing c.args.self.now c.args.outside.now (laws_of g.met.O.Sink g.met.O.Disk g.met.O.Outside)

pub returns-then-len-lt-MOST_KEPT-clause-looks : goal.returns-then-len-lt-MOST_KEPT-clause-looks
returns-then-len-lt-MOST_KEPT-clause-looks g c = eases_nothing c.args.self.now c.args.outside.now c.args.steps.now
