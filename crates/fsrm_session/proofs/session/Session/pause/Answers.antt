use Rattle.fsrm_session.proofs.Going.{calms_nothing}
use Rattle.fsrm_session.proofs.Object.{laws_of}
use Rattle.fsrm_session.proofs.session.Session.pause.Goals as goal

pub returns-then-held-gt0-clause-runs : goal.returns-then-held-gt0-clause-runs
returns-then-held-gt0-clause-runs g c = calms_nothing c.args.self.now c.args.outside.now (laws_of g.met.O.Sink g.met.O.Disk g.met.O.Outside)
