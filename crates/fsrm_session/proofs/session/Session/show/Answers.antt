use Rattle.std.proofs.Common.{refl}
use Rattle.fsrm_session.proofs.Going.{shown_breaks, shown_calms}
use Rattle.fsrm_session.proofs.Object.{laws_of}
use Rattle.fsrm_session.proofs.session.Session.show.Goals as goal

pub returns-in-Ok-clause-runs : goal.returns-in-Ok-clause-runs
returns-in-Ok-clause-runs g c =
    let was = c.args.self.now in
    shown_calms was (record { store = was.store; kept = c.flush.new.waiting; alloc = was.alloc; scratch = was.scratch }) c.args.outside.now c.flush.new.sink (laws_of g.met.O.Sink g.met.O.Disk g.met.O.Outside) c.requires.none refl c.in-Ok.ensures.empty c.flush.ensures.by c.flush.ensures.shown

pub returns-in-Err-clause-runs : goal.returns-in-Err-clause-runs
returns-in-Err-clause-runs g c =
    let was = c.args.self.now in
    shown_breaks was (record { store = was.store; kept = c.flush.new.waiting; alloc = was.alloc; scratch = was.scratch }) c.args.outside.now c.flush.new.sink (laws_of g.met.O.Sink g.met.O.Disk g.met.O.Outside) c.requires.none c.flush.ensures.by c.flush.ensures.shown c.flush.ensures.grows
