use Rattle.std.proofs.Common.{arith}
use Rattle.fsrm_session.proofs.Unshown.{if_ok_as, refusal_is}
use Rattle.fsrm_session.proofs.Entering.{bare_named}
use Rattle.fsrm_session.proofs.Spending.{bare_free}
use Rattle.fsrm_session.proofs.session.Session.count_refusal.Goals as goal

pub tally-requires-clause-named : goal.tally-requires-clause-named
tally-requires-clause-named g c = bare_named c.args.self.now.store.engine.rows c.args.refusal c.requires.bare

pub returns-clause-tally : goal.returns-clause-tally
returns-clause-tally g c =
    let e = c.args.self.now.store.engine in
    if_ok_as c.tally.result _ _ (refusal_is e.size e.rows e.waiting c.args.refusal c.args.number c.requires.idle) c.tally.ensures.tally

pub returns-clause-looks : goal.returns-clause-looks
returns-clause-looks g c =
    let e = c.args.self.now.store.engine in
    bare_free e.size e.rows e.waiting c.args.refusal c.args.steps.now c.tally.new.steps c.requires.bare c.requires.idle c.tally.ensures.looks
