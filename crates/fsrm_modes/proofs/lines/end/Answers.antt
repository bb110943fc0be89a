use Rattle.fsrm_session.specs.Members.{members}
use Rattle.fsrm_session.specs.Spending.{bytes_after}
use Rattle.fsrm_session.proofs.Object.{laws_of}
use Rattle.fsrm_modes.specs.Places.{place_of}
use Rattle.fsrm_modes.proofs.Cutting.{none_held, some_held}
use Rattle.fsrm_modes.proofs.Feeding.{ends_nothing, ends_line}
use Rattle.fsrm_modes.proofs.Spending.{last_none, last_spends}
use Rattle.fsrm_modes.proofs.lines.end.Goals as goal

pub returns-then-is_empty-clause-runs : goal.returns-then-is_empty-clause-runs
returns-then-is_empty-clause-runs g c =
    let now = c.args.lines.now in
    let was = c.args.session.now in
    ends_nothing was.store.engine.size (place_of now) was c.args.outside.now (laws_of g.met.O.Sink g.met.O.Disk g.met.O.Outside) (none_held _ now.held.items c.is_empty.result now.held.ok.0 c.is_empty.ensures c.if-is_empty.true)

pub returns-clause-runs : goal.returns-clause-runs
returns-clause-runs g c =
    let now = c.args.lines.now in
    let was = c.args.session.now in
    ends_line (members g.O.Source g.O.Sink g.O.Disk) c.answer.result was.store.engine.size (place_of now) c.deref.result.now was c.answer.new.session c.args.outside.now c.answer.new.outside
    (some_held _ now.held.items c.is_empty.result now.held.ok.0 c.is_empty.ensures c.if-is_empty.false) c.deref.ensures.value c.answer.ensures.runs

pub returns-then-is_empty-clause-looks : goal.returns-then-is_empty-clause-looks
returns-then-is_empty-clause-looks g c =
    let was = c.args.session.now in
    last_none was.store.engine.size (place_of c.args.lines.now) was c.args.outside.now c.args.steps.now

pub returns-clause-looks : goal.returns-clause-looks
returns-clause-looks g c =
    let now = c.args.lines.now in
    let was = c.args.session.now in
    last_spends was.store.engine.size (place_of now) c.deref.result.now was c.args.outside.now c.args.steps.now c.answer.new.steps (bytes_after c.answer.result c.answer.new.session)
    (some_held _ now.held.items c.is_empty.result now.held.ok.0 c.is_empty.ensures c.if-is_empty.false) c.deref.ensures.value c.answer.ensures.looks
