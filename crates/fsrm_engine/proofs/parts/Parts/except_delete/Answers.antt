use Rattle.std.proofs.Common.{ap}
use Rattle.fsrm_model.specs.objects.Screens.{except_of}
use Rattle.fsrm_objects.specs.Tables.{Tables}
use Rattle.fsrm_engine.specs.Machine.{rows_of}
use Rattle.fsrm_engine.proofs.tables.GroupLaws.{retabled_counted, retabled_ended}
use Rattle.fsrm_engine.proofs.tables.ScreenLaws.{except_deleted, has_except, lent_there}
use Rattle.fsrm_engine.proofs.parts.Parts.except_delete.Goals as goal

pub drop_except-requires : goal.drop_except-requires
drop_except-requires g c =
    let R = rows_of c.args.self.now in
    has_except R.excepts c.in-Some.folder (lent_there c.except.result (except_of R c.in-Some.folder) c.is_none.result c.except.ensures c.is_none.ensures c.if-is_none.false)

pub done-requires-clause-counted : goal.done-requires-clause-counted
done-requires-clause-counted g c =
    retabled_counted c.args.self.now c.args.self.now.groups c.drop_except.new.self c.requires.ready.whole (ap (λ (t : Tables). t.quotas) c.drop_except.ensures)

pub returns-clause-ok : goal.returns-clause-ok
returns-clause-ok g c =
    let p = c.args.self.now in
    except_deleted p c.args.moment c.args.path.now c.in-Some.folder c.in-Some.ensures.folder c.done.new.self c.drop_except.new.self c.done.result c.requires.ready.whole c.requires.ready.idle c.requires.ready.after
    (lent_there c.except.result (except_of (rows_of p) c.in-Some.folder) c.is_none.result c.except.ensures c.is_none.ensures c.if-is_none.false)
    c.drop_except.ensures c.done.ensures.ended c.done.ensures.answer

pub returns-clause-sound : goal.returns-clause-sound
returns-clause-sound g c =
    retabled_ended c.args.self.now c.args.self.now.groups c.drop_except.new.self c.requires.ready.whole (ap (λ (t : Tables). t.quotas) c.drop_except.ensures) c.done.new.self c.args.moment c.done.ensures.ended c.done.ensures.counted
