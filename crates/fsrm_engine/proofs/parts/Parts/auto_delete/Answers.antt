use Rattle.fsrm_model.specs.objects.AutoApply.{auto_of}
use Rattle.fsrm_engine.specs.Machine.{rows_of}
use Rattle.fsrm_engine.proofs.applied.AutoLaws.{auto_deleted, has_auto, ruled}
use Rattle.fsrm_engine.proofs.steps.WholeLaws.{sound_ended}
use Rattle.fsrm_engine.proofs.tables.ScreenLaws.{lent_there}
use Rattle.fsrm_engine.proofs.parts.Parts.auto_delete.Goals as goal

pub drop_auto-requires : goal.drop_auto-requires
drop_auto-requires g c =
    let R = rows_of c.args.self.now in
    has_auto R.autos c.in-Some.folder (lent_there c.auto.result (auto_of R c.in-Some.folder) c.is_none.result c.auto.ensures.found c.is_none.ensures c.if-is_none.false)

pub returns-clause-ok : goal.returns-clause-ok
returns-clause-ok g c =
    let p = c.args.self.now in
    auto_deleted p c.args.moment c.in-Some.folder c.args.path.now c.in-Some.ensures.folder c.done.new.self c.drop_auto.new.self c.done.result c.requires.ready.whole c.requires.ready.idle c.requires.ready.after
    (lent_there c.auto.result (auto_of (rows_of p) c.in-Some.folder) c.is_none.result c.auto.ensures.found c.is_none.ensures c.if-is_none.false)
    c.drop_auto.ensures c.done.ensures.ended c.done.ensures.answer

pub returns-clause-sound : goal.returns-clause-sound
returns-clause-sound g c =
    sound_ended (ruled c.args.self.now c.drop_auto.new.self) c.done.new.self c.args.moment c.done.ensures.ended c.done.ensures.counted c.requires.ready.whole.sound.scanning
