use Rattle.std.proofs.Common.{ap, ◌∙◌, arith}
use Rattle.fsrm_model.specs.declared.command.Deed.TheVariants.{File}
use Rattle.fsrm_model.specs.declared.command.FileOp.TheVariants.{Mkdir}
use Rattle.fsrm_engine.proofs.coming.MadeQuota.{made_as, made_due, made_follows, made_found}
use Rattle.fsrm_engine.proofs.coming.MemoryLaws.{made_wants}
use Rattle.fsrm_parts.proofs.tables.AnswerLaws.{on_err}
use Rattle.fsrm_engine.proofs.coming.SourceLaws.{source_bare}
use Rattle.fsrm_engine.proofs.operations.NewLaws.{mkdir_due, new_bare, room_after}
use Rattle.fsrm_parts.proofs.walks.PlaceLaws.{place_inner}
use Rattle.fsrm_engine.proofs.steps.StepLaws.{or_else, refused_as}
use Rattle.fsrm_engine.proofs.steps.WholeLaws.{sound_ended}
use Rattle.fsrm_engine.proofs.parts.Parts.mkdir.Goals as goal

pub returns-in-Err-clause-ok : goal.returns-in-Err-clause-ok
returns-in-Err-clause-ok g c =
    let p = c.args.self.now in
    let op = Mkdir c.args.path.now c.args.owner in
    refused_as p c.args.moment (File op) _ c.in-Err.refusal c.requires.ready.idle c.requires.ready.after
    (mkdir_due p c.args.moment c.args.path.now c.args.owner c.requires.ready.whole.sound.counted.volume ∙ ap (λ o. or_else o (room_after p c.args.moment op)) c.in-Err.ensures.err)
    (new_bare p.tree c.args.path.now c.in-Err.refusal c.in-Err.ensures.err) c.refused.ensures

pub may_come-requires-clause-there : goal.may_come-requires-clause-there
may_come-requires-clause-there g c = c.template_for-source.ensures.there

pub make_folder-requires-clause-there : goal.make_folder-requires-clause-there
make_folder-requires-clause-there g c = c.template_for-source.ensures.there

pub returns-in-Err-may_come-clause-ok : goal.returns-in-Err-may_come-clause-ok
returns-in-Err-may_come-clause-ok g c =
    let p = c.args.self.now in
    let source = c.template_for-source.result in
    refused_as p c.args.moment (File (Mkdir c.args.path.now c.args.owner)) _ c.in-Err-may_come.refusal c.requires.ready.idle c.requires.ready.after
    (made_due p c.requires.ready.whole c.args.moment c.args.path.now c.args.owner c.in-Ok.found.0.folder c.in-Ok.found.0.name.now c.in-Ok.ensures.ok.at source c.template_for-source.ensures.found c.template_for-source.ensures.there c.in-Ok.ensures.ok
    ∙ c.in-Err-may_come.ensures.refused)
    (source_bare p source c.in-Err-may_come.refusal c.in-Err-may_come.ensures.refused) c.refused-in-Err-may_come.ensures

pub follow_mkdir-requires-clause-there : goal.follow_mkdir-requires-clause-there
follow_mkdir-requires-clause-there g c =
    (made_follows c.args.self.now c.make_folder.new.self _ _ c.args.owner c.args.moment c.in_ok-node.node _ c.requires.ready.whole.sound c.in_ok-node.ensures.made c.in_ok-node.ensures.number).there

pub follow_mkdir-requires-clause-folder : goal.follow_mkdir-requires-clause-folder
follow_mkdir-requires-clause-folder g c =
    (made_follows c.args.self.now c.make_folder.new.self _ _ c.args.owner c.args.moment c.in_ok-node.node _ c.requires.ready.whole.sound c.in_ok-node.ensures.made c.in_ok-node.ensures.number).folder

pub follow_mkdir-requires-clause-scanning : goal.follow_mkdir-requires-clause-scanning
follow_mkdir-requires-clause-scanning g c =
    (made_follows c.args.self.now c.make_folder.new.self _ _ c.args.owner c.args.moment c.in_ok-node.node _ c.requires.ready.whole.sound c.in_ok-node.ensures.made c.in_ok-node.ensures.number).scanning

pub returns-clause-ok : goal.returns-clause-ok
returns-clause-ok g c =
    let p = c.args.self.now in
    made_as p c.requires.ready.whole c.args.moment c.args.path.now c.args.owner c.in-Ok.found.0.folder c.in-Ok.found.0.name.now c.in-Ok.ensures.ok.at c.template_for-source.result c.template_for-source.ensures.found c.template_for-source.ensures.there
    c.make_folder.new.self c.done.new.self c.follow_mkdir.new.self c.in_ok-node.node c.done.result c.requires.ready.idle c.requires.ready.after c.in-Ok.ensures.ok c.in_default.ensures.may c.in_ok-node.ensures.made c.make_folder.ensures.counted c.in_ok-node.ensures.number
    c.follow_mkdir.ensures.follows c.done.ensures.ended c.done.ensures.answer

pub returns-clause-sound : goal.returns-clause-sound
returns-clause-sound g c =
    let p = c.args.self.now in
    let q = c.make_folder.new.self in
    sound_ended (record q { scans = c.follow_mkdir.new.self }) c.done.new.self c.args.moment c.done.ensures.ended c.done.ensures.counted
    (c.follow_mkdir.ensures.follows _ (made_found p q c.in-Ok.found.0.folder c.in-Ok.found.0.name.now c.args.owner c.args.moment c.in_ok-node.node _ c.requires.ready.whole.sound.counted.volume c.in_ok-node.ensures.made c.in_ok-node.ensures.number)).scanning

pub returns-clause-looks : goal.returns-clause-looks
returns-clause-looks g c =
    omega (arith, c.in-Ok.ensures.looks, c.in_ok-node.ensures.looks, place_inner c.args.path.now c.in-Ok.ensures.ok.at.inner)

pub returns-in_err-node-clause-memory : goal.returns-in_err-node-clause-memory
returns-in_err-node-clause-memory g c =
    let p = c.args.self.now in
    on_err _ (made_wants p c.args.path.now c.args.owner c.in-Ok.found.0.folder c.in-Ok.found.0.name.now c.template_for-source.result c.in-Ok.ensures.ok.at c.template_for-source.ensures.found c.in_err-node.ensures.memory)
