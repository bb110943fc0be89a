use Rattle.fsrm_base.proofs.Look.{found_has}
use Rattle.fsrm_model.specs.objects.Screens.{screen_folder}
use Rattle.fsrm_engine.proofs.judging.JudgedLaws.{told_of}
use Rattle.fsrm_engine.proofs.judging.NotedLaws.{notes}
use Rattle.fsrm_engine.proofs.parts.Parts.note.Goals as goal

pub settle_screen-requires-clause-screen : goal.settle_screen-requires-clause-screen
settle_screen-requires-clause-screen c =
    let p = c.args.self.now in
    let t = told_of p c.args.judged c.requires.there in
    found_has screen_folder c.args.judged.screen p.objects.screens t.screen t.found

pub returns : goal.returns
returns c =
    let p = c.args.self.now in
    record { noted = notes p c.args.judged c.args.owner c.args.folder c.args.name.now c.args.moment c.push.new.self c.settle_screen.new.objects c.settle_screen.new.self c.requires.there c.push.ensures c.settle_screen.ensures.settled }
