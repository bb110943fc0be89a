use Rattle.std.proofs.Common.{Some, true, ap, sym}
use Rattle.fsrm_model.specs.declared.command.Outcome.TheVariants.{Refused}
use Rattle.fsrm_model.specs.declared.command.Refusal.TheVariants.{ScreenBlocked}
use Rattle.fsrm_model.specs.commands.Work.{Judged}
use Rattle.file_screens.specs.declared.answer.Blocked.{Blocked}
use Rattle.fsrm_engine.proofs.judging.JudgedLaws.{few_at, told_of, told_same}
use Rattle.fsrm_engine.proofs.judging.NotedLaws.{counted_noted, noted}
use Rattle.fsrm_engine.proofs.parts.Parts.block.Goals as goal

pub note-requires-clause-few : goal.note-requires-clause-few
note-requires-clause-few c screen found = few_at c.args.self.now c.args.judged.screen screen c.requires.ready.whole found

pub end-requires-clause-counted : goal.end-requires-clause-counted
end-requires-clause-counted c =
    let p = c.args.self.now in
    let t = told_of p c.args.judged c.requires.there in
    let judged : Judged = record { screen = t.screen; owner = c.args.owner; folder = c.args.folder; name = c.args.name.now } in
    counted_noted p c.note.new.self (Some judged) c.args.moment c.requires.ready.whole.sound.counted (noted p c.note.new.self judged c.args.moment (c.note.ensures.noted t.screen t.found))

pub returns-clause-blocked : goal.returns-clause-blocked
returns-clause-blocked c screen found = record {
  between = c.note.new.self;
  notes = c.note.ensures.noted screen found;
  ends = c.end.ensures.ended;
  answer_is = ap (λ (j : Blocked). record { outcome = Refused (ScreenBlocked j.screen); lasting = true }) (sym (told_same c.args.self.now c.args.judged screen c.requires.there found));
}
