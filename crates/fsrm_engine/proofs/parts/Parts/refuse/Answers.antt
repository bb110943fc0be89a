use Rattle.std.proofs.Common.{ℕ, None, Option, Some, true, ap, ◌∙◌, subst}
use Rattle.fsrm_model.specs.declared.command.Outcome.TheVariants.{Refused}
use Rattle.thresholds.specs.Settled.{due_in}
use Rattle.fsrm_engine.specs.Due.{refused_acts}
use Rattle.fsrm_parts.specs.Faults.{refused_answer}
use Rattle.fsrm_engine.specs.Machine.{Ran}
use Rattle.fsrm_engine.proofs.settling.EndLaws.{few_log}
use Rattle.fsrm_engine.proofs.settling.RefuseLaws.{leaves_none, leaves_some, numbers_tell, some_ran}
use Rattle.fsrm_engine.proofs.parts.Parts.refuse.Goals as goal

pub settle_used-requires-clause-may : goal.settle_used-requires-clause-may
settle_used-requires-clause-may c = record { counted = c.requires.ready.whole.sound.counted; idle = c.requires.ready.idle; in_range = c.requires.ready.in_range }

pub returns-then-is_empty-clause-refused : goal.returns-then-is_empty-clause-refused
returns-then-is_empty-clause-refused c =
    let p = c.args.self.now in
    let run = c.settle_used.new.self in
    let acts = refused_acts p c.args.exceeded c.args.moment in
    let ran = subst (λ (used : Option ℕ). Ran p run c.args.moment (due_in p.objects None used (Some c.args.exceeded.would) p.run_limit c.args.moment c.args.exceeded.folder)) c.used-used.ensures c.settle_used.ensures.settled in
    record {
      run = run;
      ran = ran;
      leaves = leaves_none p run c.args.moment c.args.exceeded acts c.refused.result c.requires.ready.idle (few_log p c.requires.ready.whole) ran
          (numbers_tell p run c.args.moment acts c.is_empty.result c.requires.ready.idle ran c.is_empty.ensures ∙ c.if-is_empty.true) (c.refused.ensures ∙ ap refused_answer c.exceeded_by-refusal.ensures);
    }

pub returns-clause-refused : goal.returns-clause-refused
returns-clause-refused c =
    let p = c.args.self.now in
    let run = c.settle_used.new.self in
    let acts = refused_acts p c.args.exceeded c.args.moment in
    let ran = subst (λ (used : Option ℕ). Ran p run c.args.moment (due_in p.objects None used (Some c.args.exceeded.would) p.run_limit c.args.moment c.args.exceeded.folder)) c.used-used.ensures c.settle_used.ensures.settled in
    record {
      run = run;
      ran = ran;
      leaves = leaves_some p run c.end.new.self c.args.moment c.args.exceeded acts _
          (some_ran p run c.args.moment acts c.requires.ready.idle ran (numbers_tell p run c.args.moment acts c.is_empty.result c.requires.ready.idle ran c.is_empty.ensures ∙ c.if-is_empty.false))
          c.end.ensures.ended (ap (λ refusal. record { outcome = Refused refusal; lasting = true }) c.exceeded_by-refusal.ensures);
    }
