use Rattle.std.proofs.Common.{Some, ap, sym, ◌∙◌, subst}
use Rattle.templates.specs.declared.reached.Was.{Was}
use Rattle.thresholds.specs.Settled.{Settles, due_in}
use Rattle.thresholds.proofs.SettleLaws.{settles_none}
use Rattle.fsrm_parts.proofs.settling.LimitLaws.{acts_are}
use Rattle.fsrm_parts.proofs.updates.settle_row.Goals as goal

pub returns-then-is_calm-clause-settled : goal.returns-then-is_calm-clause-settled
returns-then-is_calm-clause-settled c =
    let acts = acts_are c.args.objects.now c.args.usage.now c.args.thresholds.now c.args.was.now c.used-used.result c.args.run_limit c.args.moment c.used-used.ensures in
    subst (Settles c.args.marks.now c.args.marks.now c.args.objects.now c.args.objects.now c.args.moment) (sym (c.is_calm.ensures c.if-is_calm.true c.args.run_limit c.args.moment) ∙ acts)
    (settles_none c.args.marks.now c.args.objects.now c.args.moment c.requires.log c.requires.marked)

pub returns-clause-settled : goal.returns-clause-settled
returns-clause-settled c =
    let acts = acts_are c.args.objects.now c.args.usage.now c.args.thresholds.now c.args.was.now c.used-used.result c.args.run_limit c.args.moment c.used-used.ensures in
    let due = λ (w : Was). due_in c.args.objects.now (Some w.row) c.used-used.result c.used-used.result c.args.run_limit c.args.moment c.args.was.now.row.folder in
    subst (Settles c.args.marks.now c.settle.new.self c.args.objects.now c.settle.new.objects c.args.moment) (ap due c.trade.ensures.row ∙ acts) c.settle.ensures.settled
