use Rattle.std.proofs.Common.{false, None, refl, subst, sym, ◌∙◌}
use Rattle.fsrm_base.proofs.Look.{has_found}
use Rattle.fsrm_model.specs.declared.command.Answer.{Answer}
use Rattle.fsrm_model.specs.declared.command.Deed.TheVariants.{Step}
use Rattle.fsrm_model.specs.declared.command.Outcome.TheVariants.{Scanned}
use Rattle.fsrm_model.specs.declared.command.Refusal.TheVariants.{NothingToScan}
use Rattle.fsrm_model.specs.objects.Quota.{folder_of}
use Rattle.fsrm_engine.specs.declared.parts.Parts.{Parts}
use Rattle.fsrm_engine.specs.Due.{Finishes}
use Rattle.fsrm_engine.specs.Machine.{Does}
use Rattle.fsrm_engine.proofs.steps.ScanSteps.{head_quota, head_uncounted, none_checks, step_ending, step_passing, visited_left, visited_ready}
use Rattle.fsrm_engine.proofs.steps.StepLaws.{refused_as}
use Rattle.fsrm_engine.proofs.parts.Parts.go_on.Goals as goal

pub returns-in_default-clause-ok : goal.returns-in_default-clause-ok
returns-in_default-clause-ok g c =
    let p = c.args.self.now in
    refused_as p c.args.moment (Step c.args.n) c.refused.result NothingToScan c.requires.ready.idle c.requires.ready.after (none_checks p.scans.queue (sym c.head.ensures ∙ c.in_default.is)) refl c.refused.ensures

pub returns-then-not-done-clause-ok : goal.returns-then-not-done-clause-ok
returns-then-not-done-clause-ok g c =
    let p = c.args.self.now in
    let v = c.visit-visited in
    let n = c.in-Some.folder in
    let h = sym c.head.ensures ∙ c.in-Some.is in
    let s = v.new.self.scans in
    let is = visited_left p v.new.self c.args.n v.ensures.kept v.ensures.left in
    subst (λ (answer : Answer). Does p v.new.self c.args.moment (Step c.args.n) answer) (sym c.passing.ensures)
    (subst (λ (q : Parts). Does p q c.args.moment (Step c.args.n) (record { outcome = Scanned n v.result None; lasting = false })) (sym v.ensures.kept)
    (step_passing p s c.args.n c.args.moment n v.result c.requires.ready.idle c.requires.ready.after h is.rows (v.ensures.visited ∙ is.count)
    (sym (is.done n c.done.result (v.ensures.whole c.requires.ready.whole).sound h (c.done.ensures v.new.self.tree)) ∙ c.if-not-done.true)))

pub returns-clause-ok : goal.returns-clause-ok
returns-clause-ok g c =
    let p = c.args.self.now in
    let v = c.visit-visited in
    let n = c.in-Some.folder in
    let h = sym c.head.ensures ∙ c.in-Some.is in
    let s = v.new.self.scans in
    let is = visited_left p v.new.self c.args.n v.ensures.kept v.ensures.left in
    let queue = c.requires.ready.whole.valid.queue in
    let f = has_found folder_of n p.objects.quotas (head_quota p.objects.quotas p.scans.queue n queue h) in
    step_ending p c.finish-used.new.self s c.args.n c.args.moment n v.result c.finish-used.result f.row
    (subst (λ (q : Parts). Finishes q c.finish-used.new.self n c.args.moment) v.ensures.kept c.finish-used.ensures.finished)
    c.requires.ready.idle c.requires.ready.after h f.is (head_uncounted p.objects.quotas p.scans.queue n f.row queue h f.is) is.rows (v.ensures.visited ∙ is.count)
    (sym (is.done n c.done.result (v.ensures.whole c.requires.ready.whole).sound h (c.done.ensures v.new.self.tree)) ∙ c.if-not-done.false)
    (c.finish-used.ensures.used ∙ is.used n)

pub finish-used-requires-clause-ready : goal.finish-used-requires-clause-ready
finish-used-requires-clause-ready g c =
    visited_ready c.args.self.now c.visit-visited.new.self c.args.moment c.visit-visited.ensures.kept c.requires.ready (c.visit-visited.ensures.whole c.requires.ready.whole)
