use Rattle.std.proofs.Common.{◌≡◌, false, [], refl, ap, sym, ◌∙◌, subst}
use Rattle.std.specs.Prelude.{if◌then◌else◌}
use Rattle.std.proofs.lemmas.Option.{same_Some}
use Rattle.fsrm_model.specs.declared.row.QuotaRow.{QuotaRow}
use Rattle.fsrm_model.specs.objects.Quota.{counts}
use Rattle.fsrm_model.specs.store.Replays.{completed, finished}
use Rattle.fsrm_engine.specs.Machine.{AreMarked, rows_of}
use Rattle.fsrm_engine.proofs.settling.MarkLaws.{idle_marked}
use Rattle.fsrm_engine.proofs.steps.FinishLaws.{counters_are, fresh_finish, unfinished}
use Rattle.fsrm_engine.proofs.steps.ScanSteps.{finish_ends, finished_sound}
use Rattle.fsrm_engine.proofs.parts.Parts.finish_fresh.Goals as goal

-- nothing is to be counted
pub returns-then-not-has_unfinished-clause-rows : goal.returns-then-not-has_unfinished-clause-rows
returns-then-not-has_unfinished-clause-rows g c =
    let p = c.args.self.now in
    sym (ap (λ b. if b then finished p.tree.size (rows_of p) c.args.moment c.args.folder else rows_of p) (sym c.has_unfinished.ensures ∙ c.if-not-has_unfinished.true))

pub returns-then-not-has_unfinished-clause-acts : goal.returns-then-not-has_unfinished-clause-acts
returns-then-not-has_unfinished-clause-acts g c =
    let p = c.args.self.now in
    subst (AreMarked p)
    (sym (ap (λ b. if b then (completed p.tree.size (rows_of p) c.args.moment c.args.folder).acts else []) (sym c.has_unfinished.ensures ∙ c.if-not-has_unfinished.true)))
    (idle_marked p c.requires.may.idle)

-- the folder is counted
pub sum_below-used-requires-clause-folder : goal.sum_below-used-requires-clause-folder
sum_below-used-requires-clause-folder g c =
    let p = c.args.self.now in
    let u = unfinished p.objects.quotas c.args.folder _ refl (sym c.has_unfinished.ensures ∙ c.if-not-has_unfinished.false) in
    c.requires.may.sound.counted.are_quotas.folders c.args.folder u.row u.found

pub sum_below-used-requires-clause-counters : goal.sum_below-used-requires-clause-counters
sum_below-used-requires-clause-counters g c = counters_are c.args.self.now c.requires.may.sound.counted

pub complete-requires-clause-there : goal.complete-requires-clause-there
complete-requires-clause-there g c = (unfinished c.args.self.now.objects.quotas c.args.folder _ refl (sym c.has_unfinished.ensures ∙ c.if-not-has_unfinished.false)).there

pub complete-requires-clause-uncounted : goal.complete-requires-clause-uncounted
complete-requires-clause-uncounted g c quota found =
    let p = c.args.self.now in
    let u = unfinished p.objects.quotas c.args.folder _ refl (sym c.has_unfinished.ensures ∙ c.if-not-has_unfinished.false) in
    subst (λ (q : QuotaRow). counts q ≡ false) (same_Some u.row quota (sym u.found ∙ found)) u.uncounted

pub complete-requires-clause-may : goal.complete-requires-clause-may
complete-requires-clause-may g c =
    record {
      counted = c.requires.may.sound.counted;
      idle = record { numbers = c.requires.may.idle.numbers; places = c.requires.may.idle.places; crossing = c.requires.may.idle.crossing };
      in_range = c.requires.may.in_range;
    }

pub returns-clause-size : goal.returns-clause-size
returns-clause-size g c =
    let p = c.args.self.now in
    let is = sym c.has_unfinished.ensures ∙ c.if-not-has_unfinished.false in
    let u = unfinished p.objects.quotas c.args.folder _ refl is in
    let f = fresh_finish p c.complete.new.self c.sum_below-used.new.self c.leave.new.self c.args.folder c.args.moment c.sum_below-used.ensures.kept c.leave.ensures.queue c.leave.ensures.turns c.requires.may.sound.scanning c.complete.ensures.completed in
    (finish_ends p c.complete.new.self c.args.moment c.args.folder u.row f c.requires.may.idle u.found u.uncounted).size_is

pub returns-clause-rows : goal.returns-clause-rows
returns-clause-rows g c =
    let p = c.args.self.now in
    let is = sym c.has_unfinished.ensures ∙ c.if-not-has_unfinished.false in
    let u = unfinished p.objects.quotas c.args.folder _ refl is in
    let f = fresh_finish p c.complete.new.self c.sum_below-used.new.self c.leave.new.self c.args.folder c.args.moment c.sum_below-used.ensures.kept c.leave.ensures.queue c.leave.ensures.turns c.requires.may.sound.scanning c.complete.ensures.completed in
    (finish_ends p c.complete.new.self c.args.moment c.args.folder u.row f c.requires.may.idle u.found u.uncounted).rows_are
    ∙ sym (ap (λ b. if b then finished p.tree.size (rows_of p) c.args.moment c.args.folder else rows_of p) is)

pub returns-clause-acts : goal.returns-clause-acts
returns-clause-acts g c =
    let p = c.args.self.now in
    let is = sym c.has_unfinished.ensures ∙ c.if-not-has_unfinished.false in
    let u = unfinished p.objects.quotas c.args.folder _ refl is in
    let f = fresh_finish p c.complete.new.self c.sum_below-used.new.self c.leave.new.self c.args.folder c.args.moment c.sum_below-used.ensures.kept c.leave.ensures.queue c.leave.ensures.turns c.requires.may.sound.scanning c.complete.ensures.completed in
    subst (AreMarked c.complete.new.self) (sym (ap (λ b. if b then (completed p.tree.size (rows_of p) c.args.moment c.args.folder).acts else []) is))
    (finish_ends p c.complete.new.self c.args.moment c.args.folder u.row f c.requires.may.idle u.found u.uncounted).acts_are

pub returns-clause-sound : goal.returns-clause-sound
returns-clause-sound g c =
    let p = c.args.self.now in
    let f = fresh_finish p c.complete.new.self c.sum_below-used.new.self c.leave.new.self c.args.folder c.args.moment c.sum_below-used.ensures.kept c.leave.ensures.queue c.leave.ensures.turns c.requires.may.sound.scanning c.complete.ensures.completed in
    finished_sound p c.complete.new.self c.args.folder c.args.moment f c.complete.ensures.counted
