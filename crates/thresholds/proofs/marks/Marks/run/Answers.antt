use Rattle.std.proofs.Common.{[], ◌∷◌, ◌++◌, ◌∙◌, ap, arith}
use Rattle.fsrm_base.specs.Numbers.{with_number}
use Rattle.fsrm_model.specs.declared.row.ActRow.{ActRow}
use Rattle.fsrm_model.specs.objects.Runs.{last_entries}
use Rattle.number_set.specs.Numbers.{Numbers}
use Rattle.thresholds.specs.Marked.{Marked}
use Rattle.thresholds.proofs.KeptLaws.{pushed_items, entry_kept, number_kept}
use Rattle.thresholds.proofs.RunSteps.{has_number, may_run, ran_one}
use Rattle.thresholds.proofs.marks.Marks.run.Goals as goal

pub insert-requires : goal.insert-requires
insert-requires c =
    omega (arith, c.self.invariant.bound, has_number c.args.objects.now c.args.number c.act_at-act.result c.requires.orderly c.act_at-act.ensures)

pub set_run-requires : goal.set_run-requires
set_run-requires c =
    may_run c.args.objects.now c.args.number c.act_at-act.result c.requires.orderly c.act_at-act.ensures c.folder-folder.result c.percent-percent.result c.folder-folder.ensures c.percent-percent.ensures

pub invariant_of-self : goal.invariant_of-self
invariant_of-self c =
    entry_kept c.self.inside.log c.push_back.new.self _ c.self.invariant.capacity c.push_back.ensures.items c.insert.new.self c.self.inside.places
    (number_kept c.self.inside.numbers c.insert.new.self c.self.inside.log c.self.inside.places c.args.number c.insert.ensures c.self.invariant)

pub returns-clause-settled : goal.returns-clause-settled
returns-clause-settled c =
    let act = c.act_at-act.result in
    let row : ActRow = record { moment = c.args.moment; folder = c.folder-folder.result; percent = c.percent-percent.result; kind = act.kind } in
    ran_one c.args.objects.now c.args.number act c.requires.orderly c.act_at-act.ensures c.args.self.now (record { numbers = c.insert.new.self.members; log = c.push_back.new.self.items; folder = c.self.inside.folder; places = c.self.inside.places.items }) c.set_run.new.self c.args.moment c.folder-folder.result c.percent-percent.result c.requires.marked c.folder-folder.ensures c.percent-percent.ensures c.set_run.ensures
    (pushed_items c.self.inside.log c.push_back.new.self _ c.self.invariant.capacity c.push_back.ensures.items ∙ ap (λ (m : Marked). last_entries (m.log ++ row ∷ [])) c.self.view_is)
    (ap (λ (s : Numbers). s.members) c.insert.ensures ∙ ap (λ (m : Marked). with_number c.args.number m.numbers) c.self.view_is)
    (ap (λ (m : Marked). m.folder) c.self.view_is) (ap (λ (m : Marked). m.places) c.self.view_is)

pub returns-clause-sorted : goal.returns-clause-sorted
returns-clause-sorted c = (number_kept c.self.inside.numbers c.insert.new.self c.self.inside.log c.self.inside.places c.args.number c.insert.ensures c.self.invariant).ascending
