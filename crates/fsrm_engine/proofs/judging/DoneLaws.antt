-- An operation that is done, whose name a passive screen may report.
use Rattle.std.proofs.Common.{◌≡◌, ℕ, ◌≤◌, ◌++◌, true, List, [], length, Option, None, ap, sym, ◌∙◌, subst}
use Rattle.std.specs.Prelude.{map}
use Rattle.std.specs.List.{AllByRecursion}
use Rattle.fsrm_model.specs.declared.command.Act.{Act}
use Rattle.fsrm_model.specs.declared.command.Answer.{Answer}
use Rattle.fsrm_model.specs.declared.command.Deed.{Deed}
use Rattle.fsrm_model.specs.declared.row.Capacity.{Capacity}
use Rattle.fsrm_model.specs.declared.row.QuotaRow.{QuotaRow}
use Rattle.fsrm_model.specs.declared.row.Rows.{Rows}
use Rattle.fsrm_model.specs.objects.DueActions.{due as due_acts}
use Rattle.fsrm_model.specs.values.Limits.{most_entries}
use Rattle.fsrm_model.specs.objects.Quota.{peaked, peaks}
use Rattle.fsrm_model.specs.objects.QuotaStates.{followed}
use Rattle.fsrm_model.specs.objects.Runs.{ran}
use Rattle.fsrm_model.specs.commands.Step.{Acted, accepted, lasted, screened}
use Rattle.fsrm_model.specs.commands.Work.{Judged, Work}
use Rattle.fsrm_model.proofs.thresholds.ActLaws.{IsOfQuota, of_quota_due}
use Rattle.quota_usage.specs.declared.change.Change.{Change}
use Rattle.rescan.specs.Courses.{Scanning}
use Rattle.fsrm_engine.specs.declared.parts.Parts.{Parts}
use Rattle.fsrm_engine.specs.Due.{charged_acts}
use Rattle.fsrm_engine.specs.Reporting.{EndsNamed}
use Rattle.fsrm_engine.specs.Machine.{AreCounted, AreMarked, Does, IsIdle, IsSound, Ran, charged_parts, ended, rows_of}
use Rattle.fsrm_engine.proofs.judging.MarkedNotes.{ran_waits}
use Rattle.fsrm_engine.proofs.judging.NotedLaws.{IsNoted, noted_scans, reported, with_notes}
use Rattle.fsrm_engine.proofs.settling.EndLaws.{due_made, due_of, ended_rows}
use Rattle.fsrm_engine.proofs.steps.StepLaws.{accepted_by, asked, does_by, due, step_by}
use Rattle.fsrm_engine.proofs.tables.RanLaws.{sound_run}

-- what is known of an operation that no check refuses, and of the parts that it makes before the name is noted
pub record Makes (p mid : Parts) (m : ℕ) (deed : Deed) (judged : Option Judged) : Type 0 where
  pub after : p.last_moment ≤ m
  pub none : due p m deed ≡ None
  pub lasts : (asked p m deed).lasts ≡ true
  pub judged_is : (asked p m deed).judged ≡ judged
  pub size : mid.tree.size ≡ p.tree.size
  pub idle : IsIdle mid
  pub made : followed (rows_of p) (asked p m deed).effect ≡ rows_of mid

accepted_under : (K : Capacity) (R : Rows) (m : ℕ) (w : Work) (E : Rows) (judged : Option Judged) → w.lasts ≡ true → followed R w.effect ≡ E → w.judged ≡ judged → accepted K R m w ≡ lasted K R (screened E m judged) m w.outcome
accepted_under K R m w E judged lasts made is =
    accepted_by K R m w true lasts
    ∙ (ap (λ (S : Rows). lasted K R (screened S m w.judged) m w.outcome) made
    ∙ ap (λ o. lasted K R (screened E m o) m w.outcome) is)

-- over parts whose name was noted the counters are changed, and the quotas' acts run that are due
noted_done : (p mid run new : Parts) (m : ℕ) (deed : Deed) (answer : Answer) (change : Change) (judged : Option Judged) (left : Parts) → Makes p mid m deed judged → (n : IsNoted mid left judged m) →
    map (peaked p.tree.size mid.tree.nodes m) (charged_parts mid change m).objects.quotas ≡ map (peaked p.tree.size mid.tree.nodes m) mid.objects.quotas → charged_acts mid change m ≡ due_of p (charged_parts mid change m) m →
    Ran (charged_parts (with_notes mid n.screens n.marks n.audit) change m) run m (charged_acts mid change m) → new ≡ ended run m → answer ≡ record { outcome = (asked p m deed).outcome; lasting = true } → Does p new m deed answer
noted_done p mid run new m deed answer change judged left a n raised due_is r ends e =
    let K = p.tree.size in
    let R = rows_of p in
    let w = asked p m deed in
    let noted : Parts = with_notes mid n.screens n.marks n.audit in
    let chg : Parts = charged_parts noted change m in
    let S : Acted = screened (rows_of mid) m judged in
    let quotas : List QuotaRow = mid.objects.quotas in
    let acts : List Act = charged_acts mid change m in
    let D : List Act = due_acts K R (peaks K S.rows m) m in
    let are : acts ≡ D = due_is ∙ sym (due_made p chg S.rows quotas m n.rows raised) in
    let own : AllByRecursion IsOfQuota acts = subst (AllByRecursion IsOfQuota) (sym are) (of_quota_due K R (peaks K S.rows m) m) in
    let raised_at : map (peaked chg.tree.size chg.tree.nodes m) chg.objects.quotas ≡ map (peaked chg.tree.size chg.tree.nodes m) quotas =
    subst (λ (K : Capacity). map (peaked K mid.tree.nodes m) chg.objects.quotas ≡ map (peaked K mid.tree.nodes m) quotas) (sym a.size) raised in
    let after : Capacity → Rows → List Act → Rows = λ K E acts. record (ran m acts (peaks K E m)) { last_moment = m } in
    does_by p new m deed answer (lasted K R S m w.outcome)
    (step_by p m deed None a.after a.none ∙ accepted_under K R m w (rows_of mid) judged a.lasts a.made a.judged_is)
    (ap (λ (q : Parts). q.tree.size) ends ∙ (ap (λ (q : Parts). q.tree.size) r.parts_are ∙ a.size))
    (ap rows_of ends
    ∙ (ended_rows chg run m acts quotas own r raised_at
    ∙ (ap (λ (K : Capacity). after K (rows_of noted) acts) a.size
    ∙ (ap (λ (E : Rows). after K E acts) (sym n.rows) ∙ ap (after K S.rows) are))))
    (subst (λ (q : Parts). AreMarked q (S.acts ++ D)) (sym ends)
    (subst (λ acts. AreMarked (ended run m) (S.acts ++ acts)) are
    (ran_waits chg run m S.acts acts (record { numbers = n.numbers ∙ a.idle.numbers; crossing = a.idle.crossing }) n.there n.waits n.own own r)))
    e

-- so the operation is done
pub done_named : (p mid new : Parts) (m : ℕ) (deed : Deed) (answer : Answer) (change : Change) (judged : Option Judged) → Makes p mid m deed judged → length mid.marks.log ≤ most_entries → EndsNamed mid new judged change m →
    map (peaked p.tree.size mid.tree.nodes m) (charged_parts mid change m).objects.quotas ≡ map (peaked p.tree.size mid.tree.nodes m) mid.objects.quotas → charged_acts mid change m ≡ due_of p (charged_parts mid change m) m → answer ≡ record { outcome = (asked p m deed).outcome; lasting = true } → Does p new m deed answer
done_named p mid new m deed answer change judged a few ended raised due_is e =
    let n = reported mid ended.left judged m a.idle.places few ended.reports in
    noted_done p mid ended.run new m deed answer change judged ended.left a n raised due_is
    (subst (λ (q : Parts). Ran (charged_parts q change m) ended.run m (charged_acts q change m)) n.is ended.ran) ended.ends e

-- and the parts are sound after it
pub sound_named : (p new : Parts) (judged : Option Judged) (change : Change) (m : ℕ) → p.marks.places ≡ [] → length p.marks.log ≤ most_entries → EndsNamed p new judged change m → AreCounted new → Scanning p.tree p.scans → IsSound new
sound_named p new judged change m none few ended counted scanning =
    sound_run (charged_parts ended.left change m) ended.run new m _ ended.ran ended.ends counted (noted_scans p ended.left judged m none few ended.reports scanning)
