-- An operation whose name an active screen blocks.
use Rattle.std.proofs.Common.{◌≡◌, ℕ, ◌≤◌, List, Option, Some, refl, ap, sym, ◌∙◌, subst}
use Rattle.std.specs.Prelude.{option_map}
use Rattle.fsrm_model.specs.declared.command.Act.{Act}
use Rattle.fsrm_model.specs.declared.command.Answer.{Answer}
use Rattle.fsrm_model.specs.declared.command.Deed.{Deed}
use Rattle.fsrm_model.specs.declared.command.Outcome.TheVariants.{Refused}
use Rattle.fsrm_model.specs.declared.command.Refusal.TheVariants.{ScreenBlocked}
use Rattle.fsrm_model.specs.declared.row.Rows.{Rows}
use Rattle.fsrm_model.specs.objects.Audits.{audited}
use Rattle.fsrm_model.specs.objects.DueActions.{due_screen}
use Rattle.fsrm_model.specs.objects.Quota.{peaks}
use Rattle.fsrm_model.specs.commands.Step.{lasted, refused_leaving, screened_by}
use Rattle.fsrm_model.specs.commands.Work.{Judged}
use Rattle.fsrm_model.proofs.commands.OrderlyLaws.{acts_left, audited_same, left_is}
use Rattle.rescan.specs.Courses.{Scanning}
use Rattle.fsrm_engine.specs.declared.parts.Parts.{Parts}
use Rattle.fsrm_engine.specs.Machine.{AreCounted, AreMarked, Does, IsIdle, IsSound, ended, rows_of}
use Rattle.fsrm_engine.specs.Screening.{Blocks}
use Rattle.fsrm_engine.proofs.judging.MarkedNotes.{noted_waits}
use Rattle.fsrm_engine.proofs.judging.NotedLaws.{noted, with_notes}
use Rattle.fsrm_engine.proofs.steps.StepLaws.{asked, does_by, due, step_by}

-- the answer to one that is blocked
pub blocked_with : (p new : Parts) (m : ℕ) (deed : Deed) (answer : Answer) (judged : Judged) → IsIdle p → p.last_moment ≤ m → due p m deed ≡ Some (ScreenBlocked judged.screen.folder) → (asked p m deed).judged ≡ Some judged → Blocks p new judged m answer → Does p new m deed answer
blocked_with p new m deed answer judged idle after due_is judged_is b =
    let K = p.tree.size in
    let R = rows_of p in
    let n = noted p b.between judged m b.notes in
    let acts : List Act = due_screen p.run_limit m judged.screen in
    let outcome = Refused (ScreenBlocked judged.screen.folder) in
    let left : Parts = with_notes p n.screens n.marks n.audit in
    let ends : new ≡ ended left m = b.ends ∙ ap (λ (q : Parts). ended q m) n.is in
    subst (λ (q : Parts). Does p q m deed answer) (sym ends)
    (does_by p (ended left m) m deed answer (lasted K R (screened_by R m judged) m outcome)
    (step_by p m deed (Some (ScreenBlocked judged.screen.folder)) after due_is
    ∙ ap (λ (o : Option Judged). refused_leaving K R m (ScreenBlocked judged.screen.folder) (option_map (screened_by R m) o)) judged_is)
    refl
    (ap (λ (S : Rows). record (peaks K S m) { last_moment = m }) (sym n.rows)
    ∙ sym (left_is K R (audited m judged R) m acts outcome (audited_same K R m judged)))
    (subst (AreMarked (ended left m)) (sym (acts_left K R (audited m judged R) m acts outcome (audited_same K R m judged)))
    (noted_waits left m acts (record { numbers = n.numbers ∙ idle.numbers; crossing = idle.crossing }) n.there n.waits n.own))
    b.answer_is)

-- the parts are sound after it
pub blocked_sound : (p new : Parts) (m : ℕ) (judged : Judged) (answer : Answer) → Blocks p new judged m answer → AreCounted new → Scanning p.tree p.scans → IsSound new
blocked_sound p new m judged answer b counted scanning =
    let n = noted p b.between judged m b.notes in
    record {
      counted = counted;
      scanning = subst (λ (q : Parts). Scanning q.tree q.scans) (sym (b.ends ∙ ap (λ (q : Parts). ended q m) n.is)) scanning;
    }
