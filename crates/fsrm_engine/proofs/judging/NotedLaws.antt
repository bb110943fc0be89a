-- What is left of parts when a name was noted, if a screen judged it.
use Rattle.std.proofs.Common.{◌≡◌, ℕ, ◌≤◌, ◌++◌, true, List, [], length, Option, Some, None, refl, ap, sym, ◌∙◌, subst, is_some}
use Rattle.std.specs.Prelude.{filter_map, map, option_map}
use Rattle.std.specs.List.{AllByRecursion, list_all}
use Rattle.std.specs.Option.{option_map_or}
use Rattle.fsrm_model.specs.declared.command.Act.{Act}
use Rattle.fsrm_model.specs.declared.row.ActRow.{ActRow}
use Rattle.fsrm_model.specs.declared.row.AuditRow.{AuditRow}
use Rattle.fsrm_model.specs.declared.row.QuotaRow.{QuotaRow}
use Rattle.fsrm_model.specs.declared.row.ScreenRow.{ScreenRow}
use Rattle.fsrm_model.specs.objects.Audits.{audit_of, with_audit}
use Rattle.fsrm_model.specs.objects.DueActions.{due_screen}
use Rattle.fsrm_model.specs.values.Limits.{most_entries, most_quotas}
use Rattle.fsrm_model.specs.objects.Runs.{entry_of, last_entries, run_screen}
use Rattle.fsrm_model.specs.commands.Step.{screened}
use Rattle.fsrm_model.specs.store.Valid.{IsVolume}
use Rattle.fsrm_model.specs.commands.Work.{Judged}
use Rattle.fsrm_model.proofs.thresholds.ActLaws.{IsOfScreen}
use Rattle.fsrm_model.proofs.thresholds.RunLaws.{few_entries}
use Rattle.fsrm_model.proofs.thresholds.UnrunLaws.{of_screen_due, quotas_unrun}
use Rattle.fsrm_objects.specs.Tables.{Tables}
use Rattle.number_set.specs.Numbers.{no_numbers}
use Rattle.quota_usage.specs.declared.change.Change.{Change}
use Rattle.quota_usage.specs.Charge.{IsChange, Fits, height}
use Rattle.rescan.specs.Courses.{Scanning}
use Rattle.thresholds.specs.Marked.{Marked, are_screen_acts, screen_act_at, screen_waiting}
use Rattle.thresholds.specs.Settled.{SettlesScreen, are_orderly, screen_due}
use Rattle.file_screens.specs.declared.answer.Blocked.{Blocked}
use Rattle.file_screens.specs.Blocked.{told}
use Rattle.fsrm_engine.specs.declared.parts.Parts.{Parts}
use Rattle.fsrm_parts.specs.Crossing.{IsCovered}
use Rattle.fsrm_engine.specs.Machine.{AreCounted, IsCalm, charged_parts, rows_of}
use Rattle.fsrm_engine.specs.Reporting.{Reports}
use Rattle.fsrm_engine.specs.Screening.{NotesName, judged_screen}
use Rattle.fsrm_engine.proofs.judging.JudgedLaws.{told_same}

-- parts with other screens, marks and audit log
abbrev pub with_notes : Parts → List ScreenRow → Marked → List AuditRow → Parts
with_notes p screens marks audit = record p { objects = record p.objects { screens = screens }; marks = marks; audit = audit }

-- the parts that were left are those of the definition
pub record IsNoted (p new : Parts) (judged : Option Judged) (m : ℕ) : Type 0 where
  pub screens : List ScreenRow
  pub marks : Marked
  pub audit : List AuditRow
  pub is : new ≡ with_notes p screens marks audit
  pub rows : (screened (rows_of p) m judged).rows ≡ rows_of (with_notes p screens marks audit)
  pub waits : screen_waiting screens marks ≡ (screened (rows_of p) m judged).acts
  pub there : are_screen_acts screens marks ≡ true
  pub own : AllByRecursion IsOfScreen (screened (rows_of p) m judged).acts
  pub numbers : marks.numbers ≡ p.marks.numbers
  pub few : length marks.log ≤ most_entries

-- a name is noted by its entry, and by the runs of the screen that is told of
pub notes : (p : Parts) (judged : Blocked) (owner folder : ℕ) (name : List ℕ) (m : ℕ) (audit : List AuditRow) (objects : Tables) (marks : Marked) → option_map told (judged_screen p judged) ≡ Some judged → audit ≡ with_audit (record { moment = m; active = judged.active; owner = owner; folder = folder; screen = judged.screen; name = name }) p.audit → SettlesScreen p.marks marks p.objects objects m (screen_due p.objects p.run_limit m judged.screen) →
    (screen : ScreenRow) → judged_screen p judged ≡ Some screen → NotesName p (record p { audit = audit; objects = objects; marks = marks }) (record { screen = screen; owner = owner; folder = folder; name = name }) m
notes p judged owner folder name m audit objects marks there entry settles screen found =
    let of : Blocked → List AuditRow = λ j. with_audit (record { moment = m; active = j.active; owner = owner; folder = folder; screen = j.screen; name = name }) p.audit in
    record {
      parts_are = ap (λ (log : List AuditRow). record p { audit = log; objects = objects; marks = marks }) (entry ∙ sym (ap of (told_same p judged screen there found)));
      settles = subst (SettlesScreen p.marks marks p.objects objects m) (ap (λ o. option_map_or (due_screen p.run_limit m) o []) found) settles;
    }

-- of a name that a screen judges
pub noted : (p new : Parts) (judged : Judged) (m : ℕ) → NotesName p new judged m → IsNoted p new (Some judged) m
noted p new judged m n =
    let acts : List Act = due_screen p.run_limit m judged.screen in
    let audit : List AuditRow = with_audit (audit_of m judged) p.audit in
    let screens : List ScreenRow = map (run_screen m acts) p.objects.screens in
    let left : Parts = with_notes p screens new.marks audit in
    let log : List ActRow = last_entries (p.marks.log ++ map (entry_of m) acts) in
    record {
      screens = screens;
      marks = new.marks;
      audit = audit;
      is = n.parts_are ∙ ap (λ (t : Tables). record p { objects = t; marks = new.marks; audit = audit }) n.settles.tables;
      rows = ap (λ (qs : List QuotaRow). record (rows_of left) { quotas = qs; acts = log }) (quotas_unrun m acts p.objects.quotas (of_screen_due p.run_limit m judged.screen))
          ∙ ap (λ (log : List ActRow). record (rows_of left) { acts = log }) (sym n.settles.log);
      waits = ap (λ (t : Tables). screen_waiting t.screens new.marks) (sym n.settles.tables) ∙ n.settles.waiting;
      there = ap (λ (t : Tables). are_screen_acts t.screens new.marks) (sym n.settles.tables) ∙ n.settles.there;
      own = of_screen_due p.run_limit m judged.screen;
      numbers = n.settles.numbers;
      few = subst (λ (log : List ActRow). length log ≤ most_entries) (sym n.settles.log) (few_entries (p.marks.log ++ map (entry_of m) acts));
    }

-- and if none does
pub reported : (p new : Parts) (judged : Option Judged) (m : ℕ) → p.marks.places ≡ [] → length p.marks.log ≤ most_entries → Reports p new judged m → IsNoted p new judged m
reported p new None m none few h = record {
  screens = p.objects.screens;
  marks = p.marks;
  audit = p.audit;
  is = h;
  rows = refl;
  waits = ap (λ places. filter_map (screen_act_at p.objects.screens p.marks.folder) places) none;
  there = ap (λ places. list_all (λ place. is_some (screen_act_at p.objects.screens p.marks.folder place)) places) none;
  own = tt;
  numbers = refl;
  few = few;
}
reported p new (Some judged) m none few h = noted p new judged m h

-- the counters stay those of the tree
pub counted_noted : (p new : Parts) (judged : Option Judged) (m : ℕ) → AreCounted p → IsNoted p new judged m → AreCounted new
counted_noted p new judged m e n = subst AreCounted (sym n.is) e

-- ---- what is known of parts is known of them when the name was noted
module _ (p new : Parts) (judged : Option Judged) (m : ℕ) (none : p.marks.places ≡ []) (few : length p.marks.log ≤ most_entries) (h : Reports p new judged m) where
  n : IsNoted p new judged m
  n = reported p new judged m none few h

  pub noted_volume : IsVolume p.tree.size p.tree.nodes → IsVolume new.tree.size new.tree.nodes
  noted_volume v = subst (λ (q : Parts). IsVolume q.tree.size q.tree.nodes) (sym n.is) v

  pub noted_quotas : are_orderly p.objects.quotas ≡ true → are_orderly new.objects.quotas ≡ true
  noted_quotas o = subst (λ (q : Parts). are_orderly q.objects.quotas ≡ true) (sym n.is) o

  pub noted_change : (change : Change) → IsChange p.tree.nodes change → IsChange new.tree.nodes change
  noted_change change c = subst (λ (q : Parts). IsChange q.tree.nodes change) (sym n.is) c

  pub noted_fits : (change : Change) → Fits p.tree.nodes p.usage change → Fits new.tree.nodes new.usage change
  noted_fits change f = subst (λ (q : Parts). Fits q.tree.nodes q.usage change) (sym n.is) f

  pub noted_covered : (change : Change) → IsCovered p.tree.nodes p.usage change → IsCovered new.tree.nodes new.usage change
  noted_covered change c = subst (λ (q : Parts). IsCovered q.tree.nodes q.usage change) (sym n.is) c

  pub noted_calm : p.marks.numbers ≡ [] → p.crossing ≡ no_numbers most_quotas → IsCalm new
  noted_calm numbers crossing = subst IsCalm (sym n.is) (record { numbers = n.numbers ∙ numbers; crossing = crossing })

  pub noted_log : length new.marks.log ≤ most_entries
  noted_log = subst (λ (q : Parts). length q.marks.log ≤ most_entries) (sym n.is) n.few

  pub noted_scans : Scanning p.tree p.scans → Scanning new.tree new.scans
  noted_scans s = subst (λ (q : Parts). Scanning q.tree q.scans) (sym n.is) s

  pub noted_height : (f : Option ℕ) → height new.tree.nodes f ≡ height p.tree.nodes f
  noted_height f = ap (λ (q : Parts). height q.tree.nodes f) n.is

  pub noted_charged : (change : Change) → AreCounted (charged_parts p change m) → AreCounted (charged_parts new change m)
  noted_charged change e = subst (λ (q : Parts). AreCounted (charged_parts q change m)) (sym n.is) e
