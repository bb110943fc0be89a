-- One quota of a template comes to a folder that has none, or none comes.
use Rattle.std.proofs.Common.{◌≡◌, ℕ, ◌≤◌, true, false, cond, Some, None, refl, ap, sym, subst}
use Rattle.fsrm_base.specs.Keyed.{has_row, with_row}
use Rattle.fsrm_base.proofs.TestLaws.{le_test}
use Rattle.fsrm_model.specs.declared.row.QuotaRow.{QuotaRow}
use Rattle.fsrm_model.specs.declared.row.TemplateRow.{TemplateRow}
use Rattle.fsrm_model.specs.values.Limits.{latest_moment}
use Rattle.fsrm_model.specs.objects.Quota.{folder_of}
use Rattle.fsrm_model.specs.objects.QuotaStates.{queued, scan_begun, start}
use Rattle.fsrm_model.specs.objects.Templates.{derived, template_number, template_of}
use Rattle.fsrm_model.specs.nodes.Tree.{is_folder}
use Rattle.rescan.specs.Courses.{left}
use Rattle.fsrm_engine.specs.declared.parts.Parts.{Parts}
use Rattle.fsrm_engine.specs.Arrivals.{Receives, from_source, source_fault}
use Rattle.fsrm_engine.specs.Machine.{IsSound, IsWhole, Turned}
use Rattle.fsrm_engine.proofs.applied.ReceiveLaws.{IsComing}
use Rattle.fsrm_engine.proofs.coming.SourceLaws.{IsSource, room_for, source_gives, source_is}
use Rattle.fsrm_engine.proofs.steps.StepLaws.{same_own}
use Rattle.fsrm_engine.proofs.tables.StateLaws.{empty_folder, first_empty}

-- where none comes nothing changes
pub none_comes : (p : Parts) → IsSound p → Receives p p None
none_comes p s = record {
  parts_are = ap (λ cs. record p { usage = cs }) s.counted.sums;
  queue_is = refl;
  turns = record {
    scanning = s.scanning;
    left_is = sym (ap (λ b. cond b (left p.tree.nodes p.scans) (scan_begun p.tree.nodes p.scans.queue)) (same_own p.scans.queue));
  };
}

module _ (p : Parts) (w : IsWhole p) (n t m : ℕ) (there : has_row template_number t p.templates.templates ≡ true) (row : QuotaRow) (derives : (template : TemplateRow) → template_of p.templates.templates t ≡ Some template → row ≡ derived template n (start p.tree.nodes n) m) where
  s : IsSource p.templates.templates t
  s = source_is p w t there

  row_is : row ≡ derived s.template n (start p.tree.nodes n) m
  row_is = derives s.template s.found

  pub one_coming : is_folder p.tree.nodes n ≡ true → has_row folder_of n p.objects.quotas ≡ false → source_fault p (Some t) ≡ None → m ≤ latest_moment → IsComing p row
  one_coming kind absent may late =
      let room = room_for p t s.template s.found may in
      subst (IsComing p) (sym row_is) (record {
        absent = absent;
        folder = kind;
        limit = s.limit;
        thresholds = s.thresholds;
        moment = le_test m latest_moment late;
        unused = λ c. empty_folder p.tree.size p.tree.nodes n w.valid.volume kind (first_empty p.tree.nodes n true c);
        few = room.few;
        short = room.short;
      })

  pub one_comes : (q : Parts) → Turned p q (with_row folder_of row p.objects.quotas) (queued p.scans.queue row.folder row.state) → Receives p q (from_source p.templates.templates n (start p.tree.nodes n) m (Some t))
  one_comes q turned =
      subst (Receives p q) (sym (source_gives p.templates.templates n (start p.tree.nodes n) m t s.template s.found))
      (subst (λ (r : QuotaRow). Turned p q (with_row folder_of r p.objects.quotas) (queued p.scans.queue r.folder r.state)) row_is turned)
