-- The acts that are due when a template changed: those of the quotas that its change reaches.
use Rattle.std.proofs.Common.{◌≡◌, ℕ, ◌==◌, ◌&&◌, Bool, true, false, cond, not, List, [], Some, refl, ap, sym, ◌∙◌}
use Rattle.std.specs.Prelude.{filter, flat_map, map, option_map}
use Rattle.std.specs.Option.{option_map_or}
use Rattle.fsrm_base.specs.Keyed.{row_of}
use Rattle.fsrm_base.proofs.Look.{find-map}
use Rattle.fsrm_base.proofs.RowLaws.{all_filter, each_found}
use Rattle.fsrm_model.specs.declared.command.Act.{Act}
use Rattle.fsrm_model.specs.declared.command.Update.{Update}
use Rattle.fsrm_model.specs.declared.row.QuotaRow.{QuotaRow}
use Rattle.fsrm_model.specs.declared.row.TemplateRow.{TemplateRow}
use Rattle.fsrm_model.specs.objects.DueActions.{quota_acts}
use Rattle.fsrm_model.specs.objects.Quota.{folder_of, counts}
use Rattle.fsrm_model.specs.objects.Reached.{crossed, has_reached, reached}
use Rattle.fsrm_model.specs.objects.Templates.{as_template, is_reached, updated}
use Rattle.fsrm_model.proofs.templates.UpdateDue.{IsLeft, due_mapped}
use Rattle.quota_usage.specs.Counters.{used_in}
use Rattle.templates.specs.Held.{Held}
use Rattle.thresholds.specs.Settled.{crosses}
use Rattle.fsrm_engine.specs.declared.parts.Parts.{Parts}
use Rattle.fsrm_parts.specs.Updated.{updated_acts}
use Rattle.fsrm_engine.specs.Machine.{AreCounted, rows_of}
use Rattle.fsrm_engine.proofs.operations.IdleLaws.{used_at}
use Rattle.fsrm_engine.proofs.settling.DueLaws.{gathered_as, reached_row}
use Rattle.fsrm_engine.proofs.settling.EndLaws.{acts_same, due_of}
use Rattle.fsrm_engine.proofs.tables.TemplateLaws.{rewritten}

-- ---- which acts are due
-- a quota that a change doesn't reach stays
pub unreached : (mode : Update) (old new : TemplateRow) (q : QuotaRow) → is_reached mode old q ≡ false → updated mode old new q ≡ q
unreached mode old new q h = ap (λ b. cond b (as_template new q) q) h

pub updated_folder : (mode : Update) (old new : TemplateRow) (q : QuotaRow) → (updated mode old new q).folder ≡ q.folder
updated_folder mode old new q = at (is_reached mode old q)
  where
    at : (b : Bool) → (cond b (as_template new q) q).folder ≡ q.folder
    at true = refl
    at false = refl

module _ (p : Parts) (held : Held) (m : ℕ) (mode : Update) (old new : TemplateRow) (c : AreCounted p) (d : AreCounted (rewritten p held (map (updated mode old new) p.objects.quotas))) where
  abbrev mid : Parts
  mid = rewritten p held (map (updated mode old new) p.objects.quotas)

  abbrev g : QuotaRow → QuotaRow
  g = updated mode old new

  abbrev own_acts : QuotaRow → List Act
  own_acts q = quota_acts (crossed p.tree.size (rows_of p) (rows_of mid) (g q).folder) p.run_limit m (g q)

  left : (q : QuotaRow) → is_reached mode old q ≡ false → IsLeft (updated mode old new) q
  left q h =
      let same = unreached mode old new q h in
      record {
        limit = ap (λ (r : QuotaRow). r.limit) same;
        thresholds = ap (λ (r : QuotaRow). r.thresholds) same;
        counting = ap counts same;
      }

  one : (q : QuotaRow) → row_of folder_of (folder_of q) p.objects.quotas ≡ Some q → updated_acts mid.objects p.usage p.run_limit m q ≡ own_acts q
  one q own =
      let now : row_of folder_of q.folder mid.objects.quotas ≡ Some (g q) =
      find-map (λ r. folder_of r == q.folder) (updated mode old new) (λ r. ap (λ k. k == q.folder) (updated_folder mode old new r)) p.objects.quotas ∙ ap (option_map (updated mode old new)) own in
      let used = used_in p.usage q.folder in
      ap (λ o. option_map_or (λ quota. quota_acts (crosses (Some q) used used quota) p.run_limit m quota) o []) now
      ∙ acts_same (crosses (Some q) used used (g q)) (crossed p.tree.size (rows_of p) (rows_of mid) (g q).folder) p.run_limit m (g q)
      (λ percent. sym
      (ap (λ k. crossed p.tree.size (rows_of p) (rows_of mid) k percent) (updated_folder mode old new q)
      ∙ (ap (λ b. b && not (reached p.tree.size (rows_of p) q.folder percent)) (reached_row p.tree.size (rows_of mid) q.folder percent (g q) used now (sym (used_at mid q.folder used d refl)))
      ∙ ap (λ b. has_reached (g q) percent used && not b) (reached_row p.tree.size (rows_of p) q.folder percent q used own (sym (used_at p q.folder used c refl))))))

  pub due_updated : flat_map (updated_acts mid.objects p.usage p.run_limit m) (filter (is_reached mode old) p.objects.quotas) ≡ due_of p mid m
  due_updated =
      gathered_as (updated_acts mid.objects p.usage p.run_limit m) own_acts (filter (is_reached mode old) p.objects.quotas)
      (all_filter (is_reached mode old) (λ q. updated_acts mid.objects p.usage p.run_limit m q ≡ own_acts q) p.objects.quotas
      (each_found folder_of (λ q. is_reached mode old q ≡ true → updated_acts mid.objects p.usage p.run_limit m q ≡ own_acts q) p.objects.quotas c.are_quotas.ascending (λ q own h. one q own)))
      ∙ sym (due_mapped p.tree.size (rows_of p) (rows_of mid) m (updated mode old new) (is_reached mode old) c.are_quotas.ascending refl refl (updated_folder mode old new) left)
