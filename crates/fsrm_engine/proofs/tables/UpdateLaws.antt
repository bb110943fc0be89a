-- A template that changes, with the quotas that its change reaches: which refusal is due, and what is left.
use Rattle.std.proofs.Common.{◌≡◌, ℕ, ◌+◌, ◌-◌, ◌≤◌, ◌==◌, ◌||◌, Bool, true, false, cond, not, List, [], ◌∷◌, Option, Some, None, nat_lt, refl, ap, sym, ◌∙◌, subst, arith}
use Rattle.std.proofs.lemmas.Bool.Decides.{nat_tests}
use Rattle.std.proofs.lemmas.Option.{same_Some}
use Rattle.std.specs.Prelude.{filter, flat_map, is_none, map, option_map, sum_by}
use Rattle.std.specs.List.{AllByRecursion, list_all}
use Rattle.std.specs.Option.{option_and_then, option_map_or}
use Rattle.fsrm_base.specs.Causes.{◌when◌, first}
use Rattle.fsrm_base.specs.Keyed.{has_row, is_ascending, row_of, with_change}
use Rattle.fsrm_base.proofs.EditedTests.{list_all-filter}
use Rattle.fsrm_base.proofs.Look.{find-map, found_has}
use Rattle.fsrm_base.proofs.Members.{all_pass}
use Rattle.fsrm_base.proofs.Order.{ascending-filter}
use Rattle.fsrm_base.proofs.RowLaws.{all_filter, change_same, each_found}
use Rattle.fsrm_model.specs.declared.command.Act.{Act}
use Rattle.fsrm_model.specs.declared.command.Answer.{Answer}
use Rattle.fsrm_model.specs.declared.command.Deed.TheVariants.{Template}
use Rattle.fsrm_model.specs.declared.command.Outcome.TheVariants.{Done}
use Rattle.fsrm_model.specs.declared.command.Refusal.{Refusal}
use Rattle.fsrm_model.specs.declared.command.Refusal.TheVariants as refusal
use Rattle.fsrm_model.specs.declared.command.TemplateChange.{TemplateChange}
use Rattle.fsrm_model.specs.declared.command.TemplateDeed.TheVariants.{Modify as TemplateModify}
use Rattle.fsrm_model.specs.declared.command.Update.{Update}
use Rattle.fsrm_model.specs.declared.row.QuotaRow.{QuotaRow}
use Rattle.fsrm_model.specs.declared.row.Rows.{Rows}
use Rattle.fsrm_model.specs.declared.row.TemplateRow.{TemplateRow}
use Rattle.fsrm_model.specs.declared.row.Threshold.{Threshold}
use Rattle.fsrm_model.specs.values.Limits.{most_text_bytes}
use Rattle.fsrm_model.specs.objects.Quota.{folder_of}
use Rattle.fsrm_model.specs.objects.Templates.{as_template, is_reached, is_template, template_name, template_named, template_number, template_of, updated}
use Rattle.fsrm_model.specs.commands.TemplateWork.{number_in, retemplated, thresholds_in, updated_quotas}
use Rattle.fsrm_model.specs.values.Texts.{object_texts, template_bytes}
use Rattle.fsrm_model.specs.objects.Thresholds.{are_too_many, changed_thresholds, may_be_removed}
use Rattle.fsrm_model.proofs.commands.QuotaCommands.{limit_kept}
use Rattle.fsrm_model.proofs.commands.ValueParts.{IsTemplateChange}
use Rattle.fsrm_model.proofs.thresholds.ThresholdLaws.{changed_kept}
use Rattle.fsrm_model.proofs.thresholds.UnrunKept.{changed_unrun}
use Rattle.fsrm_model.proofs.valid.QuotasKept.{IsQuota}
use Rattle.fsrm_model.proofs.valid.TemplatesKept.{template_joined, template_parts}
use Rattle.fsrm_objects.specs.Tables.{Tables, quota_texts}
use Rattle.templates.specs.declared.answer.TemplateFault.TheVariants as template
use Rattle.templates.specs.Faults.{modify_fault}
use Rattle.templates.specs.Held.{Held, reached_by, texts_in as template_texts, updated_by, with_other}
use Rattle.fsrm_engine.specs.declared.parts.Parts.{Parts}
use Rattle.fsrm_parts.specs.Updated.{updated_acts, HasNow}
use Rattle.fsrm_parts.specs.Faults.{template_refusal}
use Rattle.fsrm_engine.specs.Faults.{text_room, texts_of}
use Rattle.fsrm_engine.specs.Machine.{AreCounted, Does, IsCounted, IsIdle, IsWhole, Ran, ended, rows_of}
use Rattle.fsrm_engine.proofs.settling.EndLaws.{due_of}
use Rattle.fsrm_engine.proofs.settling.UpdatedDue.{due_updated, updated_folder}
use Rattle.fsrm_engine.proofs.steps.StepLaws.{done_with, due}
use Rattle.fsrm_engine.proofs.tables.RoomLaws.{few_texts}
use Rattle.fsrm_engine.proofs.tables.SourceLaws.{named_found, templates_are}
use Rattle.fsrm_engine.proofs.tables.TemplateLaws.{IsEdit, all_texts, counted_edited, rest_texts, rewritten, rewritten_accepts}

-- ---- the template that a change makes
pub retemplated_legal : (values : TemplateChange) (t row : TemplateRow) → IsTemplateChange values → row ≡ retemplated values t → are_too_many row.thresholds ≡ false → is_template t ≡ true → is_template row ≡ true
retemplated_legal values t row legal made few is =
    let p = template_parts t is in
    let coming = values.thresholds in
    ap is_template made
    ∙ template_joined (retemplated values t) (record {
      below = p.below;
      named = p.named;
      limit = limit_kept values.limit t.limit legal.limit p.limit;
      thresholds = changed_kept values.removed coming.percents coming.notices t.thresholds p.thresholds legal.thresholds.percents legal.thresholds.notices (sym (ap (λ (r : TemplateRow). are_too_many r.thresholds) made) ∙ few);
      unrun = changed_unrun values.removed coming.percents coming.notices t.thresholds legal.thresholds.notices p.unrun;
    })

-- ---- the quotas
pub update_edit : (mode : Update) (old new : TemplateRow) → is_template new ≡ true → IsEdit (updated mode old new)
update_edit mode old new legal =
    record {
      folder = updated_folder mode old new;
      state = λ q. state q (is_reached mode old q);
      peak = λ q. peak q (is_reached mode old q);
      own = λ q is. own q is (is_reached mode old q);
    }
  where
    state : (q : QuotaRow) (b : Bool) → (cond b (as_template new q) q).state ≡ q.state
    state q true = refl
    state q false = refl

    peak : (q : QuotaRow) (b : Bool) → (cond b (as_template new q) q).peak ≡ q.peak
    peak q true = refl
    peak q false = refl

    own : (q : QuotaRow) → IsQuota q → (b : Bool) → IsQuota (cond b (as_template new q) q)
    own q is true = let t = template_parts new legal in record { limit = t.limit; thresholds = t.thresholds; moment = is.moment }
    own q is false = is

pub update_counted : (p : Parts) (mode : Update) (old new : TemplateRow) → AreCounted p → is_template new ≡ true → IsCounted p.tree.size p.tree.nodes (map (updated mode old new) p.objects.quotas) p.usage p.level
update_counted p mode old new c legal = counted_edited p.tree.size p.tree.nodes p.objects.quotas p.usage (updated mode old new) (update_edit mode old new legal) c

-- those that are reached are there, in their order
reached_there : (mode : Update) (old new : TemplateRow) (quotas : List QuotaRow) → is_ascending folder_of quotas ≡ true → list_all (λ row. has_row folder_of row.folder (map (updated mode old new) quotas)) (filter (is_reached mode old) quotas) ≡ true
reached_there mode old new quotas asc = among (is_reached mode old) quotas (all_pass folder_of (λ row. has_row folder_of row.folder (map (updated mode old new) quotas)) quotas asc (λ q own. has_mapped quotas q.folder (found_has folder_of q.folder quotas q own)))
  where
    has_mapped : (rows : List QuotaRow) (folder : ℕ) → has_row folder_of folder rows ≡ true → has_row folder_of folder (map (updated mode old new) rows) ≡ true
    has_mapped rows folder h = same rows folder ∙ h
      where
        same : (rows : List QuotaRow) (folder : ℕ) → has_row folder_of folder (map (updated mode old new) rows) ≡ has_row folder_of folder rows
        same [] folder = refl
        same (q ∷ rows) folder =
            ap (λ k. (k == folder) || has_row folder_of folder (map (updated mode old new) rows)) (updated_folder mode old new q) ∙ ap (λ b. (q.folder == folder) || b) (same rows folder)

    among : (test : QuotaRow → Bool) (rows : List QuotaRow) → list_all (λ row. has_row folder_of row.folder (map (updated mode old new) quotas)) rows ≡ true → list_all (λ row. has_row folder_of row.folder (map (updated mode old new) quotas)) (filter test rows) ≡ true
    among test rows h = list_all-filter (λ row. has_row folder_of row.folder (map (updated mode old new) quotas)) test rows h

-- and have the thresholds of the template now
reached_now : (mode : Update) (old new : TemplateRow) (quotas : List QuotaRow) → is_ascending folder_of quotas ≡ true → AllByRecursion (HasNow new.thresholds (map (updated mode old new) quotas)) (filter (is_reached mode old) quotas)
reached_now mode old new quotas asc =
    all_filter (is_reached mode old) (HasNow new.thresholds (map change quotas)) quotas
    (each_found folder_of (λ q. is_reached mode old q ≡ true → HasNow new.thresholds (map change quotas) q) quotas asc
    (λ q own passes quota found.
    ap (λ (x : QuotaRow). x.thresholds) (same_Some quota (change q) (sym found ∙ now q own))
    ∙ ap (λ b. (cond b (as_template new q) q).thresholds) passes))
  where
    change : QuotaRow → QuotaRow
    change = updated mode old new

    now : (q : QuotaRow) → row_of folder_of q.folder quotas ≡ Some q → row_of folder_of q.folder (map change quotas) ≡ Some (change q)
    now q own = find-map (λ r. folder_of r == q.folder) change (λ r. ap (λ k. k == q.folder) (updated_folder mode old new r)) quotas ∙ ap (option_map change) own

pub record ReachedRows (rows quotas : List QuotaRow) : Type 0 where
  pub there : list_all (λ row. has_row folder_of row.folder quotas) rows ≡ true
  pub ascending : is_ascending folder_of rows ≡ true

-- ---- their texts
long_test : (most texts lost gained all : ℕ) → texts ≤ most → all + lost ≡ texts + gained → nat_lt most all ≡ nat_lt (most - texts + lost) gained
long_test most texts lost gained all few is = grind (arith, nat_tests)

-- ---- which refusal is due
module _ (p : Parts) (m : ℕ) (values : TemplateChange) where
  abbrev change : TemplateRow → TemplateRow
  change = retemplated values

  abbrev after : Option TemplateRow → Rows
  after o = record (rows_of p) {
    templates = with_change template_number (number_in o) change p.templates.templates;
    quotas = updated_quotas values.update o change p.objects.quotas;
  }

  abbrev tests : Bool → Bool → Bool → Bool → Option Refusal
  tests a b c d = first ((refusal.NotFound when a) ∷ (refusal.NotFound when b) ∷ (refusal.OutOfRange when c) ∷ (refusal.TextsFull when d) ∷ [])

  abbrev result : Option TemplateRow → Option Refusal
  result o =
      tests (is_none o) (not (may_be_removed values.removed (thresholds_in o))) (are_too_many (changed_thresholds values.removed values.thresholds.percents values.thresholds.notices (thresholds_in o))) (nat_lt most_text_bytes (object_texts (after o)))

  pub modify_missing : template_named p.templates.templates values.name ≡ None → due p m (Template (TemplateModify values)) ≡ Some refusal.NotFound
  modify_missing h = ap result h

  module _ (t : TemplateRow) (is : template_named p.templates.templates values.name ≡ Some t) where
    abbrev long : Bool
    long = nat_lt most_text_bytes (object_texts (after (Some t)))

    own : due p m (Template (TemplateModify values)) ≡ tests false (not (may_be_removed values.removed t.thresholds)) (are_too_many (changed_thresholds values.removed values.thresholds.percents values.thresholds.notices t.thresholds)) long
    own = ap result is

    last : (d : Bool) → tests false false false d ≡ option_and_then template_refusal (template.TextsFull when d)
    last true = refl
    last false = refl

    module _ (w : IsWhole p) (row : TemplateRow) (made : row ≡ change t) where
      -- the template of the row's number is that one, and has the row's name
      pub row_found : template_of p.templates.templates row.number ≡ Some t
      row_found = ap (λ (r : TemplateRow). template_of p.templates.templates r.number) made ∙ named_found p values.name t w.valid is

      pub row_named : option_map template_name (template_of p.templates.templates row.number) ≡ Some row.name
      row_named = ap (option_map template_name) row_found ∙ ap (λ (r : TemplateRow). Some r.name) (sym made)

      pub reached_is : reached_by p.templates row values.update p.objects.quotas ≡ filter (is_reached values.update t) p.objects.quotas
      reached_is = ap (λ o. option_map_or (λ old. filter (is_reached values.update old) p.objects.quotas) o []) row_found

      pub updated_is : updated_by p.templates row values.update p.objects.quotas ≡ map (updated values.update t row) p.objects.quotas
      updated_is = ap (λ o. updated_quotas values.update o (λ old. row) p.objects.quotas) row_found

      -- what the command makes is what the tables make of the row
      abbrev made_rows : Rows
      made_rows = record (rows_of p) {
        templates = (with_other p.templates row).templates;
        quotas = updated_by p.templates row values.update p.objects.quotas;
      }

      effect_is : after (Some t) ≡ made_rows
      effect_is =
          let ts = p.templates.templates in
          let tables : with_change template_number t.number change ts ≡ (with_other p.templates row).templates =
          change_same template_number t.number change (λ r. row) ts (templates_are p w.valid).ascending
          (λ r found. ap change (same_Some r t (sym found ∙ named_found p values.name t w.valid is)) ∙ sym made)
          ∙ ap (λ k. with_change template_number k (λ r. row) ts) (sym (ap (λ (r : TemplateRow). r.number) made)) in
          ap (λ (rows : List TemplateRow). record (rows_of p) { templates = rows; quotas = map (updated values.update t (change t)) p.objects.quotas }) tables
          ∙ ap (λ (rows : List QuotaRow). record (rows_of p) { templates = (with_other p.templates row).templates; quotas = rows })
          (ap (λ (r : TemplateRow). map (updated values.update t r) p.objects.quotas) (sym made) ∙ sym updated_is)

      long_is : long ≡ nat_lt (text_room p + (template_texts p.templates + quota_texts p.objects.quotas)) (template_texts (with_other p.templates row) + quota_texts (updated_by p.templates row values.update p.objects.quotas))
      long_is =
          let whole : object_texts made_rows ≡ (quota_texts made_rows.quotas + sum_by template_bytes made_rows.templates) + rest_texts p = all_texts p made_rows.templates made_rows.quotas in
          ap (λ (R : Rows). nat_lt most_text_bytes (object_texts R)) effect_is
          ∙ long_test most_text_bytes (texts_of p) (template_texts p.templates + quota_texts p.objects.quotas) (template_texts (with_other p.templates row) + quota_texts made_rows.quotas) (object_texts made_rows) (few_texts p w) (omega (arith, whole))

      pub modify_due : (room : ℕ) → room ≡ text_room p → may_be_removed values.removed t.thresholds ≡ true → are_too_many row.thresholds ≡ false → due p m (Template (TemplateModify values)) ≡ option_and_then template_refusal (modify_fault p.templates p.objects.quotas row values.update room)
      modify_due room room_is may few =
          own
          ∙ (ap (λ x. tests false (not x) (are_too_many (changed_thresholds values.removed values.thresholds.percents values.thresholds.notices t.thresholds)) long) may
          ∙ (ap (λ x. tests false false x long) (sym (ap (λ (r : TemplateRow). are_too_many r.thresholds) made) ∙ few)
          ∙ (ap (tests false false false) long_is
          ∙ (last (nat_lt (text_room p + (template_texts p.templates + quota_texts p.objects.quotas)) (template_texts (with_other p.templates row) + quota_texts made_rows.quotas))
          ∙ ap (λ k. option_and_then template_refusal (modify_fault p.templates p.objects.quotas row values.update k)) (sym room_is)))))

      -- ---- what is left
      abbrev pub own_mid : Parts
      own_mid = rewritten p (with_other p.templates row) (updated_by p.templates row values.update p.objects.quotas)

      pub mid_is : (held : Held) (objects : Tables) → held ≡ with_other p.templates row → objects ≡ record p.objects { quotas = updated_by p.templates row values.update p.objects.quotas } → record p { templates = held; objects = objects } ≡ own_mid
      mid_is held objects held_is objects_are =
          ap (λ (h : Held). record p { templates = h; objects = objects }) held_is ∙ ap (λ (t : Tables). record p { templates = with_other p.templates row; objects = t }) objects_are

      pub modified_counted : is_template row ≡ true → IsCounted p.tree.size p.tree.nodes (updated_by p.templates row values.update p.objects.quotas) p.usage p.level
      modified_counted legal =
          subst (λ (quotas : List QuotaRow). IsCounted p.tree.size p.tree.nodes quotas p.usage p.level) (sym updated_is) (update_counted p values.update t row w.sound.counted legal)

      -- those that were reached are there
      pub reached_rows : (rows : List QuotaRow) → rows ≡ reached_by p.templates row values.update p.objects.quotas → ReachedRows rows (updated_by p.templates row values.update p.objects.quotas)
      reached_rows rows are =
          let asc = w.sound.counted.are_quotas.ascending in
          subst (λ (rows : List QuotaRow). ReachedRows rows (updated_by p.templates row values.update p.objects.quotas)) (sym (are ∙ reached_is))
          (subst (ReachedRows (filter (is_reached values.update t) p.objects.quotas)) (sym updated_is) (record {
            there = reached_there values.update t row p.objects.quotas asc;
            ascending = ascending-filter folder_of (is_reached values.update t) p.objects.quotas asc;
          }))

      pub reached_have : (rows : List QuotaRow) (thresholds : List Threshold) → rows ≡ reached_by p.templates row values.update p.objects.quotas → thresholds ≡ row.thresholds → AllByRecursion (HasNow thresholds (updated_by p.templates row values.update p.objects.quotas)) rows
      reached_have rows thresholds are has =
          let quotas = updated_by p.templates row values.update p.objects.quotas in
          subst (λ (ts : List Threshold). AllByRecursion (HasNow ts quotas) rows) (sym has)
          (subst (AllByRecursion (HasNow row.thresholds quotas)) (sym (are ∙ reached_is))
          (subst (λ (quotas : List QuotaRow). AllByRecursion (HasNow row.thresholds quotas) (filter (is_reached values.update t) p.objects.quotas)) (sym updated_is)
          (reached_now values.update t row p.objects.quotas w.sound.counted.are_quotas.ascending)))

      pub template_modified : (run new : Parts) (rows : List QuotaRow) (answer : Answer) → IsIdle p → p.last_moment ≤ m → is_template row ≡ true → due p m (Template (TemplateModify values)) ≡ None → rows ≡ reached_by p.templates row values.update p.objects.quotas → Ran own_mid run m (flat_map (updated_acts own_mid.objects p.usage p.run_limit m) rows) → new ≡ ended run m → answer ≡ record { outcome = Done None; lasting = true } → Does p new m (Template (TemplateModify values)) answer
      template_modified run new rows answer idle after_last legal none are ran ends e =
          let acts : List QuotaRow → List QuotaRow → List Act = λ rows quotas. flat_map (updated_acts (record p.objects { quotas = quotas }) p.usage p.run_limit m) rows in
          let counted = modified_counted legal in
          let all : acts rows own_mid.objects.quotas ≡ due_of p own_mid m =
          ap (λ (rows : List QuotaRow). acts rows own_mid.objects.quotas) (are ∙ reached_is)
          ∙ (ap (acts (filter (is_reached values.update t) p.objects.quotas)) updated_is
          ∙ (due_updated p (with_other p.templates row) m values.update t row w.sound.counted (update_counted p values.update t row w.sound.counted legal)
          ∙ ap (λ (quotas : List QuotaRow). due_of p (rewritten p (with_other p.templates row) quotas) m) (sym updated_is))) in
          done_with p own_mid run new m (Template (TemplateModify values)) answer (acts rows own_mid.objects.quotas)
          (rewritten_accepts p (with_other p.templates row) own_mid.objects.quotas w counted m (Template (TemplateModify values)) idle after_last none (ap after is ∙ effect_is) refl)
          refl ran all ends e
