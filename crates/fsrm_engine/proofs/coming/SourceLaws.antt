-- Of which template a folder gets a quota, whether it may come, and what it is.
use Rattle.std.proofs.Common.{◌≡◌, ℕ, ◌+◌, ◌*◌, ◌<◌, ◌≤◌, ◌==◌, Bool, true, false, cond, List, [], ◌∷◌, length, Option, Some, None, nat_lt, refl, ap, sym, ◌∙◌, arith}
use Rattle.std.proofs.lemmas.Option.{same_Some}
use Rattle.std.specs.Prelude.{IfSome, is_some, option_map, option_to_list}
use Rattle.std.specs.Option.{option_map_or}
use Rattle.fsrm_base.specs.Keyed.{has_row, row_of, with_row}
use Rattle.fsrm_base.specs.Numbers.{is_in}
use Rattle.fsrm_base.proofs.EditedRows.{length-with_row, sum_by-with_row}
use Rattle.fsrm_base.proofs.Look.{has_found, is_some-find}
use Rattle.fsrm_base.proofs.Members.{all_found}
use Rattle.fsrm_base.proofs.TestLaws.{clash, ge_is, not_lt, not_true}
use Rattle.fsrm_model.specs.declared.command.Refusal.{Refusal}
use Rattle.fsrm_model.specs.declared.command.Refusal.TheVariants.{TableFull, TextsFull}
use Rattle.fsrm_model.specs.declared.row.NodeRow.{NodeRow}
use Rattle.fsrm_model.specs.declared.row.QuotaRow.{QuotaRow}
use Rattle.fsrm_model.specs.declared.row.QuotaState.{QuotaState}
use Rattle.fsrm_model.specs.declared.row.Rows.{Rows}
use Rattle.fsrm_model.specs.declared.row.TemplateRow.{TemplateRow}
use Rattle.fsrm_model.specs.objects.AutoApply.{template_for, with_quotas}
use Rattle.fsrm_model.specs.commands.Check.{◌when◌, first, table_full, texts_full}
use Rattle.fsrm_model.specs.values.Limits.{most_quotas, most_templates, most_text_bytes}
use Rattle.fsrm_model.specs.objects.Quota.{folder_of, is_limit}
use Rattle.fsrm_model.specs.objects.Templates.{derived, is_template, template_name, template_number, template_of}
use Rattle.fsrm_model.specs.texts.Text.{is_bare}
use Rattle.fsrm_model.specs.values.Texts.{object_texts, quota_bytes, threshold_bytes}
use Rattle.fsrm_model.specs.objects.Thresholds.{are_thresholds}
use Rattle.fsrm_model.proofs.valid.NamesApart.{named_parts}
use Rattle.fsrm_model.proofs.valid.TemplatesKept.{template_parts}
use Rattle.fsrm_objects.specs.Tables.{quota_texts}
use Rattle.fsrm_engine.specs.declared.parts.Parts.{Parts}
use Rattle.fsrm_engine.specs.Applying.{derived_bytes}
use Rattle.fsrm_engine.specs.Faults.{text_room, texts_of}
use Rattle.fsrm_engine.specs.Machine.{IsWhole, rows_of}
use Rattle.fsrm_engine.specs.Arrivals.{from_source, source_fault}
use Rattle.fsrm_parts.specs.Moves.{moved_source}
use Rattle.fsrm_engine.proofs.tables.RoomLaws.{few_texts, room_test}

-- ---- the template
-- what is known of the source of a move, if there is one
pub record MovedSource (p : Parts) (node : ℕ) (moves_folder : Bool) (d : ℕ) (name : List ℕ) : Type 0 where
  pub moves : moves_folder ≡ true
  pub absent : has_row folder_of node p.objects.quotas ≡ false

pub moved_known : (p : Parts) (node : ℕ) (moves_folder : Bool) (d : ℕ) (name : List ℕ) (source : Option ℕ) → source ≡ moved_source p.objects.quotas p.templates.autos node moves_folder d name → is_some source ≡ true → MovedSource p node moves_folder d name
moved_known p node false d name source is h = absurd (clash false (sym (ap is_some is) ∙ h) refl)
moved_known p node true d name source is h = at (is_some (row_of folder_of node p.objects.quotas)) refl (sym (ap is_some is) ∙ h)
  where
    at : (b : Bool) → is_some (row_of folder_of node p.objects.quotas) ≡ b → is_some (cond b None (template_for p.templates.autos d name)) ≡ true → MovedSource p node true d name
    at true e h = absurd (clash false h refl)
    at false e h = record { moves = refl; absent = sym (is_some-find (λ q. folder_of q == node) p.objects.quotas) ∙ e }

-- ---- the quota
-- what a template that is there is
pub record IsSource (templates : List TemplateRow) (n : ℕ) : Type 0 where
  pub template : TemplateRow
  pub found : template_of templates n ≡ Some template
  pub limit : is_limit template.limit ≡ true
  pub thresholds : are_thresholds template.thresholds ≡ true

pub source_is : (p : Parts) → IsWhole p → (n : ℕ) → has_row template_number n p.templates.templates ≡ true → IsSource p.templates.templates n
source_is p w n there =
    let templates = p.templates.templates in
    let found = has_found template_number n templates there in
    let each = (named_parts template_number template_name most_templates is_template templates w.valid.tables.templates).each in
    let own = template_parts found.row (all_found is_template (λ t. template_number t == n) templates found.row each found.is) in
    record { template = found.row; found = found.is; limit = own.limit; thresholds = own.thresholds }

-- so a source that is there gives one
pub source_gives : (templates : List TemplateRow) (folder : ℕ) (state : QuotaState) (m n : ℕ) (template : TemplateRow) → template_of templates n ≡ Some template → from_source templates folder state m (Some n) ≡ Some (derived template folder state m)
source_gives templates folder state m n template found = ap (option_map (λ t. derived t folder state m)) found

-- ---- whether it may come
two : (a b : Bool) → first ((TableFull when a) ∷ (TextsFull when b) ∷ []) ≡ None → (a ≡ false) × (b ≡ false)
two true b h = absurd (cc h)
two false true h = absurd (cc h)
two false false h = (refl, refl)

-- what there is room for
pub record HasRoom (p : Parts) (template : TemplateRow) : Type 0 where
  pub few : length p.objects.quotas < most_quotas
  pub short : threshold_bytes template.thresholds ≤ text_room p

pub room_for : (p : Parts) (n : ℕ) (template : TemplateRow) → template_of p.templates.templates n ≡ Some template → source_fault p (Some n) ≡ None → HasRoom p template
room_for p n template found h =
    let parts = two (nat_lt most_quotas (length p.objects.quotas + 1)) (nat_lt (text_room p) (1 * derived_bytes p.templates.templates n)) h in
    let few : length p.objects.quotas + 1 ≤ most_quotas = ge_is most_quotas (length p.objects.quotas + 1) parts.0 in
    let short : 1 * derived_bytes p.templates.templates n ≤ text_room p = ge_is (text_room p) (1 * derived_bytes p.templates.templates n) parts.1 in
    let same : derived_bytes p.templates.templates n ≡ threshold_bytes template.thresholds = ap (λ o. option_map_or (λ (row : TemplateRow). threshold_bytes row.thresholds) o 0) found in
    record { few = omega (arith, few); short = omega (arith, short, same) }

-- with the quota the tables are full, or not
module _ (p : Parts) (w : IsWhole p) (nodes : List NodeRow) (left : List ℕ) (folder : ℕ) (state : QuotaState) (m : ℕ) where
  abbrev pub between : Rows
  between = record (rows_of p) { nodes = nodes; unvisited = left }

  abbrev pub after_given : Option QuotaRow → Rows
  after_given given = with_quotas between (option_to_list given)

  texts_with : (quotas : List QuotaRow) (queue : List ℕ) → object_texts (record between { quotas = quotas; queue = queue }) + quota_texts p.objects.quotas ≡ quota_texts quotas + texts_of p
  texts_with quotas queue = omega arith

  none_full : first (table_full (after_given None) ∷ texts_full (after_given None) ∷ []) ≡ None
  none_full =
      let same : object_texts (after_given None) + quota_texts p.objects.quotas ≡ quota_texts p.objects.quotas + texts_of p = texts_with p.objects.quotas p.scans.queue in
      let few : nat_lt most_quotas (length p.objects.quotas) ≡ false = not_lt most_quotas (length p.objects.quotas) w.sound.counted.are_quotas.few in
      let short : nat_lt most_text_bytes (object_texts (after_given None)) ≡ false = not_lt most_text_bytes (object_texts (after_given None)) (omega (arith, same, few_texts p w)) in
      ap (λ a. first ((TableFull when a) ∷ texts_full (after_given None) ∷ [])) few ∙ ap (λ b. first (None ∷ (TextsFull when b) ∷ [])) short

  some_full : (n : ℕ) (template : TemplateRow) → template_of p.templates.templates n ≡ Some template → first (table_full (after_given (Some (derived template folder state m))) ∷ texts_full (after_given (Some (derived template folder state m))) ∷ []) ≡ source_fault p (Some n)
  some_full n template found =
      let row = derived template folder state m in
      let quotas = with_row folder_of row p.objects.quotas in
      let E = after_given (Some row) in
      let bytes = derived_bytes p.templates.templates n in
      let longer : length quotas ≡ length p.objects.quotas + 1 = length-with_row folder_of row p.objects.quotas ∙ omega arith in
      let same : bytes ≡ quota_bytes row = ap (λ o. option_map_or (λ (t : TemplateRow). threshold_bytes t.thresholds) o 0) found in
      let sum : quota_texts quotas ≡ quota_bytes row + quota_texts p.objects.quotas = sum_by-with_row folder_of quota_bytes row p.objects.quotas in
      let whole : object_texts E + quota_texts p.objects.quotas ≡ quota_texts quotas + texts_of p = texts_with quotas E.queue in
      let texts : nat_lt most_text_bytes (object_texts E) ≡ nat_lt (text_room p) (1 * bytes) = room_test most_text_bytes (texts_of p) (1 * bytes) (object_texts E) (few_texts p w) (omega (arith, whole, sum, same)) in
      ap (λ k. first ((TableFull when nat_lt most_quotas k) ∷ texts_full E ∷ [])) longer
      ∙ ap (λ b. first ((TableFull when nat_lt most_quotas (length p.objects.quotas + 1)) ∷ (TextsFull when b) ∷ [])) texts

  pub given_full : (source : Option ℕ) → IfSome source (λ n. has_row template_number n p.templates.templates ≡ true) → first (table_full (after_given (from_source p.templates.templates folder state m source)) ∷ texts_full (after_given (from_source p.templates.templates folder state m source)) ∷ []) ≡ source_fault p source
  given_full None there = none_full
  given_full (Some n) there =
      let s = source_is p w n there in
      ap (λ o. first (table_full (after_given o) ∷ texts_full (after_given o) ∷ [])) (source_gives p.templates.templates folder state m n s.template s.found)
      ∙ some_full n s.template s.found

-- such a refusal is by no quota
pub source_bare : (p : Parts) (source : Option ℕ) (refusal : Refusal) → source_fault p source ≡ Some refusal → is_bare refusal ≡ true
source_bare p None refusal h = absurd (cc h)
source_bare p (Some n) refusal h = at (nat_lt most_quotas (length p.objects.quotas + 1)) (nat_lt (text_room p) (1 * derived_bytes p.templates.templates n)) h
  where
    at : (a b : Bool) → first ((TableFull when a) ∷ (TextsFull when b) ∷ []) ≡ Some refusal → is_bare refusal ≡ true
    at true b h = sym (ap is_bare (same_Some TableFull refusal h))
    at false true h = sym (ap is_bare (same_Some TextsFull refusal h))
    at false false h = absurd (cc h)

-- ---- the queue
-- a folder without a quota isn't in it
pub not_queued : (p : Parts) → IsWhole p → (n : ℕ) → has_row folder_of n p.objects.quotas ≡ false → is_in p.scans.queue n ≡ false
not_queued p w n absent = not_true (is_in p.scans.queue n) (λ e. clash (has_row folder_of n p.objects.quotas) (w.valid.queue.queued n e) absent)
