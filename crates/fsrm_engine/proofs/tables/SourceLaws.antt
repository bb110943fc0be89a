-- Quotas that a command makes, of a template or without one.
use Rattle.std.proofs.Common.{◌≡◌, ℕ, ◌≤◌, ◌&&◌, Bool, true, false, List, [], ◌∷◌, Option, Some, None, refl, ap, sym, ◌∙◌, subst}
use Rattle.std.proofs.lemmas.Option.{same_Some}
use Rattle.std.specs.Prelude.{is_none, is_some, option_map, unwrap_or, if◌then◌else◌}
use Rattle.std.specs.List.{list_all}
use Rattle.std.specs.Option.{option_and_then, option_map_or}
use Rattle.fsrm_base.specs.Causes.{◌when◌, first}
use Rattle.fsrm_base.specs.Keyed.{has_row, is_ascending, with_row}
use Rattle.fsrm_base.proofs.Look.{found_has, found_own}
use Rattle.fsrm_base.proofs.Members.{all_found}
use Rattle.fsrm_model.specs.declared.command.Answer.{Answer}
use Rattle.fsrm_model.specs.declared.command.Deed.TheVariants.{Quota}
use Rattle.fsrm_model.specs.declared.command.Outcome.TheVariants.{Done}
use Rattle.fsrm_model.specs.declared.command.NewQuota.{NewQuota}
use Rattle.fsrm_model.specs.declared.command.QuotaChange.{QuotaChange}
use Rattle.fsrm_model.specs.declared.command.QuotaDeed.TheVariants.{Add as QuotaAdd}
use Rattle.fsrm_model.specs.declared.command.Refusal.TheVariants as refusal
use Rattle.fsrm_model.specs.declared.row.QuotaRow.{QuotaRow}
use Rattle.fsrm_model.specs.declared.row.QuotaState.{QuotaState}
use Rattle.fsrm_model.specs.declared.row.QuotaState.TheVariants.{Disabled}
use Rattle.fsrm_model.specs.declared.row.Rows.{Rows}
use Rattle.fsrm_model.specs.declared.row.TemplateRow.{TemplateRow}
use Rattle.fsrm_model.specs.commands.Check.{Check, table_full, texts_full}
use Rattle.fsrm_model.specs.values.Limits.{latest_moment, most_templates}
use Rattle.fsrm_model.specs.values.Name.{is_named}
use Rattle.fsrm_model.specs.objects.Quota.{folder_of, counts, is_complete, is_limit, quota_of}
use Rattle.fsrm_model.specs.objects.QuotaStates.{queued, start, with_quota}
use Rattle.fsrm_model.specs.commands.QuotaWork.{changed_by, first_quota, source_of}
use Rattle.fsrm_model.specs.objects.Templates.{is_template, template_name, template_named, template_number, template_of}
use Rattle.fsrm_model.specs.objects.Thresholds.{are_thresholds, are_too_many, is_threshold, percent_of}
use Rattle.fsrm_model.specs.nodes.Tree.{is_folder, usage}
use Rattle.fsrm_model.specs.store.Valid.{IsValid, is_moment}
use Rattle.fsrm_model.proofs.commands.ValueParts.{AreNewThresholds}
use Rattle.fsrm_model.proofs.valid.NamesApart.{IsNamedTable, named_parts}
use Rattle.fsrm_model.proofs.valid.TemplatesKept.{template_parts}
use Rattle.fsrm_objects.specs.Tables.{quota_fault}
use Rattle.fsrm_objects.proofs.FaultLaws.{admitted}
use Rattle.fsrm_engine.specs.declared.parts.Parts.{Parts}
use Rattle.fsrm_parts.specs.Faults.{table_refusal}
use Rattle.fsrm_engine.specs.Faults.{text_room}
use Rattle.fsrm_engine.specs.Machine.{Does, IsIdle, IsWhole, Turned, ended, rows_of}
use Rattle.fsrm_parts.specs.Places.{IsFolder}
use Rattle.fsrm_engine.specs.Sources.{IsFirst, is_missing}
use Rattle.fsrm_engine.proofs.settling.EndLaws.{few_log}
use Rattle.fsrm_engine.proofs.settling.TurnedCalm.{calm_added}
use Rattle.fsrm_parts.proofs.walks.PlaceLaws.{target_is}
use Rattle.fsrm_engine.proofs.steps.StepLaws.{done_as, due, still_few}
use Rattle.fsrm_engine.proofs.tables.CountingLaws.{is_moment_of}
use Rattle.fsrm_engine.proofs.tables.ModifyLaws.{changed_folder, changed_legal, changed_percents}
use Rattle.fsrm_engine.proofs.tables.RoomLaws.{legal_thresholds, new_checks, new_is, percents_ascend}
use Rattle.fsrm_engine.proofs.tables.StateLaws.{empty_folder, first_empty}
use Rattle.fsrm_parts.proofs.walks.FoundLaws.{on_folder}
use Rattle.fsrm_engine.proofs.tables.TurnLaws.{turned_accepts, turned_keeps}

-- ---- the templates of a store
pub templates_are : (p : Parts) → IsValid p.tree.size (rows_of p) → IsNamedTable template_number template_name most_templates is_template p.templates.templates
templates_are p s = named_parts template_number template_name most_templates is_template p.templates.templates s.tables.templates

-- one that has a name, in any spelling
module _ (p : Parts) (name : List ℕ) (t : TemplateRow) (s : IsValid p.tree.size (rows_of p)) (is : template_named p.templates.templates name ≡ Some t) where
  pub named_found : template_of p.templates.templates t.number ≡ Some t
  named_found = found_own template_number (is_named template_name name) p.templates.templates t (templates_are p s).ascending is

  pub named_there : has_row template_number t.number p.templates.templates ≡ true
  named_there = found_has template_number t.number p.templates.templates t named_found

  pub named_legal : is_template t ≡ true
  named_legal = all_found is_template (is_named template_name name) p.templates.templates t (templates_are p s).each is

pub found_named : (p : Parts) (name lent : List ℕ) (n : ℕ) → IsValid p.tree.size (rows_of p) → lent ≡ name → Some n ≡ option_map template_number (template_named p.templates.templates lent) → template_of p.templates.templates n ≡ template_named p.templates.templates name
found_named p name lent n s same h = at (template_named ts lent) refl h ∙ ap (template_named ts) same
  where
    ts : List TemplateRow
    ts = p.templates.templates

    at : (o : Option TemplateRow) → template_named ts lent ≡ o → Some n ≡ option_map template_number o → template_of ts n ≡ template_named ts lent
    at None e h = cc
    at (Some t) e h = ap (template_of ts) (same_Some n t.number h) ∙ (named_found p lent t s e ∙ sym e)

pub none_named : (templates : List TemplateRow) (name lent : List ℕ) → lent ≡ name → None ≡ option_map template_number (template_named templates lent) → template_named templates name ≡ None
none_named templates name lent same h = ap (template_named templates) (sym same) ∙ at (template_named templates lent) h
  where
    at : (o : Option TemplateRow) → None ≡ option_map template_number o → o ≡ None
    at None h = refl
    at (Some t) h = cc

-- ---- the quota that options change
module _ (folder : ℕ) (state : QuotaState) (m : ℕ) where
  pub first_folder : (source : Option TemplateRow) → (first_quota source folder state m).folder ≡ folder
  first_folder None = refl
  first_folder (Some t) = refl

  pub first_state_is : (source : Option TemplateRow) → (first_quota source folder state m).state ≡ state
  first_state_is None = refl
  first_state_is (Some t) = refl

  pub first_moment : (source : Option TemplateRow) → (first_quota source folder state m).peak_at ≡ m
  first_moment None = refl
  first_moment (Some t) = refl

  pub first_legal : (source : Option TemplateRow) → ((t : TemplateRow) → source ≡ Some t → is_template t ≡ true) → are_thresholds (first_quota source folder state m).thresholds ≡ true
  first_legal None legal = refl
  first_legal (Some t) legal = (template_parts t (legal t refl)).thresholds

  pub first_limit : (source : Option TemplateRow) (limit : Option ℕ) (name : Option (List ℕ)) → ((t : TemplateRow) → source ≡ Some t → is_template t ≡ true) → option_map_or is_limit limit (is_some name) ≡ true → (is_some name && is_none source) ≡ false → is_limit (unwrap_or limit (first_quota source folder state m).limit) ≡ true
  first_limit source (Some l) name legal given there = given
  first_limit None None None legal given there = cc
  first_limit None None (Some name) legal given there = cc
  first_limit (Some t) None name legal given there = (template_parts t (legal t refl)).limit

pub source_legal : (p : Parts) (name : Option (List ℕ)) (t : TemplateRow) → IsWhole p → source_of (rows_of p) name ≡ Some t → is_template t ≡ true
source_legal p None t w h = cc
source_legal p (Some name) t w h = named_legal p name t w.valid h

-- what was found is so
pub first_found : (R : Rows) (name : Option (List ℕ)) (folder : ℕ) (state : QuotaState) (m : ℕ) (o : Option QuotaRow) (row : QuotaRow) → o ≡ Some row → IsFirst R name folder state m o → (is_missing R name ≡ false) × (row ≡ first_quota (source_of R name) folder state m)
first_found R name folder state m o row is h = subst (IsFirst R name folder state m) is h

pub none_found : (R : Rows) (name : Option (List ℕ)) (folder : ℕ) (state : QuotaState) (m : ℕ) (o : Option QuotaRow) → o ≡ None → IsFirst R name folder state m o → is_missing R name ≡ true
none_found R name folder state m o is h = subst (IsFirst R name folder state m) is h

pub begun_percents : (p : Parts) (name : Option (List ℕ)) (folder : ℕ) (state : QuotaState) (m : ℕ) (begun : QuotaRow) → IsWhole p → begun ≡ first_quota (source_of (rows_of p) name) folder state m → is_ascending percent_of begun.thresholds ≡ true
begun_percents p name folder state m begun w is =
    ap (λ (r : QuotaRow). is_ascending percent_of r.thresholds) is
    ∙ percents_ascend (first_quota (source_of (rows_of p) name) folder state m).thresholds (first_legal folder state m (source_of (rows_of p) name) (λ t h. source_legal p name t w h))

-- what a new quota changes of the first one
abbrev pub own_change : NewQuota → QuotaChange
own_change new =
    record { path = new.path; limit = new.limit; enforce = new.enforce; enabled = None; removed = []; thresholds = new.thresholds }

abbrev pub made_at : Parts → NewQuota → ℕ → QuotaState → ℕ → QuotaRow
made_at p new m state folder = changed_by (own_change new) (first_quota (source_of (rows_of p) new.template) folder state m)

-- what is known of the row that is made of it
module _ (p : Parts) (m n : ℕ) (new : NewQuota) (state : QuotaState) (begun row : QuotaRow) (w : IsWhole p) (begun_is : begun ≡ first_quota (source_of (rows_of p) new.template) n state m) (is : row ≡ changed_by (own_change new) begun) where
  are : are_thresholds (first_quota (source_of (rows_of p) new.template) n state m).thresholds ≡ true
  are = first_legal n state m (source_of (rows_of p) new.template) (λ t h. source_legal p new.template t w h)

  pub made_folder : row.folder ≡ n
  made_folder = changed_folder (own_change new) _ begun row begun_is is ∙ first_folder n state m (source_of (rows_of p) new.template)

  made_state : row.state ≡ state
  made_state = ap (λ (r : QuotaRow). r.state) is ∙ (ap (λ (r : QuotaRow). r.state) begun_is ∙ first_state_is n state m (source_of (rows_of p) new.template))

  pub made_percents : is_ascending percent_of row.thresholds ≡ true
  made_percents = changed_percents (own_change new) _ begun row begun_is is (percents_ascend (first_quota (source_of (rows_of p) new.template) n state m).thresholds are)

  pub made_each : AreNewThresholds new.thresholds → list_all is_threshold row.thresholds ≡ true
  made_each marks = changed_legal (own_change new) _ begun row begun_is is are marks

  pub made_thresholds : AreNewThresholds new.thresholds → quota_fault p.objects row (text_room p) ≡ None → are_thresholds row.thresholds ≡ true
  made_thresholds marks may =
      legal_thresholds row.thresholds made_percents (admitted p.objects row (text_room p) may).short (made_each marks)

  pub made_limit : option_map_or is_limit new.limit (is_some new.template) ≡ true → is_missing (rows_of p) new.template ≡ false → is_limit row.limit ≡ true
  made_limit given there =
      ap (λ (r : QuotaRow). is_limit r.limit) is
      ∙ (ap (λ (r : QuotaRow). is_limit (unwrap_or new.limit r.limit)) begun_is
      ∙ first_limit n state m (source_of (rows_of p) new.template) new.limit new.template (λ t h. source_legal p new.template t w h) given there)

  pub made_moment : m ≤ latest_moment → is_moment row.peak_at ≡ true
  made_moment late =
      ap (λ (r : QuotaRow). is_moment r.peak_at) is
      ∙ (ap (λ (r : QuotaRow). is_moment r.peak_at) begun_is ∙ (ap is_moment (first_moment n state m (source_of (rows_of p) new.template)) ∙ is_moment_of m late))

  pub made_unused : is_folder p.tree.nodes n ≡ true → state ≡ (if new.enabled then start p.tree.nodes n else Disabled) → counts row ≡ true → usage p.tree.size p.tree.nodes row.folder ≡ 0
  made_unused folder state_is t =
      ap (usage p.tree.size p.tree.nodes) made_folder
      ∙ empty_folder p.tree.size p.tree.nodes n w.sound.counted.volume folder (first_empty p.tree.nodes n new.enabled (sym (ap is_complete state_is) ∙ (sym (ap is_complete made_state) ∙ t)))

  pub made_is : (own : QuotaState) → state ≡ own → row ≡ made_at p new m own n
  made_is own same =
      is ∙ (ap (λ (q : QuotaRow). changed_by (own_change new) q) begun_is ∙ ap (λ s. made_at p new m s n) same)

-- ---- what is due
skipped : (a : Bool) (checks : List Check) → first ((refusal.AlreadyExists when a) ∷ (refusal.NotFound when false) ∷ checks) ≡ first ((refusal.AlreadyExists when a) ∷ checks)
skipped true checks = refl
skipped false checks = refl

module _ (p : Parts) (m : ℕ) (new : NewQuota) (n : ℕ) (at : IsFolder p.tree.nodes new.path n) where
  abbrev made : ℕ → QuotaRow
  made k = made_at p new m (if new.enabled then start p.tree.nodes k else Disabled) k

  abbrev late : QuotaRow → List Check
  late row = (refusal.OutOfRange when are_too_many row.thresholds) ∷ table_full (with_quota (rows_of p) row) ∷ texts_full (with_quota (rows_of p) row) ∷ []

  abbrev all : Bool → Bool → QuotaRow → List Check
  all taken missing row = (refusal.AlreadyExists when taken) ∷ (refusal.NotFound when missing) ∷ late row

  on_path : due p m (Quota (QuotaAdd new)) ≡ first (all (is_some (quota_of (rows_of p) n)) (is_missing (rows_of p) new.template) (made n))
  on_path = on_folder (rows_of p) new.path n (λ k. all (is_some (quota_of (rows_of p) k)) (is_missing (rows_of p) new.template) (made k)) at

  pub add_due : (row : QuotaRow) → IsWhole p → is_missing (rows_of p) new.template ≡ false → row ≡ made n → due p m (Quota (QuotaAdd new)) ≡ option_and_then table_refusal (quota_fault p.objects row (text_room p))
  add_due row w there is =
      on_path
      ∙ (ap (λ b. first (all (is_some (quota_of (rows_of p) n)) b (made n))) there
      ∙ (skipped (is_some (quota_of (rows_of p) n)) (late (made n))
      ∙ (ap (λ k. first ((refusal.AlreadyExists when is_some (quota_of (rows_of p) k)) ∷ late (made n))) (sym (first_folder n (if new.enabled then start p.tree.nodes n else Disabled) m (source_of (rows_of p) new.template)))
      ∙ (ap (λ r. first (new_checks (rows_of p) r)) (sym is) ∙ new_is p row w))))

  pub added_as : (mid last : Parts) (row : QuotaRow) (answer : Answer) → row ≡ made n → IsWhole p → IsIdle p → p.last_moment ≤ m → is_missing (rows_of p) new.template ≡ false → quota_fault p.objects row (text_room p) ≡ None → Turned p mid (with_row folder_of row p.objects.quotas) (queued p.scans.queue row.folder row.state) → are_thresholds row.thresholds ≡ true → is_limit row.limit ≡ true → (counts row ≡ true → usage p.tree.size p.tree.nodes row.folder ≡ 0) → last ≡ ended mid m → answer ≡ record { outcome = Done None; lasting = true } → Does p last m (Quota (QuotaAdd new)) answer
  added_as mid last row answer is w idle after there may t thresholds limits nothing ends e =
      let R = rows_of p in
      let deed = Quota (QuotaAdd new) in
      let quotas = with_row folder_of row p.objects.quotas in
      let queue = queued p.scans.queue row.folder row.state in
      done_as p mid last m deed answer
      (turned_accepts p mid m deed quotas queue idle after
      (add_due row w there is ∙ ap (option_and_then table_refusal) may)
      (ap (λ k. with_quota R (made k)) (target_is R.nodes new.path n at.resolved) ∙ ap (with_quota R) (sym is)) refl t)
      refl (still_few p mid (turned_keeps p mid quotas queue t) (few_log p w))
      (calm_added p mid m row queue t (admitted p.objects row (text_room p) may).free thresholds limits nothing) ends e
