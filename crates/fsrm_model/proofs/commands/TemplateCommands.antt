-- The commands on quota templates: each one's work is orderly, and leaves the rows of a store if no check refuses.
use Rattle.std.proofs.Common.{◌≡◌, ℕ, ◌≤◌, ◌==◌, nat_lt, Bool, true, false, cond, not, List, [], ◌∷◌, length, Option, Some, None, refl, sym, ◌∙◌, subst, arith, ap}
use Rattle.std.proofs.lemmas.Option.{same_Some}
use Rattle.std.specs.Prelude.{is_none, is_some, map, sum_by}
use Rattle.std.specs.List.{list_any}
use Rattle.fsrm_base.specs.Keyed.{row_of, with_row, with_change, without_row, least_free}
use Rattle.fsrm_base.proofs.Look.{found_own, has_row-change, is_some-find}
use Rattle.fsrm_base.proofs.Members.{all_found}
use Rattle.fsrm_base.proofs.Order.{least_free_is, length-with_row}
use Rattle.fsrm_base.proofs.TestLaws.{ge_is, lt_test}
use Rattle.fsrm_model.specs.declared.command.NewTemplate.{NewTemplate}
use Rattle.fsrm_model.specs.declared.command.Refusal.TheVariants.{DuplicateName, NotFound, InUse, OutOfRange, TableFull, TextsFull}
use Rattle.fsrm_model.specs.declared.command.TemplateChange.{TemplateChange}
use Rattle.fsrm_model.specs.declared.command.Update.{Update}
use Rattle.fsrm_model.specs.declared.row.Capacity.{Capacity}
use Rattle.fsrm_model.specs.declared.row.QuotaRow.{QuotaRow}
use Rattle.fsrm_model.specs.declared.row.Rows.{Rows}
use Rattle.fsrm_model.specs.declared.row.TemplateRow.{TemplateRow}
use Rattle.fsrm_model.specs.commands.Commands.{is_new_template, is_template_change}
use Rattle.fsrm_model.specs.commands.Check.{◌when◌, templates_full, texts_full}
use Rattle.fsrm_model.specs.values.Limits.{most_templates, most_text_bytes}
use Rattle.fsrm_model.specs.values.Name.{is_named}
use Rattle.fsrm_model.specs.objects.Quota.{folder_of}
use Rattle.fsrm_model.specs.objects.QuotaStates.{followed}
use Rattle.fsrm_model.specs.objects.Templates.{template_number, template_name, template_named, is_template, is_derived, without_source, is_reached, as_template, updated}
use Rattle.fsrm_model.specs.commands.TemplateWork.{number_in, thresholds_in, new_template, template_add_work, retemplated, updated_quotas, template_modify_work, is_applied, template_delete_work, template_list_work}
use Rattle.fsrm_model.specs.values.Texts.{quota_bytes, template_bytes, object_texts}
use Rattle.fsrm_model.specs.objects.Thresholds.{are_too_many, may_be_removed, changed_thresholds}
use Rattle.fsrm_model.specs.store.Valid.{IsValid}
use Rattle.fsrm_model.proofs.commands.Orderly.{IsStill, KeepsValid, change_still, show_still, bare, first_none, when_none}
use Rattle.fsrm_model.proofs.commands.QuotaCommands.{limit_kept}
use Rattle.fsrm_model.proofs.commands.ValueParts.{IsTemplateChange, new_template_parts, template_change_parts}
use Rattle.fsrm_model.proofs.thresholds.KeptLaws.{sum_by-less, sum_by-same}
use Rattle.fsrm_model.proofs.thresholds.ThresholdLaws.{changed_kept}
use Rattle.fsrm_model.proofs.thresholds.UnrunKept.{changed_unrun}
use Rattle.fsrm_model.proofs.valid.NamesApart.{named_parts, named-new, named-change, named-without, there-with_row}
use Rattle.fsrm_model.proofs.valid.QueueKept.{queue_mapped}
use Rattle.fsrm_model.proofs.valid.QuotasKept.{IsQuota, quotas-map}
use Rattle.fsrm_model.proofs.valid.RowsKept.{all_stay, nothing_followed, templates_followed}
use Rattle.fsrm_model.proofs.valid.TemplatesKept.{HasTemplates, template_parts, template_joined, sources_stay, sources-gone, sources-updated, autos_stay, autos_unnamed}
use Rattle.fsrm_model.specs.declared.command.Update.TheVariants.{All, Keep, Matching}
use Rattle.fsrm_model.proofs.journal.KeptQuotas.{Keeps, SameKept, kept, kept_map, kept_twice, quota_twice}
use Rattle.fsrm_model.proofs.journal.Alike.{WorksAlike, alike, lasting_alike, quotas_alike, texts_same}
use Rattle.fsrm_model.specs.store.Lasting.{flagged_quota, lasting}

pub template_add_still : (K : Capacity) (R : Rows) (new : NewTemplate) → IsStill K R (template_add_work R new)
template_add_still K R new =
    change_still K R _ _ (bare _ _ refl, (bare _ _ refl, (bare _ _ refl, (bare _ _ refl, tt)))) refl

pub template_modify_still : (K : Capacity) (R : Rows) (given : TemplateChange) → IsStill K R (template_modify_work R given)
template_modify_still K R given =
    change_still K R _ _ (bare _ _ refl, (bare _ _ refl, (bare _ _ refl, (bare _ _ refl, tt)))) refl

pub template_delete_still : (K : Capacity) (R : Rows) (name : List ℕ) → IsStill K R (template_delete_work R name)
template_delete_still K R name = change_still K R _ _ (bare _ _ refl, (bare _ _ refl, tt)) refl

pub template_list_still : (K : Capacity) (R : Rows) → IsStill K R (template_list_work R)
template_list_still K R = show_still K R [] _ tt tt (λ store h. tt)

pub template_add_kept : (K : Capacity) (R : Rows) (new : NewTemplate) → is_new_template new ≡ true → KeepsValid K R (template_add_work R new)
template_add_kept K R new legal s h =
    let its = new_template_parts new legal in
    let row = new_template R.templates new in
    let templates = with_row template_number row R.templates in
    let after = record R { templates = templates } in
    let known = is_some (template_named R.templates new.name) in
    let many = (OutOfRange when are_too_many row.thresholds) in
    let full = templates_full after in
    let long = texts_full after in
    let a = first_none (DuplicateName when known) (many ∷ full ∷ long ∷ []) h in
    let b = first_none many (full ∷ long ∷ []) a.1 in
    let c = first_none full (long ∷ []) b.1 in
    let d = first_none long [] c.1 in
    let t = named_parts template_number template_name most_templates is_template R.templates s.tables.templates in
    let free = least_free_is template_number R.templates t.ascending in
    let most = free.most in
    let few : length templates ≤ most_templates = ge_is _ _ (when_none TableFull (nat_lt most_templates (length templates)) c.0) in
    let none : list_any (is_named template_name new.name) R.templates ≡ false = sym (is_some-find (is_named template_name new.name) R.templates) ∙ when_none DuplicateName known a.0 in
    let is : is_template row ≡ true = template_joined row (record {
      below = lt_test (least_free template_number R.templates) most_templates (omega (arith, most, few, length-with_row template_number row R.templates));
      named = its.name;
      limit = its.limit;
      thresholds = changed_kept [] new.thresholds.percents new.thresholds.notices [] refl its.thresholds.percents its.thresholds.notices (when_none OutOfRange (are_too_many row.thresholds) b.0);
      unrun = changed_unrun [] new.thresholds.percents new.thresholds.notices [] its.thresholds.notices refl;
    }) in
    let all = there-with_row template_number row R.templates free.free in
    templates_followed K R templates R.autos R.quotas R.queue s
    (named-new template_number template_name most_templates is_template row R.templates s.tables.templates free.free none few is)
    (autos_stay R.nodes R.nodes R.templates templates R.autos (all_stay R.nodes) all s.tables.autos)
    s.quotas
    (sources_stay R.templates templates R.quotas all s.tables.sources)
    (ge_is _ _ (when_none TextsFull (nat_lt most_text_bytes (object_texts after)) d.0))
    s.queue

-- what is changed in form is a template
retemplated_is : (change : TemplateChange) (template : TemplateRow) → IsTemplateChange change → are_too_many (retemplated change template).thresholds ≡ false → is_template template ≡ true → is_template (retemplated change template) ≡ true
retemplated_is change template legal few is =
    let p = template_parts template is in
    let coming = change.thresholds in
    template_joined (retemplated change template) (record {
      below = p.below;
      named = p.named;
      limit = limit_kept change.limit template.limit legal.limit p.limit;
      thresholds = changed_kept change.removed coming.percents coming.notices template.thresholds p.thresholds legal.thresholds.percents legal.thresholds.notices few;
      unrun = changed_unrun change.removed coming.percents coming.notices template.thresholds legal.thresholds.notices p.unrun;
    })

-- what it reaches has its values, and all else of a quota stays
updated_is : (mode : Update) (old new : TemplateRow) (quota : QuotaRow) → is_template new ≡ true → IsQuota quota → IsQuota (updated mode old new quota)
updated_is mode old new quota named is = at (is_reached mode old quota)
  where
    at : (b : Bool) → IsQuota (cond b (as_template new quota) quota)
    at true = let p = template_parts new named in record { limit = p.limit; thresholds = p.thresholds; moment = is.moment }
    at false = is

updated_folder : (mode : Update) (old new : TemplateRow) (quota : QuotaRow) → folder_of (updated mode old new quota) ≡ folder_of quota
updated_folder mode old new quota = at (is_reached mode old quota)
  where
    at : (b : Bool) → folder_of (cond b (as_template new quota) quota) ≡ folder_of quota
    at true = refl
    at false = refl

updated_state : (mode : Update) (old new : TemplateRow) (quota : QuotaRow) → (updated mode old new quota).state ≡ quota.state
updated_state mode old new quota = at (is_reached mode old quota)
  where
    at : (b : Bool) → (cond b (as_template new quota) quota).state ≡ quota.state
    at true = refl
    at false = refl

-- a template that is there changes, and the quotas that this reaches
modified_kept : (K : Capacity) (R : Rows) (given : TemplateChange) (o : Option TemplateRow) → template_named R.templates given.name ≡ o → is_none o ≡ false → IsTemplateChange given → are_too_many (changed_thresholds given.removed given.thresholds.percents given.thresholds.notices (thresholds_in o)) ≡ false → object_texts (record R { templates = with_change template_number (number_in o) (retemplated given) R.templates; quotas = updated_quotas given.update o (retemplated given) R.quotas }) ≤ most_text_bytes → IsValid K R → IsValid K (followed R (record R { templates = with_change template_number (number_in o) (retemplated given) R.templates; quotas = updated_quotas given.update o (retemplated given) R.quotas }))
modified_kept K R given None e there legal few short s = absurd (cc there)
modified_kept K R given (Some template) e there legal few short s =
    let name = given.name in
    let mode = given.update in
    let change : TemplateRow → TemplateRow = retemplated given in
    let n = template.number in
    let new = change template in
    let templates = with_change template_number n change R.templates in
    let t = named_parts template_number template_name most_templates is_template R.templates s.tables.templates in
    let own : row_of template_number n R.templates ≡ Some template = found_own template_number (is_named template_name name) R.templates template t.ascending e in
    let form : (x : TemplateRow) → row_of template_number n R.templates ≡ Some x → is_template x ≡ true → is_template (change x) ≡ true = λ x found is.
    retemplated_is given x legal
    (subst (λ (t : TemplateRow). are_too_many (change t).thresholds ≡ false) (same_Some template x (sym own ∙ found)) few) is in
    let is : is_template new ≡ true = form template own (all_found is_template (is_named template_name name) R.templates template t.each e) in
    let all : HasTemplates R.templates templates = λ k there. has_row-change template_number n change (λ t. refl) k R.templates ∙ there in
    templates_followed K R templates R.autos (map (updated mode template new) R.quotas) R.queue s
    (named-change template_number template_name most_templates is_template n change R.templates s.tables.templates (λ t. refl) (λ t. refl) form)
    (autos_stay R.nodes R.nodes R.templates templates R.autos (all_stay R.nodes) all s.tables.autos)
    (quotas-map R.nodes R.quotas (updated mode template new) s.quotas (updated_folder mode template new) (λ q its. updated_is mode template new q is its))
    (sources-updated templates mode template new R.quotas (sources_stay R.templates templates R.quotas all s.tables.sources))
    short
    (queue_mapped (updated mode template new) R.quotas R.queue (updated_folder mode template new) (updated_state mode template new) s.queue)

pub template_modify_kept : (K : Capacity) (R : Rows) (given : TemplateChange) → is_template_change given ≡ true → KeepsValid K R (template_modify_work R given)
template_modify_kept K R given legal s h =
    let old = template_named R.templates given.name in
    let change : TemplateRow → TemplateRow = retemplated given in
    let after = record R { templates = with_change template_number (number_in old) change R.templates; quotas = updated_quotas given.update old change R.quotas } in
    let thresholds = thresholds_in old in
    let stays = not (may_be_removed given.removed thresholds) in
    let crowded = are_too_many (changed_thresholds given.removed given.thresholds.percents given.thresholds.notices thresholds) in
    let missing = (NotFound when is_none old) in
    let gone = (NotFound when stays) in
    let many = (OutOfRange when crowded) in
    let long = texts_full after in
    let a = first_none missing (gone ∷ many ∷ long ∷ []) h in
    let b = first_none gone (many ∷ long ∷ []) a.1 in
    let c = first_none many (long ∷ []) b.1 in
    let d = first_none long [] c.1 in
    modified_kept K R given old refl (when_none NotFound (is_none old) a.0) (template_change_parts given legal)
    (when_none OutOfRange crowded c.0) (ge_is _ _ (when_none TextsFull (nat_lt most_text_bytes (object_texts after)) d.0)) s

-- a quota without a template that is gone is as it was otherwise
source_is : (n : ℕ) (quota : QuotaRow) → IsQuota quota → IsQuota (without_source n quota)
source_is n quota is = at (is_derived n quota)
  where
    at : (b : Bool) → IsQuota (cond b (record quota { template = None }) quota)
    at true = record { limit = is.limit; thresholds = is.thresholds; moment = is.moment }
    at false = is

source_folder : (n : ℕ) (quota : QuotaRow) → folder_of (without_source n quota) ≡ folder_of quota
source_folder n quota = at (is_derived n quota)
  where
    at : (b : Bool) → folder_of (cond b (record quota { template = None }) quota) ≡ folder_of quota
    at true = refl
    at false = refl

source_state : (n : ℕ) (quota : QuotaRow) → (without_source n quota).state ≡ quota.state
source_state n quota = at (is_derived n quota)
  where
    at : (b : Bool) → (cond b (record quota { template = None }) quota).state ≡ quota.state
    at true = refl
    at false = refl

source_bytes : (n : ℕ) (quota : QuotaRow) → quota_bytes (without_source n quota) ≡ quota_bytes quota
source_bytes n quota = at (is_derived n quota)
  where
    at : (b : Bool) → quota_bytes (cond b (record quota { template = None }) quota) ≡ quota_bytes quota
    at true = refl
    at false = refl

-- texts of fewer templates, and of as many bytes of quotas
fewer_templates : (R : Rows) (templates : List TemplateRow) (quotas : List QuotaRow) → sum_by template_bytes templates ≤ sum_by template_bytes R.templates → sum_by quota_bytes quotas ≡ sum_by quota_bytes R.quotas → object_texts R ≤ most_text_bytes → object_texts (record R { templates = templates; quotas = quotas }) ≤ most_text_bytes
fewer_templates R templates quotas less same few = omega (arith, less, same, few)

pub template_delete_kept : (K : Capacity) (R : Rows) (name : List ℕ) → KeepsValid K R (template_delete_work R name)
template_delete_kept K R name s h =
    let old = template_named R.templates name in
    let n = number_in old in
    let templates = without_row template_number n R.templates in
    let quotas = map (without_source n) R.quotas in
    let used = is_applied R n in
    let a = first_none (NotFound when is_none old) ((InUse when used) ∷ []) h in
    let b = first_none (InUse when used) [] a.1 in
    templates_followed K R templates R.autos quotas R.queue s
    (named-without template_number template_name most_templates is_template n R.templates s.tables.templates)
    (autos_unnamed R.nodes R.templates n R.autos (when_none InUse used b.0) s.tables.autos)
    (quotas-map R.nodes R.quotas (without_source n) s.quotas (source_folder n) (source_is n))
    (sources-gone R.templates n R.quotas s.tables.sources)
    (fewer_templates R templates quotas (sum_by-less template_bytes (λ t. not (template_number t == n)) R.templates) (sum_by-same quota_bytes (without_source n) (source_bytes n) R.quotas) s.texts)
    (queue_mapped (without_source n) R.quotas R.queue (source_folder n) (source_state n) s.queue)

-- a list leaves them as they are
pub template_list_kept : (K : Capacity) (R : Rows) → KeepsValid K R (template_list_work R)
template_list_kept K R s h = nothing_followed K R s

-- ---- over rows and over what is kept of them
pub template_add_alike : (R : Rows) (new : NewTemplate) → WorksAlike (template_add_work R new) (template_add_work (lasting R) new)
template_add_alike R new =
    let E : Rows = record R { templates = with_row template_number (new_template R.templates new) R.templates } in
    alike (lasting_alike E) (refl, (refl, (refl, (texts_same (lasting_alike E), tt))))

reached_flagged : (mode : Update) (old : TemplateRow) (q : QuotaRow) → is_reached mode old (flagged_quota q) ≡ is_reached mode old q
reached_flagged Keep old q = refl
reached_flagged Matching old q = refl
reached_flagged All old q = refl

updated_keeps : (mode : Update) (old new : TemplateRow) → Keeps (updated mode old new)
updated_keeps mode old new q =
    ap (λ b. flagged_quota (cond b (as_template new (flagged_quota q)) (flagged_quota q))) (reached_flagged mode old q) ∙ at (is_reached mode old q)
  where
    at : (b : Bool) → flagged_quota (cond b (as_template new (flagged_quota q)) (flagged_quota q)) ≡ flagged_quota (cond b (as_template new q) q)
    at true = quota_twice (as_template new q)
    at false = quota_twice q

updated_kept : (mode : Update) (o : Option TemplateRow) (change : TemplateRow → TemplateRow) (qs : List QuotaRow) → SameKept (updated_quotas mode o change (kept qs)) (updated_quotas mode o change qs)
updated_kept mode None change qs = kept_twice qs
updated_kept mode (Some template) change qs = kept_map (updated mode template (change template)) (updated_keeps mode template (change template)) qs

pub template_modify_alike : (R : Rows) (given : TemplateChange) → WorksAlike (template_modify_work R given) (template_modify_work (lasting R) given)
template_modify_alike R given =
    let old = template_named R.templates given.name in
    let change : TemplateRow → TemplateRow = retemplated given in
    let base : Rows = record R { templates = with_change template_number (number_in old) change R.templates } in
    let are = quotas_alike base (updated_quotas given.update old change R.quotas) (updated_quotas given.update old change (kept R.quotas)) R.queue [] R.unvisited [] (updated_kept given.update old change R.quotas) in
    alike are (refl, (refl, (refl, (texts_same are, tt))))

source_keeps : (number : ℕ) → Keeps (without_source number)
source_keeps number q = at (is_derived number q)
  where
    at : (b : Bool) → flagged_quota (cond b (record (flagged_quota q) { template = None }) (flagged_quota q)) ≡ flagged_quota (cond b (record q { template = None }) q)
    at true = quota_twice (record q { template = None })
    at false = quota_twice q

pub template_delete_alike : (R : Rows) (name : List ℕ) → WorksAlike (template_delete_work R name) (template_delete_work (lasting R) name)
template_delete_alike R name =
    let number = number_in (template_named R.templates name) in
    let base : Rows = record R { templates = without_row template_number number R.templates } in
    alike (quotas_alike base (map (without_source number) R.quotas) (map (without_source number) (kept R.quotas)) R.queue [] R.unvisited [] (kept_map (without_source number) (source_keeps number) R.quotas))
    (refl, (refl, tt))

pub template_list_alike : (R : Rows) → WorksAlike (template_list_work R) (template_list_work (lasting R))
template_list_alike R = alike (lasting_alike R) tt
