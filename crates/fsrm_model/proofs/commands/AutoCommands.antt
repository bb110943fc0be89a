-- The commands on auto-apply quotas: each one's work is orderly, and leaves the rows of a store if no check refuses.
use Rattle.std.proofs.Common.{◌≡◌, ℕ, ◌≤◌, ◌==◌, nat_lt, true, false, not, List, [], ◌∷◌, length, Option, Some, None, refl, sym, ◌∙◌, arith, Bool, ap}
use Rattle.std.specs.Prelude.{filter_map, fold, is_none, is_some, sum_by, if◌then◌else◌, option_map}
use Rattle.fsrm_base.specs.Keyed.{has_row, is_ascending, with_row, without_row}
use Rattle.fsrm_base.proofs.Look.{found_has, found_own, is_some-find}
use Rattle.fsrm_base.proofs.TestLaws.{ge_is}
use Rattle.fsrm_model.specs.objects.AutoApply.{auto_folder, auto_of, applied, quotas_with, queue_with, with_quotas, subfolders, template_for, without_auto}
use Rattle.fsrm_model.specs.commands.AutoWork.{new_auto, auto_add_work, auto_delete_work, auto_list_work}
use Rattle.fsrm_model.specs.declared.command.NewAutoquota.{NewAutoquota}
use Rattle.fsrm_model.specs.declared.command.Refusal.TheVariants.{PathNotFound, AlreadyExists, NotFound, TableFull, TextsFull}
use Rattle.fsrm_model.specs.declared.row.AutoRow.{AutoRow}
use Rattle.fsrm_model.specs.declared.row.Capacity.{Capacity}
use Rattle.fsrm_model.specs.declared.row.Rows.{Rows}
use Rattle.fsrm_model.specs.declared.row.TemplateRow.{TemplateRow}
use Rattle.fsrm_model.specs.commands.Commands.{is_new_autoquota}
use Rattle.fsrm_model.specs.commands.Check.{◌when◌, autos_full, table_full, texts_full}
use Rattle.fsrm_model.specs.nodes.FileOps.{target}
use Rattle.fsrm_model.specs.nodes.Leads.{leads_to_folder}
use Rattle.fsrm_model.specs.values.Limits.{latest_moment, most_autos, most_quotas, most_templates, most_text_bytes}
use Rattle.fsrm_model.specs.values.Name.{is_named}
use Rattle.fsrm_model.specs.objects.Templates.{template_number, template_name, template_named, is_template, derived, template_of}
use Rattle.fsrm_model.specs.commands.TemplateWork.{number_in}
use Rattle.fsrm_model.specs.values.Texts.{auto_bytes, object_texts}
use Rattle.fsrm_model.proofs.commands.FileParts.{folder_at}
use Rattle.fsrm_model.proofs.commands.Orderly.{IsStill, KeepsValid, change_still, show_still, bare, first_none, when_none}
use Rattle.fsrm_model.proofs.commands.ValueParts.{new_autoquota_parts}
use Rattle.fsrm_model.proofs.thresholds.KeptLaws.{sum_by-less}
use Rattle.fsrm_model.proofs.valid.ComingQuotas.{coming_subfolders}
use Rattle.fsrm_model.proofs.valid.NamesApart.{named_parts}
use Rattle.fsrm_model.proofs.valid.RowsKept.{nothing_followed, templates_followed}
use Rattle.fsrm_model.proofs.valid.TemplatesKept.{autos-new, autos-gone, quotas-coming, sources-coming, queue-coming}
use Rattle.fsrm_model.specs.declared.row.QuotaRow.{QuotaRow}
use Rattle.fsrm_model.proofs.journal.Alike.{RowsAlike, WorksAlike, alike, lasting_alike, quotas_alike, table_same, texts_same}
use Rattle.fsrm_model.proofs.journal.KeptQuotas.{kept, kept_twice, same_coming}
use Rattle.fsrm_model.specs.store.Lasting.{lasting}
use Rattle.fsrm_model.specs.nodes.Tree.{name_of, parent_of}
use Rattle.std.specs.Option.{option_and_then}
use Rattle.fsrm_model.proofs.journal.KeptEnds.{some_lasting}
use Rattle.fsrm_model.specs.objects.QuotaStates.{start}

pub auto_add_still : (K : Capacity) (R : Rows) (moment : ℕ) (new : NewAutoquota) → IsStill K R (auto_add_work R moment new)
auto_add_still K R moment new =
    change_still K R _ _ (bare _ _ refl, (bare _ _ refl, (bare _ _ refl, (bare _ _ refl, (bare _ _ refl, (bare _ _ refl, tt)))))) refl

pub auto_delete_still : (K : Capacity) (R : Rows) (path : List (List ℕ)) → IsStill K R (auto_delete_work R path)
auto_delete_still K R path = change_still K R _ _ (bare _ _ refl, (bare _ _ refl, tt)) refl

pub auto_list_still : (K : Capacity) (R : Rows) → IsStill K R (auto_list_work R)
auto_list_still K R = show_still K R [] _ tt tt (λ store h. tt)

-- a template that is found by its name is there
found_there : (templates : List TemplateRow) (name : List ℕ) (o : Option TemplateRow) → is_ascending template_number templates ≡ true → template_named templates name ≡ o → is_none o ≡ false → has_row template_number (number_in o) templates ≡ true
found_there templates name None t e some = absurd (cc some)
found_there templates name (Some template) t e some =
    found_has template_number template.number templates template (found_own template_number (is_named template_name name) templates template t e)

pub auto_add_kept : (K : Capacity) (R : Rows) (moment : ℕ) (new : NewAutoquota) → is_new_autoquota new ≡ true → moment ≤ latest_moment → KeepsValid K R (auto_add_work R moment new)
auto_add_kept K R moment new legal late s h =
    let folder = target R.nodes new.path in
    let template = template_named R.templates new.template in
    let row : AutoRow = new_auto folder (number_in template) new.excluded in
    let autos = with_row auto_folder row R.autos in
    let ruled : Rows = record R { autos = autos } in
    let coming = filter_map (applied ruled moment) (subfolders R.nodes folder) in
    let quotas = fold quotas_with R.quotas coming in
    let queue = fold queue_with R.queue coming in
    let after = with_quotas ruled coming in
    let taken = is_some (auto_of R folder) in
    let known = (AlreadyExists when taken) in
    let missing = (NotFound when is_none template) in
    let rows = autos_full after in
    let full = table_full after in
    let long = texts_full after in
    let a = first_none (PathNotFound when not (leads_to_folder R.nodes new.path)) (known ∷ missing ∷ rows ∷ full ∷ long ∷ []) h in
    let b = first_none known (missing ∷ rows ∷ full ∷ long ∷ []) a.1 in
    let c = first_none missing (rows ∷ full ∷ long ∷ []) b.1 in
    let d = first_none rows (full ∷ long ∷ []) c.1 in
    let e = first_none full (long ∷ []) d.1 in
    let f = first_none long [] e.1 in
    let t = named_parts template_number template_name most_templates is_template R.templates s.tables.templates in
    let absent : has_row auto_folder folder R.autos ≡ false = sym (is_some-find (λ auto. auto_folder auto == folder) R.autos) ∙ when_none AlreadyExists taken b.0 in
    let few_autos : length autos ≤ most_autos = ge_is _ _ (when_none TableFull (nat_lt most_autos (length autos)) d.0) in
    let few : length quotas ≤ most_quotas = ge_is _ _ (when_none TableFull (nat_lt most_quotas (length quotas)) e.0) in
    let come = coming_subfolders ruled moment folder s.tables.templates late s.volume.ascending in
    templates_followed K R R.templates autos quotas queue s s.tables.templates
    (autos-new R.nodes R.templates row R.autos s.tables.autos absent few_autos (record {
      folder = folder_at R.nodes new.path a.0;
      there = found_there R.templates new.template template t.ascending refl (when_none NotFound (is_none template) c.0);
      own = (new_autoquota_parts new legal).excluded;
    }))
    (quotas-coming R.nodes R.templates R.quotas coming s.quotas come few)
    (sources-coming R.nodes R.templates R.quotas coming come s.tables.sources)
    (ge_is _ _ (when_none TextsFull (nat_lt most_text_bytes (object_texts after)) f.0))
    (queue-coming R.nodes R.templates R.quotas coming R.queue come s.queue)

-- texts of fewer auto-apply quotas
fewer_autos : (R : Rows) (autos : List AutoRow) → sum_by auto_bytes autos ≤ sum_by auto_bytes R.autos → object_texts R ≤ most_text_bytes → object_texts (record R { autos = autos }) ≤ most_text_bytes
fewer_autos R autos less few = omega (arith, less, few)

pub auto_delete_kept : (K : Capacity) (R : Rows) (path : List (List ℕ)) → KeepsValid K R (auto_delete_work R path)
auto_delete_kept K R path s h =
    let folder = target R.nodes path in
    let autos = without_row auto_folder folder R.autos in
    templates_followed K R R.templates autos R.quotas R.queue s s.tables.templates
    (autos-gone R.nodes R.nodes R.templates R.autos folder (λ f apart is. is) s.tables.autos)
    s.quotas s.tables.sources
    (fewer_autos R autos (sum_by-less auto_bytes (λ auto. not (auto_folder auto == folder)) R.autos) s.texts)
    s.queue

-- a list leaves them as they are
pub auto_list_kept : (K : Capacity) (R : Rows) → KeepsValid K R (auto_list_work R)
auto_list_kept K R s h = nothing_followed K R s

-- ---- over rows and over what is kept of them
-- a folder's quota is asked for only to see that there is none
pub applied_lasting : (R : Rows) (moment folder : ℕ) → applied (lasting R) moment folder ≡ applied R moment folder
applied_lasting R moment folder =
    ap (λ (b : Bool). if b then None else option_map (λ template. derived template folder (start R.nodes folder) moment)
    (option_and_then (template_of R.templates) (template_for R.autos (parent_of R.nodes folder) (name_of R.nodes folder)))) (some_lasting R folder)

given_lasting : (R : Rows) (moment : ℕ) (folders : List ℕ) → filter_map (applied (lasting R) moment) folders ≡ filter_map (applied R moment) folders
given_lasting R moment folders = ap (λ (f : ℕ → Option QuotaRow). filter_map f folders) same
  where
    same : applied (lasting R) moment ≡ applied R moment
    same = λ i folder. applied_lasting R moment folder i

-- quotas that come, the same to both
pub coming_alike : (E : Rows) (coming coming' : List QuotaRow) → coming' ≡ coming → RowsAlike (with_quotas E coming) (with_quotas (lasting E) coming')
coming_alike E coming coming' e =
    quotas_alike E (fold quotas_with E.quotas coming) (fold quotas_with (kept E.quotas) coming') (fold queue_with E.queue coming) (fold queue_with [] coming') E.unvisited []
    (ap (λ (more : List QuotaRow). kept (fold quotas_with (kept E.quotas) more)) e ∙ same_coming coming (kept E.quotas) E.quotas (kept_twice E.quotas))

pub auto_add_alike : (R : Rows) (moment : ℕ) (new : NewAutoquota) → WorksAlike (auto_add_work R moment new) (auto_add_work (lasting R) moment new)
auto_add_alike R moment new =
    let folder = target R.nodes new.path in
    let ruled : Rows = record R { autos = with_row auto_folder (new_auto folder (number_in (template_named R.templates new.template)) new.excluded) R.autos } in
    let are = coming_alike ruled (filter_map (applied ruled moment) (subfolders R.nodes folder)) (filter_map (applied (lasting ruled) moment) (subfolders R.nodes folder)) (given_lasting ruled moment (subfolders R.nodes folder)) in
    alike are (refl, (refl, (refl, (refl, (table_same are, (texts_same are, tt))))))

pub auto_delete_alike : (R : Rows) (path : List (List ℕ)) → WorksAlike (auto_delete_work R path) (auto_delete_work (lasting R) path)
auto_delete_alike R path = alike (lasting_alike (without_auto R (target R.nodes path))) (refl, (refl, tt))

pub auto_list_alike : (R : Rows) → WorksAlike (auto_list_work R) (auto_list_work (lasting R))
auto_list_alike R = alike (lasting_alike R) tt
