-- The templates of quotas and auto-apply quotas stay there when one comes, changes or goes, and so do quotas that come to folders.
use Rattle.std.proofs.Common.{◌≡◌, ℕ, ◌+◌, ◌≤◌, ◌==◌, nat_lt, Bool, true, false, cond, not, ◌&&◌, List, [], ◌∷◌, length, refl, ◌∙◌, arith, Some, None, Option}
use Rattle.std.specs.Prelude.{map, fold}
use Rattle.std.specs.List.{list_all, list_any}
use Rattle.std.specs.Option.{option_map_or}
use Rattle.fsrm_base.specs.Keyed.{has_row, with_row, with_change, without_row}
use Rattle.fsrm_base.proofs.EditedTests.{list_all-filter, list_all-with_change, list_all-with_row}
use Rattle.fsrm_base.proofs.Look.{has_row-without_other}
use Rattle.fsrm_base.proofs.Order.{length-with_row}
use Rattle.fsrm_base.proofs.TestLaws.{both, both_true}
use Rattle.fsrm_model.specs.objects.AutoApply.{auto_folder, is_auto, quotas_with, queue_with}
use Rattle.fsrm_model.specs.declared.command.Update.{Update}
use Rattle.fsrm_model.specs.declared.row.AutoRow.{AutoRow}
use Rattle.fsrm_model.specs.declared.row.NodeRow.{NodeRow}
use Rattle.fsrm_model.specs.declared.row.QuotaRow.{QuotaRow}
use Rattle.fsrm_model.specs.declared.row.TemplateRow.{TemplateRow}
use Rattle.fsrm_model.specs.values.Limits.{most_autos, most_quotas, most_templates}
use Rattle.fsrm_model.specs.values.Patterns.{is_object_name}
use Rattle.fsrm_model.specs.objects.Quota.{folder_of, is_limit}
use Rattle.fsrm_model.specs.objects.Templates.{template_number, is_unrun, is_template, is_derived, without_source, is_reached, as_template, updated}
use Rattle.fsrm_model.specs.objects.Thresholds.{are_thresholds}
use Rattle.fsrm_model.specs.nodes.Tree.{is_folder}
use Rattle.fsrm_model.specs.store.Valid.{has_source, is_sound_auto, are_autos, AreQuotas}
use Rattle.fsrm_model.specs.store.ValidScans.{IsQueue}
use Rattle.fsrm_model.proofs.valid.QueueKept.{queue_added}
use Rattle.fsrm_model.proofs.valid.QuotasKept.{IsQuota, quotas-new}
use Rattle.fsrm_model.proofs.valid.ScreensKept.{FoldersStay, all_map, all_weaker, table-new, table-without, table_apart, table_stays}

-- what a template has by itself
pub record IsTemplate (template : TemplateRow) : Type 0 where
  pub below : nat_lt template.number most_templates ≡ true
  pub named : is_object_name template.name ≡ true
  pub limit : is_limit template.limit ≡ true
  pub thresholds : are_thresholds template.thresholds ≡ true
  pub unrun : list_all is_unrun template.thresholds ≡ true

pub template_parts : (template : TemplateRow) → is_template template ≡ true → IsTemplate template
template_parts template h =
    let halves = both (nat_lt template.number most_templates && is_object_name template.name) (is_limit template.limit && (are_thresholds template.thresholds && list_all is_unrun template.thresholds)) h in
    let key = both (nat_lt template.number most_templates) (is_object_name template.name) halves.0 in
    let values = both (is_limit template.limit) (are_thresholds template.thresholds && list_all is_unrun template.thresholds) halves.1 in
    let marks = both (are_thresholds template.thresholds) (list_all is_unrun template.thresholds) values.1 in
    record { below = key.0; named = key.1; limit = values.0; thresholds = marks.0; unrun = marks.1 }

pub template_joined : (template : TemplateRow) → IsTemplate template → is_template template ≡ true
template_joined template is =
    both_true (nat_lt template.number most_templates && is_object_name template.name) (is_limit template.limit && (are_thresholds template.thresholds && list_all is_unrun template.thresholds))
    (both_true (nat_lt template.number most_templates) (is_object_name template.name) is.below is.named)
    (both_true (is_limit template.limit) (are_thresholds template.thresholds && list_all is_unrun template.thresholds) is.limit
    (both_true (are_thresholds template.thresholds) (list_all is_unrun template.thresholds) is.thresholds is.unrun))

-- a table that has all templates that another one has
abbrev pub HasTemplates : List TemplateRow → List TemplateRow → Type 0
HasTemplates templates now = (n : ℕ) → has_row template_number n templates ≡ true → has_row template_number n now ≡ true

-- ---- the templates of quotas
pub source_stays : (templates now : List TemplateRow) → HasTemplates templates now → (o : Option ℕ) → option_map_or (λ n. has_row template_number n templates) o true ≡ true → option_map_or (λ n. has_row template_number n now) o true ≡ true
source_stays templates now all None h = refl
source_stays templates now all (Some n) h = all n h

pub sources_stay : (templates now : List TemplateRow) (quotas : List QuotaRow) → HasTemplates templates now → list_all (has_source templates) quotas ≡ true → list_all (has_source now) quotas ≡ true
sources_stay templates now quotas all h = all_weaker (has_source templates) (has_source now) quotas (λ q is. source_stays templates now all q.template is) h

pub sources-new : (templates : List TemplateRow) (quota : QuotaRow) (quotas : List QuotaRow) → has_source templates quota ≡ true → list_all (has_source templates) quotas ≡ true → list_all (has_source templates) (with_row folder_of quota quotas) ≡ true
sources-new templates quota quotas own h = list_all-with_row folder_of (has_source templates) quota quotas own h

pub sources-change : (templates : List TemplateRow) (n : ℕ) (c : QuotaRow → QuotaRow) (quotas : List QuotaRow) → ((q : QuotaRow) → has_source templates q ≡ true → has_source templates (c q) ≡ true) → list_all (has_source templates) quotas ≡ true → list_all (has_source templates) (with_change folder_of n c quotas) ≡ true
sources-change templates n c quotas is h = list_all-with_change folder_of (has_source templates) n c quotas h is

pub sources-without : (templates : List TemplateRow) (n : ℕ) (quotas : List QuotaRow) → list_all (has_source templates) quotas ≡ true → list_all (has_source templates) (without_row folder_of n quotas) ≡ true
sources-without templates n quotas h = list_all-filter (has_source templates) (λ q. not (folder_of q == n)) quotas h

-- a template that is gone is no quota's
source_gone : (templates : List TemplateRow) (n : ℕ) (q : QuotaRow) → has_source templates q ≡ true → has_source (without_row template_number n templates) (without_source n q) ≡ true
source_gone templates n q h = at (is_derived n q) refl
  where
    other : (o : Option ℕ) → option_map_or (λ k. k == n) o false ≡ false → option_map_or (λ k. has_row template_number k templates) o true ≡ true → option_map_or (λ k. has_row template_number k (without_row template_number n templates)) o true ≡ true
    other None e h = refl
    other (Some k) e h = has_row-without_other template_number n k templates e ∙ h

    at : (b : Bool) → is_derived n q ≡ b → has_source (without_row template_number n templates) (cond b (record q { template = None }) q) ≡ true
    at true e = refl
    at false e = other q.template e h

pub sources-gone : (templates : List TemplateRow) (n : ℕ) (quotas : List QuotaRow) → list_all (has_source templates) quotas ≡ true → list_all (has_source (without_row template_number n templates)) (map (without_source n) quotas) ≡ true
sources-gone templates n [] h = refl
sources-gone templates n (q ∷ quotas) h =
    let parts = both (has_source templates q) (list_all (has_source templates) quotas) h in
    both_true (has_source (without_row template_number n templates) (without_source n q)) (list_all (has_source (without_row template_number n templates)) (map (without_source n) quotas))
    (source_gone templates n q parts.0) (sources-gone templates n quotas parts.1)

-- quotas that a template's change reaches keep theirs
pub sources-updated : (templates : List TemplateRow) (mode : Update) (old new : TemplateRow) (quotas : List QuotaRow) → list_all (has_source templates) quotas ≡ true → list_all (has_source templates) (map (updated mode old new) quotas) ≡ true
sources-updated templates mode old new quotas h = all_map (has_source templates) (updated mode old new) quotas (λ q is. at q (is_reached mode old q) is) h
  where
    at : (q : QuotaRow) (b : Bool) → has_source templates q ≡ true → has_source templates (cond b (as_template new q) q) ≡ true
    at q true is = is
    at q false is = is

-- ---- auto-apply quotas
pub record IsAuto (nodes : List NodeRow) (templates : List TemplateRow) (auto : AutoRow) : Type 0 where
  pub folder : is_folder nodes auto.folder ≡ true
  pub there : has_row template_number auto.template templates ≡ true
  pub own : is_auto auto ≡ true

pub auto_parts : (nodes : List NodeRow) (templates : List TemplateRow) (auto : AutoRow) → is_sound_auto nodes templates auto ≡ true → IsAuto nodes templates auto
auto_parts nodes templates auto h =
    let halves = both (is_folder nodes auto.folder && has_row template_number auto.template templates) (is_auto auto) h in
    let place = both (is_folder nodes auto.folder) (has_row template_number auto.template templates) halves.0 in
    record { folder = place.0; there = place.1; own = halves.1 }

pub auto_joined : (nodes : List NodeRow) (templates : List TemplateRow) (auto : AutoRow) → IsAuto nodes templates auto → is_sound_auto nodes templates auto ≡ true
auto_joined nodes templates auto is =
    both_true (is_folder nodes auto.folder && has_row template_number auto.template templates) (is_auto auto)
    (both_true (is_folder nodes auto.folder) (has_row template_number auto.template templates) is.folder is.there) is.own

-- over other nodes, and other templates
pub autos_stay : (nodes new : List NodeRow) (templates now : List TemplateRow) (autos : List AutoRow) → FoldersStay nodes new → HasTemplates templates now → are_autos nodes templates autos ≡ true → are_autos new now autos ≡ true
autos_stay nodes new templates now autos folders all h =
    table_stays auto_folder most_autos (is_sound_auto nodes templates) (is_sound_auto new now) autos h (λ a is.
    let p = auto_parts nodes templates a is in
    auto_joined new now a (record { folder = folders a.folder p.folder; there = all a.template p.there; own = p.own }))

pub autos-new : (nodes : List NodeRow) (templates : List TemplateRow) (auto : AutoRow) (autos : List AutoRow) → are_autos nodes templates autos ≡ true → has_row auto_folder auto.folder autos ≡ false → length (with_row auto_folder auto autos) ≤ most_autos → IsAuto nodes templates auto → are_autos nodes templates (with_row auto_folder auto autos) ≡ true
autos-new nodes templates auto autos h absent few is =
    table-new auto_folder most_autos (is_sound_auto nodes templates) auto autos h absent few (auto_joined nodes templates auto is)

-- without a folder's, if all other folders stay
pub autos-gone : (nodes new : List NodeRow) (templates : List TemplateRow) (autos : List AutoRow) (n : ℕ) → ((f : ℕ) → (f == n) ≡ false → is_folder nodes f ≡ true → is_folder new f ≡ true) → are_autos nodes templates autos ≡ true → are_autos new templates (without_row auto_folder n autos) ≡ true
autos-gone nodes new templates autos n folders h =
    table-without auto_folder most_autos (is_sound_auto nodes templates) (is_sound_auto new templates) n autos h (λ a apart is.
    let p = auto_parts nodes templates a is in
    auto_joined new templates a (record { folder = folders a.folder apart p.folder; there = p.there; own = p.own }))

-- without a template that none of them names
pub autos_unnamed : (nodes : List NodeRow) (templates : List TemplateRow) (n : ℕ) (autos : List AutoRow) → list_any (λ auto. auto.template == n) autos ≡ false → are_autos nodes templates autos ≡ true → are_autos nodes (without_row template_number n templates) autos ≡ true
autos_unnamed nodes templates n autos none h =
    table_apart auto_folder most_autos (λ auto. auto.template == n) (is_sound_auto nodes templates) (is_sound_auto nodes (without_row template_number n templates)) autos h none (λ a other is.
    let p = auto_parts nodes templates a is in
    auto_joined nodes (without_row template_number n templates) a (record { folder = p.folder; there = has_row-without_other template_number n a.template templates other ∙ p.there; own = p.own }))

-- ---- quotas that come to folders, one after another
pub record IsComing (nodes : List NodeRow) (templates : List TemplateRow) (quotas : List QuotaRow) (quota : QuotaRow) : Type 0 where
  pub absent : has_row folder_of quota.folder quotas ≡ false
  pub folder : is_folder nodes quota.folder ≡ true
  pub own : IsQuota quota
  pub source : has_source templates quota ≡ true

abbrev pub AreComing : List NodeRow → List TemplateRow → List QuotaRow → List QuotaRow → Type 0
AreComing nodes templates quotas [] = Unit {0}
AreComing nodes templates quotas (quota ∷ coming) = IsComing nodes templates quotas quota × AreComing nodes templates (quotas_with quotas quota) coming

length-coming : (quotas coming : List QuotaRow) → length (fold quotas_with quotas coming) ≡ length quotas + length coming
length-coming quotas [] = omega arith
length-coming quotas (quota ∷ coming) =
    let rest : length (fold quotas_with (with_row folder_of quota quotas) coming) ≡ length (with_row folder_of quota quotas) + length coming = length-coming (with_row folder_of quota quotas) coming in
    let one = length-with_row folder_of quota quotas in
    omega (arith, rest, one)

pub quotas-coming : (nodes : List NodeRow) (templates : List TemplateRow) (quotas coming : List QuotaRow) → AreQuotas nodes quotas → AreComing nodes templates quotas coming → length (fold quotas_with quotas coming) ≤ most_quotas → AreQuotas nodes (fold quotas_with quotas coming)
quotas-coming nodes templates quotas [] a c few = a
quotas-coming nodes templates quotas (quota ∷ coming) a c few =
    let is = c.0 in
    let all : length (fold quotas_with (with_row folder_of quota quotas) coming) ≤ most_quotas = few in
    let more = length-coming (with_row folder_of quota quotas) coming in
    let one = length-with_row folder_of quota quotas in
    quotas-coming nodes templates (with_row folder_of quota quotas) coming
    (quotas-new nodes quotas quota a is.absent (omega (arith, all, more, one)) is.folder is.own)
    c.1 all

pub sources-coming : (nodes : List NodeRow) (templates : List TemplateRow) (quotas coming : List QuotaRow) → AreComing nodes templates quotas coming → list_all (has_source templates) quotas ≡ true → list_all (has_source templates) (fold quotas_with quotas coming) ≡ true
sources-coming nodes templates quotas [] c h = h
sources-coming nodes templates quotas (quota ∷ coming) c h =
    sources-coming nodes templates (quotas_with quotas quota) coming c.1 (sources-new templates quota quotas c.0.source h)

pub queue-coming : (nodes : List NodeRow) (templates : List TemplateRow) (quotas coming : List QuotaRow) (queue : List ℕ) → AreComing nodes templates quotas coming → IsQueue quotas queue → IsQueue (fold quotas_with quotas coming) (fold queue_with queue coming)
queue-coming nodes templates quotas [] queue c k = k
queue-coming nodes templates quotas (quota ∷ coming) queue c k =
    queue-coming nodes templates (quotas_with quotas quota) coming (queue_with queue quota) c.1 (queue_added quotas queue quota k c.0.absent)
