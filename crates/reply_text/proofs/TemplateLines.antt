-- The lines of templates and auto-apply quotas.
use Rattle.std.proofs.Common.{◌≡◌, ℕ, true, List, [], ◌∷◌, ◌++◌, refl, sym, ap, rules, Bor, ◌∙◌, append_assoc}
use Rattle.std.specs.Prelude.{◌==◌, codes, decimal, flat_map, is_some, Option, Some, None}
use Rattle.std.specs.Option.{option_copied, option_map_or, IsSome}
use Rattle.fsrm_base.specs.Keyed.{row_of, has_row, is_ascending}
use Rattle.fsrm_base.proofs.Look.{is_some-find}
use Rattle.fsrm_base.proofs.Members.{all_found}
use Rattle.fsrm_model.specs.declared.command.Ask.TheVariants.{Autos, Templates}
use Rattle.fsrm_model.specs.declared.row.AutoRow.{AutoRow}
use Rattle.fsrm_model.specs.declared.row.Capacity.{Capacity}
use Rattle.fsrm_model.specs.declared.row.NodeRow.{NodeRow}
use Rattle.fsrm_model.specs.declared.row.Rows.{Rows}
use Rattle.fsrm_model.specs.declared.row.TemplateRow.{TemplateRow}
use Rattle.fsrm_model.specs.declared.row.Threshold.{Threshold}
use Rattle.fsrm_model.specs.objects.AutoApply.{auto_folder}
use Rattle.fsrm_model.specs.values.Limits.{most_autos}
use Rattle.fsrm_model.specs.texts.Printed.{body_line, labelled_line, path_text, type_word}
use Rattle.fsrm_model.specs.objects.Templates.{template_name, template_number, template_of}
use Rattle.fsrm_model.specs.texts.TemplateText.{auto_lines}
use Rattle.fsrm_model.specs.texts.Text.{list_lines}
use Rattle.fsrm_model.specs.nodes.Tree.{number}
use Rattle.fsrm_model.specs.store.Valid.{IsValid, is_sound_auto}
use Rattle.fsrm_model.proofs.valid.ScreensKept.{table_parts}
use Rattle.fsrm_model.proofs.valid.TemplatesKept.{IsAuto, auto_parts}
use Rattle.reply_text.specs.Lines.{auto_text, labelled_text, template_text, threshold_text}
use Rattle.reply_text.proofs.LabelledLines.{labelled_is, labelled_same}
use Rattle.reply_text.proofs.Nodes.{is_node}

-- ---- templates
pub head_shown : (template : TemplateRow) (mode bytes : List ℕ) → mode ≡ type_word template.enforce → bytes ≡ template.name → 32 ∷ 32 ∷ (decimal template.limit ++ 32 ∷ (mode ++ 32 ∷ (bytes ++ 10 ∷ []))) ≡ body_line (decimal template.limit ∷ type_word template.enforce ∷ template.name ∷ [])
head_shown template mode bytes modes same = rw (modes, same) refl

template_parts : (template : TemplateRow) → body_line (decimal template.limit ∷ type_word template.enforce ∷ template.name ∷ []) ++ flat_map threshold_text template.thresholds ≡ template_text template
unfolding template_text threshold_text
template_parts template = refl

pub template_shown : (template : TemplateRow) (thresholds : List Threshold) → thresholds ≡ template.thresholds → body_line (decimal template.limit ∷ type_word template.enforce ∷ template.name ∷ []) ++ flat_map threshold_text thresholds ≡ template_text template
template_shown template thresholds same = rw same (template_parts template)

pub all_templates : (K : Capacity) (R : Rows) (templates : List TemplateRow) → templates ≡ R.templates → flat_map template_text templates ≡ list_lines K R Templates
unfolding template_text
all_templates K R templates same = ap (flat_map template_text) same

-- ---- what is known of auto-apply quotas
pub autos_ascend : (K : Capacity) (R : Rows) → IsValid K R → is_ascending auto_folder R.autos ≡ true
autos_ascend K R store = (table_parts auto_folder most_autos (is_sound_auto R.nodes R.templates) R.autos store.tables.autos).ascending

sound_auto : (K : Capacity) (R : Rows) (auto : AutoRow) → IsValid K R → row_of auto_folder auto.folder R.autos ≡ Some auto → IsAuto R.nodes R.templates auto
sound_auto K R auto store own =
    auto_parts R.nodes R.templates auto
    (all_found (is_sound_auto R.nodes R.templates) (λ a. auto_folder a == auto.folder) R.autos auto (table_parts auto_folder most_autos (is_sound_auto R.nodes R.templates) R.autos store.tables.autos).each own)

pub auto_node : (K : Capacity) (R : Rows) (auto : AutoRow) → IsValid K R → row_of auto_folder auto.folder R.autos ≡ Some auto → has_row number auto.folder R.nodes ≡ true
auto_node K R auto store own = is_node R.nodes auto.folder (sound_auto K R auto store own).folder

pub auto_source : (K : Capacity) (R : Rows) (auto : AutoRow) → IsValid K R → row_of auto_folder auto.folder R.autos ≡ Some auto → has_row template_number auto.template R.templates ≡ true
auto_source K R auto store own = (sound_auto K R auto store own).there

-- ---- their lines
auto_same : (nodes : List NodeRow) (templates : List TemplateRow) (auto : AutoRow) → auto_lines nodes templates auto ≡ auto_text nodes templates auto
unfolding auto_text
auto_same nodes templates auto = refl

source_at : (found : Option TemplateRow) (template : TemplateRow) → found ≡ Some template → labelled_line (codes "template") template.name ≡ labelled_line (codes "template") (option_map_or template_name found [])
source_at found template is = rw is refl

auto_lines_are : (nodes : List NodeRow) (templates : List TemplateRow) (auto : AutoRow) (template : TemplateRow) → template_of templates auto.template ≡ Some template → body_line (path_text nodes auto.folder ∷ []) ++ (labelled_text (codes "template") template.name ++ flat_map (labelled_text (codes "except")) auto.excluded) ≡ auto_text nodes templates auto
auto_lines_are nodes templates auto template is =
    let first : List ℕ = body_line (path_text nodes auto.folder ∷ []) in
    let source : List ℕ = labelled_line (codes "template") (option_map_or template_name (template_of templates auto.template) []) in
    ap (λ (xs : List ℕ). first ++ (xs ++ flat_map (labelled_text (codes "except")) auto.excluded)) (labelled_is (codes "template") template.name ∙ source_at (template_of templates auto.template) template is)
    ∙ ap (λ (xs : List ℕ). first ++ (source ++ xs)) (labelled_same (codes "except") auto.excluded)
    ∙ sym (append_assoc first source (flat_map (labelled_line (codes "except")) auto.excluded))
    ∙ auto_same nodes templates auto

pub auto_shown : (nodes : List NodeRow) (templates : List TemplateRow) (auto : AutoRow) (template : TemplateRow) (path name : List ℕ) (names : List (List ℕ)) → template_of templates auto.template ≡ Some template → path ≡ path_text nodes auto.folder → name ≡ template.name → names ≡ auto.excluded
    → body_line (path ∷ []) ++ (labelled_text (codes "template") name ++ flat_map (labelled_text (codes "except")) names) ≡ auto_text nodes templates auto
auto_shown nodes templates auto template path name names is paths same these = rw (paths, same, these) (auto_lines_are nodes templates auto template is)

pub all_autos : (K : Capacity) (R : Rows) → flat_map (auto_text R.nodes R.templates) R.autos ≡ list_lines K R Autos
unfolding auto_text
all_autos K R = refl

-- the template that is lent by its number is there
lent_some : (lent : Option (Bor TemplateRow)) → is_some (option_copied lent) ≡ true → IsSome lent
lent_some None h = absurd (cc)
lent_some (Some template) h = search rules

pub source_lent : (lent : Option (Bor TemplateRow)) (rows templates : List TemplateRow) (n : ℕ) → option_copied lent ≡ template_of rows n → rows ≡ templates → has_row template_number n templates ≡ true → IsSome lent
source_lent lent rows templates n e same h =
    lent_some lent (ap is_some (e ∙ ap (λ (ts : List TemplateRow). template_of ts n) same) ∙ is_some-find (λ row. template_number row == n) templates ∙ h)

pub source_is : (lent : Option (Bor TemplateRow)) (template : Bor TemplateRow) (rows templates : List TemplateRow) (n : ℕ) → option_copied lent ≡ template_of rows n → rows ≡ templates → lent ≡ Some template → template_of templates n ≡ Some template.now
source_is lent template rows templates n e same is =
    sym (e ∙ ap (λ (ts : List TemplateRow). template_of ts n) same) ∙ ap option_copied is
