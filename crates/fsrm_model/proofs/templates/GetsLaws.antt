-- Which folders get a quota of the folder that they stand in.
use Rattle.std.proofs.Common.{◌≡◌, ℕ, Bool, true, false, List, Some, None, Option, refl, ◌∙◌, ap}
use Rattle.std.proofs.lemmas.Option.{same_Some}
use Rattle.std.specs.Prelude.{◌↔◌, is_some, option_and_then, option_map, if◌then◌else◌}
use Rattle.fsrm_base.proofs.Look.{none_row}
use Rattle.fsrm_model.specs.declared.row.AutoRow.{AutoRow}
use Rattle.fsrm_model.specs.declared.row.QuotaRow.{QuotaRow}
use Rattle.fsrm_model.specs.declared.row.Rows.{Rows}
use Rattle.fsrm_model.specs.declared.row.TemplateRow.{TemplateRow}
use Rattle.fsrm_model.specs.objects.AutoApply.{auto_of, excludes, applied}
use Rattle.fsrm_model.specs.meaning.Derives.{Gets}
use Rattle.fsrm_model.specs.objects.Quota.{quota_of}
use Rattle.fsrm_model.specs.objects.QuotaStates.{start}
use Rattle.fsrm_model.specs.objects.Templates.{template_of, derived}
use Rattle.fsrm_model.specs.nodes.Tree.{parent_of, name_of}

pub gets : (R : Rows) (moment folder : ℕ) (quota : QuotaRow) → (applied R moment folder ≡ Some quota) ↔ Gets R moment folder quota
gets R moment folder quota = (λ h. by_quota (is_some (quota_of R folder)) refl h, back)
  where
    name : List ℕ
    name = name_of R.nodes folder

    made : TemplateRow → QuotaRow
    made template = derived template folder (start R.nodes folder) moment

    picked : AutoRow → Option ℕ
    picked auto = if excludes auto name then None else Some auto.template

    by_template : (auto : AutoRow) (o : Option TemplateRow) → quota_of R folder ≡ None → auto_of R (parent_of R.nodes folder) ≡ Some auto → excludes auto name ≡ false → template_of R.templates auto.template ≡ o → option_map made o ≡ Some quota → Gets R moment folder quota
    by_template auto None unset above included e h = absurd (cc h)
    by_template auto (Some template) unset above included e h =
        record { auto = auto; template = template; unset = unset; above = above; included = included; source = e; made = same_Some (made template) quota h }

    by_name : (auto : AutoRow) (b : Bool) → quota_of R folder ≡ None → auto_of R (parent_of R.nodes folder) ≡ Some auto → excludes auto name ≡ b → option_map made (option_and_then (template_of R.templates) (if b then None else Some auto.template)) ≡ Some quota → Gets R moment folder quota
    by_name auto true unset above e h = absurd (cc h)
    by_name auto false unset above e h = by_template auto (template_of R.templates auto.template) unset above e refl h

    by_auto : (o : Option AutoRow) → quota_of R folder ≡ None → auto_of R (parent_of R.nodes folder) ≡ o → option_map made (option_and_then (template_of R.templates) (option_and_then picked o)) ≡ Some quota → Gets R moment folder quota
    by_auto None unset e h = absurd (cc h)
    by_auto (Some auto) unset e h = by_name auto (excludes auto name) unset e refl h

    by_quota : (b : Bool) → is_some (quota_of R folder) ≡ b → (if b then None else option_map made (option_and_then (template_of R.templates) (option_and_then picked (auto_of R (parent_of R.nodes folder))))) ≡ Some quota → Gets R moment folder quota
    by_quota true e h = absurd (cc h)
    by_quota false e h = by_auto (auto_of R (parent_of R.nodes folder)) (none_row (quota_of R folder) e) refl h

    back : Gets R moment folder quota → applied R moment folder ≡ Some quota
    back g =
        ap (λ (o : Option QuotaRow). if is_some o then None else option_map made (option_and_then (template_of R.templates) (option_and_then picked (auto_of R (parent_of R.nodes folder))))) g.unset
        ∙ (ap (λ (o : Option AutoRow). option_map made (option_and_then (template_of R.templates) (option_and_then picked o))) g.above
        ∙ (ap (λ (b : Bool). option_map made (option_and_then (template_of R.templates) (if b then None else Some g.auto.template))) g.included
        ∙ (ap (λ (o : Option TemplateRow). option_map made o) g.source ∙ ap (λ (q : QuotaRow). Some q) g.made)))
