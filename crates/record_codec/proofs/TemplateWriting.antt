-- Commands on templates whose values are legal have a spelling, of the length that the definitions count.
use Rattle.std.proofs.Common.{◌≡◌, ℕ, ◌+◌, ◌≤◌, Bool, true, length, refl, ◌∙◌, arith}
use Rattle.std.specs.Prelude.{◌&&◌, is_some, sum_by}
use Rattle.std.specs.List.{list_all}
use Rattle.std.specs.Option.{option_map_or}
use Rattle.std.specs.Str.{is_utf8}
use Rattle.fsrm_base.proofs.TestLaws.{both, both_true}
use Rattle.fsrm_model.specs.commands.Commands.{form_of_template, is_new_template, is_template_change, are_new_thresholds, new_threshold_bytes}
use Rattle.fsrm_model.specs.commands.Entry.{path_bytes, counted}
use Rattle.fsrm_model.specs.declared.command.NewTemplate.{NewTemplate}
use Rattle.fsrm_model.specs.declared.command.TemplateChange.{TemplateChange}
use Rattle.fsrm_model.specs.declared.command.TemplateDeed.{TemplateDeed}
use Rattle.fsrm_model.specs.declared.command.TemplateDeed.TheVariants.{Add as TemplateAdd, Modify as TemplateModify, Delete as TemplateDelete}
use Rattle.fsrm_model.specs.declared.command.Update.{Update}
use Rattle.fsrm_model.specs.declared.command.Update.TheVariants.{Keep, Matching, All}
use Rattle.fsrm_model.specs.objects.Quota.{is_limit}
use Rattle.fsrm_model.specs.objects.Thresholds.{is_percent}
use Rattle.fsrm_model.specs.values.Patterns.{is_object_name}
use Rattle.record_fields.specs.Formats.{number_spelled, truth}
use Rattle.record_codec.specs.Templates.{template_kind_in, template_deed, template_spelled, template_typed, new_template, template_change, update, update_code}
use Rattle.record_codec.specs.Typed.{all_typed, notice_typed}
use Rattle.record_codec.proofs.Legal.{limit_legal, truth_legal, object_name_legal, one_byte, eight_bytes, two, text_long, list_long, option_long, truth_long}
use Rattle.record_codec.proofs.NoticeWriting.{percents_legal, new_thresholds_legal, new_thresholds_long, limit_given, truth_given}

update_legal : (u : Update) → update.legal u ≡ true
update_legal Keep = refl
update_legal Matching = refl
update_legal All = refl

new_template_legal : (new : NewTemplate) → is_new_template new ≡ true → is_utf8 new.name ≡ true → all_typed notice_typed new.thresholds.notices ≡ true → new_threshold_bytes new.thresholds ≤ 131072 → new_template.legal new ≡ true
new_template_legal new is name notices room =
    let l = both (is_object_name new.name) (is_limit new.limit && are_new_thresholds new.thresholds) is in
    let t = both (is_limit new.limit) (are_new_thresholds new.thresholds) l.1 in
    both_true _ _ (object_name_legal new.name l.0 name) (both_true _ _ (limit_legal new.limit t.0) (both_true _ _ (truth_legal new.enforce) (new_thresholds_legal new.thresholds t.1 notices room)))

template_change_legal : (change : TemplateChange) → is_template_change change ≡ true → is_utf8 change.name ≡ true → all_typed notice_typed change.thresholds.notices ≡ true
    → counted (λ n. 8) change.removed ≤ 131072 → new_threshold_bytes change.thresholds ≤ 131072 → template_change.legal change ≡ true
template_change_legal change is name notices gone room =
    let l = both (is_object_name change.name) (option_map_or is_limit change.limit true && (list_all is_percent change.removed && are_new_thresholds change.thresholds)) is in
    let t = both (option_map_or is_limit change.limit true) (list_all is_percent change.removed && are_new_thresholds change.thresholds) l.1 in
    let u = both (list_all is_percent change.removed) (are_new_thresholds change.thresholds) t.1 in
    both_true _ _ (object_name_legal change.name l.0 name) (both_true _ _ (limit_given change.limit t.0) (both_true _ _ (truth_given change.enforce)
    (both_true _ _ (percents_legal change.removed u.0 gone)
    (both_true _ _ (new_thresholds_legal change.thresholds u.1 notices room) (update_legal change.update)))))

-- whether a command's values are legal, if it has a kind
abbrev pub template_is_legal : TemplateDeed → Bool
template_is_legal deed = option_map_or (λ k. (template_deed k).legal deed) (template_kind_in deed) true

-- the bytes of a command after its kind
abbrev pub template_bytes : TemplateDeed → ℕ
template_bytes deed = sum_by path_bytes (form_of_template deed).paths + option_map_or (λ entry. entry.bytes) (form_of_template deed).entry 0

pub template_legal : (deed : TemplateDeed) → (form_of_template deed).legal ≡ true → template_typed deed ≡ true → template_bytes deed ≤ 131072 → template_is_legal deed ≡ true
template_legal (TemplateAdd new) is typed room =
    let t = both (is_utf8 new.name) (all_typed notice_typed new.thresholds.notices) typed in
    new_template_legal new is t.0 t.1 (omega (arith, room))
template_legal (TemplateModify change) is typed room =
    let t = both (is_utf8 change.name) (all_typed notice_typed change.thresholds.notices) typed in
    template_change_legal change is t.0 t.1 (omega (arith, room)) (omega (arith, room))
template_legal (TemplateDelete name) is typed room = object_name_legal name is typed
template_legal other is typed room = refl

pub template_long : (deed : TemplateDeed) → is_some (template_kind_in deed) ≡ true → length (template_spelled deed) ≡ 1 + template_bytes deed
template_long (TemplateAdd new) some =
    two _ _ _ _ (one_byte 20) (two _ _ _ _ (text_long new.name) (two _ _ _ _ (eight_bytes new.limit) (two _ _ _ _ (truth_long new.enforce) (new_thresholds_long new.thresholds)))) ∙ omega arith
template_long (TemplateModify change) some =
    two _ _ _ _ (one_byte 21) (two _ _ _ _ (text_long change.name) (two _ _ _ _ (option_long (number_spelled 8) (λ n. 8) eight_bytes change.limit)
    (two _ _ _ _ (option_long truth.spell (λ b. 1) truth_long change.enforce) (two _ _ _ _ (list_long (number_spelled 8) (λ n. 8) eight_bytes change.removed)
    (two _ _ _ _ (new_thresholds_long change.thresholds) (one_byte (update_code change.update))))))) ∙ omega arith
template_long (TemplateDelete name) some = two _ _ _ _ (one_byte 22) (text_long name) ∙ omega arith
template_long other some = absurd (cc some)
