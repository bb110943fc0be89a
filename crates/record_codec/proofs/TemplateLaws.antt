-- The laws of the entries of commands on templates.
use Rattle.std.proofs.Common.{◌≡◌, ℕ, true, Some, refl, arith}
use Rattle.std.specs.Prelude.{option_map}
use Rattle.std.proofs.lemmas.Grind.{common_steps}
use Rattle.fsrm_model.specs.commands.Commands.{kind}
use Rattle.fsrm_model.specs.declared.command.Deed.TheVariants.{Template}
use Rattle.fsrm_model.specs.declared.command.TemplateDeed.{TemplateDeed}
use Rattle.fsrm_model.specs.declared.command.TemplateDeed.TheVariants.{Add as TemplateAdd, Modify as TemplateModify, Delete as TemplateDelete}
use Rattle.fsrm_model.specs.declared.command.Update.{Update}
use Rattle.fsrm_model.specs.declared.command.Update.TheVariants.{Keep}
use Rattle.record_fields.specs.Formats.{number, truth, optional, ◌⊗◌}
use Rattle.record_fields.specs.Laws.{Places}
use Rattle.record_fields.proofs.FollowedLaws.{◌also◌}
use Rattle.record_fields.proofs.NumberLaws.{width_1, number_exact, number_field}
use Rattle.record_fields.proofs.OptionalLaws.{optional_places}
use Rattle.record_fields.proofs.StandingLaws.{standing_field_places, shaped_places, truth_places}
use Rattle.record_codec.specs.declared.templates.TemplateKind.{TemplateKind}
use Rattle.record_codec.specs.declared.templates.TemplateKind.TheVariants.{Add as AddKind, Modify as ModifyKind, Delete as DeleteKind}
use Rattle.record_codec.specs.Fields.{limit, percent, object_name, many}
use Rattle.record_codec.specs.Notices.{new_thresholds}
use Rattle.record_codec.specs.Templates.{template_kind, template_code, template_kind_in, template_deed, template_of, template_values, new_template, update, update_of, update_code, change_of, change_values, template_change, add_part, modify_part, delete_part}
use Rattle.record_codec.proofs.FieldLaws.{limit_places, percent_places, object_name_places, many_places}
use Rattle.record_codec.proofs.KindLaws.{one_of_places}
use Rattle.record_codec.proofs.NoticeLaws.{new_thresholds_places}

-- ---- the bytes of the kinds
pub template_home : (n : ℕ) (k : TemplateKind) → template_kind n ≡ Some k → template_code k ≡ n
template_home = grind (arith, common_steps)

-- ---- their values
update_there : (u : Update) → true ≡ true → update_of (update_code u) ≡ Some u
update_there = grind (arith, common_steps)

update_coded : (n : ℕ) (u : Update) → update_of n ≡ Some u → update_code u ≡ n
update_coded = grind (arith, common_steps)

update_home : (n : ℕ) (u : Update) → update_of n ≡ Some u → (true ≡ true) × (update_code u ≡ n)
update_home n u e = (refl, update_coded n u e)

update_places : Places update
update_places = standing_field_places update_of update_code (λ u. true) (number 1) (number_exact 1 width_1) (number_field 1) update_there update_home Keep refl refl

new_template_places : Places new_template
new_template_places =
    shaped_places template_of template_values (object_name ⊗ limit ⊗ truth ⊗ new_thresholds) (object_name_places also limit_places also truth_places also new_thresholds_places) (λ n. refl) (λ v. refl)

template_change_places : Places template_change
template_change_places =
    shaped_places change_of change_values (object_name ⊗ optional limit ⊗ optional truth ⊗ many percent ⊗ new_thresholds ⊗ update)
    (object_name_places also optional_places limit limit_places also optional_places truth truth_places also many_places percent percent_places also new_thresholds_places also update_places)
    (λ n. refl) (λ v. refl)

pub template_deed_places : (k : TemplateKind) → Places (template_deed k)
template_deed_places AddKind = one_of_places TemplateAdd add_part new_template new_template_places (λ v. refl) (grind (arith, common_steps))
template_deed_places ModifyKind = one_of_places TemplateModify modify_part template_change template_change_places (λ v. refl) (grind (arith, common_steps))
template_deed_places DeleteKind = one_of_places (λ n. TemplateDelete n) delete_part object_name object_name_places (λ v. refl) (grind (arith, common_steps))

-- each value is of its kind alone
pub template_own : (k : TemplateKind) (deed : TemplateDeed) → (template_deed k).legal deed ≡ true → template_kind_in deed ≡ Some k
template_own = grind (arith, common_steps)

-- ---- the machine's own kinds
pub template_numbered : (deed : TemplateDeed) → kind (Template deed) ≡ option_map template_code (template_kind_in deed)
template_numbered = grind (arith, common_steps)
