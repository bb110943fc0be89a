-- Entries of commands on templates of quotas.
use Rattle.std.specs.Prelude.{ℕ, ◌==◌, ◌&&◌, Bool, true, List, [], ◌++◌, Option, Some, None, if◌then◌else◌}
use Rattle.std.specs.Option.{option_map_or}
use Rattle.std.specs.Str.{is_utf8}
use Rattle.fsrm_model.specs.declared.command.NewTemplate.{NewTemplate}
use Rattle.fsrm_model.specs.declared.command.NewThresholds.{NewThresholds}
use Rattle.fsrm_model.specs.declared.command.TemplateChange.{TemplateChange}
use Rattle.fsrm_model.specs.declared.command.TemplateDeed.{TemplateDeed}
use Rattle.fsrm_model.specs.declared.command.TemplateDeed.TheVariants.{Add as TemplateAdd, Modify as TemplateModify, Delete as TemplateDelete}
use Rattle.fsrm_model.specs.declared.command.Update.{Update}
use Rattle.fsrm_model.specs.declared.command.Update.TheVariants.{Keep, Matching, All}
use Rattle.record_fields.specs.Formats.{Format, number_spelled, shaped, choice, truth, ◌⊗◌, optional}
use Rattle.record_codec.specs.declared.templates.TemplateKind.{TemplateKind}
use Rattle.record_codec.specs.declared.templates.TemplateKind.TheVariants.{Add as AddKind, Modify as ModifyKind, Delete as DeleteKind}
use Rattle.record_codec.specs.Fields.{limit, percent, object_name, many}
use Rattle.record_codec.specs.Kinds.{one_of}
use Rattle.record_codec.specs.Notices.{new_thresholds}
use Rattle.record_codec.specs.Typed.{all_typed, notice_typed}

abbrev pub template_kind : ℕ → Option TemplateKind
template_kind n =
    if n == 20 then Some AddKind
    else if n == 21 then Some ModifyKind
    else if n == 22 then Some DeleteKind else None

abbrev pub template_code : TemplateKind → ℕ
template_code AddKind = 20
template_code ModifyKind = 21
template_code DeleteKind = 22

-- the kind of a deed, if its entry has one
abbrev pub template_kind_in : TemplateDeed → Option TemplateKind
template_kind_in (TemplateAdd new) = Some AddKind
template_kind_in (TemplateModify change) = Some ModifyKind
template_kind_in (TemplateDelete name) = Some DeleteKind
template_kind_in other = None

-- ---- a new template
abbrev pub TemplateValues : Type 0
TemplateValues = List ℕ × (ℕ × (Bool × NewThresholds))

abbrev pub template_of : TemplateValues → NewTemplate
template_of v = record { name = v.0; limit = v.1.0; enforce = v.1.1.0; thresholds = v.1.1.1 }

abbrev pub template_values : NewTemplate → TemplateValues
template_values new = (new.name, (new.limit, (new.enforce, new.thresholds)))

abbrev pub new_template : Format NewTemplate
new_template = shaped template_of template_values (object_name ⊗ limit ⊗ truth ⊗ new_thresholds)

-- ---- a change: which derived quotas it reaches comes last
abbrev pub update_of : ℕ → Option Update
update_of n = if n == 0 then Some Keep else if n == 1 then Some Matching else if n == 2 then Some All else None

abbrev pub update_code : Update → ℕ
update_code Keep = 0
update_code Matching = 1
update_code All = 2

abbrev pub update : Format Update
update = choice update_of update_code (λ u. true)

abbrev pub ChangeValues : Type 0
ChangeValues = List ℕ × (Option ℕ × (Option Bool × (List ℕ × (NewThresholds × Update))))

abbrev pub change_of : ChangeValues → TemplateChange
change_of v =
    record {
      name = v.0;
      limit = v.1.0;
      enforce = v.1.1.0;
      removed = v.1.1.1.0;
      thresholds = v.1.1.1.1.0;
      update = v.1.1.1.1.1;
    }

abbrev pub change_values : TemplateChange → ChangeValues
change_values change = (change.name, (change.limit, (change.enforce, (change.removed, (change.thresholds, change.update)))))

abbrev pub template_change : Format TemplateChange
template_change =
    shaped change_of change_values (object_name ⊗ optional limit ⊗ optional truth ⊗ many percent ⊗ new_thresholds ⊗ update)

-- ---- the values of each kind
abbrev pub add_part : TemplateDeed → Option NewTemplate
add_part (TemplateAdd new) = Some new
add_part other = None

abbrev pub modify_part : TemplateDeed → Option TemplateChange
modify_part (TemplateModify change) = Some change
modify_part other = None

abbrev pub delete_part : TemplateDeed → Option (List ℕ)
delete_part (TemplateDelete name) = Some name
delete_part other = None

abbrev pub template_deed : TemplateKind → Format TemplateDeed
template_deed AddKind = one_of TemplateAdd add_part new_template
template_deed ModifyKind = one_of TemplateModify modify_part template_change
template_deed DeleteKind = one_of (λ n. TemplateDelete n) delete_part object_name

-- a command after its kind, if its entry has one
abbrev pub template_spelled_as : TemplateDeed → TemplateKind → List ℕ
template_spelled_as deed k = number_spelled 1 (template_code k) ++ (template_deed k).spell deed

abbrev pub template_spelled : TemplateDeed → List ℕ
template_spelled deed = option_map_or (template_spelled_as deed) (template_kind_in deed) []

-- ---- its texts
abbrev pub new_template_typed : NewTemplate → Bool
new_template_typed new = is_utf8 new.name && all_typed notice_typed new.thresholds.notices

abbrev pub template_change_typed : TemplateChange → Bool
template_change_typed change = is_utf8 change.name && all_typed notice_typed change.thresholds.notices

abbrev pub template_typed : TemplateDeed → Bool
template_typed (TemplateAdd new) = new_template_typed new
template_typed (TemplateModify change) = template_change_typed change
template_typed (TemplateDelete name) = is_utf8 name
template_typed other = true
