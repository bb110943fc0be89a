-- Why the tables refuse a change.
use Rattle.std.specs.Prelude.{◌≡◌, ℕ, ◌+◌, ◌==◌, nat_lt, nat_le, List, [], ◌∷◌, length, map, Option, Some, None}
use Rattle.std.specs.List.{list_any}
use Rattle.fsrm_base.specs.Causes.{◌when◌, first}
use Rattle.fsrm_base.specs.Keyed.{has_row}
use Rattle.fsrm_model.specs.declared.command.Update.{Update}
use Rattle.fsrm_model.specs.declared.row.AutoRow.{AutoRow}
use Rattle.fsrm_model.specs.declared.row.QuotaRow.{QuotaRow}
use Rattle.fsrm_model.specs.declared.row.TemplateRow.{TemplateRow}
use Rattle.fsrm_model.specs.objects.AutoApply.{auto_folder}
use Rattle.fsrm_model.specs.values.Limits.{most_templates, most_autos}
use Rattle.fsrm_model.specs.values.Name.{is_named}
use Rattle.fsrm_model.specs.objects.Templates.{template_name, updated}
use Rattle.fsrm_model.specs.values.Texts.{auto_bytes, template_bytes}
use Rattle.fsrm_objects.specs.Tables.{quota_texts}
use Rattle.templates.specs.declared.answer.TemplateFault.{TemplateFault}
use Rattle.templates.specs.declared.answer.TemplateFault.TheVariants.{DuplicateName, AlreadyExists, InUse, TableFull, TextsFull, NoMemory}
use Rattle.templates.specs.Held.{Held, texts_in, updated_by, with_other}

-- a fault is the one that is due; it is for want of memory only if none is due
abbrev pub IsFault : TemplateFault → Option TemplateFault → Type 0
IsFault DuplicateName due = due ≡ Some DuplicateName
IsFault AlreadyExists due = due ≡ Some AlreadyExists
IsFault InUse due = due ≡ Some InUse
IsFault TableFull due = due ≡ Some TableFull
IsFault TextsFull due = due ≡ Some TextsFull
IsFault NoMemory due = due ≡ None

-- why a template can't be added, if so many bytes of texts may still come
abbrev pub template_fault : Held → TemplateRow → ℕ → Option TemplateFault
template_fault held row room =
    first ((DuplicateName when list_any (is_named template_name row.name) held.templates)
    ∷ (TableFull when nat_le most_templates (length held.templates))
    ∷ (TextsFull when nat_lt room (template_bytes row)) ∷ [])

-- why a template can't take the place of that of its number, over these quotas: the texts of all after it, less those before it,
-- are longer than the room
abbrev pub modify_fault : Held → List QuotaRow → TemplateRow → Update → ℕ → Option TemplateFault
modify_fault held quotas row mode room =
    TextsFull when nat_lt (room + (texts_in held + quota_texts quotas))
    (texts_in (with_other held row) + quota_texts (updated_by held row mode quotas))

-- the same by the template as it was, with the texts of its own and of the quotas alone
abbrev pub update_fault : TemplateRow → TemplateRow → List QuotaRow → Update → ℕ → Option TemplateFault
update_fault old row quotas mode room =
    TextsFull when nat_lt (room + (template_bytes old + quota_texts quotas))
    (template_bytes row + quota_texts (map (updated mode old row) quotas))

-- why a template can't go: an auto-apply quota names it. Quotas that were derived from it are no hindrance
abbrev pub delete_fault : Held → ℕ → Option TemplateFault
delete_fault held number = InUse when list_any (λ auto. auto.template == number) held.autos

-- why an auto-apply quota can't be added
abbrev pub auto_fault : Held → AutoRow → ℕ → Option TemplateFault
auto_fault held row room =
    first ((AlreadyExists when has_row auto_folder row.folder held.autos)
    ∷ (TableFull when nat_le most_autos (length held.autos))
    ∷ (TextsFull when nat_lt room (auto_bytes row)) ∷ [])
