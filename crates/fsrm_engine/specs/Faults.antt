-- The room that is left for texts, and the refusal of a change by a quota.
use Rattle.std.specs.Prelude.{ℕ, ◌+◌, ◌-◌, Option, option_map}
use Rattle.file_groups.specs.Kept.{group_texts}
use Rattle.fsrm_model.specs.declared.command.Refusal.{Refusal}
use Rattle.fsrm_model.specs.values.Limits.{most_text_bytes}
use Rattle.fsrm_objects.specs.Tables.{texts_in}
use Rattle.quota_usage.specs.declared.change.Change.{Change}
use Rattle.quota_usage.specs.Charge.{exceeded_by}
use Rattle.templates.specs.Held.{texts_in as template_texts}
use Rattle.fsrm_engine.specs.declared.parts.Parts.{Parts}
use Rattle.fsrm_parts.specs.Faults.{exceeded_refusal}

-- the bytes of all object texts, and how many may still come
abbrev pub texts_of : Parts → ℕ
texts_of parts = (texts_in parts.objects + group_texts parts.groups) + template_texts parts.templates

abbrev pub text_room : Parts → ℕ
text_room parts = most_text_bytes - texts_of parts

-- the refusal that is due to a change, if a quota refuses it
abbrev pub quota_refusal : Parts → Change → Option Refusal
quota_refusal parts change =
    option_map exceeded_refusal (exceeded_by parts.tree.nodes parts.objects.quotas parts.usage change)
