-- The quota that a folder gets when it is made or moved: one of a template, if the folder that it stands in then has an
-- auto-apply quota.
use Rattle.std.specs.Prelude.{ℕ, true, List, Option, fold, option_map, option_to_list}
use Rattle.std.specs.Option.{option_and_then}
use Rattle.fsrm_model.specs.declared.command.Refusal.{Refusal}
use Rattle.fsrm_model.specs.declared.row.QuotaRow.{QuotaRow}
use Rattle.fsrm_model.specs.declared.row.QuotaState.{QuotaState}
use Rattle.fsrm_model.specs.declared.row.TemplateRow.{TemplateRow}
use Rattle.fsrm_model.specs.objects.AutoApply.{queue_with, quotas_with}
use Rattle.fsrm_model.specs.nodes.FileOps.{made_node}
use Rattle.fsrm_model.specs.objects.Templates.{template_of, derived}
use Rattle.volume_tree.specs.Volume.{with_node}
use Rattle.fsrm_engine.specs.declared.parts.Parts.{Parts}
use Rattle.fsrm_engine.specs.Applying.{quotas_full}
use Rattle.fsrm_engine.specs.Faults.{text_room}
use Rattle.fsrm_engine.specs.Machine.{Turned, recounted}

-- the quota of a template on a folder in a state, if a template is named
abbrev pub from_source : List TemplateRow → ℕ → QuotaState → ℕ → Option ℕ → Option QuotaRow
from_source templates folder state moment source =
    option_map (λ template. derived template folder state moment) (option_and_then (template_of templates) source)

-- why the quota can't come
abbrev pub source_fault : Parts → Option ℕ → Option Refusal
source_fault parts source = option_and_then (λ template. quotas_full parts template 1 (text_room parts)) source

-- quotas to which it comes, and the queue of scans then
abbrev pub quotas_given : List QuotaRow → Option QuotaRow → List QuotaRow
quotas_given quotas given = fold quotas_with quotas (option_to_list given)

abbrev pub queue_given : List ℕ → Option QuotaRow → List ℕ
queue_given queue given = fold queue_with queue (option_to_list given)

-- the quota comes to a folder that is there: nothing else changed
abbrev pub Receives : Parts → Parts → Option QuotaRow → Type 0
Receives old new given = Turned old new (quotas_given old.objects.quotas given) (queue_given old.scans.queue given)

-- parts with a new folder, and with the quota that it gets
abbrev pub with_folder : Parts → ℕ → List ℕ → ℕ → ℕ → Option QuotaRow → Parts
with_folder parts folder name owner moment given =
    recounted (record parts { tree = with_node parts.tree (made_node parts.tree.nodes folder name true 0 owner moment) })
    (quotas_given parts.objects.quotas given)
