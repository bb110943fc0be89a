-- Auto-apply quotas: a folder that has one gives each folder that is made in it, or moved into it, a quota of a template (MS-FSRM,
-- IFsrmAutoApplyQuota).
use Rattle.std.specs.Prelude.{ℕ, ◌&&◌, nat_le, Bool, List, length, map, filter, fold, is_some, Option, Some, None, option_map, if◌then◌else◌}
use Rattle.std.specs.List.{list_all, list_any}
use Rattle.std.specs.Option.{option_and_then}
use Rattle.fsrm_base.specs.Keyed.{row_of, with_row, without_row}
use Rattle.fsrm_model.specs.declared.row.AutoRow.{AutoRow}
use Rattle.fsrm_model.specs.declared.row.NodeRow.{NodeRow}
use Rattle.fsrm_model.specs.declared.row.QuotaRow.{QuotaRow}
use Rattle.fsrm_model.specs.declared.row.Rows.{Rows}
use Rattle.fsrm_model.specs.values.Limits.{most_excluded}
use Rattle.fsrm_model.specs.values.Name.{is_name, same_name}
use Rattle.fsrm_model.specs.objects.Quota.{folder_of, quota_of}
use Rattle.fsrm_model.specs.objects.QuotaStates.{start, queued}
use Rattle.fsrm_model.specs.objects.Templates.{template_of, derived}
use Rattle.fsrm_model.specs.nodes.Tree.{number, parent_of, name_of, children}

abbrev pub auto_folder : AutoRow → ℕ
auto_folder auto = auto.folder

-- the auto-apply quota of a folder
abbrev pub auto_of : Rows → ℕ → Option AutoRow
auto_of R folder = row_of auto_folder folder R.autos

-- what an auto-apply quota has, whatever stands beside it
abbrev pub is_auto : AutoRow → Bool
is_auto auto = nat_le (length auto.excluded) most_excluded && list_all is_name auto.excluded

-- whether it leaves out the folders of a name, in any spelling
abbrev pub excludes : AutoRow → List ℕ → Bool
excludes auto name = list_any (λ excluded. same_name excluded name) auto.excluded

-- the number of the template of which a folder of this name in this folder gets a quota
abbrev pub template_for : List AutoRow → ℕ → List ℕ → Option ℕ
template_for autos folder name =
    option_and_then (λ auto. if excludes auto name then None else Some auto.template) (row_of auto_folder folder autos)

-- the quota that a folder gets of the folder that it stands in. One that has a quota gets no other
abbrev pub applied : Rows → ℕ → ℕ → Option QuotaRow
applied R moment folder =
    if is_some (quota_of R folder) then None
    else option_map (λ template. derived template folder (start R.nodes folder) moment)
    (option_and_then (template_of R.templates) (template_for R.autos (parent_of R.nodes folder) (name_of R.nodes folder)))

-- quotas to which one comes, and the queue then: one that is to be scanned goes to its end
abbrev pub quotas_with : List QuotaRow → QuotaRow → List QuotaRow
quotas_with quotas quota = with_row folder_of quota quotas

abbrev pub queue_with : List ℕ → QuotaRow → List ℕ
queue_with queue quota = queued queue quota.folder quota.state

-- rows to which quotas come, one after another
abbrev pub with_quotas : Rows → List QuotaRow → Rows
with_quotas R coming = record R { quotas = fold quotas_with R.quotas coming; queue = fold queue_with R.queue coming }

-- the folders in a folder, in the order of their numbers
abbrev pub subfolders : List NodeRow → ℕ → List ℕ
subfolders nodes folder = map number (filter (λ node. node.folder) (children nodes folder))

-- rows without a folder's auto-apply quota. The quotas that it gave stay
abbrev pub without_auto : Rows → ℕ → Rows
without_auto R folder = record R { autos = without_row auto_folder folder R.autos }
