-- Quotas that come to folders by auto-apply.
use Rattle.std.specs.Prelude.{ℕ, ◌&&◌, not, Bool, List, filter, is_none, map}
use Rattle.fsrm_base.specs.Keyed.{row_of}
use Rattle.fsrm_model.specs.declared.row.AutoRow.{AutoRow}
use Rattle.fsrm_model.specs.declared.row.NodeRow.{NodeRow}
use Rattle.fsrm_model.specs.declared.row.QuotaRow.{QuotaRow}
use Rattle.fsrm_model.specs.declared.row.TemplateRow.{TemplateRow}
use Rattle.fsrm_model.specs.objects.AutoApply.{excludes, subfolders}
use Rattle.fsrm_model.specs.objects.Quota.{folder_of}
use Rattle.fsrm_model.specs.objects.QuotaStates.{start}
use Rattle.fsrm_model.specs.objects.Templates.{derived}
use Rattle.fsrm_model.specs.nodes.Tree.{name_of}

-- ---- quotas of a template
-- on folders, at a moment
abbrev pub derived_rows : List NodeRow → TemplateRow → ℕ → List ℕ → List QuotaRow
derived_rows nodes template moment folders = map (λ folder. derived template folder (start nodes folder) moment) folders

-- ---- a new auto-apply quota
-- whether it gives a folder in its own one a quota
abbrev pub gets_one : List NodeRow → List QuotaRow → AutoRow → ℕ → Bool
gets_one nodes quotas auto folder = not (excludes auto (name_of nodes folder)) && is_none (row_of folder_of folder quotas)

-- the folders to which it gives one
abbrev pub given_folders : List NodeRow → List QuotaRow → AutoRow → List ℕ
given_folders nodes quotas auto = filter (gets_one nodes quotas auto) (subfolders nodes auto.folder)
