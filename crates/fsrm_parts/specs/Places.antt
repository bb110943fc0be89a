-- What a path leads to, as the engine finds it.
use Rattle.std.specs.Prelude.{◌≡◌, ℕ, ◌≤◌, true, false, List, Option, Some, None}
use Rattle.fsrm_model.specs.declared.command.Refusal.{Refusal}
use Rattle.fsrm_model.specs.declared.command.Refusal.TheVariants.{AlreadyExists, PathNotFound}
use Rattle.fsrm_model.specs.declared.row.NodeRow.{NodeRow}
use Rattle.fsrm_model.specs.declared.row.QuotaRow.{QuotaRow}
use Rattle.fsrm_model.specs.declared.row.Rows.{Rows}
use Rattle.fsrm_base.specs.Keyed.{row_of, has_row}
use Rattle.fsrm_model.specs.values.Limits.{longest_file}
use Rattle.fsrm_model.specs.objects.Quota.{folder_of}
use Rattle.fsrm_model.specs.nodes.Fresh.{rows_of_nodes}
use Rattle.fsrm_model.specs.nodes.Leads.{is_root, leads_to_folder, leads_to_file}
use Rattle.fsrm_model.specs.values.Name.{is_name}
use Rattle.fsrm_model.specs.nodes.Tree.{number, resolve, is_folder, folder_part, last_name}
use Rattle.fsrm_objects.specs.Tables.{Tables}
use Rattle.node_table.specs.declared.view.NodeView.{NodeView}
use Rattle.volume_tree.specs.Volume.{Volume, Shows, new_fault}

-- a folder, and the name that a path gives in it
pub record IsPlace (nodes : List NodeRow) (path : List (List ℕ)) (folder : ℕ) (name : List ℕ) : Type 0 where
  pub inner : is_root path ≡ false
  pub resolved : resolve nodes (folder_part path) ≡ Some folder
  pub folder_is : is_folder nodes folder ≡ true
  pub name_is : last_name path ≡ name
  pub valid : is_name name ≡ true

-- a place where a node can be made
pub record IsVacant (v : Volume) (path : List (List ℕ)) (folder : ℕ) (name : List ℕ) : Type 0 where
  pub at : IsPlace v.nodes path folder name
  pub may : new_fault v folder name ≡ None

-- why a path names no place: it is the root's, or its folder isn't there
abbrev pub IsRefusedPlace : List NodeRow → List (List ℕ) → Refusal → Type 0
IsRefusedPlace nodes path AlreadyExists = is_root path ≡ true
IsRefusedPlace nodes path PathNotFound = (is_root path ≡ false) × (leads_to_folder nodes (folder_part path) ≡ false)
IsRefusedPlace nodes path other = ⊥

-- the file that a path leads to, lent
pub record IsFile (nodes : List NodeRow) (path : List (List ℕ)) (view : NodeView) : Type 0 where
  pub resolved : resolve nodes path ≡ Some view.number
  pub there : has_row number view.number nodes ≡ true
  pub shows : Shows view nodes view.number
  pub file : view.folder ≡ false
  pub short : view.length ≤ longest_file

abbrev pub IsFileAt : List NodeRow → List (List ℕ) → Option NodeView → Type 0
IsFileAt nodes path None = leads_to_file nodes path ≡ false
IsFileAt nodes path (Some view) = IsFile nodes path view

-- the folder that a path leads to
pub record IsFolder (nodes : List NodeRow) (path : List (List ℕ)) (n : ℕ) : Type 0 where
  pub resolved : resolve nodes path ≡ Some n
  pub folder : is_folder nodes n ≡ true

abbrev pub IsFolderAt : List NodeRow → List (List ℕ) → Option ℕ → Type 0
IsFolderAt nodes path None = leads_to_folder nodes path ≡ false
IsFolderAt nodes path (Some n) = IsFolder nodes path n

-- rows with these nodes, and with the objects of these tables
abbrev pub rows_with : List NodeRow → Tables → Rows
rows_with nodes tables =
    record (rows_of_nodes nodes) { quotas = tables.quotas; screens = tables.screens; excepts = tables.excepts; jobs = tables.jobs }

-- the quota of the folder that a path leads to
pub record IsQuotaAt (nodes : List NodeRow) (quotas : List QuotaRow) (path : List (List ℕ)) (quota : QuotaRow) : Type 0 where
  pub at : IsFolder nodes path quota.folder
  pub found : row_of folder_of quota.folder quotas ≡ Some quota
