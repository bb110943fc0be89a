-- Which rows are those of a store. What they must be is a test, so that a reader can refuse exactly the others, and beside
-- it a record of the same parts.
use Rattle.std.specs.Prelude.{◌≡◌, ℕ, ◌≤◌, ◌==◌, ◌&&◌, ◌||◌, nat_lt, nat_le, not, Bool, true, false, List, [], ◌∷◌, length, Some, if◌then◌else◌}
use Rattle.std.specs.List.{list_all}
use Rattle.std.specs.Option.{option_map_or}
use Rattle.fsrm_model.specs.declared.row.ActRow.{ActRow}
use Rattle.fsrm_model.specs.declared.row.Action.{Action}
use Rattle.fsrm_model.specs.declared.row.AuditRow.{AuditRow}
use Rattle.fsrm_model.specs.declared.row.AutoRow.{AutoRow}
use Rattle.fsrm_model.specs.declared.row.Capacity.{Capacity}
use Rattle.fsrm_model.specs.declared.row.ExceptRow.{ExceptRow}
use Rattle.fsrm_model.specs.declared.row.GroupRow.{GroupRow}
use Rattle.fsrm_model.specs.declared.row.JobRow.{JobRow}
use Rattle.fsrm_model.specs.declared.row.NodeRow.{NodeRow}
use Rattle.fsrm_model.specs.declared.row.QuotaRow.{QuotaRow}
use Rattle.fsrm_model.specs.declared.row.Rows.{Rows}
use Rattle.fsrm_model.specs.declared.row.ScreenRow.{ScreenRow}
use Rattle.fsrm_model.specs.declared.row.TemplateRow.{TemplateRow}
use Rattle.fsrm_base.specs.Keyed.{row_of, is_ascending, has_row}
use Rattle.fsrm_base.specs.Numbers.{each_once}
use Rattle.fsrm_model.specs.objects.AutoApply.{auto_folder, is_auto}
use Rattle.fsrm_model.specs.values.Limits.{latest_moment, longest_file, most_actions, most_autos, most_entries, most_excepts, most_groups, most_jobs, most_minutes, most_quotas, most_screen_groups, most_screens, most_templates, most_text_bytes}
use Rattle.fsrm_model.specs.values.Name.{is_name, names_differ, same_name}
use Rattle.fsrm_model.specs.values.Patterns.{group_number, is_group, are_apart}
use Rattle.fsrm_model.specs.objects.Jobs.{job_number, job_name, is_job}
use Rattle.fsrm_model.specs.objects.Quota.{folder_of, is_limit}
use Rattle.fsrm_model.specs.objects.QuotaStates.{head}
use Rattle.fsrm_model.specs.objects.Screens.{screen_folder, except_folder}
use Rattle.fsrm_model.specs.objects.Templates.{template_number, template_name, is_template}
use Rattle.fsrm_model.specs.values.Texts.{object_texts}
use Rattle.fsrm_model.specs.objects.Thresholds.{is_kept_action, are_thresholds}
use Rattle.fsrm_model.specs.nodes.Tree.{number, node_of, is_folder, is_child, is_under, name_bytes}
use Rattle.fsrm_model.specs.store.ValidScans.{is_queue, IsQueue, are_left, AreLeft}

abbrev pub is_moment : ℕ → Bool
is_moment m = nat_le m latest_moment

-- the root: an unnamed folder of owner 1 and length 0, with moments 0, whose row names itself as its parent
abbrev pub is_root_node : NodeRow → Bool
is_root_node node =
    ((node.folder && (length node.name == 0)) && ((node.parent == 0) && (node.length == 0)))
    && ((node.owner == 1) && ((node.created == 0) && ((node.modified == 0) && (node.accessed == 0))))

-- what another node has, whatever stands beside it. A folder has no length
abbrev pub is_own : NodeRow → Bool
is_own node =
    (is_name node.name && nat_lt 0 node.owner)
    && (nat_le node.length (if node.folder then 0 else longest_file)
    && (is_moment node.created && (is_moment node.modified && is_moment node.accessed)))

-- no other child of its folder has its name
abbrev pub is_only_one : List NodeRow → NodeRow → Bool
is_only_one nodes node =
    list_all (λ other. (other.number == node.number) || not (is_child node.parent other && same_name other.name node.name)) nodes

-- its parent is a folder, and the way up comes to the root
abbrev pub is_inner_node : List NodeRow → NodeRow → Bool
is_inner_node nodes node =
    is_own node && ((is_folder nodes node.parent && is_under nodes 0 node.number) && is_only_one nodes node)

abbrev pub is_sound_node : Capacity → List NodeRow → NodeRow → Bool
is_sound_node K nodes node =
    nat_lt node.number K.nodes && (if node.number == 0 then is_root_node node else is_inner_node nodes node)

-- the nodes of a store of this size
abbrev pub is_tree : Capacity → List NodeRow → Bool
is_tree K nodes =
    (is_ascending number nodes && has_row number 0 nodes)
    && (list_all (is_sound_node K nodes) nodes && nat_le (name_bytes nodes) K.names)

-- the nodes of a store of this size, by what holds of each node that is found by its number
pub record IsVolume (K : Capacity) (nodes : List NodeRow) : Type 0 where
  pub ascending : is_ascending number nodes ≡ true
  pub has_root : has_row number 0 nodes ≡ true
  pub root : (r : NodeRow) → node_of nodes 0 ≡ Some r → is_root_node r ≡ true
  pub below : (n : ℕ) (r : NodeRow) → node_of nodes n ≡ Some r → nat_lt n K.nodes ≡ true
  pub own : (n : ℕ) (r : NodeRow) → node_of nodes n ≡ Some r → (n == 0) ≡ false → is_own r ≡ true
  pub up : (n : ℕ) (r : NodeRow) → node_of nodes n ≡ Some r → is_folder nodes r.parent ≡ true
  pub rooted : (n : ℕ) → has_row number n nodes ≡ true → is_under nodes 0 n ≡ true
  pub alone : (n m : ℕ) (r s : NodeRow) → node_of nodes n ≡ Some r → node_of nodes m ≡ Some s → (n == 0) ≡ false → (m == 0) ≡ false → s.parent ≡ r.parent → same_name s.name r.name ≡ true → m ≡ n
  pub names : name_bytes nodes ≤ K.names

-- a quota's folder is there, and its values are in their ranges
abbrev pub is_sound_quota : List NodeRow → QuotaRow → Bool
is_sound_quota nodes quota =
    is_folder nodes quota.folder && (is_limit quota.limit && (are_thresholds quota.thresholds && is_moment quota.peak_at))

-- the quotas of a store with these nodes: in the order of their folders' numbers, each on another folder
abbrev pub are_quotas : List NodeRow → List QuotaRow → Bool
are_quotas nodes quotas =
    (is_ascending folder_of quotas && nat_le (length quotas) most_quotas) && list_all (is_sound_quota nodes) quotas

-- the quotas of a store with these nodes, by what holds of each quota that is found by its folder
pub record AreQuotas (nodes : List NodeRow) (quotas : List QuotaRow) : Type 0 where
  pub ascending : is_ascending folder_of quotas ≡ true
  pub few : length quotas ≤ most_quotas
  pub folders : (folder : ℕ) (quota : QuotaRow) → row_of folder_of folder quotas ≡ Some quota → is_folder nodes folder ≡ true
  pub limits : (folder : ℕ) (quota : QuotaRow) → row_of folder_of folder quotas ≡ Some quota → is_limit quota.limit ≡ true
  pub thresholds : (folder : ℕ) (quota : QuotaRow) → row_of folder_of folder quotas ≡ Some quota → are_thresholds quota.thresholds ≡ true
  pub moments : (folder : ℕ) (quota : QuotaRow) → row_of folder_of folder quotas ≡ Some quota → is_moment quota.peak_at ≡ true

abbrev pub is_empty : {X : Type 0} → List X → Bool
is_empty [] = true
is_empty (x ∷ xs) = false

-- a quota's template, if it has one, is there
abbrev pub has_source : List TemplateRow → QuotaRow → Bool
has_source templates quota = option_map_or (λ n. has_row template_number n templates) quota.template true

-- quota templates, in the order of their numbers, no two with one name
abbrev pub are_templates : List TemplateRow → Bool
are_templates templates =
    (is_ascending template_number templates && nat_le (length templates) most_templates)
    && (list_all is_template templates && names_differ template_name templates)

-- an auto-apply quota's folder and its template are there
abbrev pub is_sound_auto : List NodeRow → List TemplateRow → AutoRow → Bool
is_sound_auto nodes templates auto =
    (is_folder nodes auto.folder && has_row template_number auto.template templates) && is_auto auto

abbrev pub are_autos : List NodeRow → List TemplateRow → List AutoRow → Bool
are_autos nodes templates autos =
    (is_ascending auto_folder autos && nat_le (length autos) most_autos) && list_all (is_sound_auto nodes templates) autos

-- file groups, in the order of their numbers, no two with one name
abbrev pub are_groups : List GroupRow → Bool
are_groups groups =
    (is_ascending group_number groups && nat_le (length groups) most_groups) && (list_all is_group groups && are_apart groups)

-- the groups that a screen or an exception names: 1 to 16, each once, and each is there
abbrev pub are_group_numbers : List GroupRow → List ℕ → Bool
are_group_numbers groups numbers =
    (nat_lt 0 (length numbers) && nat_le (length numbers) most_screen_groups)
    && (each_once numbers && list_all (λ n. has_row group_number n groups) numbers)

-- the actions of a screen: at most 8
abbrev pub are_screen_actions : List Action → Bool
are_screen_actions actions = nat_le (length actions) most_actions && list_all is_kept_action actions

-- a screen's folder is there, and has no exception
abbrev pub is_sound_screen : List NodeRow → List GroupRow → List ExceptRow → ScreenRow → Bool
is_sound_screen nodes groups excepts screen =
    (is_folder nodes screen.folder && not (has_row except_folder screen.folder excepts))
    && (are_group_numbers groups screen.groups && are_screen_actions screen.actions)

abbrev pub are_screens : List NodeRow → List GroupRow → List ExceptRow → List ScreenRow → Bool
are_screens nodes groups excepts screens =
    (is_ascending screen_folder screens && nat_le (length screens) most_screens) && list_all (is_sound_screen nodes groups excepts) screens

abbrev pub is_sound_except : List NodeRow → List GroupRow → ExceptRow → Bool
is_sound_except nodes groups except = is_folder nodes except.folder && are_group_numbers groups except.groups

abbrev pub are_excepts : List NodeRow → List GroupRow → List ExceptRow → Bool
are_excepts nodes groups excepts =
    (is_ascending except_folder excepts && nat_le (length excepts) most_excepts) && list_all (is_sound_except nodes groups) excepts

-- the audit log: its last 1,024 entries, each of a moment and a name. What they name else may be gone
abbrev pub is_audit : AuditRow → Bool
is_audit entry = is_moment entry.moment && is_name entry.name

abbrev pub are_audits : List AuditRow → Bool
are_audits log = nat_le (length log) most_entries && list_all is_audit log

-- report jobs, in the order of their numbers, no two with one name. The folder that a job reports on is there
abbrev pub is_sound_job : List NodeRow → JobRow → Bool
is_sound_job nodes job = is_folder nodes job.scope && is_job job

abbrev pub are_jobs : List NodeRow → List JobRow → Bool
are_jobs nodes jobs =
    (is_ascending job_number jobs && nat_le (length jobs) most_jobs) && (list_all (is_sound_job nodes) jobs && names_differ job_name jobs)

-- the tables of objects but quotas, and the audit log
abbrev pub are_tables : Rows → Bool
are_tables R =
    (list_all (has_source R.templates) R.quotas && (are_templates R.templates && (are_autos R.nodes R.templates R.autos && are_jobs R.nodes R.jobs)))
    && ((are_groups R.groups && are_screens R.nodes R.groups R.excepts R.screens)
    && (are_excepts R.nodes R.groups R.excepts && are_audits R.audits))

pub record AreTables (R : Rows) : Type 0 where
  pub sources : list_all (has_source R.templates) R.quotas ≡ true
  pub templates : are_templates R.templates ≡ true
  pub autos : are_autos R.nodes R.templates R.autos ≡ true
  pub jobs : are_jobs R.nodes R.jobs ≡ true
  pub groups : are_groups R.groups ≡ true
  pub screens : are_screens R.nodes R.groups R.excepts R.screens ≡ true
  pub excepts : are_excepts R.nodes R.groups R.excepts ≡ true
  pub audits : are_audits R.audits ≡ true

-- the log of actions: its last 1,024 entries, each of a moment. What they name may be gone
abbrev pub are_entries : List ActRow → Bool
are_entries log = nat_le (length log) most_entries && list_all (λ entry. is_moment entry.moment) log

-- the rows of a store of this size
abbrev pub is_valid : Capacity → Rows → Bool
is_valid K R =
    (is_tree K R.nodes && (are_quotas R.nodes R.quotas && are_tables R))
    && ((nat_le (object_texts R) most_text_bytes && (are_entries R.acts && (nat_le R.run_limit most_minutes && is_moment R.last_moment)))
    && (is_queue R.quotas R.queue && are_left R.nodes (head R.queue) R.unvisited))

pub record IsValid (K : Capacity) (R : Rows) : Type 0 where
  pub volume : IsVolume K R.nodes
  pub quotas : AreQuotas R.nodes R.quotas
  pub tables : AreTables R
  pub texts : object_texts R ≤ most_text_bytes
  pub log : are_entries R.acts ≡ true
  pub run_limit : R.run_limit ≤ most_minutes
  pub last_moment : R.last_moment ≤ latest_moment
  pub queue : IsQueue R.quotas R.queue
  pub unvisited : AreLeft R.nodes (head R.queue) R.unvisited
