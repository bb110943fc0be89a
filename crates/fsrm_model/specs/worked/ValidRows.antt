-- Worked examples of which rows are those of a store.
use Rattle.std.specs.Prelude.{◌≡◌, ℕ, ◌+◌, ◌++◌, ℤ, pos, negsuc, ◌∷◌, [], true, false, List, map, replicate, Option, Some, None, Bool, codes}
use Rattle.std.specs.List.{range_with_len}
use Rattle.fsrm_model.specs.declared.row.ActRow.{ActRow}
use Rattle.fsrm_model.specs.declared.row.Action.{Action}
use Rattle.fsrm_model.specs.declared.row.ActionKind.TheVariants.{Event}
use Rattle.fsrm_model.specs.declared.row.AuditRow.{AuditRow}
use Rattle.fsrm_model.specs.declared.row.AutoRow.{AutoRow}
use Rattle.fsrm_model.specs.declared.row.ExceptRow.{ExceptRow}
use Rattle.fsrm_model.specs.declared.row.GroupRow.{GroupRow}
use Rattle.fsrm_model.specs.declared.row.Filter.{Filter}
use Rattle.fsrm_model.specs.declared.row.JobRow.{JobRow}
use Rattle.fsrm_model.specs.declared.row.NodeRow.{NodeRow}
use Rattle.fsrm_model.specs.declared.row.QuotaRow.{QuotaRow}
use Rattle.fsrm_model.specs.declared.row.QuotaState.{QuotaState}
use Rattle.fsrm_model.specs.declared.row.QuotaState.TheVariants.{Complete, Rebuilding}
use Rattle.fsrm_model.specs.declared.row.ReportKind.TheVariants.{QuotaUsage}
use Rattle.fsrm_model.specs.declared.row.Rows.{Rows}
use Rattle.fsrm_model.specs.declared.row.ScreenRow.{ScreenRow}
use Rattle.fsrm_model.specs.declared.row.TemplateRow.{TemplateRow}
use Rattle.fsrm_model.specs.declared.row.Threshold.{Threshold}
use Rattle.fsrm_model.specs.nodes.Fresh.{default_capacity, new_rows, root_node, rows_of_nodes}
use Rattle.fsrm_model.specs.values.Limits.{last_owner, latest_moment, longest_action_text, longest_file, longest_schedule, most_days, most_entries, most_excluded, most_jobs, most_minutes, most_rows, most_templates, most_use}
use Rattle.fsrm_model.specs.commands.QuotaWork.{new_quota}
use Rattle.fsrm_model.specs.commands.ReportWork.{no_filter}
use Rattle.fsrm_model.specs.store.Valid.{is_valid}

-- in the root a folder, in it a file and a folder, and in that another folder
abbrev pub node : ℕ → ℕ → List ℕ → Bool → ℕ → NodeRow
node number parent name folder length =
    record { number = number; parent = parent; name = name; folder = folder; length = length; owner = 7; created = 1; modified = 2; accessed = latest_moment }

abbrev pub some_nodes : List NodeRow
some_nodes =
    root_node ∷ node 1 0 (codes "a") true 0 ∷ node 2 1 (codes "f") false 5000 ∷ node 3 1 (codes "b") true 0 ∷ node 4 3 (codes "F") true 0 ∷ []

-- the root has a quota that counts, the folder one whose scan has visited the folder itself
abbrev pub on : ℕ → QuotaState → QuotaRow
on folder state = new_quota folder 1024 true state latest_moment

abbrev pub two : List QuotaRow
two = on 0 Complete ∷ on 1 Rebuilding ∷ []

abbrev pub scanning : Rows
scanning = record (rows_of_nodes some_nodes) { quotas = two; queue = 1 ∷ []; unvisited = 3 ∷ 4 ∷ []; run_limit = most_minutes; last_moment = latest_moment }

abbrev pub are_valid : List Rows → List Bool
are_valid rows = map (is_valid default_capacity) rows

-- these are valid: the last ones have everything to visit, and nothing
abbrev pub valid_rows : Type 0
valid_rows =
    are_valid (new_rows ∷ scanning ∷ record scanning { unvisited = 1 ∷ 3 ∷ 4 ∷ [] } ∷ record scanning { unvisited = [] } ∷ [])
    ≡ true ∷ true ∷ true ∷ true ∷ []

-- in each of these one thing is wrong with a node: its parent is a file, its name is another's, it lies outside the tree,
-- a folder has a length, no root stands first
abbrev pub wrong_nodes : Type 0
wrong_nodes =
    map (λ nodes. is_valid default_capacity (rows_of_nodes nodes))
    ((root_node ∷ node 1 0 (codes "a") false 0 ∷ node 2 1 (codes "f") false 5000 ∷ [])
    ∷ (root_node ∷ node 1 0 (codes "a") true 0 ∷ node 2 0 (codes "A") false 5000 ∷ [])
    ∷ (root_node ∷ node 1 2 (codes "a") true 0 ∷ node 2 1 (codes "f") true 0 ∷ [])
    ∷ (root_node ∷ node 1 0 (codes "a") true 1 ∷ [])
    ∷ (node 1 0 (codes "a") true 0 ∷ [])
    ∷ [])
    ≡ false ∷ false ∷ false ∷ false ∷ false ∷ []

-- with a quota: it is on a file, it stands after one of a greater number, it is there twice, its limit is too small or
-- too great, its peak is of a later moment, its template isn't there
abbrev pub wrong_quotas : Type 0
wrong_quotas =
    are_valid (map (λ quotas. record scanning { quotas = quotas }) (
    (on 0 Complete ∷ on 1 Rebuilding ∷ on 2 Complete ∷ [])
    ∷ (on 1 Rebuilding ∷ on 0 Complete ∷ [])
    ∷ (on 0 Complete ∷ on 1 Rebuilding ∷ on 1 Rebuilding ∷ [])
    ∷ (record (on 0 Complete) { limit = 1023 } ∷ on 1 Rebuilding ∷ [])
    ∷ (record (on 0 Complete) { limit = 1152921504606846977 } ∷ on 1 Rebuilding ∷ [])
    ∷ (record (on 0 Complete) { peak_at = latest_moment + 1 } ∷ on 1 Rebuilding ∷ [])
    ∷ (record (on 0 Complete) { template = Some 0 } ∷ on 1 Rebuilding ∷ [])
    ∷ []))
    ≡ false ∷ false ∷ false ∷ false ∷ false ∷ false ∷ false ∷ []

-- ---- thresholds of the root's quota
abbrev pub action : ℤ → List ℕ → Option ℕ → Action
action minutes text last_run = record { kind = Event; minutes = minutes; text = text; last_run = last_run }

-- at each of these percentages these actions
abbrev pub thresholds_at : List ℕ → List Action → List Threshold
thresholds_at percents actions = map (λ percent. record { percent = percent; actions = actions }) percents

abbrev pub acting : List Threshold → Rows
acting thresholds = record scanning { quotas = record (on 0 Complete) { thresholds = thresholds } ∷ on 1 Rebuilding ∷ [] }

abbrev pub entry : ActRow
entry = record { moment = latest_moment; folder = 1; percent = 85; kind = Event }

-- these are valid: as many thresholds, actions, minutes, bytes of a text and entries of the log as there may be
abbrev pub valid_thresholds : Type 0
valid_thresholds =
    are_valid (
    acting (thresholds_at (range_with_len 1 16) [])
    ∷ acting (thresholds_at (1 ∷ 250 ∷ []) (replicate 8 (action (pos most_minutes) [] None)))
    ∷ acting (thresholds_at (85 ∷ []) (action (negsuc 0) (replicate longest_action_text 32) (Some latest_moment) ∷ []))
    ∷ record scanning { acts = replicate most_entries entry }
    ∷ [])
    ≡ true ∷ true ∷ true ∷ true ∷ []

-- in each of these one thing is wrong: a percentage is 0 or 251, percentages descend, or one is there twice, there are 17
-- thresholds, or 9 actions, minutes are -2 or too many, a text is too long, or has a control character, a last run is too late
abbrev pub wrong_thresholds : Type 0
wrong_thresholds =
    are_valid (map acting (
    (thresholds_at (0 ∷ []) [])
    ∷ (thresholds_at (251 ∷ []) [])
    ∷ (thresholds_at (86 ∷ 85 ∷ []) [])
    ∷ (thresholds_at (85 ∷ 85 ∷ []) [])
    ∷ (thresholds_at (range_with_len 1 17) [])
    ∷ (thresholds_at (85 ∷ []) (replicate 9 (action (pos 0) [] None)))
    ∷ (thresholds_at (85 ∷ []) (action (negsuc 1) [] None ∷ []))
    ∷ (thresholds_at (85 ∷ []) (action (pos (most_minutes + 1)) [] None ∷ []))
    ∷ (thresholds_at (85 ∷ []) (action (pos 0) (replicate (longest_action_text + 1) 32) None ∷ []))
    ∷ (thresholds_at (85 ∷ []) (action (pos 0) (31 ∷ []) None ∷ []))
    ∷ (thresholds_at (85 ∷ []) (action (pos 0) (127 ∷ []) None ∷ []))
    ∷ (thresholds_at (85 ∷ []) (action (pos 0) [] (Some (latest_moment + 1)) ∷ []))
    ∷ []))
    ≡ replicate 12 false

-- ---- file groups, screens, exceptions and the audit log
abbrev pub group : ℕ → List ℕ → GroupRow
group number name = record { number = number; name = name; members = codes "*.x" ∷ []; non_members = [] }

abbrev pub screen : ℕ → List ℕ → ScreenRow
screen folder groups = record { folder = folder; active = true; groups = groups; actions = [] }

abbrev pub lifted : ℕ → List ℕ → ExceptRow
lifted folder groups = record { folder = folder; groups = groups }

abbrev pub reported : List ℕ → AuditRow
reported name = record { moment = latest_moment; active = true; owner = 1; folder = 9; screen = 9; name = name }

-- the root and the folder have a screen, another folder has an exception
abbrev pub screening : Rows
screening =
    record scanning {
      groups = group 0 (codes "g") ∷ group 2 (codes "h") ∷ [];
      screens = screen 0 (2 ∷ 0 ∷ []) ∷ screen 1 (0 ∷ []) ∷ [];
      excepts = lifted 3 (2 ∷ []) ∷ [];
    }

-- these are valid: an exception may stand alone, and the folders of an entry of the audit log may be gone
abbrev pub valid_screens : Type 0
valid_screens =
    are_valid (
    screening
    ∷ record screening { screens = [] }
    ∷ record screening { screens = record (screen 1 (0 ∷ [])) { active = false; actions = replicate 8 (action (pos 0) [] (Some latest_moment)) } ∷ [] }
    ∷ record screening { audits = reported (codes "n.x") ∷ [] }
    ∷ [])
    ≡ true ∷ true ∷ true ∷ true ∷ []

-- in each of these one thing is wrong with the groups: numbers descend, a name is another's, there is no member, a member has
-- a `/`, a number is too great
abbrev pub groups_wrong : List Rows
groups_wrong =
    map (λ groups. record scanning { groups = groups }) (
    (group 2 (codes "h") ∷ group 0 (codes "g") ∷ [])
    ∷ (group 0 (codes "g") ∷ group 2 (codes "G") ∷ [])
    ∷ (record (group 0 (codes "g")) { members = [] } ∷ [])
    ∷ (record (group 0 (codes "g")) { members = codes "a/b" ∷ [] } ∷ [])
    ∷ (group 1024 (codes "g") ∷ [])
    ∷ [])

-- with a screen: it is on a file, it is there twice, its folder has an exception, it has no group, a group twice, one that isn't
-- there, or 9 actions
abbrev pub screens_wrong : List Rows
screens_wrong =
    map (λ screens. record screening { screens = screens }) (
    (screen 2 (0 ∷ []) ∷ [])
    ∷ (screen 1 (0 ∷ []) ∷ screen 1 (0 ∷ []) ∷ [])
    ∷ (screen 3 (0 ∷ []) ∷ [])
    ∷ (screen 1 [] ∷ [])
    ∷ (screen 1 (0 ∷ 0 ∷ []) ∷ [])
    ∷ (screen 1 (1 ∷ []) ∷ [])
    ∷ (record (screen 1 (0 ∷ [])) { actions = replicate 9 (action (pos 0) [] None) } ∷ [])
    ∷ [])

-- with an exception: it is on a file, it has no group, or one that isn't there
abbrev pub excepts_wrong : List Rows
excepts_wrong =
    map (λ excepts. record screening { excepts = excepts }) (
    (lifted 2 (0 ∷ []) ∷ [])
    ∷ (lifted 3 [] ∷ [])
    ∷ (lifted 3 (1 ∷ []) ∷ [])
    ∷ [])

-- with the audit log: it has a later moment, what is no name, or an entry too many
abbrev pub audits_wrong : List Rows
audits_wrong =
    map (λ audits. record screening { audits = audits }) (
    (record (reported (codes "n.x")) { moment = latest_moment + 1 } ∷ [])
    ∷ (reported (codes "a/b") ∷ [])
    ∷ replicate (most_entries + 1) (reported (codes "n.x"))
    ∷ [])

abbrev pub wrong_screens : Type 0
wrong_screens = are_valid (groups_wrong ++ (screens_wrong ++ (excepts_wrong ++ audits_wrong))) ≡ replicate 18 false

-- ---- templates and auto-apply quotas
abbrev pub template : ℕ → List ℕ → List Threshold → TemplateRow
template number name thresholds = record { number = number; name = name; limit = 1024; enforce = true; thresholds = thresholds }

abbrev pub auto : ℕ → ℕ → List (List ℕ) → AutoRow
auto folder template excluded = record { folder = folder; template = template; excluded = excluded }

-- the root's quota is derived from a template, and two folders have auto-apply quotas
abbrev pub applying : Rows
applying =
    record scanning {
      quotas = record (on 0 Complete) { template = Some 2 } ∷ on 1 Rebuilding ∷ [];
      templates = template 0 (codes "t") [] ∷ template 2 (codes "u") (thresholds_at (85 ∷ []) (action (pos 0) [] None ∷ [])) ∷ [];
      autos = auto 1 0 [] ∷ auto 4 2 (codes "x" ∷ codes "X" ∷ []) ∷ [];
    }

-- these are valid: names may be excluded twice, and 32 of them; a template needs no quota
abbrev pub valid_templates : Type 0
valid_templates =
    are_valid (
    applying
    ∷ record applying { autos = auto 0 2 (replicate most_excluded (codes "x")) ∷ [] }
    ∷ record applying { quotas = two; autos = [] }
    ∷ [])
    ≡ true ∷ true ∷ true ∷ []

-- in each of these one thing is wrong with the templates: one that the root's quota names isn't there, numbers descend, a name is
-- another's or has a bar, a number is too great, a limit is too small, an action ran
abbrev pub templates_wrong : List Rows
templates_wrong =
    map (λ templates. record applying { templates = templates; autos = [] }) (
    (template 0 (codes "t") [] ∷ [])
    ∷ (template 2 (codes "u") [] ∷ template 0 (codes "t") [] ∷ [])
    ∷ (template 0 (codes "U") [] ∷ template 2 (codes "u") [] ∷ [])
    ∷ (template 2 (codes "u|") [] ∷ [])
    ∷ (template 2 (codes "u") [] ∷ template most_templates (codes "t") [] ∷ [])
    ∷ (record (template 2 (codes "u") []) { limit = 1023 } ∷ [])
    ∷ (template 2 (codes "u") (thresholds_at (85 ∷ []) (action (pos 0) [] (Some 0) ∷ [])) ∷ [])
    ∷ [])

-- with an auto-apply quota: it is on a file, it is there twice, its template isn't there, it excludes a name too many, or what is no name
abbrev pub autos_wrong : List Rows
autos_wrong =
    map (λ autos. record applying { autos = autos }) (
    (auto 2 0 [] ∷ [])
    ∷ (auto 1 0 [] ∷ auto 1 0 [] ∷ [])
    ∷ (auto 1 1 [] ∷ [])
    ∷ (auto 1 0 (replicate (most_excluded + 1) (codes "x")) ∷ [])
    ∷ (auto 1 0 (codes "a/b" ∷ []) ∷ [])
    ∷ [])

abbrev pub wrong_templates : Type 0
wrong_templates = are_valid (templates_wrong ++ autos_wrong) ≡ replicate 12 false

-- ---- report jobs
abbrev pub job : ℕ → List ℕ → ℕ → JobRow
job number name scope =
    record {
      number = number;
      name = name;
      kind = QuotaUsage;
      scope = scope;
      filter = no_filter;
      schedule = codes "daily 02:00 1";
      made = latest_moment;
      last_run = Some latest_moment;
    }

abbrev pub reporting : List JobRow → Rows
reporting jobs = record scanning { jobs = jobs }

-- a filter with the greatest values
abbrev pub most_asked : Filter
most_asked =
    record {
      owner = Some last_owner;
      pattern = Some (codes "*");
      min_size = Some longest_file;
      days = Some most_days;
      min_use = Some most_use;
      max = most_rows;
    }

-- these are valid: two jobs may report on one folder, a schedule may be empty or have 200 bytes, and a job may never have run
abbrev pub valid_jobs : Type 0
valid_jobs =
    are_valid (map reporting (
    (job 0 (codes "j") 0 ∷ job 255 (codes "k") 0 ∷ [])
    ∷ (record (job 1 (codes "j") 4) { filter = most_asked; schedule = []; last_run = None } ∷ [])
    ∷ (record (job 1 (codes "j") 4) { schedule = replicate longest_schedule 32 } ∷ [])
    ∷ []))
    ≡ true ∷ true ∷ true ∷ []

-- in each of these one thing is wrong: a number is too great, numbers descend, a number or a name is another's, a name has a bar, a
-- scope is a file or isn't there, a filter has no row, or one too many, or another value that is too great, a pattern has a `/`, a
-- schedule has a control character or is too long, a job was made or ran too late
abbrev pub wrong_jobs : Type 0
wrong_jobs =
    are_valid (map reporting (
    (job most_jobs (codes "j") 0 ∷ [])
    ∷ (job 1 (codes "j") 0 ∷ job 0 (codes "k") 0 ∷ [])
    ∷ (job 0 (codes "j") 0 ∷ job 0 (codes "k") 0 ∷ [])
    ∷ (job 0 (codes "j") 0 ∷ job 1 (codes "J") 1 ∷ [])
    ∷ (job 0 (codes "j|") 0 ∷ [])
    ∷ (job 0 (codes "j") 2 ∷ [])
    ∷ (job 0 (codes "j") 5 ∷ [])
    ∷ (record (job 0 (codes "j") 0) { filter = record no_filter { max = 0 } } ∷ [])
    ∷ (record (job 0 (codes "j") 0) { filter = record no_filter { max = most_rows + 1 } } ∷ [])
    ∷ (record (job 0 (codes "j") 0) { filter = record no_filter { owner = Some 0 } } ∷ [])
    ∷ (record (job 0 (codes "j") 0) { filter = record no_filter { min_size = Some (longest_file + 1) } } ∷ [])
    ∷ (record (job 0 (codes "j") 0) { filter = record no_filter { days = Some (most_days + 1) } } ∷ [])
    ∷ (record (job 0 (codes "j") 0) { filter = record no_filter { min_use = Some (most_use + 1) } } ∷ [])
    ∷ (record (job 0 (codes "j") 0) { filter = record no_filter { pattern = Some (codes "a/b") } } ∷ [])
    ∷ (record (job 0 (codes "j") 0) { schedule = 31 ∷ [] } ∷ [])
    ∷ (record (job 0 (codes "j") 0) { schedule = replicate (longest_schedule + 1) 32 } ∷ [])
    ∷ (record (job 0 (codes "j") 0) { made = latest_moment + 1 } ∷ [])
    ∷ (record (job 0 (codes "j") 0) { last_run = Some (latest_moment + 1) } ∷ [])
    ∷ []))
    ≡ replicate 18 false

-- with a log, the run limit or the last moment
abbrev pub wrong_tables : Type 0
wrong_tables =
    are_valid (
    record scanning { acts = record entry { moment = latest_moment + 1 } ∷ [] }
    ∷ record scanning { acts = replicate (most_entries + 1) entry }
    ∷ record scanning { run_limit = most_minutes + 1 }
    ∷ record scanning { last_moment = latest_moment + 1 }
    ∷ [])
    ≡ false ∷ false ∷ false ∷ false ∷ []

-- with the queue: it has a folder twice, lacks that of the rebuilding quota, has that of another quota, or one without
abbrev pub wrong_queues : Type 0
wrong_queues =
    are_valid (
    record scanning { queue = 1 ∷ 1 ∷ [] }
    ∷ record scanning { queue = []; unvisited = [] }
    ∷ record scanning { queue = 1 ∷ 0 ∷ [] }
    ∷ record scanning { queue = 1 ∷ 3 ∷ [] }
    ∷ [])
    ≡ false ∷ false ∷ false ∷ false ∷ []

-- with what is unvisited: a folder lacks one that stands in it, a folder isn't below the scanned one, there is a file,
-- a number of no node, numbers don't ascend, or no scan is active
abbrev pub wrong_unvisited : Type 0
wrong_unvisited =
    are_valid (
    record scanning { unvisited = 3 ∷ [] }
    ∷ record scanning { unvisited = 0 ∷ 1 ∷ 3 ∷ 4 ∷ [] }
    ∷ record scanning { unvisited = 2 ∷ 3 ∷ 4 ∷ [] }
    ∷ record scanning { unvisited = 3 ∷ 4 ∷ 5 ∷ [] }
    ∷ record scanning { unvisited = 4 ∷ 3 ∷ [] }
    ∷ record scanning { quotas = on 0 Complete ∷ []; queue = [] }
    ∷ [])
    ≡ false ∷ false ∷ false ∷ false ∷ false ∷ false ∷ []
