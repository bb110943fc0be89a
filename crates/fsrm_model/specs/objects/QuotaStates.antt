-- The states of quotas, and the queue of those that wait for a scan (MS-FSRM, FsrmQuotaFlags).
use Rattle.std.specs.Prelude.{ℕ, ◌==◌, Bool, true, false, List, [], ◌∷◌, ◌++◌, length, slice_get, Option, Some, None, if◌then◌else◌}
use Rattle.std.specs.Option.{option_map_or}
use Rattle.fsrm_model.specs.declared.row.NodeRow.{NodeRow}
use Rattle.fsrm_model.specs.declared.row.QuotaRow.{QuotaRow}
use Rattle.fsrm_model.specs.declared.row.QuotaState.{QuotaState}
use Rattle.fsrm_model.specs.declared.row.QuotaState.TheVariants.{Complete, Disabled, Rebuilding, Incomplete}
use Rattle.fsrm_model.specs.declared.row.Rows.{Rows}
use Rattle.fsrm_base.specs.Keyed.{with_row, with_change, without_row}
use Rattle.fsrm_base.specs.Numbers.{is_in, without_number}
use Rattle.fsrm_model.specs.objects.Quota.{folder_of, quota_of}
use Rattle.fsrm_model.specs.objects.Scan.{folders_under}
use Rattle.fsrm_model.specs.nodes.Tree.{children}

abbrev pub is_rebuilding : QuotaState → Bool
is_rebuilding Complete = false
is_rebuilding Disabled = false
is_rebuilding Rebuilding = true
is_rebuilding Incomplete = false

abbrev pub is_disabled : QuotaState → Bool
is_disabled Complete = false
is_disabled Disabled = true
is_disabled Rebuilding = false
is_disabled Incomplete = false

-- the state of a folder's quota
abbrev pub state_of : Rows → ℕ → QuotaState
state_of R folder = option_map_or (λ quota. quota.state) (quota_of R folder) Disabled

-- what a quota is that is made or enabled: if its folder has a child, what is in it is to be counted first
abbrev pub start : List NodeRow → ℕ → QuotaState
start nodes folder = if length (children nodes folder) == 0 then Complete else Rebuilding

-- the state that a status asks for, if one is given. One that holds already changes nothing
abbrev pub state_after : Rows → ℕ → Option Bool → QuotaState
state_after R folder None = state_of R folder
state_after R folder (Some false) = Disabled
state_after R folder (Some true) = if is_disabled (state_of R folder) then start R.nodes folder else state_of R folder

-- The queue once a folder's quota has this state: exactly the rebuilding quotas are in it. A new one goes to its end
abbrev pub queued : List ℕ → ℕ → QuotaState → List ℕ
queued queue folder state =
    if is_rebuilding state then (if is_in queue folder then queue else queue ++ folder ∷ []) else without_number folder queue

-- rows with one more quota; with another state of a folder's quota; without a folder's quota
abbrev pub with_quota : Rows → QuotaRow → Rows
with_quota R quota =
    record R { quotas = with_row folder_of quota R.quotas; queue = queued R.queue quota.folder quota.state }

abbrev pub in_state : QuotaState → QuotaRow → QuotaRow
in_state state quota = record quota { state = state }

abbrev pub with_state : Rows → ℕ → QuotaState → Rows
with_state R folder state =
    record R { quotas = with_change folder_of folder (in_state state) R.quotas; queue = queued R.queue folder state }

abbrev pub without_quota : Rows → ℕ → Rows
without_quota R folder =
    record R { quotas = without_row folder_of folder R.quotas; queue = without_number folder R.queue }

-- the folder at the head of the queue, whose scan is the active one
abbrev pub head : List ℕ → Option ℕ
head queue = slice_get queue 0

-- whether two queues have the same head, or none
abbrev pub same_head : List ℕ → List ℕ → Bool
same_head [] [] = true
same_head [] (b ∷ bs) = false
same_head (a ∷ as') [] = false
same_head (a ∷ as') (b ∷ bs) = a == b

-- what the scan at the head of a queue begins with: all folders at and below its folder
abbrev pub scan_begun : List NodeRow → List ℕ → List ℕ
scan_begun nodes queue = option_map_or (folders_under nodes) (head queue) []

-- the rows that a command makes of these: a scan begins if another folder comes to the head of the queue
abbrev pub followed : Rows → Rows → Rows
followed before after =
    record after { unvisited = if same_head before.queue after.queue then after.unvisited else scan_begun after.nodes after.queue }
