-- File operations and sums: their refusals in order, and what they do.
use Rattle.std.specs.Prelude.{ℕ, ◌==◌, ◌&&◌, not, true, false, List, [], ◌∷◌, ◌++◌, length, Option, None, option_map, option_to_list, if◌then◌else◌}
use Rattle.std.specs.Option.{option_map_or, option_and_then}
use Rattle.fsrm_model.specs.declared.row.Capacity.{Capacity}
use Rattle.fsrm_model.specs.declared.row.NodeRow.{NodeRow}
use Rattle.fsrm_model.specs.declared.row.QuotaRow.{QuotaRow}
use Rattle.fsrm_model.specs.declared.row.Rows.{Rows}
use Rattle.fsrm_model.specs.declared.command.FileOp.{FileOp}
use Rattle.fsrm_model.specs.declared.command.FileOp.TheVariants.{Mkdir, Create, Resize, Touch, Move, Remove}
use Rattle.fsrm_model.specs.declared.command.Refusal.TheVariants.{PathNotFound, AlreadyExists, NotEmpty, InvalidMove, ScreenBlocked}
use Rattle.fsrm_model.specs.declared.command.Outcome.TheVariants.{Done, Sum}
use Rattle.fsrm_model.specs.nodes.Tree.{folder_part, last_name, fresh, owner_of, usage, children, is_under}
use Rattle.fsrm_model.specs.objects.AutoApply.{applied, with_quotas, without_auto}
use Rattle.fsrm_model.specs.nodes.FileOps.{plain, new_node, target, target_folder}
use Rattle.fsrm_model.specs.commands.Check.{Check, ◌when◌, volume_full, names_full, table_full, texts_full}
use Rattle.fsrm_base.specs.Numbers.{without_number}
use Rattle.fsrm_model.specs.objects.Jobs.{without_jobs}
use Rattle.fsrm_model.specs.objects.Quota.{exceeded}
use Rattle.fsrm_model.specs.objects.QuotaStates.{head, without_quota}
use Rattle.fsrm_model.specs.objects.Scan.{unvisited_with, unvisited_moved}
use Rattle.fsrm_model.specs.objects.Screens.{judging, without_screens}
use Rattle.fsrm_model.specs.commands.Work.{Work, Judged, asks}
use Rattle.fsrm_model.specs.nodes.Leads.{is_root, leads, leads_to_folder, leads_to_file, leads_to_other}

-- ---- names that screens judge
-- the name that a file of an owner is to get in a folder, if a screen judges it
abbrev pub judged_by : Rows → ℕ → ℕ → List ℕ → Option Judged
judged_by R owner folder name =
    option_map (λ screen. record { screen = screen; owner = owner; folder = folder; name = name }) (judging R folder name)

-- The name that an operation gives a file. A file that moves is judged by its new name in its new folder, also if its spelling
-- alone changes. A folder's name isn't judged
abbrev pub judged_name : Rows → FileOp → Option Judged
judged_name R (Create path length owner) = judged_by R owner (target_folder R.nodes path) (last_name path)
judged_name R (Move from to) =
    if leads_to_file R.nodes from then judged_by R (owner_of R.nodes (target R.nodes from)) (target_folder R.nodes to) (last_name to) else None
judged_name R other = None

-- an active screen blocks the name that it judges, and a passive one reports it
abbrev pub blocked : Option Judged → Check
blocked judged = option_and_then (λ j. ScreenBlocked j.screen.folder when j.screen.active) judged

abbrev pub reported : Option Judged → Option ℕ
reported judged = option_map (λ j. j.screen.folder) judged

-- ---- refusals
-- the refusals, in order, of making a node of this path, which would leave the rows `after`
abbrev pub new_checks : Capacity → Rows → List (List ℕ) → Rows → List Check
new_checks K R path after =
    (AlreadyExists when is_root path)
    ∷ (PathNotFound when not (leads_to_folder R.nodes (folder_part path)))
    ∷ (AlreadyExists when leads R.nodes path)
    ∷ volume_full K after ∷ names_full K after ∷ []

-- The refusals of a move. A place that is the node's own, as when the spelling alone changes, isn't taken
abbrev pub move_checks : Capacity → Rows → List (List ℕ) → List (List ℕ) → Rows → List Check
move_checks K R from to after =
    (PathNotFound when not (leads R.nodes from))
    ∷ (InvalidMove when is_root from)
    ∷ (AlreadyExists when is_root to)
    ∷ (PathNotFound when not (leads_to_folder R.nodes (folder_part to)))
    ∷ (InvalidMove when leads_to_folder R.nodes from && is_under R.nodes (target R.nodes from) (target_folder R.nodes to))
    ∷ (AlreadyExists when leads_to_other R.nodes to (target R.nodes from))
    ∷ names_full K after ∷ table_full after ∷ texts_full after ∷ blocked (judged_name R (Move from to)) ∷ exceeded K R after.nodes ∷ []

-- the refusals of a removal
abbrev pub remove_checks : Rows → List (List ℕ) → List Check
remove_checks R path =
    (PathNotFound when not (leads R.nodes path))
    ∷ (InvalidMove when is_root path)
    ∷ (NotEmpty when not (length (children R.nodes (target R.nodes path)) == 0)) ∷ []

-- the refusals of a file operation that would leave the rows `after`
abbrev pub file_checks : Capacity → Rows → FileOp → Rows → List Check
file_checks K R (Mkdir path owner) after = new_checks K R path after ++ table_full after ∷ texts_full after ∷ []
file_checks K R (Create path length owner) after =
    new_checks K R path after ++ blocked (judged_name R (Create path length owner)) ∷ exceeded K R after.nodes ∷ []
file_checks K R (Resize path length) after = (PathNotFound when not (leads_to_file R.nodes path)) ∷ exceeded K R after.nodes ∷ []
file_checks K R (Touch path) after = (PathNotFound when not (leads_to_file R.nodes path)) ∷ []
file_checks K R (Move from to) after = move_checks K R from to after
file_checks K R (Remove path) after = remove_checks R path

-- ---- effects
-- what is unvisited, in the scan of a folder, after a file operation that leaves these nodes
abbrev pub unvisited_in : Rows → List NodeRow → FileOp → ℕ → List ℕ
unvisited_in R nodes (Mkdir path owner) scanned = unvisited_with (new_node R.nodes path true 0 owner 0) R.unvisited
unvisited_in R nodes (Move from to) scanned =
    unvisited_moved R.nodes nodes scanned (target R.nodes from) (target_folder R.nodes to) R.unvisited
unvisited_in R nodes (Remove path) scanned = without_number (target R.nodes path) R.unvisited
unvisited_in R nodes other scanned = R.unvisited

-- what is unvisited in the active scan, if there is one, after such an operation
abbrev pub unvisited_after : Rows → List NodeRow → FileOp → List ℕ
unvisited_after R nodes op = option_map_or (unvisited_in R nodes op) (head R.queue) []

-- the objects of a folder go with it: its quota, its auto-apply quota, its screen, its exception, and the jobs that report on it
abbrev pub without_objects : Rows → ℕ → Rows
without_objects R folder = without_jobs (without_screens (without_auto (without_quota R folder) folder) folder) folder

abbrev pub objects_after : FileOp → Rows → Rows → Rows
objects_after (Remove path) R after = without_objects after (target R.nodes path)
objects_after other R after = after

-- the quota that a folder gets when it is made or moved, also within its own parent: by the folder that it stands in then
abbrev pub coming_quotas : FileOp → Rows → Rows → ℕ → List QuotaRow
coming_quotas (Mkdir path owner) R after moment = option_to_list (applied after moment (fresh R.nodes))
coming_quotas (Move from to) R after moment = if leads_to_folder R.nodes from then option_to_list (applied after moment (target R.nodes from)) else []
coming_quotas other R after moment = []

-- the rows that a file operation leaves
abbrev pub file_effect : Rows → FileOp → ℕ → Rows
file_effect R op moment =
    let nodes = plain R.nodes op moment in
    let after = objects_after op R (record R { nodes = nodes; unvisited = unvisited_after R nodes op }) in
    with_quotas after (coming_quotas op R after moment)

-- a file operation lasts if it is accepted, and answers no more than that it was done, and which passive screen reports it
abbrev pub file_work : Capacity → Rows → FileOp → ℕ → Work
file_work K R op moment =
    let after = file_effect R op moment in
    record (asks (file_checks K R op after) after (Done (reported (judged_name R op))) true) { judged = judged_name R op }

-- a sum is made afresh from the tree, and never lasts
abbrev pub usage_work : Capacity → Rows → List (List ℕ) → Work
usage_work K R path =
    let node = target R.nodes path in
    asks ((PathNotFound when not (leads R.nodes path)) ∷ []) R (Sum node (usage K R.nodes node)) false
