-- A step of the scan at the head of the queue, and the command that queues a quota for one.
use Rattle.std.specs.Prelude.{ℕ, ◌-◌, ◌==◌, List, [], ◌∷◌, ◌++◌, length, Some, None, unwrap_or, if◌then◌else◌}
use Rattle.std.specs.Option.{option_map_or}
use Rattle.std.specs.Prelude.{false}
use Rattle.fsrm_model.specs.declared.command.Outcome.TheVariants.{Done, Scanned}
use Rattle.fsrm_model.specs.declared.command.Refusal.TheVariants.{InvalidCombination, NothingToScan}
use Rattle.fsrm_model.specs.declared.row.Capacity.{Capacity}
use Rattle.fsrm_model.specs.declared.row.QuotaState.TheVariants.{Complete, Rebuilding}
use Rattle.fsrm_model.specs.declared.row.Rows.{Rows}
use Rattle.fsrm_model.specs.commands.Check.{◌when◌}
use Rattle.fsrm_model.specs.nodes.FileOps.{target}
use Rattle.fsrm_model.specs.objects.Quota.{quota_of, counts}
use Rattle.fsrm_model.specs.objects.QuotaStates.{is_disabled, state_of, with_state, head}
use Rattle.fsrm_model.specs.commands.QuotaWork.{quota_checks}
use Rattle.fsrm_model.specs.objects.Scan.{visits}
use Rattle.fsrm_model.specs.nodes.Tree.{usage}
use Rattle.fsrm_model.specs.commands.Work.{Work, asks}

-- A quota that is complete or incomplete is scanned anew, after those that wait already. Only from complete does
-- this last: what a scan has counted is lost with the run
abbrev pub scan_work : Rows → List (List ℕ) → Work
scan_work R path =
    let folder = target R.nodes path in
    asks (quota_checks R path ++ (InvalidCombination when is_disabled (state_of R folder)) ∷ [])
    (with_state R folder Rebuilding) (Done None) (option_map_or counts (quota_of R folder) false)

-- At most so many visits of the active scan. If nothing is unvisited then, the scan is finished: its quota is
-- complete, and the next one begins
abbrev pub step_work : Capacity → Rows → ℕ → Work
step_work K R n =
    let scanned = unwrap_or (head R.queue) 0 in
    let left = visits n R.nodes R.unvisited in
    let visited = record R { unvisited = left } in
    let ends = length left == 0 in
    asks ((NothingToScan when (length R.queue == 0)) ∷ [])
    (if ends then with_state visited scanned Complete else visited)
    (Scanned scanned (length R.unvisited - length left) (if ends then Some (usage K R.nodes scanned) else None))
    ends
