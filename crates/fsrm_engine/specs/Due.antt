-- The acts that commands make due, as the engine finds them, and what is left when they ran.
use Rattle.std.specs.Prelude.{◌≡◌, ℕ, ◌≤◌, true, List, [], ◌∷◌, map, Some, None}
use Rattle.fsrm_base.specs.Keyed.{with_change}
use Rattle.fsrm_model.specs.declared.command.Act.{Act}
use Rattle.fsrm_model.specs.declared.command.Answer.{Answer}
use Rattle.fsrm_model.specs.declared.command.Outcome.TheVariants.{Refused}
use Rattle.fsrm_model.specs.declared.row.QuotaRow.{QuotaRow}
use Rattle.fsrm_model.specs.declared.row.QuotaState.TheVariants.{Complete}
use Rattle.fsrm_model.specs.values.Limits.{latest_moment}
use Rattle.fsrm_model.specs.objects.Quota.{folder_of, peaked}
use Rattle.fsrm_model.specs.objects.QuotaStates.{in_state, queued}
use Rattle.quota_usage.specs.declared.change.Change.{Change}
use Rattle.quota_usage.specs.declared.change.Exceeded.{Exceeded}
use Rattle.quota_usage.specs.Counters.{used_in}
use Rattle.rescan.specs.Courses.{Course, Turns}
use Rattle.thresholds.specs.Settled.{due_in}
use Rattle.fsrm_engine.specs.declared.parts.Parts.{Parts}
use Rattle.fsrm_parts.specs.Crossing.{counted_acts}
use Rattle.fsrm_parts.specs.Faults.{exceeded_refusal, refused_answer}
use Rattle.fsrm_engine.specs.Machine.{charged_parts, ended, recounted, AreCounted, IsIdle, IsSound, Ran}
use Rattle.fsrm_parts.specs.Peaks.{raised}

-- the acts that are due after a change of the counters, of quotas whose peaks were raised
abbrev pub charged_acts : Parts → Change → ℕ → List Act
charged_acts parts change moment =
    let charged = charged_parts parts change moment in
    counted_acts parts.usage charged.usage parts.run_limit moment charged.objects.quotas

-- the acts that are due when a quota refuses: that would be due if it used what it refuses
abbrev pub refused_acts : Parts → Exceeded → ℕ → List Act
refused_acts parts exceeded moment =
    due_in parts.objects None (used_in parts.usage exceeded.folder) (Some exceeded.would) parts.run_limit moment exceeded.folder

-- actions may come to run at this moment: the counters are the sums, no action waits, and the moment is in range
pub record MaySettle (parts : Parts) (moment : ℕ) : Type 0 where
  pub counted : AreCounted parts
  pub idle : IsIdle parts
  pub in_range : moment ≤ latest_moment

-- what a refusal leaves: nothing, or, if acts ran, that
abbrev pub LeavesActs : List Act → Parts → Parts → Parts → ℕ → Exceeded → Answer → Type 0
LeavesActs [] old run new moment exceeded answer = (new ≡ old) × (answer ≡ refused_answer (exceeded_refusal exceeded))
LeavesActs (act ∷ acts) old run new moment exceeded answer =
    (new ≡ ended run moment) × (answer ≡ record { outcome = Refused (exceeded_refusal exceeded); lasting = true })

-- a quota refuses at this moment
pub record Refuses (old new : Parts) (moment : ℕ) (exceeded : Exceeded) (answer : Answer) : Type 0 where
  pub run : Parts
  pub ran : Ran old run moment (refused_acts old exceeded moment)
  pub leaves : LeavesActs (refused_acts old exceeded moment) old run new moment exceeded answer

-- ---- scans that finish
-- a scan may finish at this moment, also before the last one: the parts are sound, no action waits, and the moment is in range
pub record MayFinish (parts : Parts) (moment : ℕ) : Type 0 where
  pub sound : IsSound parts
  pub idle : IsIdle parts
  pub in_range : moment ≤ latest_moment

-- the quotas once a folder's is complete
abbrev pub with_complete : ℕ → List QuotaRow → List QuotaRow
with_complete folder quotas = with_change folder_of folder (in_state Complete) quotas

-- A folder's quota counts from now on. Its peak may rise, the actions run of the thresholds that it reaches, and the command ends
pub record Completes (old new : Parts) (folder moment : ℕ) : Type 0 where
  pub counting : Parts
  pub run : Parts
  pub parts_are : counting ≡ record (recounted old (with_complete folder old.objects.quotas)) { objects = counting.objects }
  pub objects_are : counting.objects ≡ record old.objects { quotas = with_change folder_of folder (raised counting.usage moment) (with_complete folder old.objects.quotas) }
  pub peaks_are : map (peaked old.tree.size old.tree.nodes moment) counting.objects.quotas ≡ map (peaked old.tree.size old.tree.nodes moment) (with_complete folder old.objects.quotas)
  pub counted : AreCounted counting
  pub ran : Ran counting run moment (due_in counting.objects None None (used_in counting.usage folder) old.run_limit moment folder)
  pub ends : new ≡ ended run moment

-- the scan of a folder is finished, and the next one begins
pub record Finishes (old new : Parts) (folder moment : ℕ) : Type 0 where
  pub scans : Course
  pub queue_is : scans.queue ≡ queued old.scans.queue folder Complete
  pub turns : Turns old.scans scans old.tree
  pub completes : Completes (record old { scans = scans }) new folder moment
