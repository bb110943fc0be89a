-- What a command that no check refuses answers, and the nodes that it leaves: those of its work.
use Rattle.std.proofs.Common.{◌≡◌, ℕ, ◌==◌, Bool, true, false, List, [], ◌∷◌, length, refl}
use Rattle.std.specs.Prelude.{Option, Some, None, option_map, unwrap_or, if◌then◌else◌}
use Rattle.fsrm_model.specs.declared.command.Act.{Act}
use Rattle.fsrm_model.specs.declared.command.FileOp.{FileOp}
use Rattle.fsrm_model.specs.declared.command.FileOp.TheVariants.{Mkdir, Create, Resize, Touch, Move, Remove}
use Rattle.fsrm_model.specs.declared.command.Outcome.TheVariants.{Refused}
use Rattle.fsrm_model.specs.declared.command.Refusal.{Refusal}
use Rattle.fsrm_model.specs.declared.command.Refusal.TheVariants.{ScreenBlocked, QuotaExceeded}
use Rattle.fsrm_model.specs.declared.row.Capacity.{Capacity}
use Rattle.fsrm_model.specs.declared.row.QuotaState.TheVariants.{Complete}
use Rattle.fsrm_model.specs.declared.row.Rows.{Rows}
use Rattle.fsrm_model.specs.nodes.FileOps.{plain}
use Rattle.fsrm_model.specs.commands.FileWork.{file_effect}
use Rattle.fsrm_model.specs.objects.QuotaStates.{followed, with_state, head}
use Rattle.fsrm_model.specs.objects.Scan.{visits}
use Rattle.fsrm_model.specs.commands.ScanWork.{step_work}
use Rattle.fsrm_model.specs.objects.DueActions.{due_refused}
use Rattle.fsrm_model.specs.commands.Step.{Stepped, acted, screened_by, screened, ran_if_any, refused_leaving, refused, decided, lasted, unlasting}
use Rattle.fsrm_model.specs.commands.Work.{Work, Judged}

-- what is known of a refusal: it leaves nothing, or what actions leave that ran, or what a name leaves that a screen judges
pub refused_cases : (K : Capacity) (R : Rows) (moment : ℕ) (w : Work) (refusal : Refusal) (P : Stepped → Type 0) → P (unlasting R (Refused refusal)) → ((acts : List Act) → P (lasted K R (acted moment acts R) moment (Refused refusal))) → ((screen : ℕ) (j : Judged) → refusal ≡ ScreenBlocked screen → w.judged ≡ Some j → P (lasted K R (screened_by R moment j) moment (Refused refusal))) → P (refused K R moment w refusal)
refused_cases K R moment w (ScreenBlocked screen) P nothing some noted = at w.judged refl
  where
    at : (o : Option Judged) → w.judged ≡ o → P (refused_leaving K R moment (ScreenBlocked screen) (option_map (screened_by R moment) o))
    at None e = nothing
    at (Some j) e = noted screen j refl e
refused_cases K R moment w (QuotaExceeded folder would limit) P nothing some noted = at (due_refused K R w.effect.nodes moment)
  where
    at : (acts : List Act) → P (refused_leaving K R moment (QuotaExceeded folder would limit) (ran_if_any moment acts R))
    at [] = nothing
    at (act ∷ acts) = some (act ∷ acts)
refused_cases K R moment w other P nothing some noted = nothing

-- a name that is judged leaves the nodes
pub screened_nodes : (E : Rows) (moment : ℕ) (o : Option Judged) → (screened E moment o).rows.nodes ≡ E.nodes
screened_nodes E moment None = refl
screened_nodes E moment (Some j) = refl

pub outcome_kept : (K : Capacity) (R : Rows) (moment : ℕ) (w : Work) → (decided K R moment w None).outcome ≡ w.outcome
outcome_kept K R moment w = by w.lasts
  where
    by : (b : Bool) → (if b then lasted K R (screened (followed R w.effect) moment w.judged) moment w.outcome else unlasting (followed R w.effect) w.outcome).outcome ≡ w.outcome
    by true = refl
    by false = refl

pub nodes_kept : (K : Capacity) (R : Rows) (moment : ℕ) (w : Work) → (decided K R moment w None).rows.nodes ≡ w.effect.nodes
nodes_kept K R moment w = by w.lasts
  where
    by : (b : Bool) → (if b then lasted K R (screened (followed R w.effect) moment w.judged) moment w.outcome else unlasting (followed R w.effect) w.outcome).rows.nodes ≡ w.effect.nodes
    by true = screened_nodes (followed R w.effect) moment w.judged
    by false = refl

-- a step of a scan leaves the nodes
pub step_nodes : (K : Capacity) (R : Rows) (n : ℕ) → (step_work K R n).effect.nodes ≡ R.nodes
step_nodes K R n = by (length (visits n R.nodes R.unvisited) == 0)
  where
    visited : Rows
    visited = record R { unvisited = visits n R.nodes R.unvisited }

    by : (b : Bool) → (if b then with_state visited (unwrap_or (head R.queue) 0) Complete else visited).nodes ≡ R.nodes
    by true = refl
    by false = refl

-- a file operation leaves the nodes that it makes
pub effect_nodes : (R : Rows) (op : FileOp) (moment : ℕ) → (file_effect R op moment).nodes ≡ plain R.nodes op moment
effect_nodes R (Mkdir path owner) moment = refl
effect_nodes R (Create path length owner) moment = refl
effect_nodes R (Resize path length) moment = refl
effect_nodes R (Touch path) moment = refl
effect_nodes R (Move from to) moment = refl
effect_nodes R (Remove path) moment = refl
