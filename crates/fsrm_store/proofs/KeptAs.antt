-- Which entry a command that lasts is kept as.
use Rattle.std.proofs.Common.{◌≡◌, ℕ, ◌==◌, Bool, true, false, [], ◌∷◌, None, length, nat_lt, sym}
use Rattle.std.specs.Prelude.{if◌then◌else◌}
use Rattle.fsrm_model.specs.commands.Check.{◌when◌, first}
use Rattle.fsrm_model.specs.commands.ScanWork.{step_work}
use Rattle.fsrm_model.specs.commands.Step.{decided, lasted, unlasting, screened, step}
use Rattle.fsrm_model.specs.commands.Work.{Work}
use Rattle.fsrm_model.specs.declared.command.Command.{Command}
use Rattle.fsrm_model.specs.declared.command.Deed.{Deed}
use Rattle.fsrm_model.specs.declared.command.Deed.TheVariants.{Step}
use Rattle.fsrm_model.specs.declared.command.Refusal.TheVariants.{ClockBack, NothingToScan}
use Rattle.fsrm_model.specs.declared.row.Capacity.{Capacity}
use Rattle.fsrm_model.specs.declared.row.Rows.{Rows}
use Rattle.fsrm_model.specs.objects.QuotaStates.{followed}
use Rattle.fsrm_model.specs.store.Replays.{is_finished_scan, is_scan_step}
use Rattle.fsrm_model.proofs.commands.ScanCommands.{step_lasts}

-- a step of a scan lasts only if it finishes the scan
step_finished : (K : Capacity) (R : Rows) (moment n : ℕ) → (step K R (record { moment = moment; deed = Step n })).lasting ≡ true → is_finished_scan (step K R (record { moment = moment; deed = Step n })).outcome ≡ true
step_finished K R moment n l = by (nat_lt moment R.last_moment) (length R.queue == 0) l
  where
    w : Work
    w = step_work K R n

    after : Rows
    after = followed R w.effect

    at : (lasts : Bool) → lasts ≡ is_finished_scan w.outcome → (if lasts then lasted K R (screened after moment None) moment w.outcome else unlasting after w.outcome).lasting ≡ true
        → is_finished_scan (if lasts then lasted K R (screened after moment None) moment w.outcome else unlasting after w.outcome).outcome ≡ true
    at true is l = sym is
    at false is l = absurd (cc l)

    by : (late none : Bool) → (decided K R moment w (first ((ClockBack when late) ∷ (NothingToScan when none) ∷ []))).lasting ≡ true → is_finished_scan (decided K R moment w (first ((ClockBack when late) ∷ (NothingToScan when none) ∷ []))).outcome ≡ true
    by true none l = absurd (cc l)
    by false true l = absurd (cc l)
    by false false l = at w.lasts (step_lasts K R n) l

deed_finished : (K : Capacity) (R : Rows) (moment : ℕ) (deed : Deed) → (step K R (record { moment = moment; deed = deed })).lasting ≡ true → is_scan_step deed ≡ true → is_finished_scan (step K R (record { moment = moment; deed = deed })).outcome ≡ true
deed_finished K R moment (Step n) l s = step_finished K R moment n l
deed_finished K R moment other l s = absurd (cc s)

pub lasting_finished : (K : Capacity) (R : Rows) (c : Command) → (step K R c).lasting ≡ true → is_scan_step c.deed ≡ true → is_finished_scan (step K R c).outcome ≡ true
lasting_finished K R c l s = deed_finished K R c.moment c.deed l s
