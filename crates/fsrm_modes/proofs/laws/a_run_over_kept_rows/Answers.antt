use Rattle.std.proofs.Common.{◌≡◌, ◌⊎◌, inl, inr, ℕ, ◌+◌, ◌≤◌, ◌<◌, Some, List, [], length, refl, sym, ◌∙◌, ap, arith}
use Rattle.std.proofs.lemmas.Bool.{cases_lt}
use Rattle.fsrm_model.specs.declared.row.Capacity.{Capacity}
use Rattle.fsrm_model.specs.declared.row.Rows.{Rows}
use Rattle.fsrm_outside.specs.Members.{Members}
use Rattle.fsrm_outside.specs.Parts.{Parts}
use Rattle.fsrm_outside.specs.Runs.{CrashSafe}
use Rattle.fsrm_store.specs.States.{state_of}
use Rattle.fsrm_store.specs.States.State.{Holds}
use Rattle.fsrm_session.specs.Covers.{Covers}
use Rattle.fsrm_session.specs.Members.{members}
use Rattle.fsrm_session.specs.Turns.{Turn}
use Rattle.fsrm_modes.proofs.WholeRuns.{lasting_of}
use Rattle.fsrm_modes.proofs.laws.a_run_over_kept_rows.Goals as goal

-- before anything is shown no turn needs to be kept
none_shown : (K : Capacity) (R : Rows) (turns : List Turn) (was now shown : ℕ) (parts : Parts) → state_of parts ≡ Holds K R → now ≡ was → now ≡ was + shown → Covers K R turns shown parts
none_shown K R turns was now shown parts holds same more = record {
  done = [];
  rest = turns;
  are = refl;
  holds = holds ∙ ap (Holds K) (sym (lasting_of K R parts holds));
  acknowledged = omega arith;
}

covered : {O : Type 0} (M : Members O) (K : Capacity) (R : Rows) (turns : List Turn) (start : ℕ) (old new : O) → ((kept : Parts) → M.images old start kept → state_of kept ≡ Holds K R) → (safe : CrashSafe M (Covers K R turns) start old new)
    → (t m : ℕ) (parts : Parts) → M.disk_clock new ≡ Some t → start ≤ m → m ≤ t → M.images new m parts → (shown : ℕ) → length (M.shown_at new m) ≡ length (M.shown_at old start) + shown → (m < safe.first) ⊎ (safe.first ≤ m) → Covers K R turns shown parts
covered M K R turns start old new kept safe t m parts told from to left shown more (inl early) =
    none_shown K R turns (length (M.shown_at old start)) (length (M.shown_at new m)) shown parts (kept parts (safe.before t m parts told from early to left)) (ap length (safe.unshown t m told from early to)) more
covered M K R turns start old new kept safe t m parts told from to left shown more (inr late) = safe.since t m parts told late to left shown more

pub returns : goal.returns
returns g c K R turns start old new kept safe t m parts told from to left shown more =
    covered (members g.O.Source g.O.Sink g.O.Disk) K R turns start old new kept safe t m parts told from to left shown more (cases_lt m safe.first)
