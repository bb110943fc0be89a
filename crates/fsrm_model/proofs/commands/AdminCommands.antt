-- The commands on settings and on the log: each one's work is orderly, and leaves the rows of a store.
use Rattle.std.proofs.Common.{◌≡◌, ℕ, [], true, refl, nat_le}
use Rattle.std.specs.Prelude.{◌&&◌}
use Rattle.fsrm_model.specs.declared.row.Capacity.{Capacity}
use Rattle.fsrm_model.specs.declared.row.Rows.{Rows}
use Rattle.fsrm_model.specs.commands.AdminWork.{options_work, settings_work, log_work}
use Rattle.fsrm_model.specs.values.Limits.{most_minutes}
use Rattle.fsrm_base.proofs.TestLaws.{le_is}
use Rattle.fsrm_model.proofs.commands.Orderly.{IsStill, KeepsValid, change_still, show_still}
use Rattle.fsrm_model.proofs.valid.RowsKept.{run_limit_followed}
use Rattle.fsrm_model.proofs.journal.Alike.{WorksAlike, alike, lasting_alike}
use Rattle.fsrm_model.specs.store.Lasting.{lasting}

pub options_still : (K : Capacity) (R : Rows) (minutes : ℕ) → IsStill K R (options_work R minutes)
options_still K R minutes = change_still K R [] _ tt refl

pub options_kept : (K : Capacity) (R : Rows) (minutes : ℕ) → (true && nat_le minutes most_minutes) ≡ true → KeepsValid K R (options_work R minutes)
options_kept K R minutes legal s h = run_limit_followed K R minutes s (le_is minutes most_minutes legal)

pub settings_still : (K : Capacity) (R : Rows) → IsStill K R (settings_work R)
settings_still K R = show_still K R [] _ tt tt (λ store h. tt)

pub log_still : (K : Capacity) (R : Rows) → IsStill K R (log_work R)
log_still K R = show_still K R [] _ tt tt (λ store h. tt)

-- ---- over rows and over what is kept of them
pub options_alike : (R : Rows) (minutes : ℕ) → WorksAlike (options_work R minutes) (options_work (lasting R) minutes)
options_alike R minutes = alike (lasting_alike (record R { run_limit = minutes })) tt

pub settings_alike : (R : Rows) → WorksAlike (settings_work R) (settings_work (lasting R))
settings_alike R = alike (lasting_alike R) tt

pub log_alike : (R : Rows) → WorksAlike (log_work R) (log_work (lasting R))
log_alike R = alike (lasting_alike R) tt
