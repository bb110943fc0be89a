-- A screen whose lists and texts aren't too long has few bytes of texts, and a run changes none.
use Rattle.std.proofs.Common.{◌≡◌, ℕ, ◌≤◌, nat_lt, true, false, length}
use Rattle.fsrm_model.specs.declared.row.ScreenRow.{ScreenRow}
use Rattle.fsrm_model.specs.values.Limits.{most_actions, most_screen_groups}
use Rattle.fsrm_base.proofs.TestLaws.{ge_is, neither}
use Rattle.fsrm_objects.specs.Tables.{has_short_actions, is_long_screen, run_screen_at, screen_bytes}
use Rattle.fsrm_objects.proofs.QuotaRows.{actions_small}
use Rattle.fsrm_objects.proofs.RunRows.{action_run}

pub screen_fits : (row : ScreenRow) → is_long_screen row ≡ false → has_short_actions row ≡ true → screen_bytes row ≤ 8192
screen_fits row few short =
    let its = neither (nat_lt most_screen_groups (length row.groups)) (nat_lt most_actions (length row.actions)) few in
    actions_small row.actions (ge_is 8 (length row.actions) its.1) short

pub screen_run_bytes : (moment place : ℕ) (screen : ScreenRow) → screen_bytes (run_screen_at moment place screen) ≡ screen_bytes screen
screen_run_bytes moment place screen = action_run moment place screen.actions
