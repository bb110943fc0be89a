-- The machine as it was before a refusal for a quota had actions run: older stores have entries of its commands.
use Rattle.std.specs.Prelude.{◌≡◌, ℕ, nat_lt, true, false, List, [], ◌∷◌, Option, Some, None, option_map}
use Rattle.fsrm_model.specs.declared.command.Command.{Command}
use Rattle.fsrm_model.specs.declared.command.Entry.{Entry}
use Rattle.fsrm_model.specs.declared.command.Entry.TheVariants.{Order, Finish}
use Rattle.fsrm_model.specs.declared.command.Refusal.{Refusal}
use Rattle.fsrm_model.specs.declared.command.Refusal.TheVariants.{ClockBack, ScreenBlocked}
use Rattle.fsrm_model.specs.declared.row.Capacity.{Capacity}
use Rattle.fsrm_model.specs.declared.row.Rows.{Rows}
use Rattle.fsrm_model.specs.commands.Check.{◌when◌, first}
use Rattle.fsrm_model.specs.store.Replays.{finish, is_scan_step}
use Rattle.fsrm_model.specs.commands.Step.{Stepped, Acted, screened_by, refused_leaving, accepted, work}
use Rattle.fsrm_model.specs.commands.Work.{Work}

-- what a refused command changed all the same: only a name that a screen blocked left something
abbrev pub old_left_by : Rows → ℕ → Work → Refusal → Option Acted
old_left_by R moment w (ScreenBlocked screen) = option_map (screened_by R moment) w.judged
old_left_by R moment w other = None

abbrev pub old_decided : Capacity → Rows → ℕ → Work → Option Refusal → Stepped
old_decided K R moment w (Some refusal) = refused_leaving K R moment refusal (old_left_by R moment w refusal)
old_decided K R moment w None = accepted K R moment w

abbrev pub old_step : Capacity → Rows → Command → Stepped
old_step K R c =
    let w = work K R c.moment c.deed in
    old_decided K R c.moment w (first ((ClockBack when nat_lt c.moment R.last_moment) ∷ w.checks))

-- the rows after an entry, and after entries one after another
abbrev pub after_old_entry : Capacity → Rows → Entry → Rows
after_old_entry K R (Order c) = (old_step K R c).rows
after_old_entry K R (Finish moment folder) = finish K R moment folder

abbrev pub old_replayed : Capacity → Rows → List Entry → Rows
old_replayed K R [] = R
old_replayed K R (entry ∷ entries) = old_replayed K (after_old_entry K R entry) entries

-- an entry that this machine made of rows: a finish, or a command that is no step of a scan and lasted
abbrev pub IsOldEntry : Capacity → Rows → Entry → Type 0
IsOldEntry K R (Order c) = (is_scan_step c.deed ≡ false) × ((old_step K R c).lasting ≡ true)
IsOldEntry K R (Finish moment folder) = Unit {0}

-- entries that this machine made one after another, each of the rows that those before it leave
abbrev pub AreOldEntries : Capacity → Rows → List Entry → Type 0
AreOldEntries K R [] = Unit {0}
AreOldEntries K R (entry ∷ entries) = IsOldEntry K R entry × AreOldEntries K (after_old_entry K R entry) entries
