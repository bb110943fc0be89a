-- The commands on the settings of the service and on the log of actions.
use Rattle.std.specs.Prelude.{ℕ, true, false, [], None}
use Rattle.fsrm_model.specs.declared.command.Ask.TheVariants.{Settings, Acts}
use Rattle.fsrm_model.specs.declared.command.Outcome.TheVariants.{Done, Listing}
use Rattle.fsrm_model.specs.declared.row.Rows.{Rows}
use Rattle.fsrm_model.specs.commands.Work.{Work, asks}

-- how many minutes pass at least between two runs of an action whose own are -1
abbrev pub options_work : Rows → ℕ → Work
options_work R minutes = asks [] (record R { run_limit = minutes }) (Done None) true

-- lists change nothing, and nothing but the moment refuses them
abbrev pub settings_work : Rows → Work
settings_work R = asks [] R (Listing Settings) false

abbrev pub log_work : Rows → Work
log_work R = asks [] R (Listing Acts) false
