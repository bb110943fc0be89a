-- The nodes and objects that an outcome names: each of them is there.
use Rattle.std.specs.Prelude.{◌≡◌, ℕ, true, Some, None}
use Rattle.fsrm_model.specs.declared.command.Ask.TheVariants.{Quotas, Templates, Autos, Groups, Screens, Excepts, Jobs, Settings, Acts}
use Rattle.fsrm_model.specs.declared.command.Outcome.{Outcome}
use Rattle.fsrm_model.specs.declared.command.Outcome.TheVariants.{Done, Sum, Listing, Report, Scanned, Refused}
use Rattle.fsrm_model.specs.declared.command.Refusal.TheVariants.{ScreenBlocked, QuotaExceeded}
use Rattle.fsrm_model.specs.declared.row.Rows.{Rows}
use Rattle.fsrm_base.specs.Keyed.{has_row}
use Rattle.fsrm_model.specs.objects.Quota.{folder_of}
use Rattle.fsrm_model.specs.nodes.Tree.{number, is_folder}
use Rattle.fsrm_model.specs.reports.Filters.{is_filter}

abbrev pub IsNode : Rows → ℕ → Type 0
IsNode R n = has_row number n R.nodes ≡ true

abbrev pub IsNamed : Rows → Outcome → Type 0
IsNamed R (Done None) = Unit {0}
IsNamed R (Done (Some screen)) = IsNode R screen
IsNamed R (Sum node bytes) = IsNode R node
IsNamed R (Listing (Quotas None)) = Unit {0}
IsNamed R (Listing (Quotas (Some folder))) = has_row folder_of folder R.quotas ≡ true
IsNamed R (Listing Templates) = Unit {0}
IsNamed R (Listing Autos) = Unit {0}
IsNamed R (Listing Groups) = Unit {0}
IsNamed R (Listing Screens) = Unit {0}
IsNamed R (Listing Excepts) = Unit {0}
IsNamed R (Listing Jobs) = Unit {0}
IsNamed R (Listing Settings) = Unit {0}
IsNamed R (Listing Acts) = Unit {0}
-- a report is on a folder, and its filter has values in their ranges
IsNamed R (Report ask) = (is_folder R.nodes ask.scope ≡ true) × (is_filter ask.filter ≡ true)
IsNamed R (Scanned folder visited used) = IsNode R folder
IsNamed R (Refused (ScreenBlocked screen)) = IsNode R screen
IsNamed R (Refused (QuotaExceeded folder would limit)) = IsNode R folder
IsNamed R (Refused other) = Unit {0}
