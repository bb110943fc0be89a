-- How many looks at nodes a command may take. A look is one node of the tree that is read, compared or lent.
use Rattle.std.specs.Prelude.{ℕ, ◌+◌, ◌*◌, nat_lt, List, length, sum_by, Some, if◌then◌else◌}
use Rattle.fsrm_model.specs.declared.row.Capacity.{Capacity}
use Rattle.fsrm_model.specs.declared.row.NodeRow.{NodeRow}
use Rattle.fsrm_model.specs.declared.row.Rows.{Rows}
use Rattle.fsrm_model.specs.declared.command.Act.{Act}
use Rattle.fsrm_model.specs.declared.command.Command.{Command}
use Rattle.fsrm_model.specs.declared.command.Deed.{Deed}
use Rattle.fsrm_model.specs.declared.command.Deed.TheVariants.{Step}
use Rattle.fsrm_model.specs.declared.command.Outcome.{Outcome}
use Rattle.fsrm_model.specs.declared.command.Ask.{Ask}
use Rattle.fsrm_model.specs.declared.command.Ask.TheVariants.{Quotas, Templates, Autos, Groups, Screens, Excepts, Jobs, Settings, Acts}
use Rattle.fsrm_model.specs.declared.command.Outcome.TheVariants.{Done, Sum, Listing, Report, Scanned, Refused}
use Rattle.fsrm_model.specs.declared.command.Refusal.TheVariants.{ScreenBlocked, QuotaExceeded}
use Rattle.fsrm_model.specs.declared.report.ReportAsk.{ReportAsk}
use Rattle.fsrm_model.specs.declared.report.ReportRow.{ReportRow}
use Rattle.fsrm_model.specs.declared.report.ReportRow.TheVariants.{File, Quota}
use Rattle.fsrm_base.specs.Numbers.{without_numbers}
use Rattle.fsrm_model.specs.objects.Acts.{folder_in}
pub use Rattle.fsrm_model.specs.commands.Commands.{op_cost, more_cost}
use Rattle.fsrm_model.specs.commands.Commands.{paths}
use Rattle.fsrm_model.specs.objects.Scan.{visits}
use Rattle.fsrm_model.specs.nodes.Tree.{children, path_of}
use Rattle.fsrm_model.specs.reports.Reports.{table}
use Rattle.fsrm_model.specs.texts.Text.{asked}

-- the names of all paths of a command
abbrev pub names_of : Deed → ℕ
names_of deed = sum_by length (paths deed)

-- a folder that is visited is looked at with each of its children up to 3 times
abbrev pub visit_cost : List NodeRow → ℕ → ℕ
visit_cost nodes folder = 3 * (1 + length (children nodes folder))

abbrev pub step_cost : Rows → ℕ → ℕ
step_cost R n = sum_by (visit_cost R.nodes) (without_numbers (visits n R.nodes R.unvisited) R.unvisited)

-- Up to 40 looks for each name of its paths, and 80 more. A step of a scan has no path: up to 40, and what its visits take
abbrev pub deed_cost : Rows → Deed → ℕ
deed_cost R (Step n) = 40 + step_cost R n
deed_cost R deed = 40 * (names_of deed + 2) + more_cost R.nodes deed

-- the looks of a command: none if its moment is too early
abbrev pub cost : Rows → Command → ℕ
cost R c = if nat_lt c.moment R.last_moment then 0 else deed_cost R c.deed

-- the looks at a path that is printed: up to 4 for the root and for each name
abbrev pub path_cost : List NodeRow → ℕ → ℕ
path_cost nodes n = 4 * (length (path_of nodes n) + 1)

-- the looks at all paths of a list
abbrev pub list_cost : Rows → Ask → ℕ
list_cost R (Quotas folder) = sum_by (λ quota. path_cost R.nodes quota.folder) (asked folder R.quotas)
list_cost R Templates = 0
list_cost R Autos = sum_by (λ auto. path_cost R.nodes auto.folder) R.autos
list_cost R Groups = 0
list_cost R Screens = sum_by (λ screen. path_cost R.nodes screen.folder) R.screens
list_cost R Excepts = sum_by (λ except. path_cost R.nodes except.folder) R.excepts
list_cost R Jobs = sum_by (λ job. path_cost R.nodes job.scope) R.jobs
list_cost R Settings = 0
list_cost R Acts = 0

-- the looks at a row of a report: at its path, if it has one, and at the file itself
abbrev pub row_cost : List NodeRow → ReportRow → ℕ
row_cost nodes (File node alloc) = 1 + path_cost nodes node
row_cost nodes (Quota folder percent) = path_cost nodes folder
row_cost nodes other = 0

abbrev pub rows_cost : List NodeRow → List ReportRow → ℕ
rows_cost nodes rows = sum_by (row_cost nodes) rows

-- the looks at all paths of a reply to a command of this moment, but those of its acts
abbrev pub print_cost : Capacity → Rows → ℕ → Outcome → ℕ
print_cost K R moment (Done (Some screen)) = path_cost R.nodes screen
print_cost K R moment (Sum node bytes) = path_cost R.nodes node
print_cost K R moment (Listing ask) = list_cost R ask
print_cost K R moment (Report ask) = rows_cost R.nodes (table K R ask moment)
print_cost K R moment (Scanned folder visited used) = path_cost R.nodes folder
print_cost K R moment (Refused (ScreenBlocked screen)) = path_cost R.nodes screen
print_cost K R moment (Refused (QuotaExceeded folder would limit)) = path_cost R.nodes folder
print_cost K R moment other = 0

-- the looks by which a report is made that a reply shows: each node is looked at up to 8 times
abbrev pub report_cost : List NodeRow → Outcome → ℕ
report_cost nodes (Report ask) = 8 * length nodes
report_cost nodes other = 0

-- the looks at the paths of acts
abbrev pub acts_cost : List NodeRow → List Act → ℕ
acts_cost nodes acts = sum_by (λ act. path_cost nodes (folder_in act.subject)) acts
