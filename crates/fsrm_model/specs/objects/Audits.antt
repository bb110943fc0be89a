-- The audit log: an entry for each name that a screen blocks or reports.
use Rattle.std.specs.Prelude.{ℕ, Bool, true, false, is_some, List, [], ◌∷◌, ◌++◌}
use Rattle.fsrm_model.specs.declared.command.Outcome.{Outcome}
use Rattle.fsrm_model.specs.declared.command.Outcome.TheVariants.{Done, Refused}
use Rattle.fsrm_model.specs.declared.command.Refusal.TheVariants.{ScreenBlocked}
use Rattle.fsrm_model.specs.declared.row.AuditRow.{AuditRow}
use Rattle.fsrm_model.specs.declared.row.Rows.{Rows}
use Rattle.fsrm_model.specs.objects.Runs.{last_entries}
use Rattle.fsrm_model.specs.commands.Work.{Judged}

-- the entry of a name: whether the screen is active, whose the file is, the folder in which it was to get the name, and the
-- screen's folder
abbrev pub audit_of : ℕ → Judged → AuditRow
audit_of moment judged =
    record {
      moment = moment;
      active = judged.screen.active;
      owner = judged.owner;
      folder = judged.folder;
      screen = judged.screen.folder;
      name = judged.name;
    }

-- a log with one more entry
abbrev pub with_audit : AuditRow → List AuditRow → List AuditRow
with_audit entry log = last_entries (log ++ entry ∷ [])

-- rows with the entry of a name
abbrev pub audited : ℕ → Judged → Rows → Rows
audited moment judged R = record R { audits = with_audit (audit_of moment judged) R.audits }

-- whether an outcome tells of a screen: one that blocks, or one that reports
abbrev pub tells_of_screen : Outcome → Bool
tells_of_screen (Done passive) = is_some passive
tells_of_screen (Refused (ScreenBlocked screen)) = true
tells_of_screen other = false
