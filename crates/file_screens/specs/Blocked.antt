-- What screens are asked over, what is told of the one that judges a name, and an entry of the audit log as it is lent.
use Rattle.std.specs.Prelude.{◌&&◌, Bool, List}
use Rattle.std.specs.List.{list_all}
use Rattle.fsrm_base.specs.Keyed.{has_row}
use Rattle.fsrm_model.specs.declared.row.AuditRow.{AuditRow}
use Rattle.fsrm_model.specs.declared.row.ExceptRow.{ExceptRow}
use Rattle.fsrm_model.specs.declared.row.GroupRow.{GroupRow}
use Rattle.fsrm_model.specs.declared.row.NodeRow.{NodeRow}
use Rattle.fsrm_model.specs.declared.row.Rows.{Rows}
use Rattle.fsrm_model.specs.declared.row.ScreenRow.{ScreenRow}
use Rattle.fsrm_model.specs.nodes.Fresh.{rows_of_nodes}
use Rattle.fsrm_model.specs.values.Patterns.{group_number}
use Rattle.fsrm_objects.specs.Tables.{Tables}
use Rattle.file_screens.specs.declared.answer.Blocked.{Blocked}
use Rattle.file_screens.specs.declared.audit.AuditView.{AuditView}

-- the rows that screens are asked over: nodes, groups, screens and exceptions
abbrev pub screened_rows : List NodeRow → List GroupRow → Tables → Rows
screened_rows nodes groups tables =
    record (rows_of_nodes nodes) { groups = groups; screens = tables.screens; excepts = tables.excepts }

-- whether each group is there that a screen or an exception names
abbrev pub are_known : List GroupRow → Tables → Bool
are_known groups tables =
    list_all (λ (screen : ScreenRow). list_all (λ n. has_row group_number n groups) screen.groups) tables.screens
    && list_all (λ (except : ExceptRow). list_all (λ n. has_row group_number n groups) except.groups) tables.excepts

-- what is told of the screen that judges a name
abbrev pub told : ScreenRow → Blocked
told screen = record { screen = screen.folder; active = screen.active }

-- an entry as it is lent
abbrev pub shown : AuditView → AuditRow
shown view =
    record {
      moment = view.moment;
      active = view.active;
      owner = view.owner;
      folder = view.folder;
      screen = view.screen;
      name = view.name.now;
    }
