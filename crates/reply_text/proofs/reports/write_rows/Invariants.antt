use Rattle.std.proofs.Common.{◌+◌, ◌≤◌, take}
use Rattle.std.specs.Prelude.{flat_map, sum_by}
use Rattle.fsrm_model.specs.commands.Cost.{row_cost}
use Rattle.line_parts.proofs.Each.{Written}
use Rattle.reply_text.specs.ReportLines.{row_text}
use Rattle.reply_text.proofs.reports.write_rows.Given as goal

-- the rows up to a place are shown
abbrev pub invariant-loop-row : goal.invariant-loop-row
invariant-loop-row g l =
    let engine = l.engine in
    record {
      writes : Written g.S.Sink l.fn.sink l.sink (flat_map (row_text engine.size engine.rows l.kind) (take l.row-index l.rows));
      looks : l.steps ≤ l.fn.steps + sum_by (row_cost engine.rows.nodes) (take l.row-index l.rows);
    }
