use Rattle.std.proofs.Common.{◌+◌, ◌≤◌, take}
use Rattle.std.specs.Prelude.{flat_map, sum_by}
use Rattle.fsrm_model.specs.commands.Cost.{path_cost}
use Rattle.reply_text.specs.Lines.{lines_text}
use Rattle.line_parts.proofs.Each.{Written}
use Rattle.reply_text.proofs.lists.write_quotas.Given as goal

-- the lines up to a place are shown
abbrev pub invariant-loop-place : goal.invariant-loop-place
invariant-loop-place g l =
    let engine = l.engine in
    record {
      writes : Written g.S.Sink l.fn.sink l.sink (flat_map (lines_text engine.size engine.rows.nodes) (take l.place engine.rows.quotas));
      looks : l.steps ≤ l.fn.steps + sum_by (λ quota. path_cost engine.rows.nodes quota.folder) (take l.place engine.rows.quotas);
    }
