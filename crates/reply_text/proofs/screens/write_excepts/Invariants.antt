use Rattle.std.proofs.Common.{◌+◌, ◌≤◌, take}
use Rattle.std.specs.Prelude.{flat_map, sum_by}
use Rattle.fsrm_model.specs.commands.Cost.{path_cost}
use Rattle.reply_text.specs.Lines.{except_text}
use Rattle.line_parts.proofs.Each.{Written}
use Rattle.reply_text.proofs.screens.write_excepts.Given as goal

-- the lines up to a place are shown
abbrev pub invariant-loop-place : goal.invariant-loop-place
invariant-loop-place g l =
    let engine = l.engine in
    record {
      writes : Written g.S.Sink l.fn.sink l.sink (flat_map (except_text engine.rows.nodes engine.rows.groups) (take l.place engine.rows.excepts));
      looks : l.steps ≤ l.fn.steps + sum_by (λ except. path_cost engine.rows.nodes except.folder) (take l.place engine.rows.excepts);
    }
