use Rattle.std.proofs.Common.{◌+◌, ◌≤◌, take}
use Rattle.std.specs.Prelude.{flat_map, sum_by}
use Rattle.fsrm_model.specs.commands.Cost.{path_cost}
use Rattle.reply_text.specs.Lines.{auto_text}
use Rattle.line_parts.proofs.Each.{Written}
use Rattle.reply_text.proofs.quota_templates.write_autos.Given as goal

-- the lines up to a place are shown
abbrev pub invariant-loop-place : goal.invariant-loop-place
invariant-loop-place g l =
    let engine = l.engine in
    record {
      writes : Written g.S.Sink l.fn.sink l.sink (flat_map (auto_text engine.rows.nodes engine.rows.templates) (take l.place engine.rows.autos));
      looks : l.steps ≤ l.fn.steps + sum_by (λ auto. path_cost engine.rows.nodes auto.folder) (take l.place engine.rows.autos);
    }
