use Rattle.std.proofs.Common.{◌+◌, ◌≤◌, take}
use Rattle.std.specs.Prelude.{flat_map, sum_by}
use Rattle.fsrm_model.specs.commands.Cost.{path_cost}
use Rattle.reply_text.specs.ReportLines.{job_text}
use Rattle.line_parts.proofs.Each.{Written}
use Rattle.reply_text.proofs.jobs.write_jobs.Given as goal

-- the lines up to a place are shown
abbrev pub invariant-loop-place : goal.invariant-loop-place
invariant-loop-place g l =
    let engine = l.engine in
    record {
      writes : Written g.S.Sink l.fn.sink l.sink (flat_map (job_text engine.rows.nodes) (take l.place engine.rows.jobs));
      looks : l.steps ≤ l.fn.steps + sum_by (λ job. path_cost engine.rows.nodes job.scope) (take l.place engine.rows.jobs);
    }
