use Rattle.std.proofs.Common.{◌+◌, ◌≤◌, take}
use Rattle.std.specs.Prelude.{flat_map, sum_by}
use Rattle.line_parts.proofs.Each.{Written}
use Rattle.notice_text.specs.Outbox.{notice_cost, notice_lines}
use Rattle.notice_text.proofs.outboxes.write_notices.Given as goal

-- the notices up to a place are shown
abbrev pub invariant-loop-notice : goal.invariant-loop-notice
invariant-loop-notice g l =
    let rows = l.engine.rows in
    record {
      writes : Written g.S.Sink l.fn.sink l.sink (flat_map (notice_lines l.engine.size rows) (take l.notice-index l.notices));
      looks : l.steps ≤ l.fn.steps + sum_by (notice_cost rows) (take l.notice-index l.notices);
    }
