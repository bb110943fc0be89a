use Rattle.std.proofs.Common.{◌∙◌}
use Rattle.line_parts.proofs.Sent.{told}
use Rattle.notice_text.specs.Expand.{values_of}
use Rattle.notice_text.proofs.LineLaws.{quota_head, screen_head}
use Rattle.notice_text.proofs.lines.write_head.Goals as goal

pub returns-in-Quota : goal.returns-in-Quota
returns-in-Quota g c =
    record {
      writes = told
          (quota_head c.args.act.now (values_of c.args.facts.now) c.in-Quota.folder c.in-Quota.percent c.from-in-Quota.result c.from.result c.as_bytes-kind.result.now c.as_bytes-path.result.now
          c.in-Quota.is c.from-in-Quota.ensures c.from.ensures (c.as_bytes-kind.ensures.value ∙ c.letter.ensures) c.as_bytes-path.ensures.value)
          c.send.ensures.writes;
    }

pub returns-in-Screen : goal.returns-in-Screen
returns-in-Screen g c =
    record {
      writes = told
          (screen_head c.args.act.now (values_of c.args.facts.now) c.in-Screen.folder c.from.result c.as_bytes-kind.result.now c.as_bytes-path.result.now
          c.in-Screen.is c.from.ensures (c.as_bytes-kind.ensures.value ∙ c.letter.ensures) c.as_bytes-path.ensures.value)
          c.send-in-Screen.ensures.writes;
    }
