use Rattle.std.proofs.Common.{◌∙◌}
use Rattle.reply_text.proofs.ActLines.{quota_act, screen_act}
use Rattle.line_parts.proofs.Sent.{told}
use Rattle.reply_text.proofs.acts.write_line.Goals as goal

pub returns-in-Quota : goal.returns-in-Quota
returns-in-Quota g c =
    record {
      writes = told
          (quota_act c.args.act.now c.in-Quota.folder c.in-Quota.percent c.from.result c.as_bytes-kind.result.now c.args.path.now c.args.text.now c.as_bytes-path.result.now c.as_bytes-text.result.now
          c.in-Quota.is c.from.ensures (c.as_bytes-kind.ensures.value ∙ c.letter.ensures) c.as_bytes-path.ensures.value c.as_bytes-text.ensures.value)
          c.send.ensures.writes;
    }

pub returns-in-Screen : goal.returns-in-Screen
returns-in-Screen g c =
    record {
      writes = told
          (screen_act c.args.act.now c.in-Screen.folder c.as_bytes-kind.result.now c.args.path.now c.args.text.now c.as_bytes-path.result.now c.as_bytes-text.result.now
          c.in-Screen.is (c.as_bytes-kind.ensures.value ∙ c.letter.ensures) c.as_bytes-path.ensures.value c.as_bytes-text.ensures.value)
          c.send-in-Screen.ensures.writes;
    }
