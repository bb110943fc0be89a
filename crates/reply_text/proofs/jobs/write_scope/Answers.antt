use Rattle.line_parts.proofs.Sent.{told}
use Rattle.reply_text.proofs.ReportLines.{scope_shown}
use Rattle.reply_text.proofs.jobs.write_scope.Goals as goal

pub returns : goal.returns
returns g c = record { writes = told (scope_shown c.args.path.now c.as_bytes.result.now c.as_bytes.ensures.value) c.send.ensures.writes }
