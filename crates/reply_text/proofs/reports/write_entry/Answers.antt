use Rattle.file_screens.specs.Blocked.{shown}
use Rattle.line_parts.proofs.Sent.{told}
use Rattle.reply_text.proofs.ReportLines.{audit_in_time, audit_shown}
use Rattle.reply_text.proofs.reports.write_entry.Goals as goal

pub moment_text-requires : goal.moment_text-requires
moment_text-requires g c = audit_in_time c.args.audit.now c.args.place (shown c.at-entry.result) c.requires.entries c.at-entry.ensures

pub returns : goal.returns
returns g c = record { writes = told (audit_shown c.args.audit.now c.args.place (shown c.at-entry.result) c.moment_text.result c.at-entry.ensures c.moment_text.ensures) c.write_judged.ensures.writes }
