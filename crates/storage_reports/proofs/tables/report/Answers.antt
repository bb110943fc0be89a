use Rattle.storage_reports.proofs.FilterParts.{pattern_in}
use Rattle.storage_reports.proofs.tables.report.Goals as goal

pub report_over-requires-clause-pattern : goal.report_over-requires-clause-pattern
report_over-requires-clause-pattern g c = pattern_in c.args.ask.now.filter c.requires.filter
