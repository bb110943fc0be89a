use Rattle.std.proofs.Common.{sym, ◌∙◌}
use Rattle.storage_reports.proofs.Mixes.{folded_ascii}
use Rattle.storage_reports.proofs.type_text.folded_name.Goals as goal

pub returns-then-is_ascii : goal.returns-then-is_ascii
returns-then-is_ascii c = c.in_ok-to_ascii_lowercase.ensures.ok ∙ sym (folded_ascii c.args.name.now c.if-is_ascii.ensures.cases)
