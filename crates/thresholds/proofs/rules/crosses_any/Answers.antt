use Rattle.std.proofs.Common.{sym}
use Rattle.thresholds.proofs.RuleLaws.{crosses_none}
use Rattle.thresholds.proofs.rules.crosses_any.Goals as goal

pub returns-then-now-before : goal.returns-then-now-before
returns-then-now-before c = sym (crosses_none c.args.quota.now c.args.before c.args.now c.if-now-before.true)
