use Rattle.std.proofs.Common.{None, Some, ◌∙◌}
use Rattle.quota_usage.proofs.ChargeLaws.{left_from}
use Rattle.quota_usage.proofs.climb.charge.Goals as goal

pub returns-in_default-clause-made : goal.returns-in_default-clause-made
returns-in_default-clause-made g c =
    left_from c.args.tree.now.nodes c.args.change.now None c.take-minus.result c.take-minus.new.counters _ c.in_default.is c.take-minus.ensures.left

pub climb-requires-clause-fits : goal.climb-requires-clause-fits
climb-requires-clause-fits g c = c.take-minus.ensures.fits c.in-Some.to c.in-Some.is

pub returns-clause-made : goal.returns-clause-made
returns-clause-made g c =
    c.climb.ensures.made
    ∙ left_from c.args.tree.now.nodes c.args.change.now (Some c.in-Some.to) c.take-minus.result c.take-minus.new.counters _ c.in-Some.is c.take-minus.ensures.left
