use Rattle.std.proofs.Common.{sym}
use Rattle.fsrm_base.proofs.TestLaws.{both}
use Rattle.volume_tree.proofs.kept.Sound.{bad_listed, bad_range}
use Rattle.volume_tree.proofs.rows.sound_slots.Goals as goal

pub returns-then-not-are_listed-clause-bad : goal.returns-then-not-are_listed-clause-bad
returns-then-not-are_listed-clause-bad c = λ _. bad_listed c.args.size.nodes c.args.rows.now (sym c.if-not-are_listed.ensures)

pub returns-then-not-are_in_range-clause-bad : goal.returns-then-not-are_in_range-clause-bad
returns-then-not-are_in_range-clause-bad c = λ _. bad_range c.args.size.nodes c.args.rows.now (sym c.if-not-are_in_range.ensures)

pub are_rooted-requires-clause-root : goal.are_rooted-requires-clause-root
are_rooted-requires-clause-root c = (both _ _ (sym c.if-not-are_nodes.ensures)).0
