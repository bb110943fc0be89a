use Rattle.std.proofs.Common.{◌≡◌, ℕ, ◌+◌, ◌*◌, ◌≤◌, length, true, false, None}
use Rattle.fsrm_base.specs.Keyed.{has_row}
use Rattle.fsrm_model.specs.nodes.Tree.{number, chain, is_under}
use Rattle.quota_usage.specs.Climb.{moved_refusal}
use Rattle.quota_usage.proofs.refusal.below_meeting.Given as goal

abbrev pub invariant-loop-at_from : goal.invariant-loop-at_from
invariant-loop-at_from g l = record {
  from_there : has_row number l.at_from l.tree.nodes ≡ true;
  to_there : has_row number l.at_to l.tree.nodes ≡ true;
  from_on : is_under l.tree.nodes l.at_from l.from ≡ true;
  to_on : is_under l.tree.nodes l.at_to l.to ≡ true;
  from_high : l.from_height ≡ length (chain l.tree.nodes l.at_from);
  to_high : l.to_height ≡ length (chain l.tree.nodes l.at_to);
  common : (f : ℕ) → is_under l.tree.nodes f l.from ≡ true → is_under l.tree.nodes f l.at_to ≡ true → is_under l.tree.nodes f l.at_from ≡ true;
  below : (minus f : ℕ) → is_under l.tree.nodes f l.to ≡ true → is_under l.tree.nodes f l.at_to ≡ false → moved_refusal l.tree.nodes l.objects.quotas l.counters l.from l.to minus l.plus f ≡ None;
  looks : l.steps + (length (chain l.tree.nodes l.at_from) + length (chain l.tree.nodes l.at_to)) ≤ l.fn.steps + 2 * (length (chain l.tree.nodes l.from) + length (chain l.tree.nodes l.to));
}

abbrev pub decreases-loop-at_from : goal.decreases-loop-at_from
decreases-loop-at_from g l = length (chain l.tree.nodes l.at_from) + length (chain l.tree.nodes l.at_to)
