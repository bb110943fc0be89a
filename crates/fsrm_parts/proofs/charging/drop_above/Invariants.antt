use Rattle.std.proofs.Common.{◌≡◌, ◌+◌, length}
use Rattle.fsrm_base.specs.Numbers.{is_in}
use Rattle.fsrm_model.specs.nodes.Tree.{chain, is_under}
use Rattle.number_set.specs.Numbers.{Numbers}
use Rattle.fsrm_parts.specs.Crossing.{Drops}
use Rattle.fsrm_parts.proofs.charging.drop_above.Given as goal

-- what drops the quotas on what is left of the way drops, from the beginning on, those on all of it
abbrev pub invariant-loop-at : goal.invariant-loop-at
invariant-loop-at g l = record {
  dropped : (end : Numbers) → Drops l.crossing end l.objects.quotas (λ q. is_in l.way q.folder) → Drops l.fn.crossing end l.objects.quotas (λ q. is_under l.tree.nodes q.folder l.folder);
  looks : l.steps + length l.way ≡ l.fn.steps + length (chain l.tree.nodes l.folder);
}

abbrev pub decreases-loop-at : goal.decreases-loop-at
decreases-loop-at g l = length l.way
