use Rattle.std.proofs.Common.{sym, arith}
use Rattle.volume_tree.proofs.kept.Reaches.{all_rooted, all_under}
use Rattle.volume_tree.proofs.rows.are_rooted.Goals as goal

pub returns : goal.returns
returns c =
    let rows = c.args.rows.now in
    sym (all_under rows (all_rooted rows c.requires.root c.requires.placed (λ k d l. c.loop-row.invariant.done k d (omega arith))))
