use Rattle.std.proofs.Common.{ℕ, ◌<◌, ◌^◌, List, subst, sym}
use Rattle.std.specs.Prelude.{sum_by}
use Rattle.rescan.specs.Visits.{space_of}
use Rattle.fsrm_parts.specs.Walk.{AreThere}
use Rattle.fsrm_parts.proofs.walks.SumLaws.{inside_small}
use Rattle.fsrm_parts.proofs.walks.WalkLaws.{children_there}
use Rattle.fsrm_parts.proofs.usage.visit.Goals as goal

pub put-requires-clause-there : goal.put-requires-clause-there
put-requires-clause-there g c =
    subst (AreThere c.args.tree.now.nodes) (sym c.children-children.ensures.numbers) (children_there c.args.tree.now.nodes c.args.folder)

pub put-requires-clause-small : goal.put-requires-clause-small
put-requires-clause-small g c =
    subst (λ (ns : List ℕ). sum_by (space_of c.args.tree.now.size c.args.tree.now.nodes) ns < 2 ^ 64) (sym c.children-children.ensures.numbers)
    (inside_small c.args.tree.now.size c.args.tree.now.nodes c.args.folder c.requires.volume c.requires.legal)
