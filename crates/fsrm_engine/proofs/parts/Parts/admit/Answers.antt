use Rattle.fsrm_engine.proofs.operations.GrowthLaws.{owned}
use Rattle.fsrm_engine.proofs.operations.OverLaws.{none_over}
use Rattle.fsrm_engine.proofs.parts.Parts.admit.Goals as goal

pub admit-requires-clause-owned : goal.admit-requires-clause-owned
admit-requires-clause-owned g c =
    let p = c.args.self.now in
    owned p.tree.size p.tree.nodes p.objects.quotas p.usage c.requires.counted.sums

pub returns-clause-ok : goal.returns-clause-ok
returns-clause-ok g c =
    let p = c.args.self.now in
    none_over p.tree.nodes p.objects.quotas p.usage c.args.change.now c.admit.result c.admit.ensures.admitted
