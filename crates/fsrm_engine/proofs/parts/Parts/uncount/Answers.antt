use Rattle.std.proofs.Common.{ap}
use Rattle.fsrm_objects.specs.Tables.{Tables}
use Rattle.fsrm_engine.proofs.tables.CountingLaws.{rebuilt, recounted_as}
use Rattle.fsrm_engine.proofs.parts.Parts.uncount.Goals as goal

pub returns-clause-counted : goal.returns-clause-counted
returns-clause-counted c =
    let p = c.args.self.now in
    rebuilt p.tree.size p.tree.nodes p.objects.quotas c.set_state.new.self.quotas p.usage c.end_count.new.usage c.args.folder c.requires.counted
    c.requires.there c.end_count.ensures (ap (λ (t : Tables). t.quotas) c.set_state.ensures)

pub returns-clause-rebuilt : goal.returns-clause-rebuilt
returns-clause-rebuilt c = recounted_as c.args.self.now c.set_state.new.self c.end_count.new.usage _ c.set_state.ensures (returns-clause-counted c)
