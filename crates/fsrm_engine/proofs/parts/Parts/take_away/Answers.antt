use Rattle.std.proofs.Common.{ap, sym, List, subst}
use Rattle.fsrm_model.specs.declared.row.QuotaRow.{QuotaRow}
use Rattle.fsrm_objects.specs.Tables.{Tables}
use Rattle.fsrm_engine.specs.Machine.{IsCounted}
use Rattle.fsrm_engine.proofs.tables.CountingLaws.{counted_without, recounted_as}
use Rattle.fsrm_engine.proofs.parts.Parts.take_away.Goals as goal

pub returns-clause-counted : goal.returns-clause-counted
returns-clause-counted c =
    let p = c.args.self.now in
    subst (λ (qs : List QuotaRow). IsCounted p.tree.size p.tree.nodes qs c.drop_quota.new.usage p.level)
    (sym (ap (λ (t : Tables). t.quotas) c.drop_quota.ensures.objects))
    (counted_without p.tree.size p.tree.nodes p.objects.quotas p.usage c.drop_quota.new.usage c.args.folder c.requires.counted c.drop_quota.ensures.usage)

pub returns-clause-taken : goal.returns-clause-taken
returns-clause-taken c = recounted_as c.args.self.now c.drop_quota.new.objects c.drop_quota.new.usage _ c.drop_quota.ensures.objects (returns-clause-counted c)
