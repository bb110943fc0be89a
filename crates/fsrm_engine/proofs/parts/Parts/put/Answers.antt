use Rattle.std.proofs.Common.{ap}
use Rattle.fsrm_objects.specs.Tables.{Tables}
use Rattle.templates.proofs.PartLaws.{small_thresholds}
use Rattle.fsrm_engine.proofs.tables.CountingLaws.{quota_put, room_for, recounted_as}
use Rattle.fsrm_engine.proofs.parts.Parts.put.Goals as goal

pub recount-requires : goal.recount-requires
recount-requires c = let p = c.args.self.now in record { room = λ t free. room_for p.tree.size p.tree.nodes p.objects.quotas p.usage c.args.row.folder c.requires.counted c.requires.there free }

pub put_quota-requires-clause-short : goal.put_quota-requires-clause-short
put_quota-requires-clause-short c = (small_thresholds c.args.row.thresholds c.requires.thresholds).0

pub put_quota-requires-clause-texts : goal.put_quota-requires-clause-texts
put_quota-requires-clause-texts c = (small_thresholds c.args.row.thresholds c.requires.thresholds).1

pub returns-clause-counted : goal.returns-clause-counted
returns-clause-counted c =
    let p = c.args.self.now in
    quota_put p.tree.size p.tree.nodes p.objects.quotas c.put_quota.new.self.quotas p.usage c.recount.new.usage c.args.row c.counts.result c.requires.counted
    c.requires.there c.requires.limit c.requires.thresholds c.requires.moment c.requires.peak c.requires.nothing c.counts.ensures
    (record { ended = c.recount.ensures.ended; begun = c.recount.ensures.begun; held = c.recount.ensures.held })
    (ap (λ (t : Tables). t.quotas) c.put_quota.ensures.put)

pub returns-clause-put : goal.returns-clause-put
returns-clause-put c = recounted_as c.args.self.now c.put_quota.new.self c.recount.new.usage _ c.put_quota.ensures.put (returns-clause-counted c)
