use Rattle.std.proofs.Common.{None, Some, refl}
use Rattle.quota_usage.proofs.ChargeLaws.{left_from}
use Rattle.fsrm_engine.specs.declared.parts.Parts.{Parts}
use Rattle.fsrm_engine.proofs.settling.ChargeLaws.{charge_none, charge_ran, still_set, still_within, tables_orderly}
use Rattle.fsrm_engine.proofs.parts.Parts.charge.Goals as goal

pub returns-in_default-clause-charged : goal.returns-in_default-clause-charged
returns-in_default-clause-charged g c =
    let p = c.args.self.now in
    charge_none p c.args.change.now c.args.moment c.take-minus.new.self c.in_default.is c.requires.calm c.requires.log
    (left_from p.tree.nodes c.args.change.now None c.take-minus.result c.take-minus.new.self _ c.in_default.is c.take-minus.ensures.left)

pub gain_above-requires-clause-fits : goal.gain_above-requires-clause-fits
gain_above-requires-clause-fits g c = c.take-minus.ensures.fits c.in-Some.to c.in-Some.is

pub drop_kept-requires-clause-quotas : goal.drop_kept-requires-clause-quotas
drop_kept-requires-clause-quotas g c =
    let p = c.args.self.now in
    tables_orderly p.tree.nodes (Some c.in-Some.to) c.gain_above.new.usage c.args.moment p.objects c.gain_above.new.objects c.gain_above.ensures.quotas c.requires.quotas

pub settle_noted-requires-clause-orderly : goal.settle_noted-requires-clause-orderly
settle_noted-requires-clause-orderly g c =
    let p = c.args.self.now in
    tables_orderly p.tree.nodes (Some c.in-Some.to) c.gain_above.new.usage c.args.moment p.objects c.gain_above.new.objects c.gain_above.ensures.quotas c.requires.quotas

pub settle_noted-requires-clause-noted : goal.settle_noted-requires-clause-noted
settle_noted-requires-clause-noted g c =
    let p = c.args.self.now in
    let change = c.args.change.now in
    let taken = c.take-minus in
    let up = c.gain_above in
    let mid : Parts = record p { usage = up.new.usage; objects = up.new.objects; crossing = c.drop_kept.new.crossing } in
    still_set p mid change c.in-Some.to taken.result c.args.moment taken.new.self up.new.usage up.new.objects up.new.crossing
    c.in-Some.is (taken.ensures.lost c.in-Some.to c.in-Some.is) c.requires.calm up.ensures.counted taken.ensures.left up.ensures.quotas up.ensures.noted refl c.drop_kept.ensures.dropped

pub settle_noted-requires-clause-within : goal.settle_noted-requires-clause-within
settle_noted-requires-clause-within g c =
    let p = c.args.self.now in
    let change = c.args.change.now in
    let taken = c.take-minus in
    let up = c.gain_above in
    let mid : Parts = record p { usage = up.new.usage; objects = up.new.objects; crossing = c.drop_kept.new.crossing } in
    still_within p mid change c.in-Some.to taken.result c.args.moment taken.new.self up.new.usage up.new.objects up.new.crossing
    c.in-Some.is (taken.ensures.lost c.in-Some.to c.in-Some.is) c.requires.calm up.ensures.counted taken.ensures.left up.ensures.quotas up.ensures.noted refl c.drop_kept.ensures.dropped

pub returns-clause-charged : goal.returns-clause-charged
returns-clause-charged g c =
    let p = c.args.self.now in
    let change = c.args.change.now in
    let taken = c.take-minus in
    let up = c.gain_above in
    let mid : Parts = record p { usage = up.new.usage; objects = up.new.objects; crossing = c.drop_kept.new.crossing } in
    charge_ran p mid change c.in-Some.to taken.result c.args.moment taken.new.self up.new.usage up.new.objects up.new.crossing
    c.in-Some.is (taken.ensures.lost c.in-Some.to c.in-Some.is) c.requires.calm up.ensures.counted taken.ensures.left up.ensures.quotas up.ensures.noted refl c.drop_kept.ensures.dropped
    c.settle_noted.new.objects c.settle_noted.new.marks c.settle_noted.new.crossing c.requires.covered c.settle_noted.ensures.settled c.settle_noted.ensures.sorted c.settle_noted.ensures.none
