use Rattle.std.proofs.Common.{arith}
use Rattle.fsrm_engine.specs.Reporting.{name_under, screen_told}
use Rattle.fsrm_engine.proofs.judging.NotedLaws.{noted_calm, noted_change, noted_charged, noted_covered, noted_fits, noted_height, noted_log, noted_quotas, noted_volume}
use Rattle.fsrm_engine.proofs.tables.RanLaws.{counted_run}
use Rattle.fsrm_engine.proofs.parts.Parts.end_named.Goals as goal

pub charge-requires-clause-volume : goal.charge-requires-clause-volume
charge-requires-clause-volume g c =
    let p = c.args.self.now in
    let name = name_under (screen_told p c.args.judged) c.args.owner c.args.place.folder c.args.place.name.now in
    noted_volume p c.report.new.self name c.args.moment c.requires.idle.places c.requires.log c.report.ensures c.requires.counted.volume

pub charge-requires-clause-quotas : goal.charge-requires-clause-quotas
charge-requires-clause-quotas g c =
    let p = c.args.self.now in
    let name = name_under (screen_told p c.args.judged) c.args.owner c.args.place.folder c.args.place.name.now in
    noted_quotas p c.report.new.self name c.args.moment c.requires.idle.places c.requires.log c.report.ensures c.requires.quotas

pub charge-requires-clause-change : goal.charge-requires-clause-change
charge-requires-clause-change g c =
    let p = c.args.self.now in
    let name = name_under (screen_told p c.args.judged) c.args.owner c.args.place.folder c.args.place.name.now in
    noted_change p c.report.new.self name c.args.moment c.requires.idle.places c.requires.log c.report.ensures c.args.change.now c.requires.change

pub charge-requires-clause-fits : goal.charge-requires-clause-fits
charge-requires-clause-fits g c =
    let p = c.args.self.now in
    let name = name_under (screen_told p c.args.judged) c.args.owner c.args.place.folder c.args.place.name.now in
    noted_fits p c.report.new.self name c.args.moment c.requires.idle.places c.requires.log c.report.ensures c.args.change.now c.requires.fits

pub charge-requires-clause-covered : goal.charge-requires-clause-covered
charge-requires-clause-covered g c =
    let p = c.args.self.now in
    let name = name_under (screen_told p c.args.judged) c.args.owner c.args.place.folder c.args.place.name.now in
    noted_covered p c.report.new.self name c.args.moment c.requires.idle.places c.requires.log c.report.ensures c.args.change.now c.requires.covered

pub charge-requires-clause-calm : goal.charge-requires-clause-calm
charge-requires-clause-calm g c =
    let p = c.args.self.now in
    let name = name_under (screen_told p c.args.judged) c.args.owner c.args.place.folder c.args.place.name.now in
    noted_calm p c.report.new.self name c.args.moment c.requires.idle.places c.requires.log c.report.ensures c.requires.idle.numbers c.requires.idle.crossing

pub charge-requires-clause-log : goal.charge-requires-clause-log
charge-requires-clause-log g c =
    let p = c.args.self.now in
    let name = name_under (screen_told p c.args.judged) c.args.owner c.args.place.folder c.args.place.name.now in
    noted_log p c.report.new.self name c.args.moment c.requires.idle.places c.requires.log c.report.ensures

pub done_under-requires-clause-counted : goal.done_under-requires-clause-counted
done_under-requires-clause-counted g c =
    let p = c.args.self.now in
    let name = name_under (screen_told p c.args.judged) c.args.owner c.args.place.folder c.args.place.name.now in
    counted_run _ c.charge.new.self c.args.moment _ c.requires.moment
    (noted_charged p c.report.new.self name c.args.moment c.requires.idle.places c.requires.log c.report.ensures c.args.change.now c.requires.counted) c.charge.ensures.charged

pub returns-clause-ended : goal.returns-clause-ended
returns-clause-ended g c =
    record { left = c.report.new.self; run = c.charge.new.self; reports = c.report.ensures; ran = c.charge.ensures.charged; ends = c.done_under.ensures.ended }

pub returns-clause-looks : goal.returns-clause-looks
returns-clause-looks g c =
    let p = c.args.self.now in
    let name = name_under (screen_told p c.args.judged) c.args.owner c.args.place.folder c.args.place.name.now in
    let height = noted_height p c.report.new.self name c.args.moment c.requires.idle.places c.requires.log c.report.ensures in
    omega (arith, c.charge.ensures.looks, height c.args.change.now.from, height c.args.change.now.to)
