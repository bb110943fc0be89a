use Rattle.std.proofs.Common.{◌≡◌, ◌∙◌, ap, length, refl, rules, set}
use Rattle.name_index.proofs.BucketLaws.{entry_mark, none_marked, stays, with_mark, written}
use Rattle.name_index.specs.Buckets.{mark_of}
use Rattle.name_index.proofs.bucket.Bucket.enter.Goals as goal

pub returns-clause-bucket : goal.returns-clause-bucket
returns-clause-bucket c =
    let bucket = c.args.self.now in
    let hash = c.args.hash in
    let long : length bucket.slots ≡ 15 = search rules in
    let mark : mark_of c.entry.result ≡ mark_of hash = ap mark_of c.entry.ensures ∙ entry_mark hash c.args.number c.if-number-ge-NO_NUMBER.false in
    with_mark bucket (record { lost = bucket.lost; slots = set bucket.slots c.free_slot-place.result c.entry.result }) c.free_slot-place.result c.entry.result c.free_slot-place.ensures long refl hash c.requires mark
    (none_marked bucket hash c.least.result c.ranges.hash.fits c.least.ensures c.if-least-lt-NO_NUMBER.false)

pub returns-clause-held : goal.returns-clause-held
returns-clause-held c = λ _.
    let bucket = c.args.self.now in
    let long : length bucket.slots ≡ 15 = search rules in
    record {
      place = c.free_slot-place.result;
      inside = c.free_slot-place.ensures;
      there = written bucket (record { lost = bucket.lost; slots = set bucket.slots c.free_slot-place.result c.entry.result }) c.free_slot-place.result c.entry.result c.free_slot-place.ensures long refl ∙ c.entry.ensures;
    }

pub returns-clause-others : goal.returns-clause-others
returns-clause-others c =
    let bucket = c.args.self.now in
    let long : length bucket.slots ≡ 15 = search rules in
    stays bucket (record { lost = bucket.lost; slots = set bucket.slots c.free_slot-place.result c.entry.result }) c.free_slot-place.result c.entry.result c.free_slot-place.ensures long refl c.if-self-place.false
