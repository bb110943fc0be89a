use Rattle.std.proofs.Common.{◌≡◌, ◌+◌, length, arith, subst, sym, refl, true, false, []}
use Rattle.std.proofs.lemmas.List.{get_or_read_under}
use Rattle.name_index.specs.declared.bucket.Bucket.{Bucket}
use Rattle.name_index.specs.Buckets.{IsHalf}
use Rattle.name_index.specs.Index.{bucket_at}
use Rattle.name_index.proofs.DoubleLaws.{AreParted, all_parted, none_parted, one_parted, still_held, still_index, still_lost}
use Rattle.name_index.proofs.index.double.Goals as goal

pub loop-place-init : goal.loop-place-init
loop-place-init c =
    let len = c.args.buckets.now.ok.0 in
    record {
      room = omega (arith, c.len-count.ensures, c.requires.room);
      parted = none_parted c.args.lead c.args.buckets.now.items c.len-count.result (omega (arith, len, c.len-count.ensures));
    }

pub half-upper-requires-clause-count : goal.half-upper-requires-clause-count
half-upper-requires-clause-count c =
    let len = c.args.buckets.now.ok.0 in
    (c.requires.index.bits, omega (arith, len, c.len-count.ensures, c.requires.index.count))

pub half-requires-clause-count : goal.half-requires-clause-count
half-requires-clause-count c =
    let len = c.args.buckets.now.ok.0 in
    (c.requires.index.bits, omega (arith, len, c.len-count.ensures, c.requires.index.count))

pub loop-place-preserved : goal.loop-place-preserved
loop-place-preserved c =
    let now = c.loop-place.buckets.items in
    let count = c.len-count.result in
    let place = c.loop-place.place in
    let is = c.loop-place.invariant.parted in
    let lost : Bucket = record { lost = true; slots = [] } in
    let here : c.index.result.now ≡ bucket_at now place = get_or_read_under now place (length now) _ lost c.index.ensures (omega (arith, is.long, c.loop-place-test.true)) refl in
    let here' : c.index-in-loop-place.result.now ≡ bucket_at now place = get_or_read_under now place (length now) _ lost c.index-in-loop-place.ensures (omega (arith, is.long, c.loop-place-test.true)) refl in
    let upper : IsHalf c.args.lead count true (bucket_at now place) c.half-upper.result = subst (λ (b : Bucket). IsHalf c.args.lead count true b c.half-upper.result) here c.half-upper.ensures in
    let lower : IsHalf c.args.lead count false (bucket_at now place) c.half.result = subst (λ (b : Bucket). IsHalf c.args.lead count false b c.half.result) here' c.half.ensures in
    record {
      room = omega (arith, c.push_reserved.ensures.capacity, c.loop-place.invariant.room);
      parted = subst (AreParted c.args.lead c.args.buckets.now.items count (place + 1)) (sym c.push_reserved.ensures.items)
          (one_parted c.args.lead c.args.buckets.now.items now count place c.half.result c.half-upper.result is c.loop-place-test.true lower upper);
    }

pub returns-clause-index : goal.returns-clause-index
returns-clause-index c = still_index c.args.lead c.args.buckets.now.items c.loop-place.buckets.items c.requires.index
    (let len = c.args.buckets.now.ok.0 in
    all_parted c.args.lead c.args.buckets.now.items c.loop-place.buckets.items c.len-count.result c.loop-place.place (omega (arith, len, c.len-count.ensures)) c.loop-place.auto.place-end c.loop-place-test.false c.loop-place.invariant.parted)

pub returns-clause-held : goal.returns-clause-held
returns-clause-held c = still_held c.args.lead c.args.buckets.now.items c.loop-place.buckets.items c.requires.index
    (let len = c.args.buckets.now.ok.0 in
    all_parted c.args.lead c.args.buckets.now.items c.loop-place.buckets.items c.len-count.result c.loop-place.place (omega (arith, len, c.len-count.ensures)) c.loop-place.auto.place-end c.loop-place-test.false c.loop-place.invariant.parted)

pub returns-clause-kept : goal.returns-clause-kept
returns-clause-kept c = still_lost c.args.lead c.args.buckets.now.items c.loop-place.buckets.items c.requires.index
    (let len = c.args.buckets.now.ok.0 in
    all_parted c.args.lead c.args.buckets.now.items c.loop-place.buckets.items c.len-count.result c.loop-place.place (omega (arith, len, c.len-count.ensures)) c.loop-place.auto.place-end c.loop-place-test.false c.loop-place.invariant.parted)
