-- A key is live if the text that is noted for it bears it.
use Rattle.std.proofs.Common.{◌≡◌, ◌<◌, ◌≤◌, ◌∙◌, ap, arith, length, eqb, ltb}
use Rattle.std.specs.Prelude.{slice_index}
use Rattle.std.proofs.lemmas.List.{get_or_read}
use Rattle.name_region.specs.Contents.{Contents, is_live}
use Rattle.name_region.specs.Log.{stored_at}
use Rattle.name_region.proofs.RegionLaws.{length-texts_of, live_here, live_past}
use Rattle.name_region.proofs.region.Region.live.Goals as goal

pub returns-then-place-len : goal.returns-then-place-len
returns-then-place-len c =
    let i = c.self.inside in
    let inv = c.self.invariant in
    let handed : c.args.key < length i.places.items = omega (arith, c.if-key-len.false, c.len.ensures, i.places.ok) in
    let within : c.args.key < i.keys = omega (arith, handed, inv.kept.handed_most, length-texts_of i.keys i.log.stored) in
    let read : c.index-place.result.now ≡ slice_index i.places.items c.args.key = get_or_read i.places.items c.args.key c.index-place.result.now handed c.index-place.ensures 0 in
    let inside : slice_index i.places.items c.args.key < length i.log.stored = omega (arith, read, c.if-place-len.true, c.len-2.ensures.len) in
    ap (λ k. eqb k c.args.key) (c.key.ensures ∙ ap (λ n. (stored_at i.log.stored n).key) read)
    ∙ (live_here i.keys i.log.stored i.places.items c.args.key inv.keys_small inv.indexed within inside ∙ ap (λ (v : Contents). is_live v c.args.key) c.self.view_is)

pub returns-else-place-len : goal.returns-else-place-len
returns-else-place-len c =
    let i = c.self.inside in
    let inv = c.self.invariant in
    let handed : c.args.key < length i.places.items = omega (arith, c.if-key-len.false, c.len.ensures, i.places.ok) in
    let within : c.args.key < i.keys = omega (arith, handed, inv.kept.handed_most, length-texts_of i.keys i.log.stored) in
    let read : c.index-place.result.now ≡ slice_index i.places.items c.args.key = get_or_read i.places.items c.args.key c.index-place.result.now handed c.index-place.ensures 0 in
    let past : length i.log.stored ≤ slice_index i.places.items c.args.key = omega (arith, read, c.if-place-len.false, c.len-2.ensures.len) in
    ap (λ n. ltb n c.len-2.result) read
    ∙ (ap (ltb (slice_index i.places.items c.args.key)) c.len-2.ensures.len
    ∙ (live_past i.keys i.log.stored i.places.items c.args.key inv.keys_small inv.indexed within past ∙ ap (λ (v : Contents). is_live v c.args.key) c.self.view_is))
