use Rattle.std.proofs.Common.{◌≡◌, ◌-◌, ◌<◌, true, false, [], length, refl, sym, ◌∙◌, ap, arith}
use Rattle.name_index.specs.declared.bucket.Bucket.{Bucket}
use Rattle.name_index.specs.Index.{has_lost, home}
use Rattle.name_index.proofs.Bits.{home_inside}
use Rattle.name_index.proofs.index.Index.reserve.Goals as goal

pub returns : goal.returns
unfolding has_lost
returns c h =
    let says = c.in_ok-resize.ensures in
    let bits = c.bits_for-bits.result in
    let items = c.resize.new.self.items in
    let place = home (20 - bits) h (length items) in
    let size : length items ≡ c.count_of-count.result = sym c.resize.new.self.ok.0 ∙ says.len in
    let inside = home_inside (20 - bits) h (length items) bits (size ∙ c.count_of-count.ensures) in
    ap (λ (b : Bucket). b.lost) (says.by_index.1 place (record { lost = true; slots = [] }) refl (omega (arith, c.in_ok-buckets.ensures.len)) (omega (arith, inside, size))) ∙ c.empty.ensures.lost
