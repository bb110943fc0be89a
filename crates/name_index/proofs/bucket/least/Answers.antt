use Rattle.std.proofs.Common.{◌≡◌, ℕ, ◌+◌, ◌-◌, ◌*◌, ◌/◌, ◌%◌, ◌∙◌, List, ap, min, refl, slice_index, subst, sym, arith}
use Rattle.name_index.specs.Buckets.{above_mark}
use Rattle.name_index.proofs.LeastLaws.{IsLeastOf, all_seen, none_seen, three_more}
use Rattle.name_index.proofs.bucket.least.Goals as goal

-- what a slot has above the hash's mark
above : (slots : List ℕ) (place hash mark value : ℕ) → mark ≡ hash / 1048576 * 1048576 → value ≡ (slice_index slots place + (4294967296 - mark)) % 4294967296 → value ≡ above_mark hash (slice_index slots place)
above slots place hash mark value is at = at ∙ ap (λ m. (slice_index slots place + (4294967296 - m)) % 4294967296) is

pub loop-row-init : goal.loop-row-init
loop-row-init c = none_seen c.args.slots.now c.args.hash _ (above c.args.slots.now 0 c.args.hash c.mark-mark.result _ c.mark-mark.ensures refl)

pub loop-row-preserved : goal.loop-row-preserved
loop-row-preserved c =
    let slots = c.args.slots.now in
    let hash = c.args.hash in
    let row = c.loop-row.row in
    let least = c.loop-row.least in
    let m = c.mark-mark.result in
    let mark = c.mark-mark.ensures in
    let at = λ (k : ℕ). (slice_index slots k + (4294967296 - m)) % 4294967296 in
    let one = above slots (3 * row) hash m (at (3 * row)) mark refl in
    let two = above slots (3 * row + 1) hash m (at (3 * row + 1)) mark refl in
    let three = above slots (3 * row + 2) hash m (at (3 * row + 2)) mark refl in
    let is : min least (min (min (at (3 * row)) (at (3 * row + 1))) (at (3 * row + 2))) ≡ c.min-least.result =
    sym (c.min-least.ensures ∙ ap (min least) (c.min-in-loop-row.ensures ∙ ap (λ v. min v (at (3 * row + 2))) c.min.ensures)) in
    subst (IsLeastOf slots hash (3 * (row + 1))) is
    (three_more slots hash row least (at (3 * row)) (at (3 * row + 1)) (at (3 * row + 2)) c.loop-row.invariant c.loop-row-test.true one two three)

pub returns : goal.returns
returns c = all_seen c.args.slots.now c.args.hash (3 * c.loop-row.row) c.loop-row.least c.fits-slots (omega (arith, c.loop-row-test.false)) c.loop-row.invariant
