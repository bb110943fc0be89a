use Rattle.std.proofs.Common.{◌+◌, ◌∙◌, ap, length, length-set, refl, subst, sym}
use Rattle.name_index.specs.declared.bucket.Bucket.{Bucket}
use Rattle.name_index.proofs.HalfLaws.{IsHalfOf, all_done, none_done, one_left, one_written, tests_apart}
use Rattle.name_index.proofs.bucket.Bucket.half.Goals as goal
use Rattle.name_index.proofs.bucket.Bucket.half.Goals.{then-goes-upper, else-goes-upper}

pub loop-place-init : goal.loop-place-init
loop-place-init c = none_done c.args.lead c.args.count c.args.upper c.args.self.now _ refl refl

pub loop-place-preserved : goal.loop-place-preserved
loop-place-preserved c =
    let is = c.loop-place.invariant in
    let place = c.loop-place.place in
    elim c.if-goes-upper.branch [
      | then-goes-upper w ↦
          one_written c.args.lead c.args.count c.args.upper place c.args.self.now c.loop-place.half c.if-goes-upper.half c.loop-place-test.true is
          (ap (λ (b : Bucket). b.lost) w.half-is)
          (ap (λ (b : Bucket). length b.slots) w.half-is ∙ (length-set c.loop-place.half.slots place _ ∙ is.long))
          (ap (λ (b : Bucket). b.slots) w.half-is)
      | else-goes-upper w ↦
          let apart = tests_apart c.goes.result c.args.upper w.if-goes-upper.false in
          subst (IsHalfOf c.args.lead c.args.count c.args.upper (place + 1) c.args.self.now) (sym w.half-is)
          (one_left c.args.lead c.args.count c.args.upper place c.args.self.now c.loop-place.half (λ same. apart (c.goes.ensures ∙ same)) is)
    ]

pub returns : goal.returns
returns c = all_done c.args.lead c.args.count c.args.upper c.loop-place.place c.args.self.now c.loop-place.half c.loop-place-test.false c.loop-place.invariant
