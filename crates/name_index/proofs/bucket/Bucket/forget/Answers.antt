use Rattle.std.proofs.Common.{◌≡◌, ◌∙◌, ap, length, length-set, rules, subst, sym}
use Rattle.name_index.specs.declared.bucket.Bucket.{Bucket}
use Rattle.name_index.proofs.ClearLaws.{IsCleared, none_cleared, one_cleared, others_stay, still_bucket}
use Rattle.name_index.proofs.bucket.Bucket.forget.Goals as goal
use Rattle.name_index.proofs.bucket.Bucket.forget.Goals.{then-self-place, else-self-place}

pub loop-place-init : goal.loop-place-init
loop-place-init c = let long : length c.args.self.now.slots ≡ 15 = search rules in none_cleared c.args.self.now c.entry-entry.result long

pub loop-place-preserved : goal.loop-place-preserved
loop-place-preserved c =
    let bucket = c.args.self.now in
    let is = c.loop-place.invariant in
    let place = c.loop-place.place in
    elim c.if-self-place.branch [
      | then-self-place w ↦
          one_cleared bucket c.entry-entry.result c.loop-place.self c.if-self-place.self place is c.loop-place-test.true w.if-self-place.true
          (ap (λ (b : Bucket). b.lost) w.self-is)
          (ap (λ (b : Bucket). length b.slots) w.self-is ∙ (length-set c.loop-place.self.slots place _ ∙ is.long))
          (ap (λ (b : Bucket). b.slots) w.self-is)
      | else-self-place w ↦ subst (IsCleared bucket c.entry-entry.result) (sym w.self-is) is
    ]

pub returns-clause-bucket : goal.returns-clause-bucket
returns-clause-bucket c = still_bucket c.args.self.now _ c.entry-entry.result c.loop-place.invariant c.requires.bucket

pub returns-clause-others : goal.returns-clause-others
returns-clause-others c = others_stay c.args.self.now _ c.entry-entry.result c.loop-place.invariant c.args.hash c.args.number c.requires.number c.entry-entry.ensures

pub returns-clause-lost : goal.returns-clause-lost
returns-clause-lost c = c.loop-place.invariant.lost
