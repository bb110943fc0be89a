-- All keys are live if all were handed out and none was given back.
use Rattle.std.proofs.Common.{◌≡◌, ◌∙◌, ap, sym, arith, length}
use Rattle.std.specs.Vec.{vec_len}
use borrow.Author.Tests.{eqb-true, eqb-false}
use Rattle.name_region.specs.Contents.{Contents, live_count}
use Rattle.name_region.proofs.RegionLaws.{length-texts_of}
use Rattle.name_region.proofs.region.Region.has_no_key.Goals as goal

pub returns-then-is_empty-clause-all : goal.returns-then-is_empty-clause-all
returns-then-is_empty-clause-all c = λ same.
    let i = c.self.inside in
    let kept = c.self.invariant.kept in
    let none : vec_len i.free ≡ 0 = eqb-true _ _ (sym c.is_empty.ensures ∙ c.if-is_empty.true) in
    omega (arith, eqb-true _ _ same, none, c.len.ensures, i.free.ok, i.places.ok, kept.count, kept.handed_most, length-texts_of i.keys i.log.stored, ap (λ (v : Contents). live_count v) c.self.view_is, ap (λ (v : Contents). length v.texts) c.self.view_is)

pub returns-then-is_empty-clause-spare : goal.returns-then-is_empty-clause-spare
returns-then-is_empty-clause-spare c = λ other.
    let i = c.self.inside in
    let kept = c.self.invariant.kept in
    let none : vec_len i.free ≡ 0 = eqb-true _ _ (sym c.is_empty.ensures ∙ c.if-is_empty.true) in
    omega (arith, eqb-false _ _ other, none, c.len.ensures, i.free.ok, i.places.ok, kept.count, kept.handed_most, length-texts_of i.keys i.log.stored, ap (λ (v : Contents). live_count v) c.self.view_is, ap (λ (v : Contents). length v.texts) c.self.view_is)
