use Rattle.std.proofs.Common.{◌≡◌, sym, ◌∙◌, arith}
use Rattle.std.proofs.lemmas.List.{at_drop_all}
use Rattle.fsrm_base.specs.Keyed.{least_free_from}
use Rattle.fsrm_base.proofs.TestLaws.{eq_test, is_apart}
use Rattle.row_table.specs.Indexed.{number_of}
use Rattle.row_table.proofs.IndexLaws.{least_at}
use Rattle.row_table.proofs.index.Index.free_number.Goals as goal

pub loop-place-preserved : goal.loop-place-preserved
loop-place-preserved c =
    let i = c.loop-place.place in
    let same = rw (eq_test c.at.result.number i c.if-at-place.false) at (least_at c.args.self.now.entries i i c.at.result c.at.ensures) in
    (omega (arith, c.loop-place-test.true), sym same ∙ c.loop-place.invariant.1)

pub returns-then-at-place : goal.returns-then-at-place
returns-then-at-place c =
    let i = c.loop-place.place in
    sym (rw (is_apart c.at.result.number i c.if-at-place.true) at (least_at c.args.self.now.entries i i c.at.result c.at.ensures)) ∙ c.loop-place.invariant.1

pub returns : goal.returns
returns c =
    let i = c.loop-place.place in
    let end : c.len-count.result ≡ i = omega (arith, c.loop-place-test.false, c.loop-place.invariant.0) in
    end ∙ (sym (at_drop_all (least_free_from number_of i) c.args.self.now.entries i (omega (arith, c.len-count.ensures.count, end))) ∙ c.loop-place.invariant.1)
