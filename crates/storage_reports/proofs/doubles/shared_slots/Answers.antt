use Rattle.std.proofs.Common.{List, refl, ◌∙◌, ap, subst, arith}
use Rattle.fsrm_model.specs.declared.row.NodeRow.{NodeRow}
use Rattle.node_table.specs.Views.{seen}
use Rattle.number_set.specs.Numbers.{Numbers}
use Rattle.storage_reports.specs.Doubles.{Counts}
use Rattle.storage_reports.proofs.TwinLaws.{all_shared, counts_all, counts_more}
use Rattle.storage_reports.proofs.doubles.shared_slots.Goals as goal

pub loop-node-init : goal.loop-node-init
loop-node-init g c = record {
  counts = counts_all c.args.slots c.args.files.now.files c.args.files.now.files c.in_ok-taken.taken c.in_ok-shared.shared refl;
  taken = ap (λ (set : Numbers). set.bound) c.in_ok-taken.ensures;
  shared = ap (λ (set : Numbers). set.bound) c.in_ok-shared.ensures;
  looks = omega arith;
  all = refl;
  whole = refl;
}

pub loop-node-preserved : goal.loop-node-preserved
loop-node-preserved g c =
    let all = c.args.files.now.files in
    let slots = c.args.slots in
    let taken = c.loop-node.taken in
    let shared = c.loop-node.shared in
    let i = c.loop-node.invariant in
    record {
      counts = counts_more slots all c.next.new.self.files (seen c.in-Some.node) taken shared c.take_slot.new.taken c.take_slot.new.shared c.in_ok-slot.slot c.in_ok-slot.ensures.slot c.take_slot.ensures.times (subst (λ (left : List NodeRow). Counts slots all left taken shared) c.in-Some.ensures.lent i.counts);
      taken = c.take_slot.ensures.taken_bound ∙ i.taken;
      shared = c.take_slot.ensures.shared_bound ∙ i.shared;
      looks = omega (arith, i.looks, c.in-Some.ensures.looks);
      all = c.in-Some.ensures.all ∙ i.all;
      whole = c.in-Some.ensures.whole ∙ i.whole;
    }

pub returns-clause-shares : goal.returns-clause-shares
returns-clause-shares g c =
    let i = c.loop-node.invariant in
    all_shared c.args.slots c.args.files.now.files c.loop-node.files.files c.loop-node.taken c.loop-node.shared c.in_default.ensures.none i.shared i.counts
