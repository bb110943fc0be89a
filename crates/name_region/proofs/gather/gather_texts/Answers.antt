-- Text by text, those that weren't released come to stand at the block's beginning.
use Rattle.std.proofs.Common.{◌≡◌, ◌+◌, ◌-◌, ◌≤◌, ◌∙◌, ℕ, refl, sym, ap, subst, arith, length, set, take}
use Rattle.std.specs.Global.{Vec}
use Rattle.std.specs.Vec.{vec_capacity}
use Rattle.std.proofs.lemmas.List.{length-take-le, take-take, take_all}
use Rattle.std.specs.Prelude.{filter}
use Rattle.name_region.specs.declared.log.Record.{Record}
use Rattle.name_region.specs.Log.{is_kept, stored_in, end_of, AreEnds}
use Rattle.name_region.proofs.LogLaws.{end_is, stored_in-same}
use Rattle.name_region.proofs.GatherLaws.{next_from, next_within, gathered_over, gathered_more}
use Rattle.name_region.proofs.gather.gather_texts.Goals as goal
use Rattle.name_region.proofs.gather.gather_texts.Goals.{then-key, else-key}

pub slide-requires-clause-from : goal.slide-requires-clause-from
slide-requires-clause-from c = next_from c.args.records.now.items c.args.block.now.items c.loop-index.records.items c.loop-index.block.items c.loop-index.index c.loop-index.kept c.loop-index.from c.loop-index.to c.index.result.now c.requires.ends c.loop-index.invariant.gathered (omega (arith, c.len-index-end.ensures, c.args.records.now.ok)) c.index.ensures

pub slide-requires-clause-end : goal.slide-requires-clause-end
slide-requires-clause-end c = next_within c.args.records.now.items c.args.block.now.items c.loop-index.records.items c.loop-index.block.items c.loop-index.index c.loop-index.kept c.loop-index.from c.loop-index.to c.index.result.now c.requires.ends c.loop-index.invariant.gathered (omega (arith, c.len-index-end.ensures, c.args.records.now.ok)) c.index.ensures

pub overflow_sub-to : goal.overflow_sub-to
overflow_sub-to c = next_from c.args.records.now.items c.args.block.now.items c.loop-index.records.items c.loop-index.block.items c.loop-index.index c.loop-index.kept c.loop-index.from c.loop-index.to c.index.result.now c.requires.ends c.loop-index.invariant.gathered (omega (arith, c.len-index-end.ensures, c.args.records.now.ok)) c.index.ensures

pub overflow_cast-to : goal.overflow_cast-to
overflow_cast-to c =
    let gathered = c.loop-index.invariant.gathered in
    let from = next_from c.args.records.now.items c.args.block.now.items c.loop-index.records.items c.loop-index.block.items c.loop-index.index c.loop-index.kept c.loop-index.from c.loop-index.to c.index.result.now c.requires.ends c.loop-index.invariant.gathered (omega (arith, c.len-index-end.ensures, c.args.records.now.ok)) c.index.ensures in
    let within = next_within c.args.records.now.items c.args.block.now.items c.loop-index.records.items c.loop-index.block.items c.loop-index.index c.loop-index.kept c.loop-index.from c.loop-index.to c.index.result.now c.requires.ends c.loop-index.invariant.gathered (omega (arith, c.len-index-end.ensures, c.args.records.now.ok)) c.index.ensures in
    omega (arith, gathered.below, from, within, c.requires.small, gathered.size)

pub loop-index-preserved : goal.loop-index-preserved
loop-index-preserved c =
    let l = c.loop-index in
    let r = c.index.result.now in
    elim c.if-key.branch [
      | then-key w ↦
          let moved : Record = record { key = r.key; end = l.to + (r.end - l.from) } in
          let records : c.if-key.records.items ≡ set l.records.items l.kept moved = ap (λ (v : Vec Record). v.items) w.records-is in
          let block : c.if-key.block.items ≡ w.slide.new.block.items = ap (λ (v : Vec ℕ). v.items) w.block-is in
          record {
            gathered = rw (records, block, w.kept-is, w.to-is)
                (gathered_more c.args.records.now.items c.args.block.now.items c.loop-index.records.items c.loop-index.block.items c.loop-index.index c.loop-index.kept c.loop-index.from c.loop-index.to c.index.result.now c.requires.ends c.loop-index.invariant.gathered (omega (arith, c.len-index-end.ensures, c.args.records.now.ok)) c.index.ensures w.slide.new.block.items moved w.slide.ensures.size w.slide.ensures.front w.slide.ensures.rest refl refl w.if-key.true);
            block_capacity = ap (λ (v : Vec ℕ). vec_capacity v) w.block-is ∙ (w.slide.ensures.capacity ∙ l.invariant.block_capacity);
            records_capacity = ap (λ (v : Vec Record). vec_capacity v) w.records-is ∙ l.invariant.records_capacity;
          }
      | else-key w ↦
          record {
            gathered = rw (w.records-is, w.block-is, w.kept-is, w.to-is) (gathered_over c.args.records.now.items c.args.block.now.items c.loop-index.records.items c.loop-index.block.items c.loop-index.index c.loop-index.kept c.loop-index.from c.loop-index.to c.index.result.now c.requires.ends c.loop-index.invariant.gathered (omega (arith, c.len-index-end.ensures, c.args.records.now.ok)) c.index.ensures w.if-key.false);
            block_capacity = ap (λ (v : Vec ℕ). vec_capacity v) w.block-is ∙ l.invariant.block_capacity;
            records_capacity = ap (λ (v : Vec Record). vec_capacity v) w.records-is ∙ l.invariant.records_capacity;
          }
    ]

pub returns-clause-stored : goal.returns-clause-stored
returns-clause-stored c =
    let l = c.loop-index in
    let old = c.args.records.now.items in
    let gathered = l.invariant.gathered in
    rw (c.truncate.ensures.items, c.truncate-2.ensures.items)
    (stored_in-same 0 (take l.kept l.records.items) l.to (take l.to l.block.items) l.block.items gathered.ends (take-take l.to l.to l.block.items (omega arith))
    ∙ (gathered.stored ∙ ap (λ rs. filter is_kept (stored_in 0 rs c.args.block.now.items)) (take_all l.index old (omega (arith, c.len-index-end.ensures, c.args.records.now.ok, c.loop-index-test.false)))))

pub returns-clause-ends : goal.returns-clause-ends
returns-clause-ends c =
    let l = c.loop-index in
    let whole = take_all l.index c.args.records.now.items (omega (arith, c.len-index-end.ensures, c.args.records.now.ok, c.loop-index-test.false)) in
    let to_within : l.to ≤ length l.block.items = omega (arith, l.invariant.gathered.below, l.invariant.gathered.from_is, ap (end_of 0) whole, end_is 0 c.args.records.now.items (length c.args.block.now.items) c.requires.ends, l.invariant.gathered.size) in
    rw (c.truncate.ensures.items, c.truncate-2.ensures.items) (subst (AreEnds 0 (take l.kept l.records.items)) (sym (length-take-le l.to l.block.items to_within)) l.invariant.gathered.ends)
