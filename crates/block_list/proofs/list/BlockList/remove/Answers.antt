-- There is one entry less.
use Rattle.std.proofs.Common.{◌+◌, ◌∙◌, ap, arith, length, take}
use Rattle.std.proofs.lemmas.List.Edits.{length-remove}
use Rattle.block_list.specs.Runs.{Contents, entries_of, run_at}
use Rattle.block_list.proofs.Joined.{entries_before}
use Rattle.block_list.proofs.list.BlockList.remove.Goals as goal

pub overflow_sub-self : goal.overflow_sub-self
overflow_sub-self g c =
    let before = entries_before c.args.self.now.runs c.args.place.run c.args.place.offset c.requires.run c.requires.offset in
    let same = ap (λ (v : Contents g.row.T.Denot). length (entries_of v.runs)) c.self.view_is in
    omega (arith, before, same, c.self.invariant.count)

pub invariant_of-self : goal.invariant_of-self
invariant_of-self g c =
    let old = c.self.inside.runs.runs in
    let place = c.args.place in
    let inv = c.self.invariant in
    let count = ap (λ (v : Contents g.row.T.Denot). length v.runs) c.self.view_is in
    let width = ap (λ (v : Contents g.row.T.Denot). length (run_at v.runs place.run)) c.self.view_is in
    let before = entries_before old place.run place.offset (omega (arith, count, c.requires.run)) (omega (arith, width, c.requires.offset)) in
    let less = length-remove (entries_of old) (length (entries_of (take place.run old)) + place.offset) before in
    let entries = ap length c.cut.ensures.entries in
    record {
      most = c.cut.ensures.most ∙ inv.most;
      count = omega (arith, inv.count, less, entries);
      small = inv.small;
      within = omega (arith, inv.within, less, entries);
      tight = c.cut.ensures.tight;
    }
