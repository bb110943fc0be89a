-- The runs are as long as before.
use Rattle.std.proofs.Common.{◌+◌, ◌<◌, ◌∙◌, refl, sym, subst, ap, arith, length, set}
use Rattle.std.proofs.lemmas.List.{length-set}
use Rattle.block_list.specs.Runs.{Contents, Shelf, entries_of, run_at, start_of}
use Rattle.block_list.specs.Tight.{IsList}
use Rattle.block_list.proofs.Joined.{entries-set}
use Rattle.block_list.proofs.Pairs.{tight-longer}
use Rattle.block_list.proofs.list.BlockList.replace.Goals as goal

pub invariant_of-self : goal.invariant_of-self
invariant_of-self g c =
    let old = c.self.inside.runs.runs in
    let place = c.args.place in
    let inv = c.self.invariant in
    let count = ap (λ (v : Contents g.row.T.Denot). length v.runs) c.self.view_is in
    let width = ap (λ (v : Contents g.row.T.Denot). length (run_at v.runs place.run)) c.self.view_is in
    let within : place.run < length old = omega (arith, count, c.requires.run) in
    let offset : place.offset < length (run_at old place.run) = omega (arith, width, c.requires.offset) in
    let edited = set (run_at old place.run) place.offset c.args.entry in
    let same = length-set (run_at old place.run) place.offset c.args.entry in
    let entries = ap length (entries-set old place.run place.offset (start_of old place.run + place.offset) c.args.entry within offset refl) ∙ length-set (entries_of old) (start_of old place.run + place.offset) c.args.entry in
    subst (IsList c.self.inside.room c.self.inside.len) (sym c.replace.ensures)
    (record {
      most = inv.most;
      count = inv.count ∙ sym entries;
      small = inv.small;
      within = omega (arith, entries, inv.within);
      tight = tight-longer old place.run edited inv.tight within (omega (arith, same));
    })

pub returns-clause-entries : goal.returns-clause-entries
returns-clause-entries g c =
    let old = c.self.inside.runs.runs in
    let place = c.args.place in
    let count = ap (λ (v : Contents g.row.T.Denot). length v.runs) c.self.view_is in
    let width = ap (λ (v : Contents g.row.T.Denot). length (run_at v.runs place.run)) c.self.view_is in
    ap (λ (v : Shelf g.row.T.Denot). entries_of v.runs) c.replace.ensures
    ∙ (entries-set old place.run place.offset (start_of old place.run + place.offset) c.args.entry (omega (arith, count, c.requires.run)) (omega (arith, width, c.requires.offset)) refl
    ∙ ap (λ (v : Contents g.row.T.Denot). set (entries_of v.runs) (start_of v.runs place.run + place.offset) c.args.entry) c.self.view_is)
