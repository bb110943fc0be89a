-- A full run is divided, and an entry is put into the first part.
use Rattle.std.proofs.Common.{◌≡◌, ◌+◌, ◌-◌, ◌≤◌, ◌∙◌, ap, subst, sym, arith, length, take, insert}
use Rattle.block_list.specs.Runs.{Shelf, entries_of}
use Rattle.block_list.specs.Tight.{IsTightBut}
use Rattle.block_list.proofs.Joined.{entries-insert, entries-split}
use Rattle.block_list.proofs.Pairs.{IsParted, parted, divided, tight_but-divided}
use Rattle.block_list.proofs.tight.divide.Goals as goal

pub returns-clause-entries : goal.returns-clause-entries
returns-clause-entries g c =
    let runs = c.args.runs.now.runs in
    let run = c.args.run in
    let at = c.max.result in
    let new = c.split.new.self.runs in
    let p : IsParted runs new run at = subst (λ (v : Shelf g.row.T.Denot). IsParted runs v.runs run at) (sym c.split.ensures) (parted runs run at c.requires.run c.requires.full (omega arith)) in
    let low : c.args.place ≤ at = omega arith in
    let same : entries_of new ≡ entries_of runs = ap (λ (v : Shelf g.row.T.Denot). entries_of v.runs) c.split.ensures ∙ entries-split runs run at c.requires.run in
    let before = ap (λ rs. length (entries_of rs)) p.before in
    ap (λ (v : Shelf g.row.T.Denot). entries_of v.runs) c.insert.ensures
    ∙ (entries-insert new run c.args.place (length (entries_of (take run runs)) + c.args.place) c.args.entry (omega (arith, p.count)) (omega (arith, p.first)) (omega (arith, before))
    ∙ ap (λ es. insert es (length (entries_of (take run runs)) + c.args.place) c.args.entry) same)

pub returns-clause-tight : goal.returns-clause-tight
returns-clause-tight g c =
    let runs = c.args.runs.now.runs in
    let run = c.args.run in
    let at = c.max.result in
    let p : IsParted runs c.split.new.self.runs run at = subst (λ (v : Shelf g.row.T.Denot). IsParted runs v.runs run at) (sym c.split.ensures) (parted runs run at c.requires.run c.requires.full (omega arith)) in
    subst (λ (v : Shelf g.row.T.Denot). IsTightBut v.runs (run + 1) (run - 1)) (sym c.insert.ensures)
    (tight_but-divided runs _ run c.requires.tight c.requires.run (divided runs c.split.new.self.runs run at c.args.place c.args.entry c.requires.run p (omega arith) (omega arith)))
