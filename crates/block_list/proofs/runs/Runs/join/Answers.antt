-- The entries of the second run are appended to the first.
use Rattle.std.proofs.Common.{◌≡◌, ◌+◌, ◌<◌, ◌++◌, [], ◌∙◌, ap, subst, sym, arith, length, length-append, set, remove}
use Rattle.std.proofs.lemmas.List.{length-set}
use Rattle.std.proofs.lemmas.List.Edits.{length-remove}
use Rattle.block_list.specs.Runs.{Shelf, IsShelf, run_at}
use Rattle.block_list.proofs.HeadLaws.{shelf}
use Rattle.block_list.proofs.ShelfLaws.{used-set, used-remove, remove-set_at}
use Rattle.block_list.proofs.runs.Runs.join.Goals as goal

pub invariant_of-self : goal.invariant_of-self
invariant_of-self g c =
    let runs = c.self.inside.store.runs in
    let run = c.args.run in
    let inv = c.self.invariant in
    let both = run_at runs run ++ run_at runs (run + 1) in
    let changed : c.close.new.self ≡ shelf c.self.inside.store.most (remove (set runs run both) (run + 1)) =
    c.close.ensures
    ∙ (ap (λ (v : Shelf g.row.T.Denot). shelf v.most (remove v.runs (run + 1))) c.shift.ensures
    ∙ ap (shelf c.self.inside.store.most) (remove-set_at (set runs run both) (run + 1) [])) in
    let within : run + 1 < length runs = let count = ap (λ (v : Shelf g.row.T.Denot). length v.runs) c.self.view_is in omega (arith, count, c.requires.run) in
    let same = length-set runs run both in
    let some = inv.used.used run (omega arith) in
    subst IsShelf (sym changed)
    (record {
      small = inv.small;
      count = omega (arith, inv.count, same, length-remove (set runs run both) (run + 1) (omega (arith, same)));
      used = used-remove (set runs run both) (run + 1) (used-set runs run both inv.used (omega arith) (omega (arith, some, length-append (run_at runs run) (run_at runs (run + 1))))) (omega (arith, same));
    })

pub returns : goal.returns
returns g c =
    let runs = c.self.inside.store.runs in
    let run = c.args.run in
    let both = run_at runs run ++ run_at runs (run + 1) in
    let changed : c.close.new.self ≡ shelf c.self.inside.store.most (remove (set runs run both) (run + 1)) =
    c.close.ensures
    ∙ (ap (λ (v : Shelf g.row.T.Denot). shelf v.most (remove v.runs (run + 1))) c.shift.ensures
    ∙ ap (shelf c.self.inside.store.most) (remove-set_at (set runs run both) (run + 1) [])) in
    changed ∙ ap (λ (v : Shelf g.row.T.Denot). shelf v.most (remove (set v.runs run (run_at v.runs run ++ run_at v.runs (run + 1))) (run + 1))) c.self.view_is
