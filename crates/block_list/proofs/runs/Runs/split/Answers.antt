-- A run is made, and takes the upper part of the one before it.
use Rattle.std.proofs.Common.{◌≡◌, ◌+◌, ◌<◌, ◌≤◌, ◌++◌, [], ◌∙◌, ap, subst, sym, arith, length, set, take, drop, insert}
use Rattle.std.proofs.lemmas.List.{length-set, length-take-le, length-drop}
use Rattle.std.proofs.lemmas.List.Edits.{length-insert}
use Rattle.block_list.specs.Runs.{Shelf, IsShelf, run_at}
use Rattle.block_list.proofs.HeadLaws.{shelf}
use Rattle.block_list.proofs.Pairs.{width-insert_at, width-insert_below}
use Rattle.block_list.proofs.ShelfLaws.{used-set, used-insert, parted}
use Rattle.block_list.proofs.runs.Runs.split.Goals as goal

pub shift-requires-clause-room : goal.shift-requires-clause-room
shift-requires-clause-room g c =
    let runs = c.self.inside.store.runs in
    let run = c.args.run in
    let count = ap (λ (v : Shelf g.row.T.Denot). length v.runs) c.self.view_is in
    let within : run + 1 ≤ length runs = omega (arith, count, c.requires.run) in
    let old = ap (λ (v : Shelf g.row.T.Denot). length (run_at v.runs run)) c.self.view_is in
    let first = ap (λ (v : Shelf g.row.T.Denot). length (run_at v.runs run)) c.open.ensures in
    let second = ap (λ (v : Shelf g.row.T.Denot). length (run_at v.runs (run + 1))) c.open.ensures in
    let none = width-insert_at runs (run + 1) [] within in
    let same = width-insert_below runs (run + 1) run [] within (omega arith) in
    omega (arith, c.requires.most, old, first, second, none, same)

pub invariant_of-self : goal.invariant_of-self
invariant_of-self g c =
    let runs = c.self.inside.store.runs in
    let run = c.args.run in
    let at = c.args.at in
    let count = ap (λ (v : Shelf g.row.T.Denot). length v.runs) c.self.view_is in
    let within : run < length runs = omega (arith, count, c.requires.run) in
    let changed : c.shift.new.self ≡ shelf c.self.inside.store.most (insert (set runs run (take at (run_at runs run))) (run + 1) (drop at (run_at runs run))) =
    c.shift.ensures
    ∙ (ap (λ (v : Shelf g.row.T.Denot). shelf v.most (set (set v.runs (run + 1) (run_at v.runs (run + 1) ++ drop at (run_at v.runs run))) run (take at (run_at v.runs run)))) c.open.ensures
    ∙ ap (shelf c.self.inside.store.most) (parted runs run at within)) in
    let inv = c.self.invariant in
    let low = take at (run_at runs run) in
    let high = drop at (run_at runs run) in
    let old = ap (λ (v : Shelf g.row.T.Denot). length (run_at v.runs run)) c.self.view_is in
    let most = ap (λ (v : Shelf g.row.T.Denot). v.most) c.self.view_is in
    let same = length-set runs run low in
    let more : run + 1 ≤ length (set runs run low) = omega (arith, same, within) in
    subst IsShelf (sym changed)
    (record {
      small = inv.small;
      count = omega (arith, c.requires.room, count, most, same, length-insert (set runs run low) (run + 1) high more);
      used = used-insert (set runs run low) (run + 1) high
          (used-set runs run low inv.used within (omega (arith, c.requires.some, c.requires.at, old, length-take-le at (run_at runs run) (omega (arith, c.requires.at, old)))))
          more (omega (arith, c.requires.at, old, length-drop at (run_at runs run)));
    })

pub returns : goal.returns
returns g c =
    let runs = c.self.inside.store.runs in
    let run = c.args.run in
    let at = c.args.at in
    let count = ap (λ (v : Shelf g.row.T.Denot). length v.runs) c.self.view_is in
    let within : run < length runs = omega (arith, count, c.requires.run) in
    let changed : c.shift.new.self ≡ shelf c.self.inside.store.most (insert (set runs run (take at (run_at runs run))) (run + 1) (drop at (run_at runs run))) =
    c.shift.ensures
    ∙ (ap (λ (v : Shelf g.row.T.Denot). shelf v.most (set (set v.runs (run + 1) (run_at v.runs (run + 1) ++ drop at (run_at v.runs run))) run (take at (run_at v.runs run)))) c.open.ensures
    ∙ ap (shelf c.self.inside.store.most) (parted runs run at within)) in
    changed ∙ ap (λ (v : Shelf g.row.T.Denot). shelf v.most (insert (set v.runs run (take at (run_at v.runs run))) (run + 1) (drop at (run_at v.runs run)))) c.self.view_is
