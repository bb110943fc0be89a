-- The rest of the run stands in the list from the place on.
use Rattle.std.proofs.Common.{◌≡◌, ◌+◌, ◌-◌, ◌<◌, ◌∙◌, add_assoc, ap, sym, arith, length, take, drop, length-drop}
use Rattle.std.specs.Prelude.{slice_get}
use Rattle.std.proofs.lemmas.List.{take_all}
use Rattle.block_list.specs.Runs.{entries_of, start_of}
use Rattle.block_list.proofs.Joined.{get-drop}
use Rattle.block_list.proofs.list.BlockList.rest.Goals as goal

pub returns-clause-entries : goal.returns-clause-entries
returns-clause-entries g c k inside =
    let run = c.run.result.now in
    let place = c.args.place in
    let runs = c.args.self.now.runs in
    let whole : take (length run - place.offset) (drop place.offset run) ≡ drop place.offset run = take_all _ _ (omega (arith, length-drop place.offset run)) in
    let within : place.offset + k < length run = omega (arith, inside, ap length whole, length-drop place.offset run) in
    ap (slice_get (entries_of runs)) (add_assoc (start_of runs place.run) place.offset k)
    ∙ (c.run.ensures.entries (place.offset + k) within ∙ (sym (get-drop run place.offset k (place.offset + k) (omega arith)) ∙ ap (λ r. slice_get r k) (sym whole)))
