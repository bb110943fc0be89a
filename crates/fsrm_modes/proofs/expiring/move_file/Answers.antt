use Rattle.std.proofs.Common.{◌≡◌, ◌+◌, ◌*◌, [], ◌∷◌, ◌++◌, length, rules, ◌∙◌, ap, arith, subst}
use Rattle.std.specs.Prelude.{Err, MatchResult, OnOk}
use Rattle.fsrm_engine.specs.Machine.{Machine}
use Rattle.fsrm_model.specs.commands.Cost.{path_cost}
use Rattle.fsrm_model.specs.nodes.Tree.{is_folder}
use Rattle.fsrm_session.specs.Members.{members}
use Rattle.fsrm_session.specs.Spending.{bytes_after, Spends}
use Rattle.fsrm_session.specs.Turns.{said_turn}
use Rattle.fsrm_session.specs.Underway.{Goes, Stops}
use Rattle.fsrm_session.proofs.Going.{stops_more}
use Rattle.fsrm_session.proofs.Object.{laws_of}
use Rattle.fsrm_session.proofs.Results.{stops_passed}
use Rattle.fsrm_session.proofs.Spending.{after_fault, spends_first, spends_less}
use Rattle.file_jobs.specs.Moves.{is_file, move_of, moved_path}
use Rattle.fsrm_modes.specs.Expiry.{file_cost, file_turns, move_line, moving_turn}
use Rattle.fsrm_modes.proofs.Moving.{after_goes, costs_then}
use Rattle.fsrm_modes.proofs.expiring.move_file.Goals as goal

pub take_move-requires-clause-file : goal.take_move-requires-clause-file
take_move-requires-clause-file g c = ap (λ (m : Machine). is_file m.rows.nodes c.args.node) c.say_move.ensures.engine ∙ c.requires.file

pub take_move-requires-clause-folder : goal.take_move-requires-clause-folder
take_move-requires-clause-folder g c = ap (λ (m : Machine). is_folder m.rows.nodes c.args.mover.now.folder) c.say_move.ensures.engine ∙ c.requires.folder

pub returns-in_err-say_move-clause-runs : goal.returns-in_err-say_move-clause-runs
returns-in_err-say_move-clause-runs g c =
    let was = c.args.session.now in
    let R = was.store.engine.rows in
    let said = said_turn (move_line R.nodes c.args.number c.args.node) ∷ [] in
    let moving = moving_turn was.store.engine.size c.args.number c.args.mover.now.moment (move_of R.nodes c.args.node c.args.mover.now.folder) ∷ [] in
    let stop = c.in_err-say_move.field-0.0 in
    let fault : c.from_residual.result ≡ Err stop = search rules in
    stops_passed c.from_residual.result stop (file_turns was.store.engine.size R c.args.mover.now.folder c.args.mover.now.moment c.args.number c.args.node) was c.say_move.new.session c.args.outside.now c.say_move.new.outside fault
    (stops_more stop said moving was c.say_move.new.session c.args.outside.now c.say_move.new.outside c.in_err-say_move.ensures.runs)

pub returns-clause-runs : goal.returns-clause-runs
returns-clause-runs g c =
    let M = members g.O.Source g.O.Sink g.O.Disk in
    let was = c.args.session.now in
    let R = was.store.engine.rows in
    let said = said_turn (move_line R.nodes c.args.number c.args.node) ∷ [] in
    let moving = moving_turn was.store.engine.size c.args.number c.args.mover.now.moment (move_of R.nodes c.args.node c.args.mover.now.folder) ∷ [] in
    after_goes c.take_move.result said moving was c.say_move.new.session c.take_move.new.session c.args.outside.now c.say_move.new.outside c.take_move.new.outside (laws_of g.met.O.Sink g.met.O.Disk g.met.O.Outside) c.in_ok-say_move.ensures.runs
    (subst (λ (m : Machine). MatchResult c.take_move.result
    (λ x. Goes M (moving_turn m.size c.args.number c.args.mover.now.moment (move_of m.rows.nodes c.args.node c.args.mover.now.folder) ∷ []) c.say_move.new.session c.take_move.new.session c.say_move.new.outside c.take_move.new.outside)
    (λ e. Stops M e (moving_turn m.size c.args.number c.args.mover.now.moment (move_of m.rows.nodes c.args.node c.args.mover.now.folder) ∷ []) c.say_move.new.session c.take_move.new.session c.say_move.new.outside c.take_move.new.outside))
    c.say_move.ensures.engine c.take_move.ensures.runs)

pub returns-clause-rows : goal.returns-clause-rows
returns-clause-rows g c =
    subst (λ (m : Machine). OnOk c.take_move.result (c.take_move.new.session.store.engine.rows ≡ (moving_turn m.size c.args.number c.args.mover.now.moment (move_of m.rows.nodes c.args.node c.args.mover.now.folder)).after m.rows))
    c.say_move.ensures.engine c.take_move.ensures.rows

-- ---- what it takes
pub returns-in_err-say_move-clause-looks : goal.returns-in_err-say_move-clause-looks
returns-in_err-say_move-clause-looks g c =
    let was = c.args.session.now in
    let R = was.store.engine.rows in
    let to = c.args.mover.now.folder in
    let now = c.say_move.new.session in
    let looks = c.args.steps.now in
    let said = said_turn (move_line R.nodes c.args.number c.args.node) ∷ [] in
    let moving = moving_turn was.store.engine.size c.args.number c.args.mover.now.moment (move_of R.nodes c.args.node to) ∷ [] in
    let stop = c.in_err-say_move.field-0.0 in
    let fault : c.from_residual.result ≡ Err stop = search rules in
    spends_first said moving was c.args.outside.now (looks + file_cost R.nodes to c.args.node) c.say_move.new.steps (bytes_after c.from_residual.result now)
    (spends_less said was c.args.outside.now (looks + path_cost R.nodes c.args.node) (looks + file_cost R.nodes to c.args.node) c.say_move.new.steps (bytes_after {T = Unit {0}} (Err stop) now) (bytes_after c.from_residual.result now) (omega arith)
    (after_fault c.from_residual.result stop now fault) c.in_err-say_move.ensures.looks)

pub returns-clause-looks : goal.returns-clause-looks
returns-clause-looks g c =
    let M = members g.O.Source g.O.Sink g.O.Disk in
    let was = c.args.session.now in
    let R = was.store.engine.rows in
    let to = c.args.mover.now.folder in
    let mid = c.say_move.new.session in
    let looks = c.args.steps.now in
    let spent = c.say_move.new.steps in
    let left = bytes_after c.take_move.result c.take_move.new.session in
    let said = said_turn (move_line R.nodes c.args.number c.args.node) ∷ [] in
    let moving = moving_turn was.store.engine.size c.args.number c.args.mover.now.moment (move_of R.nodes c.args.node to) ∷ [] in
    let first = path_cost R.nodes c.args.node in
    let second = path_cost R.nodes c.args.node + 4 * (length (moved_path R.nodes c.args.node to) + 1) in
    let more = subst (λ (m : Machine). Spends M (moving_turn m.size c.args.number c.args.mover.now.moment (move_of m.rows.nodes c.args.node to) ∷ []) mid c.say_move.new.outside
    (spent + (path_cost m.rows.nodes c.args.node + 4 * (length (moved_path m.rows.nodes c.args.node to) + 1))) c.take_move.new.steps left) c.say_move.ensures.engine c.take_move.ensures.looks in
    spends_less (said ++ moving) was c.args.outside.now (looks + (first + second)) (looks + file_cost R.nodes to c.args.node) c.take_move.new.steps left left (omega arith) (omega arith)
    (costs_then said moving was mid c.args.outside.now c.say_move.new.outside looks first second spent c.take_move.new.steps left c.in_ok-say_move.ensures.runs c.in_ok-say_move.ensures.looks more)
