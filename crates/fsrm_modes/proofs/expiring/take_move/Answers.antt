use Rattle.std.proofs.Common.{◌≡◌, ◌+◌, ◌*◌, ◌≤◌, [], ◌∷◌, length, ◌∙◌, ap, arith, subst, sym}
use Rattle.std.specs.Prelude.{MatchResult, OnOk, Option}
use Rattle.fsrm_engine.specs.Machine.{Machine}
use Rattle.fsrm_model.specs.commands.Cost.{path_cost}
use Rattle.fsrm_model.specs.declared.command.FileOp.{FileOp}
use Rattle.fsrm_model.specs.nodes.Tree.{is_folder}
use Rattle.fsrm_store.specs.Amortized.{bytes_since}
use Rattle.fsrm_session.specs.Members.{members}
use Rattle.fsrm_session.specs.Spending.{bytes_after, Spends}
use Rattle.fsrm_session.specs.Underway.{Goes, Stops}
use Rattle.fsrm_session.proofs.Object.{laws_of}
use Rattle.fsrm_session.proofs.Said.{on_ok}
use Rattle.fsrm_session.proofs.Spending.{spends_less, spends_nothing}
use Rattle.file_jobs.specs.Moves.{is_file, move_of, moved_path}
use Rattle.fsrm_modes.specs.Expiry.{moving_turn}
use Rattle.fsrm_modes.proofs.Outcomes.{full_stops}
use Rattle.fsrm_modes.proofs.expiring.take_move.Goals as goal

pub move_of-requires-clause-file : goal.move_of-requires-clause-file
move_of-requires-clause-file g c = ap (λ (m : Machine). is_file m.rows.nodes c.args.node) c.engine.ensures.lent ∙ c.requires.file

pub move_of-requires-clause-folder : goal.move_of-requires-clause-folder
move_of-requires-clause-folder g c = ap (λ (m : Machine). is_folder m.rows.nodes c.args.mover.now.folder) c.engine.ensures.lent ∙ c.requires.folder

pub take_read-requires-clause-valid : goal.take_read-requires-clause-valid
take_read-requires-clause-valid g c = (rw c.in-Ok-Some.field-0-is at c.in-Ok-Some.ensures.valid) c.args.mover.now.moment c.requires.moment

pub returns-in-Ok-Some-clause-runs : goal.returns-in-Ok-Some-clause-runs
returns-in-Ok-Some-clause-runs g c =
    let M = members g.O.Source g.O.Sink g.O.Disk in
    let K = c.args.session.now.store.engine.size in
    let op = sym c.in-Ok-Some.field-0-is ∙ (c.in-Ok-Some.ensures.op ∙ ap (λ (m : Machine). move_of m.rows.nodes c.args.node c.args.mover.now.folder) c.engine.ensures.lent) in
    subst (λ (o : Option FileOp). MatchResult c.take_read.result
    (λ x. Goes M (moving_turn K c.args.number c.args.mover.now.moment o ∷ []) c.args.session.now c.take_read.new.session c.args.outside.now c.take_read.new.outside)
    (λ e. Stops M e (moving_turn K c.args.number c.args.mover.now.moment o ∷ []) c.args.session.now c.take_read.new.session c.args.outside.now c.take_read.new.outside))
    op c.take_read.ensures.runs

pub returns-in-Ok-Some-clause-rows : goal.returns-in-Ok-Some-clause-rows
returns-in-Ok-Some-clause-rows g c =
    let K = c.args.session.now.store.engine.size in
    let R = c.args.session.now.store.engine.rows in
    let op = sym c.in-Ok-Some.field-0-is ∙ (c.in-Ok-Some.ensures.op ∙ ap (λ (m : Machine). move_of m.rows.nodes c.args.node c.args.mover.now.folder) c.engine.ensures.lent) in
    subst (λ (o : Option FileOp). OnOk c.take_read.result (c.take_read.new.session.store.engine.rows ≡ (moving_turn K c.args.number c.args.mover.now.moment o).after R)) op c.take_read.ensures.rows

pub returns-in-Ok-None-clause-runs : goal.returns-in-Ok-None-clause-runs
returns-in-Ok-None-clause-runs g c =
    let M = members g.O.Source g.O.Sink g.O.Disk in
    let K = c.args.session.now.store.engine.size in
    let op = sym c.in-Ok-None.field-0-is ∙ (c.in-Ok-None.ensures.op ∙ ap (λ (m : Machine). move_of m.rows.nodes c.args.node c.args.mover.now.folder) c.engine.ensures.lent) in
    subst (λ (o : Option FileOp). MatchResult c.say_skipped.result
    (λ x. Goes M (moving_turn K c.args.number c.args.mover.now.moment o ∷ []) c.args.session.now c.say_skipped.new.session c.args.outside.now c.say_skipped.new.outside)
    (λ e. Stops M e (moving_turn K c.args.number c.args.mover.now.moment o ∷ []) c.args.session.now c.say_skipped.new.session c.args.outside.now c.say_skipped.new.outside))
    op c.say_skipped.ensures.runs

pub returns-in-Ok-None-clause-rows : goal.returns-in-Ok-None-clause-rows
returns-in-Ok-None-clause-rows g c =
    let K = c.args.session.now.store.engine.size in
    let R = c.args.session.now.store.engine.rows in
    let op = sym c.in-Ok-None.field-0-is ∙ (c.in-Ok-None.ensures.op ∙ ap (λ (m : Machine). move_of m.rows.nodes c.args.node c.args.mover.now.folder) c.engine.ensures.lent) in
    on_ok c.say_skipped.result _
    (subst (λ (o : Option FileOp). c.say_skipped.new.session.store.engine.rows ≡ (moving_turn K c.args.number c.args.mover.now.moment o).after R) op (ap (λ (m : Machine). m.rows) c.say_skipped.ensures.engine))

pub returns-in-Err-clause-runs : goal.returns-in-Err-clause-runs
returns-in-Err-clause-runs g c = full_stops (moving_turn c.args.session.now.store.engine.size c.args.number c.args.mover.now.moment (move_of c.args.session.now.store.engine.rows.nodes c.args.node c.args.mover.now.folder) ∷ []) c.args.session.now c.args.outside.now (laws_of g.met.O.Sink g.met.O.Disk g.met.O.Outside)

-- ---- what it takes
pub returns-in-Ok-Some-clause-looks : goal.returns-in-Ok-Some-clause-looks
returns-in-Ok-Some-clause-looks g c =
    let M = members g.O.Source g.O.Sink g.O.Disk in
    let was = c.args.session.now in
    let nodes = was.store.engine.rows.nodes in
    let to = c.args.mover.now.folder in
    let looks = c.args.steps.now in
    let cost = λ (m : Machine). path_cost m.rows.nodes c.args.node + 4 * (length (moved_path m.rows.nodes c.args.node to) + 1) in
    let most = looks + (path_cost nodes c.args.node + 4 * (length (moved_path nodes c.args.node to) + 1)) in
    let few : c.move_of.new.steps ≤ most = omega (arith, c.move_of.ensures.looks, ap cost c.engine.ensures.lent) in
    let left = bytes_after c.take_read.result c.take_read.new.session in
    let op = sym c.in-Ok-Some.field-0-is ∙ (c.in-Ok-Some.ensures.op ∙ ap (λ (m : Machine). move_of m.rows.nodes c.args.node to) c.engine.ensures.lent) in
    let turns = λ (o : Option FileOp). moving_turn was.store.engine.size c.args.number c.args.mover.now.moment o ∷ [] in
    spends_less (turns (move_of nodes c.args.node to)) was c.args.outside.now c.move_of.new.steps most c.take_read.new.steps left left few (omega arith)
    (subst (λ (o : Option FileOp). Spends M (moving_turn was.store.engine.size c.args.number c.args.mover.now.moment o ∷ []) was c.args.outside.now c.move_of.new.steps c.take_read.new.steps left) op c.take_read.ensures.looks)

pub returns-in-Ok-None-clause-looks : goal.returns-in-Ok-None-clause-looks
returns-in-Ok-None-clause-looks g c =
    let M = members g.O.Source g.O.Sink g.O.Disk in
    let was = c.args.session.now in
    let nodes = was.store.engine.rows.nodes in
    let to = c.args.mover.now.folder in
    let looks = c.args.steps.now in
    let cost = λ (m : Machine). path_cost m.rows.nodes c.args.node + 4 * (length (moved_path m.rows.nodes c.args.node to) + 1) in
    let most = looks + (path_cost nodes c.args.node + 4 * (length (moved_path nodes c.args.node to) + 1)) in
    let few : c.move_of.new.steps ≤ most = omega (arith, c.move_of.ensures.looks, ap cost c.engine.ensures.lent) in
    let left = bytes_after c.say_skipped.result c.say_skipped.new.session in
    let op = sym c.in-Ok-None.field-0-is ∙ (c.in-Ok-None.ensures.op ∙ ap (λ (m : Machine). move_of m.rows.nodes c.args.node to) c.engine.ensures.lent) in
    let turns = λ (o : Option FileOp). moving_turn was.store.engine.size c.args.number c.args.mover.now.moment o ∷ [] in
    spends_less (turns (move_of nodes c.args.node to)) was c.args.outside.now c.move_of.new.steps most c.say_skipped.new.steps left left few (omega arith)
    (subst (λ (o : Option FileOp). Spends M (moving_turn was.store.engine.size c.args.number c.args.mover.now.moment o ∷ []) was c.args.outside.now c.move_of.new.steps c.say_skipped.new.steps left) op c.say_skipped.ensures.looks)

pub returns-in-Err-clause-looks : goal.returns-in-Err-clause-looks
returns-in-Err-clause-looks g c =
    let was = c.args.session.now in
    let nodes = was.store.engine.rows.nodes in
    let to = c.args.mover.now.folder in
    let looks = c.args.steps.now in
    let cost = λ (m : Machine). path_cost m.rows.nodes c.args.node + 4 * (length (moved_path m.rows.nodes c.args.node to) + 1) in
    let most = looks + (path_cost nodes c.args.node + 4 * (length (moved_path nodes c.args.node to) + 1)) in
    let few : c.move_of.new.steps ≤ most = omega (arith, c.move_of.ensures.looks, ap cost c.engine.ensures.lent) in
    let left = bytes_since was.store.journal in
    let turns = moving_turn was.store.engine.size c.args.number c.args.mover.now.moment (move_of nodes c.args.node to) ∷ [] in
    spends_less turns was c.args.outside.now c.move_of.new.steps most c.move_of.new.steps left left few (omega arith) (spends_nothing turns was c.args.outside.now c.move_of.new.steps)
