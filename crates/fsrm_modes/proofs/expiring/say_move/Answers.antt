use Rattle.std.proofs.Common.{◌≤◌, List, ℕ, [], ◌∷◌, ◌∙◌, ap, arith, subst}
use Rattle.std.specs.Prelude.{codes, decimal, ◌+◌, MatchResult}
use Rattle.fsrm_base.specs.Keyed.{has_row}
use Rattle.fsrm_engine.specs.Machine.{Machine}
use Rattle.fsrm_model.specs.commands.Cost.{path_cost}
use Rattle.fsrm_model.specs.nodes.Tree.{number}
use Rattle.fsrm_model.specs.texts.Printed.{line_of, path_text}
use Rattle.fsrm_session.specs.Members.{members}
use Rattle.fsrm_store.specs.Amortized.{bytes_since}
use Rattle.fsrm_session.specs.Spending.{bytes_after, Spends}
use Rattle.fsrm_session.specs.Turns.{said_turn}
use Rattle.fsrm_session.specs.Underway.{Goes, Stops}
use Rattle.fsrm_session.proofs.Object.{laws_of}
use Rattle.fsrm_session.proofs.Spending.{spends_less, spends_nothing}
use Rattle.fsrm_modes.specs.Expiry.{move_line}
use Rattle.file_jobs.proofs.MoveLaws.{file_has}
use Rattle.fsrm_modes.proofs.Outcomes.{full_stops}
use Rattle.fsrm_modes.proofs.expiring.say_move.Goals as goal

pub path_text-requires : goal.path_text-requires
path_text-requires g c =
    ap (λ (m : Machine). has_row number c.args.node m.rows.nodes) c.engine.ensures.lent ∙ file_has c.args.session.now.store.engine.rows.nodes c.args.node c.requires.file

pub returns-clause-runs : goal.returns-clause-runs
returns-clause-runs g c =
    let M = members g.O.Source g.O.Sink g.O.Disk in
    let text = c.as_str.ensures ∙ (c.in-Ok.ensures.text ∙ ap (λ (m : Machine). path_text m.rows.nodes c.args.node) c.engine.ensures.lent) in
    subst (λ (bs : List ℕ). MatchResult c.say_path.result
    (λ x. Goes M (said_turn (line_of (decimal c.args.number ∷ codes "move" ∷ bs ∷ [])) ∷ []) c.args.session.now c.say_path.new.session c.args.outside.now c.say_path.new.outside)
    (λ e. Stops M e (said_turn (line_of (decimal c.args.number ∷ codes "move" ∷ bs ∷ [])) ∷ []) c.args.session.now c.say_path.new.session c.args.outside.now c.say_path.new.outside))
    text c.say_path.ensures.runs

pub returns-in_default-clause-runs : goal.returns-in_default-clause-runs
returns-in_default-clause-runs g c = full_stops (said_turn (move_line c.args.session.now.store.engine.rows.nodes c.args.number c.args.node) ∷ []) c.args.session.now c.args.outside.now (laws_of g.met.O.Sink g.met.O.Disk g.met.O.Outside)

-- ---- what it takes
pub returns-clause-looks : goal.returns-clause-looks
returns-clause-looks g c =
    let M = members g.O.Source g.O.Sink g.O.Disk in
    let was = c.args.session.now in
    let R = was.store.engine.rows in
    let looks = c.args.steps.now in
    let left = bytes_after c.say_path.result c.say_path.new.session in
    let text = c.as_str.ensures ∙ (c.in-Ok.ensures.text ∙ ap (λ (m : Machine). path_text m.rows.nodes c.args.node) c.engine.ensures.lent) in
    let turns = said_turn (move_line R.nodes c.args.number c.args.node) ∷ [] in
    let few : c.path_text.new.steps ≤ looks + path_cost R.nodes c.args.node = omega (arith, c.path_text.ensures.looks, ap (λ (m : Machine). path_cost m.rows.nodes c.args.node) c.engine.ensures.lent) in
    spends_less turns was c.args.outside.now c.path_text.new.steps (looks + path_cost R.nodes c.args.node) c.say_path.new.steps left left few (omega arith)
    (subst (λ (bs : List ℕ). Spends M (said_turn (line_of (decimal c.args.number ∷ codes "move" ∷ bs ∷ [])) ∷ []) was c.args.outside.now c.path_text.new.steps c.say_path.new.steps left) text c.say_path.ensures.looks)

pub returns-in_default-clause-looks : goal.returns-in_default-clause-looks
returns-in_default-clause-looks g c =
    let was = c.args.session.now in
    let R = was.store.engine.rows in
    let looks = c.args.steps.now in
    let turns = said_turn (move_line R.nodes c.args.number c.args.node) ∷ [] in
    let few : c.path_text.new.steps ≤ looks + path_cost R.nodes c.args.node = omega (arith, c.path_text.ensures.looks, ap (λ (m : Machine). path_cost m.rows.nodes c.args.node) c.engine.ensures.lent) in
    let left = bytes_since was.store.journal in
    spends_less turns was c.args.outside.now c.path_text.new.steps (looks + path_cost R.nodes c.args.node) c.path_text.new.steps left left few (omega arith) (spends_nothing turns was c.args.outside.now c.path_text.new.steps)
