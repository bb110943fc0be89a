use Rattle.std.proofs.Common.{◌≡◌, ◌+◌, ◌*◌, ◌≤◌, true, length, sym, subst, arith}
use Rattle.std.specs.Prelude.{IfOk, OnErr}
use Rattle.fsrm_model.specs.declared.command.Deed.TheVariants.{File}
use Rattle.fsrm_model.specs.declared.command.FileOp.TheVariants.{Move}
use Rattle.fsrm_model.specs.commands.Cost.{deed_cost}
use Rattle.volume_tree.specs.Volume.{Volume}
use Rattle.fsrm_engine.specs.Machine.{Does, IsReady, rows_of}
use Rattle.fsrm_engine.specs.Memory.{may_want_memory}
use Rattle.fsrm_engine.specs.Moves.{IsMove}
use Rattle.fsrm_engine.proofs.steps.StepLaws.{refused_as}
use Rattle.fsrm_engine.proofs.parts.Parts.move_path.Goals as goal

pub returns-in-Err-clause-ok : goal.returns-in-Err-clause-ok
returns-in-Err-clause-ok g c =
    refused_as c.args.self.now c.args.moment (File (Move c.args.from.now c.args.to.now)) _ c.in-Err.refusal c.requires.ready.idle c.requires.ready.after (c.in-Err.ensures.err c.args.moment) c.in-Err.ensures.bare c.refused.ensures

pub move_ready-requires-clause-ready : goal.move_ready-requires-clause-ready
move_ready-requires-clause-ready g c =
    subst (λ (t : Volume). IsReady (record c.args.self.now { tree = t }) c.args.moment) (sym c.arrange_for_move.ensures) c.requires.ready

pub move_ready-requires-clause-moves : goal.move_ready-requires-clause-moves
move_ready-requires-clause-moves g c =
    subst (λ (t : Volume). IsMove t c.args.from.now c.args.to.now c.in-Ok.found.0) (sym c.arrange_for_move.ensures) c.in-Ok.ensures.ok

pub returns-clause-ok : goal.returns-clause-ok
returns-clause-ok g c =
    subst (λ (t : Volume). IfOk c.move_ready.result (λ answer. Does (record c.args.self.now { tree = t }) c.move_ready.new.self c.args.moment (File (Move c.args.from.now c.args.to.now)) answer))
    c.arrange_for_move.ensures c.move_ready.ensures.ok

pub returns-clause-memory : goal.returns-clause-memory
returns-clause-memory g c =
    subst (λ (t : Volume). OnErr c.move_ready.result (may_want_memory (rows_of (record c.args.self.now { tree = t })) (File (Move c.args.from.now c.args.to.now)) ≡ true))
    c.arrange_for_move.ensures c.move_ready.ensures.memory

pub returns-clause-err : goal.returns-clause-err
returns-clause-err g c =
    subst (λ (t : Volume). OnErr c.move_ready.result (c.move_ready.new.self ≡ record c.args.self.now { tree = t })) c.arrange_for_move.ensures c.move_ready.ensures.err

pub returns-clause-looks : goal.returns-clause-looks
returns-clause-looks g c =
    let looks =
    subst (λ (t : Volume). c.move_ready.new.steps + (22 * length c.args.from.now + 23 * length c.args.to.now + 27) ≤ c.ready_move.new.steps + deed_cost (rows_of (record c.args.self.now { tree = t })) (File (Move c.args.from.now c.args.to.now)))
    c.arrange_for_move.ensures c.move_ready.ensures.looks in
    omega (arith, c.in-Ok.ensures.looks, looks)
