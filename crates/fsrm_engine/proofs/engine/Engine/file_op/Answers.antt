use Rattle.std.proofs.Common.{◌≡◌, true, refl, subst, arith}
use Rattle.std.specs.Prelude.{OnErr}
use Rattle.fsrm_model.specs.declared.command.Command.{Command}
use Rattle.fsrm_model.specs.declared.command.Deed.TheVariants.{File}
use Rattle.fsrm_model.proofs.commands.EachCommand.{deed_acts}
use Rattle.fsrm_engine.specs.Machine.{Machine, machine_of, rows_of}
use Rattle.fsrm_engine.specs.Memory.{may_want_memory}
use Rattle.fsrm_engine.proofs.steps.WholeLaws.{arranged, result_named, seen_cost, seen_err, seen_idle, seen_ok}
use Rattle.fsrm_engine.proofs.engine.Engine.file_op.Goals as goal

pub file_op-requires-clause-ready : goal.file_op-requires-clause-ready
file_op-requires-clause-ready g c =
    let a = arranged c.self.inside.parts c.arrange_for_op.new.tree c.args.self.now c.arrange_for_op.ensures c.self.invariant c.self.view_is in
    record {
      whole = a.whole;
      idle = seen_idle (record c.self.inside.parts { tree = c.arrange_for_op.new.tree }) c.args.self.now a.whole a.view_is c.requires.idle;
      in_range = c.requires.moment;
      after = c.if-moment-self.false;
    }

pub returns-clause-ok : goal.returns-clause-ok
returns-clause-ok g c =
    let a = arranged c.self.inside.parts c.arrange_for_op.new.tree c.args.self.now c.arrange_for_op.ensures c.self.invariant c.self.view_is in
    let p = record c.self.inside.parts { tree = c.arrange_for_op.new.tree } in
    let command : Command = record { moment = c.args.moment; deed = File c.args.op.now } in
    seen_ok p c.file_op.new.self c.args.self.now command c.file_op.result a.view_is c.file_op.ensures.ok c.file_op.ensures.whole.valid.quotas
    (deed_acts p.tree.size (rows_of p) c.args.moment (File c.args.op.now) a.whole.valid c.requires.moment c.requires.valid)

pub returns-clause-named : goal.returns-clause-named
returns-clause-named g c =
    let a = arranged c.self.inside.parts c.arrange_for_op.new.tree c.args.self.now c.arrange_for_op.ensures c.self.invariant c.self.view_is in
    let p = record c.self.inside.parts { tree = c.arrange_for_op.new.tree } in
    let command : Command = record { moment = c.args.moment; deed = File c.args.op.now } in
    result_named (machine_of p) (machine_of c.file_op.new.self) command c.file_op.result
    (seen_ok p c.file_op.new.self (machine_of p) command c.file_op.result refl c.file_op.ensures.ok c.file_op.ensures.whole.valid.quotas
    (deed_acts p.tree.size (rows_of p) c.args.moment (File c.args.op.now) a.whole.valid c.requires.moment c.requires.valid)) a.whole.valid tt

pub returns-clause-memory : goal.returns-clause-memory
returns-clause-memory g c =
    let a = arranged c.self.inside.parts c.arrange_for_op.new.tree c.args.self.now c.arrange_for_op.ensures c.self.invariant c.self.view_is in
    subst (λ (seen : Machine). OnErr c.file_op.result (may_want_memory seen.rows (File c.args.op.now) ≡ true)) a.view_is c.file_op.ensures.memory

pub returns-clause-err : goal.returns-clause-err
returns-clause-err g c =
    let a = arranged c.self.inside.parts c.arrange_for_op.new.tree c.args.self.now c.arrange_for_op.ensures c.self.invariant c.self.view_is in
    seen_err (record c.self.inside.parts { tree = c.arrange_for_op.new.tree }) c.file_op.new.self c.args.self.now c.file_op.result a.view_is c.file_op.ensures.err

pub returns-clause-kept : goal.returns-clause-kept
returns-clause-kept g c = c.file_op.ensures.whole.valid

pub returns-clause-looks : goal.returns-clause-looks
returns-clause-looks g c =
    let a = arranged c.self.inside.parts c.arrange_for_op.new.tree c.args.self.now c.arrange_for_op.ensures c.self.invariant c.self.view_is in
    omega (arith, c.file_op.ensures.looks, seen_cost (record c.self.inside.parts { tree = c.arrange_for_op.new.tree }) c.args.self.now (record { moment = c.args.moment; deed = File c.args.op.now }) a.view_is c.if-moment-self.false)
