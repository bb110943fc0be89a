use Rattle.std.proofs.Common.{◌≡◌, true, refl, subst, arith}
use Rattle.std.specs.Prelude.{◌&&◌, OnErr}
use Rattle.fsrm_base.proofs.TestLaws.{both, le_is}
use Rattle.fsrm_model.specs.values.Limits.{latest_moment}
use Rattle.fsrm_model.specs.store.Valid.{is_moment}
use Rattle.fsrm_model.specs.store.Valued.{is_deed, is_short}
use Rattle.fsrm_model.proofs.commands.EachCommand.{legal_report, step_acts}
use Rattle.fsrm_engine.specs.Machine.{Machine, machine_of, rows_of}
use Rattle.fsrm_engine.specs.Memory.{may_want_memory}
use Rattle.fsrm_engine.proofs.steps.WholeLaws.{arranged, result_named, seen_cost, seen_err, seen_idle, seen_ok}
use Rattle.fsrm_engine.proofs.engine.Engine.apply.Goals as goal

pub take-requires-clause-ready : goal.take-requires-clause-ready
take-requires-clause-ready g c =
    let a = arranged c.self.inside.parts c.arrange_for.new.tree c.args.self.now c.arrange_for.ensures c.self.invariant c.self.view_is in
    let command = c.args.command.now in
    let legal : (is_moment command.moment ≡ true) × ((is_deed command.deed && is_short command.deed) ≡ true) = both _ _ c.requires.valid in
    record {
      whole = a.whole;
      idle = seen_idle (record c.self.inside.parts { tree = c.arrange_for.new.tree }) c.args.self.now a.whole a.view_is c.requires.idle;
      in_range = le_is command.moment latest_moment legal.0;
      after = c.if-command-self.false;
    }

pub returns-clause-ok : goal.returns-clause-ok
returns-clause-ok g c =
    let a = arranged c.self.inside.parts c.arrange_for.new.tree c.args.self.now c.arrange_for.ensures c.self.invariant c.self.view_is in
    let p = record c.self.inside.parts { tree = c.arrange_for.new.tree } in
    seen_ok p c.take.new.self c.args.self.now c.args.command.now c.take.result a.view_is c.take.ensures.ok c.take.ensures.whole.valid.quotas
    (step_acts p.tree.size (rows_of p) c.args.command.now a.whole.valid c.requires.valid)

pub returns-clause-named : goal.returns-clause-named
returns-clause-named g c =
    let a = arranged c.self.inside.parts c.arrange_for.new.tree c.args.self.now c.arrange_for.ensures c.self.invariant c.self.view_is in
    let p = record c.self.inside.parts { tree = c.arrange_for.new.tree } in
    let command = c.args.command.now in
    result_named (machine_of p) (machine_of c.take.new.self) c.args.command.now c.take.result
    (seen_ok p c.take.new.self (machine_of p) c.args.command.now c.take.result refl c.take.ensures.ok c.take.ensures.whole.valid.quotas
    (step_acts p.tree.size (rows_of p) c.args.command.now a.whole.valid c.requires.valid)) a.whole.valid
    (legal_report command.deed (both (is_deed command.deed) (is_short command.deed) (both (is_moment command.moment) (is_deed command.deed && is_short command.deed) c.requires.valid).1).0)

pub returns-clause-memory : goal.returns-clause-memory
returns-clause-memory g c =
    let a = arranged c.self.inside.parts c.arrange_for.new.tree c.args.self.now c.arrange_for.ensures c.self.invariant c.self.view_is in
    subst (λ (seen : Machine). OnErr c.take.result (may_want_memory seen.rows c.args.command.now.deed ≡ true)) a.view_is c.take.ensures.memory

pub returns-clause-err : goal.returns-clause-err
returns-clause-err g c =
    let a = arranged c.self.inside.parts c.arrange_for.new.tree c.args.self.now c.arrange_for.ensures c.self.invariant c.self.view_is in
    seen_err (record c.self.inside.parts { tree = c.arrange_for.new.tree }) c.take.new.self c.args.self.now c.take.result a.view_is c.take.ensures.err

pub returns-clause-kept : goal.returns-clause-kept
returns-clause-kept g c = c.take.ensures.whole.valid

pub returns-clause-looks : goal.returns-clause-looks
returns-clause-looks g c =
    let a = arranged c.self.inside.parts c.arrange_for.new.tree c.args.self.now c.arrange_for.ensures c.self.invariant c.self.view_is in
    omega (arith, c.take.ensures.looks, seen_cost (record c.self.inside.parts { tree = c.arrange_for.new.tree }) c.args.self.now c.args.command.now a.view_is c.if-command-self.false)
