use Rattle.std.proofs.Common.{refl, arith}
use Rattle.fsrm_model.specs.declared.command.Command.{Command}
use Rattle.fsrm_model.specs.declared.command.Deed.TheVariants.{Step}
use Rattle.fsrm_model.specs.commands.ScanWork.{step_work}
use Rattle.fsrm_model.proofs.commands.EachCommand.{kept_acts, kept_valid}
use Rattle.fsrm_model.proofs.commands.Orderly.{unjudged_named}
use Rattle.fsrm_model.proofs.commands.ScanCommands.{step_kept}
use Rattle.fsrm_engine.specs.Machine.{machine_of, rows_of}
use Rattle.fsrm_engine.proofs.steps.WholeLaws.{arranged, seen_cost, seen_idle, seen_takes, takes_named, whole_after}
use Rattle.fsrm_engine.proofs.engine.Engine.scan_step.Goals as goal

pub go_on-requires : goal.go_on-requires
go_on-requires g c =
    let a = arranged c.self.inside.parts c.arrange.new.self c.args.self.now c.arrange.ensures.same c.self.invariant c.self.view_is in
    record {
      ready = record {
        whole = a.whole;
        idle = seen_idle (record c.self.inside.parts { tree = c.arrange.new.self }) c.args.self.now a.whole a.view_is c.requires.idle;
        in_range = c.requires.moment;
        after = c.if-moment-self.false;
      };
    }

pub invariant_of-self : goal.invariant_of-self
invariant_of-self g c =
    let a = arranged c.self.inside.parts c.arrange.new.self c.args.self.now c.arrange.ensures.same c.self.invariant c.self.view_is in
    let p = record c.self.inside.parts { tree = c.arrange.new.self } in
    whole_after p c.go_on.new.self c.args.moment (Step c.args.n) c.go_on.result c.go_on.ensures.ok c.go_on.ensures.sound
    (kept_valid p.tree.size (rows_of p) c.args.moment (Step c.args.n) a.whole.valid c.requires.moment (unjudged_named p.tree.size (rows_of p) (step_work p.tree.size (rows_of p) c.args.n) refl) (step_kept p.tree.size (rows_of p) c.args.n))

pub returns-clause-ok : goal.returns-clause-ok
returns-clause-ok g c =
    let a = arranged c.self.inside.parts c.arrange.new.self c.args.self.now c.arrange.ensures.same c.self.invariant c.self.view_is in
    let p = record c.self.inside.parts { tree = c.arrange.new.self } in
    let command : Command = record { moment = c.args.moment; deed = Step c.args.n } in
    seen_takes p c.go_on.new.self c.args.self.now command c.go_on.result a.view_is c.go_on.ensures.ok (invariant_of-self g c).valid.quotas
    (kept_acts p.tree.size (rows_of p) c.args.moment (Step c.args.n) a.whole.valid c.requires.moment (unjudged_named p.tree.size (rows_of p) (step_work p.tree.size (rows_of p) c.args.n) refl) (step_kept p.tree.size (rows_of p) c.args.n))

pub returns-clause-named : goal.returns-clause-named
returns-clause-named g c =
    let a = arranged c.self.inside.parts c.arrange.new.self c.args.self.now c.arrange.ensures.same c.self.invariant c.self.view_is in
    let p = record c.self.inside.parts { tree = c.arrange.new.self } in
    let command : Command = record { moment = c.args.moment; deed = Step c.args.n } in
    takes_named (machine_of p) (machine_of c.go_on.new.self) command c.go_on.result
    (seen_takes p c.go_on.new.self (machine_of p) command c.go_on.result refl c.go_on.ensures.ok (invariant_of-self g c).valid.quotas
    (kept_acts p.tree.size (rows_of p) c.args.moment (Step c.args.n) a.whole.valid c.requires.moment (unjudged_named p.tree.size (rows_of p) (step_work p.tree.size (rows_of p) c.args.n) refl) (step_kept p.tree.size (rows_of p) c.args.n)))
    a.whole.valid tt

pub returns-clause-kept : goal.returns-clause-kept
returns-clause-kept g c = (invariant_of-self g c).valid

pub returns-clause-looks : goal.returns-clause-looks
returns-clause-looks g c =
    let a = arranged c.self.inside.parts c.arrange.new.self c.args.self.now c.arrange.ensures.same c.self.invariant c.self.view_is in
    omega (arith, c.go_on.ensures.looks, seen_cost (record c.self.inside.parts { tree = c.arrange.new.self }) c.args.self.now (record { moment = c.args.moment; deed = Step c.args.n }) a.view_is c.if-moment-self.false)
