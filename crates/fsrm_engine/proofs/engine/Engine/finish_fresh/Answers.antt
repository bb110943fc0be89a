use Rattle.std.proofs.Common.{◌≡◌, ◌+◌, ◌*◌, ◌≤◌, subst, length}
use Rattle.fsrm_model.specs.nodes.Tree.{under}
use Rattle.fsrm_engine.specs.Machine.{Machine, machine_of}
use Rattle.fsrm_engine.proofs.steps.FinishLaws.{finish_seen, finish_whole, seen_after}
use Rattle.fsrm_engine.proofs.steps.WholeLaws.{arranged, seen_idle}
use Rattle.fsrm_engine.proofs.engine.Engine.finish_fresh.Goals as goal

pub finish_fresh-requires : goal.finish_fresh-requires
finish_fresh-requires g c =
    let a = arranged c.self.inside.parts c.arrange.new.self c.args.self.now c.arrange.ensures.same c.self.invariant c.self.view_is in
    record {
      may = record {
        sound = a.whole.sound;
        idle = seen_idle (record c.self.inside.parts { tree = c.arrange.new.self }) c.args.self.now a.whole a.view_is c.requires.idle;
        in_range = c.requires.moment;
      };
    }

pub invariant_of-self : goal.invariant_of-self
invariant_of-self g c =
    let a = arranged c.self.inside.parts c.arrange.new.self c.args.self.now c.arrange.ensures.same c.self.invariant c.self.view_is in
    let e = c.finish_fresh.ensures in
    finish_whole (record c.self.inside.parts { tree = c.arrange.new.self }) c.finish_fresh.new.self c.args.moment c.args.folder a.whole c.requires.moment e.size e.rows e.acts e.sound

pub returns-clause-ok : goal.returns-clause-ok
returns-clause-ok g c =
    let a = arranged c.self.inside.parts c.arrange.new.self c.args.self.now c.arrange.ensures.same c.self.invariant c.self.view_is in
    let e = c.finish_fresh.ensures in
    subst (λ (o : Machine). machine_of c.finish_fresh.new.self ≡ seen_after o c.args.moment c.args.folder) a.view_is
    (finish_seen (record c.self.inside.parts { tree = c.arrange.new.self }) c.finish_fresh.new.self c.args.moment c.args.folder a.whole c.requires.moment e.size e.rows e.acts (invariant_of-self g c).valid.quotas)

pub returns-clause-kept : goal.returns-clause-kept
returns-clause-kept g c = (invariant_of-self g c).valid

pub returns-clause-looks : goal.returns-clause-looks
returns-clause-looks g c =
    let a = arranged c.self.inside.parts c.arrange.new.self c.args.self.now c.arrange.ensures.same c.self.invariant c.self.view_is in
    subst (λ (o : Machine). c.finish_fresh.new.steps ≤ c.args.steps.now + 3 * length (under o.rows.nodes c.args.folder)) a.view_is c.finish_fresh.ensures.looks
