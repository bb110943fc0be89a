use Rattle.std.proofs.Common.{ap, ◌∙◌}
use Rattle.thresholds.specs.Marked.{Marked}
use Rattle.fsrm_engine.specs.Machine.{Machine, machine_of}
use Rattle.fsrm_parts.proofs.settling.OrderlyQuotas.{quotas_orderly}
use Rattle.fsrm_engine.proofs.steps.ActLaws.{handed_named, handed_out, handed_rows, handed_whole}
use Rattle.fsrm_engine.proofs.engine.Engine.next_act.Goals as goal

pub next-requires-clause-orderly : goal.next-requires-clause-orderly
next-requires-clause-orderly c =
    let p = c.self.inside.parts in
    quotas_orderly p.tree.nodes p.objects.quotas c.self.invariant.valid.quotas

pub next-requires-clause-marked : goal.next-requires-clause-marked
next-requires-clause-marked c = c.self.invariant.there

pub next-requires-clause-screen : goal.next-requires-clause-screen
next-requires-clause-screen c = c.self.invariant.screens

pub invariant_of-self : goal.invariant_of-self
invariant_of-self c = handed_whole c.self.inside.parts c.next.new.self c.next.result c.next.ensures.log c.self.invariant c.next.ensures.marked c.next.ensures.screen

pub returns-clause-handed_out : goal.returns-clause-handed_out
returns-clause-handed_out c = handed_out c.self.inside.parts c.next.new.self c.next.result c.next.ensures.log c.args.self.now c.self.view_is c.next.ensures.handed_out

pub returns-clause-named : goal.returns-clause-named
returns-clause-named c = handed_named c.self.inside.parts c.next.new.self c.next.result c.next.ensures.log c.self.invariant c.next.ensures.handed_out

pub returns-clause-none : goal.returns-clause-none
returns-clause-none c none =
    ap (λ (m : Marked). machine_of (record c.self.inside.parts { marks = m })) (c.next.ensures.none none) ∙ c.self.view_is

pub returns-clause-size : goal.returns-clause-size
returns-clause-size c = ap (λ (o : Machine). o.size) c.self.view_is

pub returns-clause-rows : goal.returns-clause-rows
returns-clause-rows c = handed_rows c.self.inside.parts c.next.new.self c.next.result c.next.ensures.log c.args.self.now c.self.view_is
