use Rattle.std.proofs.Common.{◌∙◌}
use Rattle.fsrm_parts.proofs.settling.OrderlyQuotas.{quotas_orderly}
use Rattle.fsrm_engine.proofs.steps.ActLaws.{is_act_of, text_seen}
use Rattle.fsrm_engine.proofs.engine.Engine.act_text.Goals as goal

pub text_of-requires-clause-orderly : goal.text_of-requires-clause-orderly
text_of-requires-clause-orderly c =
    let p = c.self.inside.parts in
    quotas_orderly p.tree.nodes p.objects.quotas c.self.invariant.valid.quotas

pub text_of-requires-clause-there : goal.text_of-requires-clause-there
text_of-requires-clause-there c = is_act_of c.self.inside.parts c.args.self.now c.args.act.now c.self.view_is c.requires

pub returns : goal.returns
returns c = c.text_of.ensures ∙ text_seen c.self.inside.parts c.args.self.now c.args.act.now c.self.view_is
