use Rattle.std.proofs.Common.{◌∙◌, ap, arith, rules}
use Rattle.fsrm_model.specs.declared.row.Capacity.{Capacity}
use Rattle.fsrm_store.proofs.EnginePieceLaws.{none_there, past_all}
use Rattle.fsrm_store.proofs.pieces.next_live.Goals as goal

pub loop-number-preserved : goal.loop-number-preserved
loop-number-preserved c = c.loop-number.invariant ∙ none_there c.loop-number.number c.args.tree.now.nodes (search rules)

pub returns-clause-none : goal.returns-clause-none
returns-clause-none c = λ is.
    c.loop-number.invariant
    ∙ past_all c.args.tree.now.size c.args.tree.now.nodes c.loop-number.number c.requires (omega (arith, ap (λ (K : Capacity). K.nodes) c.capacity-number-end.ensures.size))
