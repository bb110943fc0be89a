use Rattle.std.proofs.Common.{◌∙◌}
use Rattle.fsrm_parts.proofs.tables.AnswerLaws.{on_err}
use Rattle.fsrm_parts.proofs.walks.PlaceLaws.{shown_folder}
use Rattle.fsrm_parts.proofs.usage.put_one.Goals as goal

pub returns-in_err-push-clause-memory : goal.returns-in_err-push-clause-memory
returns-in_err-push-clause-memory g c =
    on_err c.from_residual.result (shown_folder c.args.tree.now.nodes c.args.number c.node-view.result c.node-view.ensures.view ∙ c.if-view.true)
