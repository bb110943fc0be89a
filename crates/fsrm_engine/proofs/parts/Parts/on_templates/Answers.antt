use Rattle.std.proofs.Common.{ap}
use Rattle.fsrm_model.specs.declared.command.Deed.TheVariants.{Template}
use Rattle.fsrm_model.specs.declared.command.TemplateDeed.{TemplateDeed}
use Rattle.fsrm_engine.specs.Machine.{rows_of}
use Rattle.fsrm_engine.specs.Memory.{may_want_memory}
use Rattle.fsrm_parts.proofs.tables.AnswerLaws.{on_err}
use Rattle.fsrm_engine.proofs.parts.Parts.on_templates.Goals as goal

pub returns-in-Add-clause-memory : goal.returns-in-Add-clause-memory
returns-in-Add-clause-memory c = on_err c.template_add.result (ap (λ (deed : TemplateDeed). may_want_memory (rows_of c.args.self.now) (Template deed)) c.in-Add.is)

pub returns-in-Modify-clause-memory : goal.returns-in-Modify-clause-memory
returns-in-Modify-clause-memory c = on_err c.template_modify.result (ap (λ (deed : TemplateDeed). may_want_memory (rows_of c.args.self.now) (Template deed)) c.in-Modify.is)
