use Rattle.std.proofs.Common.{ap}
use Rattle.fsrm_model.specs.declared.command.Deed.TheVariants.{Filegroup}
use Rattle.fsrm_model.specs.declared.command.FilegroupDeed.{FilegroupDeed}
use Rattle.fsrm_engine.specs.Machine.{rows_of}
use Rattle.fsrm_engine.specs.Memory.{may_want_memory}
use Rattle.fsrm_parts.proofs.tables.AnswerLaws.{on_err}
use Rattle.fsrm_engine.proofs.parts.Parts.on_groups.Goals as goal

pub returns-in-Add-clause-memory : goal.returns-in-Add-clause-memory
returns-in-Add-clause-memory c = on_err c.group_add.result (ap (λ (deed : FilegroupDeed). may_want_memory (rows_of c.args.self.now) (Filegroup deed)) c.in-Add.is)

pub returns-in-Modify-clause-memory : goal.returns-in-Modify-clause-memory
returns-in-Modify-clause-memory c = on_err c.group_modify.result (ap (λ (deed : FilegroupDeed). may_want_memory (rows_of c.args.self.now) (Filegroup deed)) c.in-Modify.is)
