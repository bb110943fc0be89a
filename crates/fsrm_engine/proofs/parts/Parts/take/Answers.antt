use Rattle.fsrm_model.proofs.commands.EachCommand.{step_valid}
use Rattle.fsrm_engine.specs.Machine.{rows_of}
use Rattle.fsrm_engine.proofs.steps.WholeLaws.{result_whole}
use Rattle.fsrm_engine.proofs.parts.Parts.take.Goals as goal

pub returns-clause-whole : goal.returns-clause-whole
returns-clause-whole g c =
    let p = c.args.self.now in
    let command = c.args.command.now in
    result_whole p c.carry_out.new.self command.moment command.deed c.carry_out.result c.requires.ready.whole c.carry_out.ensures.ok c.carry_out.ensures.err c.carry_out.ensures.sound
    (step_valid p.tree.size (rows_of p) command c.requires.ready.whole.valid c.requires.valid)
