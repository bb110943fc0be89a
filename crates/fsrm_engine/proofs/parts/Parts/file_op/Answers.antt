use Rattle.fsrm_model.specs.declared.command.Deed.TheVariants.{File}
use Rattle.fsrm_model.proofs.commands.EachCommand.{deed_valid}
use Rattle.fsrm_engine.specs.Machine.{rows_of}
use Rattle.fsrm_engine.proofs.steps.WholeLaws.{result_whole}
use Rattle.fsrm_engine.proofs.parts.Parts.file_op.Goals as goal

pub returns-clause-whole : goal.returns-clause-whole
returns-clause-whole g c =
    let p = c.args.self.now in
    result_whole p c.operate.new.self c.args.moment (File c.args.op.now) c.operate.result c.requires.ready.whole c.operate.ensures.ok c.operate.ensures.err c.operate.ensures.sound
    (deed_valid p.tree.size (rows_of p) c.args.moment (File c.args.op.now) c.requires.ready.whole.valid c.requires.ready.in_range c.requires.valid)
