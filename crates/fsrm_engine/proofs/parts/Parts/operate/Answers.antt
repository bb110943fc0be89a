use Rattle.std.proofs.Common.{sym, subst}
use Rattle.fsrm_model.specs.declared.command.Deed.TheVariants.{File}
use Rattle.fsrm_model.specs.declared.command.FileOp.{FileOp}
use Rattle.fsrm_engine.specs.Machine.{Does}
use Rattle.fsrm_engine.proofs.parts.Parts.operate.Goals as goal

pub returns-in-Create-clause-ok : goal.returns-in-Create-clause-ok
returns-in-Create-clause-ok g c = subst (λ (op : FileOp). Does c.args.self.now c.create.new.self c.args.moment (File op) c.create.result) (sym c.in-Create.is) c.create.ensures.ok

pub returns-in-Resize-clause-ok : goal.returns-in-Resize-clause-ok
returns-in-Resize-clause-ok g c = subst (λ (op : FileOp). Does c.args.self.now c.resize.new.self c.args.moment (File op) c.resize.result) (sym c.in-Resize.is) c.resize.ensures.ok

pub returns-in-Touch-clause-ok : goal.returns-in-Touch-clause-ok
returns-in-Touch-clause-ok g c = subst (λ (op : FileOp). Does c.args.self.now c.touch.new.self c.args.moment (File op) c.touch.result) (sym c.in-Touch.is) c.touch.ensures.ok

pub returns-in-Remove-clause-ok : goal.returns-in-Remove-clause-ok
returns-in-Remove-clause-ok g c = subst (λ (op : FileOp). Does c.args.self.now c.remove.new.self c.args.moment (File op) c.remove.result) (sym c.in-Remove.is) c.remove.ensures.ok
