use Rattle.fsrm_session.specs.Members.{members}
use Rattle.fsrm_session.specs.Spending.{bytes_after}
use Rattle.fsrm_modes.proofs.WorkEnds.{one_part, one_part_spends}
use Rattle.fsrm_modes.proofs.work.say_summary.Goals as goal

pub returns-clause-runs : goal.returns-clause-runs
returns-clause-runs g c = one_part (members g.O.Source g.O.Sink g.O.Disk) c.say.result c.args.text.now c.args.session.now c.say.new.self c.args.outside.now c.say.new.outside c.say.ensures.runs

pub returns-clause-looks : goal.returns-clause-looks
returns-clause-looks g c = one_part_spends c.args.text.now c.args.session.now c.args.outside.now c.args.steps.now c.say.new.steps (bytes_after c.say.result c.say.new.self) c.say.ensures.looks
