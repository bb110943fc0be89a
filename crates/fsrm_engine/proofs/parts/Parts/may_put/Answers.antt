use Rattle.fsrm_engine.proofs.tables.RoomLaws.{short_texts}
use Rattle.fsrm_engine.proofs.parts.Parts.may_put.Goals as goal

pub may_set-requires-clause-texts : goal.may_set-requires-clause-texts
may_set-requires-clause-texts c = short_texts c.args.row.now.thresholds c.requires.thresholds
