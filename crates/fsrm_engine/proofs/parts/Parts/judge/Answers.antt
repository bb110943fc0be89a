use Rattle.fsrm_engine.proofs.judging.JudgedLaws.{groups_known}
use Rattle.fsrm_engine.proofs.parts.Parts.judge.Goals as goal

pub blocked-requires-clause-known : goal.blocked-requires-clause-known
blocked-requires-clause-known g c = groups_known c.args.self.now c.requires.store
