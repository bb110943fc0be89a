use Rattle.std.proofs.Common.{◌∙◌, arith}
use Rattle.fsrm_journal.proofs.Tails.{tail_has}
use Rattle.fsrm_journal.proofs.journal.Journal.tail.Goals as goal

pub returns-clause-records : goal.returns-clause-records
returns-clause-records c half log before bodies comes ends = c.saturating_sub.ensures ∙ tail_has half log before bodies c.args.self.now.image_end c.args.self.now.end comes ends

pub returns-clause-store : goal.returns-clause-store
returns-clause-store c head image bodies parts s = omega (arith, c.saturating_sub.ensures, s.end, s.image_end)
