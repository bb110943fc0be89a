use Rattle.std.proofs.Common.{ap, Some, None}
use Rattle.std.specs.Prelude.{Err, Ok}
use Rattle.fsrm_model.specs.lines.Script.{Replied, without_cr}
use Rattle.fsrm_model.proofs.commands.EachCommand.{refused_or_exception, refused_leaves, sum_fresh}
use Rattle.fsrm_model.proofs.lines.PlainMachine.{replied-read}
use Rattle.fsrm_model.proofs.lines.SpellingLaws.{spelled_reads, skips_read}
use Rattle.fsrm_model.proofs.laws.plain_machine.Goals as goal

pub returns-clause-unread_rows : goal.returns-clause-unread_rows
returns-clause-unread_rows c = λ K R n line refusal e. ap (λ (r : Replied). r.rows) (replied-read K R n line (Some (Err refusal)) e)

pub returns-clause-unread_text : goal.returns-clause-unread_text
returns-clause-unread_text c = λ K R n line refusal e. ap (λ (r : Replied). r.text) (replied-read K R n line (Some (Err refusal)) e)

pub returns-clause-refused : goal.returns-clause-refused
returns-clause-refused c = refused_or_exception

pub returns-clause-left : goal.returns-clause-left
returns-clause-left c = λ K R command refusal h. (refused_leaves K R command refusal h).rows_are

pub returns-clause-runs : goal.returns-clause-runs
returns-clause-runs c = λ K R command refusal h. let left = refused_leaves K R command refusal h in (left.acts_are, left.lasts)

pub returns-clause-sum : goal.returns-clause-sum
returns-clause-sum c = sum_fresh

pub returns-clause-spelled_rows : goal.returns-clause-spelled_rows
returns-clause-spelled_rows c = λ K R n line command s. ap (λ (r : Replied). r.rows) (replied-read K R n line (Some (Ok command)) (spelled_reads (without_cr line) command s))

pub returns-clause-spelled_text : goal.returns-clause-spelled_text
returns-clause-spelled_text c = λ K R n line command s. ap (λ (r : Replied). r.text) (replied-read K R n line (Some (Ok command)) (spelled_reads (without_cr line) command s))

pub returns-clause-skipped_rows : goal.returns-clause-skipped_rows
returns-clause-skipped_rows c = λ K R n line s. ap (λ (r : Replied). r.rows) (replied-read K R n line None (skips_read (without_cr line) s))

pub returns-clause-skipped_text : goal.returns-clause-skipped_text
returns-clause-skipped_text c = λ K R n line s. ap (λ (r : Replied). r.text) (replied-read K R n line None (skips_read (without_cr line) s))
