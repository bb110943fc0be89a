use Rattle.std.proofs.Common.{ap}
use Rattle.fsrm_model.specs.declared.command.Deed.TheVariants.{Step}
use Rattle.fsrm_model.specs.declared.command.Entry.TheVariants.{Finish}
use Rattle.fsrm_model.proofs.commands.EachCommand.{lasts_is, lasting_kind, lasting_kept}
use Rattle.fsrm_model.proofs.journal.EntryLaws.{same_steps, same_finish, same_finish_acts, step_acts, entry_kept, entry_valid, journal_entry_valid, journaled_new, journaled_again, journaled_next, journaled_lines, lines_front}
use Rattle.fsrm_model.proofs.journal.FinishLaws.{lasting_valid, finish_valid, step_is_finish, step_names}
use Rattle.fsrm_model.proofs.journal.KeptEnds.{lasting_twice}
use Rattle.fsrm_model.proofs.journal.OldLaws.{old_replayed_same}
use Rattle.fsrm_model.proofs.journal.WholeLaws.{kept_whole, whole_kept}
use Rattle.fsrm_model.proofs.laws.journal.Goals as goal

pub returns-clause-twice : goal.returns-clause-twice
returns-clause-twice c = lasting_twice

pub returns-clause-valid : goal.returns-clause-valid
returns-clause-valid c = lasting_valid

pub returns-clause-whole : goal.returns-clause-whole
returns-clause-whole c = λ K R s. (kept_whole K R s, whole_kept R)

pub returns-clause-lasts : goal.returns-clause-lasts
returns-clause-lasts c = lasts_is

pub returns-clause-kinds : goal.returns-clause-kinds
returns-clause-kinds c = lasting_kind

pub returns-clause-passing : goal.returns-clause-passing
returns-clause-passing c = lasting_kept

pub returns-clause-same_rows : goal.returns-clause-same_rows
returns-clause-same_rows c = λ K R Q command other h. (same_steps K R Q command other h).rows.same

pub returns-clause-same_answer : goal.returns-clause-same_answer
returns-clause-same_answer c = λ K R Q command other h. let same = same_steps K R Q command other h in (same.lasting, same.outcome, same.acts)

pub returns-clause-same_finish : goal.returns-clause-same_finish
returns-clause-same_finish c = same_finish

pub returns-clause-same_finish_acts : goal.returns-clause-same_finish_acts
returns-clause-same_finish_acts c = same_finish_acts

pub returns-clause-valid_finish : goal.returns-clause-valid_finish
returns-clause-valid_finish c = finish_valid

pub returns-clause-visits : goal.returns-clause-visits
returns-clause-visits c = λ K R moment n s l. (step_is_finish K R moment n s l).rows

pub returns-clause-finishes : goal.returns-clause-finishes
returns-clause-finishes c = λ K R Q moment n s h l. entry_kept K R Q (record { moment = moment; deed = Step n }) s h l

pub returns-clause-finish_acts : goal.returns-clause-finish_acts
returns-clause-finish_acts c = step_acts

pub returns-clause-entry : goal.returns-clause-entry
returns-clause-entry c = entry_kept

pub returns-clause-named : goal.returns-clause-named
returns-clause-named c = λ K R moment n folder visited used h. ap (Finish moment) (step_names K R moment n folder visited used h)

pub returns-clause-valid_entry : goal.returns-clause-valid_entry
returns-clause-valid_entry c = journal_entry_valid

pub returns-clause-valid_rows : goal.returns-clause-valid_rows
returns-clause-valid_rows c = entry_valid

pub returns-clause-new : goal.returns-clause-new
returns-clause-new c = journaled_new

pub returns-clause-again : goal.returns-clause-again
returns-clause-again c = journaled_again

pub returns-clause-next : goal.returns-clause-next
returns-clause-next c = journaled_next

pub returns-clause-lines : goal.returns-clause-lines
returns-clause-lines c = journaled_lines

pub returns-clause-fronts : goal.returns-clause-fronts
returns-clause-fronts c = lines_front

pub returns-clause-old : goal.returns-clause-old
returns-clause-old c = old_replayed_same
