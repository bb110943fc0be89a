use Rattle.fsrm_model.proofs.commands.QuotaLaws.{exceeded_is, peaks_last}
use Rattle.fsrm_model.proofs.commands.EachCommand.{quota_refuses, limits_kept}
use Rattle.fsrm_model.proofs.laws.quotas.Goals as goal

pub returns-clause-exceeds : goal.returns-clause-exceeds
returns-clause-exceeds c = λ K R nodes folder would limit store h. exceeded_is K R nodes folder would limit store.quotas.ascending h

pub returns-clause-refuses : goal.returns-clause-refuses
returns-clause-refuses c = quota_refuses

pub returns-clause-limits : goal.returns-clause-limits
returns-clause-limits c = limits_kept

pub returns-clause-peaks : goal.returns-clause-peaks
returns-clause-peaks c = peaks_last
