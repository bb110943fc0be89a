use Rattle.std.proofs.Common.{ℕ, ◌≤◌, sym, subst}
use Rattle.fsrm_model.specs.values.Limits.{longest_file}
use Rattle.fsrm_model.proofs.valid.CapacityLaws.{rounded_most, rounded_shifted}
use Rattle.fsrm_model.proofs.space.allocated.Goals as goal

pub returns-clause-space : goal.returns-clause-space
returns-clause-space c = rounded_shifted c.args.cluster c.args.bytes c.requires.cluster c.requires.bytes

pub returns-clause-small : goal.returns-clause-small
returns-clause-small c =
    subst (λ (n : ℕ). n ≤ longest_file) (sym (rounded_shifted c.args.cluster c.args.bytes c.requires.cluster c.requires.bytes))
    (rounded_most c.args.cluster c.args.bytes c.requires.cluster c.requires.bytes)
