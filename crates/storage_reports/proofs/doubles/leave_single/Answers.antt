use Rattle.std.proofs.Common.{List, ◌∙◌, ap, subst}
use Rattle.std.specs.Prelude.{filter}
use Rattle.fsrm_model.specs.declared.row.NodeRow.{NodeRow}
use Rattle.storage_reports.specs.Doubles.{Shares, may_double}
use Rattle.storage_reports.proofs.doubles.leave_single.Goals as goal

pub returns-clause-left : goal.returns-clause-left
returns-clause-left g c =
    let shared = c.in_ok-shared.shared in
    record {
      shared = shared;
      shares = subst (λ (all : List NodeRow). Shares all shared) c.requires.begun c.in_ok-shared.ensures.shares;
      are = c.again.ensures.all ∙ (c.in_ok-leave_single.ensures.all ∙ ap (filter (may_double shared)) c.in_ok-shared.ensures.all);
    }
