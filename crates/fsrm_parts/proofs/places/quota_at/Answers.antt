use Rattle.std.proofs.Common.{true, [], ap, sym, ◌∙◌}
use Rattle.std.specs.Prelude.{is_none}
use Rattle.std.specs.Option.{option_copied}
use Rattle.fsrm_parts.specs.Places.{rows_with}
use Rattle.fsrm_parts.proofs.walks.FoundLaws.{quota_found, missing, checked}
use Rattle.fsrm_parts.proofs.places.quota_at.Goals as goal

pub returns-in_default-clause-err : goal.returns-in_default-clause-err
returns-in_default-clause-err g c = missing c.args.tree.now.nodes c.args.path.now _ c.in_default.ensures.folder

pub returns-in_default-quota-clause-err : goal.returns-in_default-quota-clause-err
returns-in_default-quota-clause-err g c =
    checked (rows_with c.args.tree.now.nodes c.args.objects.now) c.args.path.now c.in-Some.folder true (λ k. []) c.in-Some.ensures.folder
    (ap is_none (sym c.quota.ensures ∙ ap option_copied c.in_default-quota.is))

pub returns-clause-ok : goal.returns-clause-ok
returns-clause-ok g c =
    quota_found c.args.tree.now.nodes c.args.objects.now.quotas c.args.path.now c.in-Some.folder c.in-Some-quota.quota.now c.in-Some.ensures.folder (sym c.in-Some-quota.ensures)
