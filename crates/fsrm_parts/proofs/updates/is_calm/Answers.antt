use Rattle.std.proofs.Common.{◌≡◌, Some, sym, ◌∙◌, ap}
use Rattle.std.specs.Option.{option_copied}
use Rattle.fsrm_base.specs.Keyed.{row_of}
use Rattle.fsrm_base.proofs.TestLaws.{is_false}
use Rattle.fsrm_model.specs.objects.Quota.{folder_of}
use Rattle.templates.proofs.ReachedLaws.{whole_folder}
use Rattle.fsrm_parts.specs.Updated.{limit_crosses}
use Rattle.fsrm_parts.proofs.settling.LimitLaws.{calm}
use Rattle.fsrm_parts.proofs.updates.is_calm.Goals as goal

pub returns : goal.returns
returns c = λ yes run_limit moment.
    let w = c.args.was.now in
    let quota = c.in-Some.quota.now in
    let apart = c.args.thresholds.now in
    let found : row_of folder_of w.row.folder c.args.objects.now.quotas ≡ Some quota = sym c.quota.ensures ∙ ap option_copied c.in-Some.is in
    let none = sym (c.crosses_some.ensures ∙ ap (limit_crosses w.row.limit quota.limit c.args.used) c.as_slice.ensures) ∙ is_false c.crosses_some.result yes in
    calm c.args.objects.now apart w quota c.args.used run_limit moment c.if-not-was.false found
    (c.requires quota (ap (λ k. row_of folder_of k c.args.objects.now.quotas) (whole_folder apart w) ∙ found)) none
