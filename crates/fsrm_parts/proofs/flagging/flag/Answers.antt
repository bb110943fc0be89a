use Rattle.std.proofs.Common.{◌≡◌, Some, None, ap, sym, ◌∙◌, List}
use Rattle.std.specs.Option.{option_copied}
use Rattle.fsrm_base.specs.Keyed.{row_of}
use Rattle.fsrm_base.proofs.Look.{found_has}
use Rattle.fsrm_model.specs.declared.row.QuotaRow.{QuotaRow}
use Rattle.fsrm_model.specs.objects.Quota.{folder_of}
use Rattle.fsrm_parts.proofs.tables.FlagLaws.{flag_absent, flag_other, flag_rebuilding}
use Rattle.fsrm_parts.proofs.flagging.flag.Goals as goal

pub returns-in_default : goal.returns-in_default
returns-in_default c =
    let quotas = c.args.objects.now.quotas in
    let none : row_of folder_of c.args.folder quotas ≡ None = sym c.quota.ensures ∙ ap option_copied c.in_default.is in
    ap (λ (rows : List QuotaRow). record c.args.objects.now { quotas = rows }) (flag_absent quotas c.args.folder none)

pub set_state-requires : goal.set_state-requires
set_state-requires c =
    let quotas = c.args.objects.now.quotas in
    let found : row_of folder_of c.args.folder quotas ≡ Some c.in-Some.quota.now = sym c.quota.ensures ∙ ap option_copied c.in-Some.is in
    found_has folder_of c.args.folder quotas c.in-Some.quota.now found

pub returns-then-is_rebuilding : goal.returns-then-is_rebuilding
returns-then-is_rebuilding c =
    let quotas = c.args.objects.now.quotas in
    let found : row_of folder_of c.args.folder quotas ≡ Some c.in-Some.quota.now = sym c.quota.ensures ∙ ap option_copied c.in-Some.is in
    c.set_state.ensures
    ∙ ap (λ (rows : List QuotaRow). record c.args.objects.now { quotas = rows }) (flag_rebuilding quotas c.args.folder c.in-Some.quota.now c.requires found (sym c.is_rebuilding.ensures ∙ c.if-is_rebuilding.true))

pub returns-else-is_rebuilding : goal.returns-else-is_rebuilding
returns-else-is_rebuilding c =
    let quotas = c.args.objects.now.quotas in
    let found : row_of folder_of c.args.folder quotas ≡ Some c.in-Some.quota.now = sym c.quota.ensures ∙ ap option_copied c.in-Some.is in
    ap (λ (rows : List QuotaRow). record c.args.objects.now { quotas = rows }) (flag_other quotas c.args.folder c.in-Some.quota.now c.requires found (sym c.is_rebuilding.ensures ∙ c.if-is_rebuilding.false))
