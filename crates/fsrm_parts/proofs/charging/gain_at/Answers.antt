use Rattle.std.proofs.Common.{◌≡◌, List, Some, ap, sym, ◌∙◌}
use Rattle.std.proofs.lemmas.Option.{same_Some}
use Rattle.std.specs.Option.{option_copied}
use Rattle.std.specs.Prelude.{is_some}
use Rattle.fsrm_base.specs.Keyed.{has_row, row_of}
use Rattle.fsrm_base.proofs.Look.{found_has, found_key}
use Rattle.fsrm_base.proofs.SortedRows.{has_lent}
use Rattle.fsrm_model.specs.declared.row.QuotaRow.{QuotaRow}
use Rattle.fsrm_model.specs.objects.Quota.{folder_of}
use Rattle.quota_usage.specs.Counters.{used_in}
use Rattle.thresholds.specs.Settled.{crosses_any}
use Rattle.fsrm_parts.specs.Crossing.{is_crossing}
use Rattle.fsrm_parts.proofs.settling.NoteLaws.{notes_absent, notes_failed}
use Rattle.fsrm_parts.proofs.tables.RaiseLaws.{crossing_none, crossing_some, raise_absent, raise_none, raise_used, tables_as}
use Rattle.fsrm_parts.proofs.charging.gain_at.Goals as goal

pub returns-in_default-clause-raised : goal.returns-in_default-clause-raised
returns-in_default-clause-raised c = λ counters same.
    tables_as c.args.objects.now _ (raise_none counters c.args.objects.now.quotas c.args.folder c.args.gain.moment c.requires.ascending (same ∙ (sym c.amend.ensures.used ∙ c.in_default.is)))

pub returns-in_default-clause-noted : goal.returns-in_default-clause-noted
returns-in_default-clause-noted c = λ counters same.
    let gain = c.args.gain in
    notes_failed c.args.crossing.now c.args.objects.now.quotas c.args.folder (is_crossing counters gain.minus gain.plus)
    (λ q own found. crossing_none counters gain.minus gain.plus q (ap (used_in counters) own ∙ (same ∙ (sym c.amend.ensures.used ∙ c.in_default.is)))) c.requires.ascending

pub returns-in_default-quota-clause-raised : goal.returns-in_default-quota-clause-raised
returns-in_default-quota-clause-raised c = λ counters same.
    let none : has_row folder_of c.args.folder c.args.objects.now.quotas ≡ _ = sym (has_lent folder_of c.args.folder c.args.objects.now.quotas c.quota.result c.quota.ensures) ∙ ap is_some c.in_default-quota.is in
    tables_as c.args.objects.now _ (raise_absent counters c.args.objects.now.quotas c.args.folder c.args.gain.moment none)

pub returns-in_default-quota-clause-noted : goal.returns-in_default-quota-clause-noted
returns-in_default-quota-clause-noted c = λ counters same.
    let none : has_row folder_of c.args.folder c.args.objects.now.quotas ≡ _ = sym (has_lent folder_of c.args.folder c.args.objects.now.quotas c.quota.result c.quota.ensures) ∙ ap is_some c.in_default-quota.is in
    notes_absent c.args.crossing.now c.args.objects.now.quotas c.args.folder (is_crossing counters c.args.gain.minus c.args.gain.plus) c.requires.ascending none

pub raise_to-requires-clause-there : goal.raise_to-requires-clause-there
raise_to-requires-clause-there c = found_has folder_of c.args.folder c.args.objects.now.quotas c.in-Some-quota.quota.now (sym c.quota.ensures ∙ ap option_copied c.in-Some-quota.is)

pub raise_to-requires-clause-peak : goal.raise_to-requires-clause-peak
raise_to-requires-clause-peak c = λ q found.
    ap (λ (r : QuotaRow). r.peak) (same_Some q c.in-Some-quota.quota.now (sym found ∙ (sym c.quota.ensures ∙ ap option_copied c.in-Some-quota.is)))

pub returns-clause-raised : goal.returns-clause-raised
returns-clause-raised c = λ counters same.
    c.raise_to.ensures
    ∙ ap (λ (quotas : List QuotaRow). record c.args.objects.now { quotas = quotas })
    (raise_used counters c.args.objects.now.quotas c.args.folder c.args.gain.moment c.in-Some.now c.requires.ascending (same ∙ (sym c.amend.ensures.used ∙ c.in-Some.is)))

pub returns-clause-noted : goal.returns-clause-noted
returns-clause-noted c = λ counters same.
    let gain = c.args.gain in
    let quotas = c.args.objects.now.quotas in
    let quota = c.in-Some-quota.quota.now in
    let found : row_of folder_of c.args.folder quotas ≡ Some quota = sym c.quota.ensures ∙ ap option_copied c.in-Some-quota.is in
    let now : used_in counters quota.folder ≡ Some c.in-Some.now = ap (used_in counters) (found_key folder_of c.args.folder quotas quota found) ∙ (same ∙ (sym c.amend.ensures.used ∙ c.in-Some.is)) in
    let crosses : is_crossing counters gain.minus gain.plus quota ≡ c.crosses_any-crosses.result =
    crossing_some counters gain.minus gain.plus quota c.in-Some.now now
    ∙ (sym (ap (λ b. crosses_any quota b c.in-Some.now) c.used_before-before.ensures) ∙ sym c.crosses_any-crosses.ensures) in
    c.note_if.ensures (is_crossing counters gain.minus gain.plus)
    (λ q at. ap (is_crossing counters gain.minus gain.plus) (same_Some q quota (sym at ∙ found)) ∙ crosses)
