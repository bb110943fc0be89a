use Rattle.std.proofs.Common.{◌≡◌, ℕ, ◌+◌, ◌++◌, ◌∷◌, Bool, true, cond, List, Some, None, drop, filter, map, take, sym, ◌∙◌, ap, slice_get, rules, arith}
use Rattle.fsrm_base.specs.Order.{in_order}
use Rattle.fsrm_model.specs.declared.report.ReportRow.TheVariants.{Quota}
use Rattle.fsrm_model.specs.declared.row.QuotaRow.{QuotaRow}
use Rattle.storage_reports.specs.declared.ranked.Ranked.{Ranked}
use Rattle.storage_reports.specs.Ranks.{ranked, stands_before}
use Rattle.fsrm_model.specs.reports.Reports.{is_much_used, percent_used, quota_row}
use Rattle.storage_reports.proofs.QuotaLaws.{counted, left_from, none_counted, quota_is, quota_within}
use Rattle.storage_reports.proofs.quotas.listed.Goals as goal
use Rattle.storage_reports.proofs.quotas.listed.Goals.{in-Some+in_ok-keep_first, in_default}

pub listed_percent-requires-clause-quota : goal.listed_percent-requires-clause-quota
listed_percent-requires-clause-quota c =
    let R = c.args.engine.now.rows in
    let q = c.quota_at-quota.result.now in
    let at : slice_get R.quotas c.loop-place.place ≡ Some q = ap (λ (qs : List QuotaRow). slice_get qs c.loop-place.place) (sym c.objects-objects.ensures.quotas) ∙ c.quota_at-quota.ensures in
    quota_is c.args.engine.now.size R c.loop-place.place q c.objects-objects.ensures.store at

pub listed_percent-requires-clause-within : goal.listed_percent-requires-clause-within
listed_percent-requires-clause-within c =
    let K = c.args.engine.now.size in
    let R = c.args.engine.now.rows in
    let q = c.quota_at-quota.result.now in
    let at : slice_get R.quotas c.loop-place.place ≡ Some q = ap (λ (qs : List QuotaRow). slice_get qs c.loop-place.place) (sym c.objects-objects.ensures.quotas) ∙ c.quota_at-quota.ensures in
    let low = quota_within K R q c.objects-objects.ensures.store (quota_is K R c.loop-place.place q c.objects-objects.ensures.store at) in
    omega (arith, low, c.requires.len)

pub loop-place-preserved : goal.loop-place-preserved
loop-place-preserved c =
    let K = c.args.engine.now.size in
    let R = c.args.engine.now.rows in
    let ask = c.args.ask.now in
    let q = c.quota_at-quota.result.now in
    let place = c.loop-place.place in
    let before = stands_before true in
    let old = c.loop-place.rows.items in
    let rest = drop (place + 1) R.quotas in
    let row : QuotaRow → Ranked = ranked (percent_used K R) (quota_row K R) in
    let rows : List QuotaRow → List Ranked = λ qs. map row (filter (is_much_used K R ask) qs) in
    let at : slice_get R.quotas place ≡ Some q = ap (λ (qs : List QuotaRow). slice_get qs place) (sym c.objects-objects.ensures.quotas) ∙ c.quota_at-quota.ensures in
    let with_it : Bool → List Ranked = λ b. map row (cond b (q ∷ filter (is_much_used K R ask) rest) (filter (is_much_used K R ask) rest)) in
    let step : rows (drop place R.quotas) ≡ with_it (is_much_used K R ask q) = ap rows (left_from R.quotas place q at) in
    elim c.match-listed_percent.branch [
      | in-Some+in_ok-keep_first w ↦
          let parts = counted (is_much_used K R ask q) (percent_used K R q) w.in-Some.percent (sym c.listed_percent.ensures ∙ w.in-Some.is) in
          let same : (record { rank = w.in-Some.percent; second = 0; row = Quota q.folder w.in-Some.percent }) ∷ rows rest ≡ rows (drop place R.quotas) =
          ap (λ (p : ℕ). (record { rank = p; second = 0; row = Quota q.folder p }) ∷ rows rest) (sym parts.1) ∙ sym (step ∙ ap with_it parts.0) in
          rw w.rows-is (w.in_ok-keep_first.ensures (rows rest) ∙ (ap (λ (zs : List Ranked). take ask.filter.max (in_order before (old ++ zs))) same ∙ c.loop-place.invariant))
      | in_default w ↦
          let none : c.listed_percent.result ≡ None = search rules in
          let off = none_counted (is_much_used K R ask q) (percent_used K R q) (sym c.listed_percent.ensures ∙ none) in
          rw w.rows-is (ap (λ (zs : List Ranked). take ask.filter.max (in_order before (old ++ zs))) (sym (step ∙ ap with_it off)) ∙ c.loop-place.invariant)
    ]
