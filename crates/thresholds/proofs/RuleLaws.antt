-- Which percentages of a limit are reached.
use Rattle.std.proofs.Common.{◌≡◌, ℕ, ◌*◌, ◌≤◌, ◌&&◌, ◌||◌, Bool, true, false, not, List, [], ◌∷◌, Some, refl, ◌∙◌, ap, arith}
use Rattle.std.specs.List.{list_any}
use Rattle.fsrm_base.proofs.TestLaws.{le_is, le_test}
use Rattle.fsrm_model.specs.declared.row.QuotaRow.{QuotaRow}
use Rattle.fsrm_model.specs.declared.row.Threshold.{Threshold}
use Rattle.fsrm_model.specs.objects.Reached.{reaches}
use Rattle.thresholds.specs.Settled.{crosses_any}

-- what is reached with less is reached
pub reaches_less : (limit percent now before : ℕ) → now ≤ before → reaches limit percent (Some now) ≡ true → reaches limit percent (Some before) ≡ true
reaches_less limit percent now before less h =
    let enough = le_is (percent * limit) (100 * now) h in
    le_test (percent * limit) (100 * before) (omega (arith, less, enough))

-- so nothing is crossed by what doesn't rise
pub crosses_none : (quota : QuotaRow) (before now : ℕ) → now ≤ before → crosses_any quota before now ≡ false
crosses_none quota before now less = each quota.thresholds
  where
    one : (percent : ℕ) (b : Bool) → reaches quota.limit percent (Some now) ≡ b → (b && not (reaches quota.limit percent (Some before))) ≡ false
    one percent true e = ap not (reaches_less quota.limit percent now before less e)
    one percent false e = refl

    each : (thresholds : List Threshold) → list_any (λ threshold. reaches quota.limit threshold.percent (Some now) && not (reaches quota.limit threshold.percent (Some before))) thresholds ≡ false
    each [] = refl
    each (t ∷ thresholds) =
        ap (λ b. b || list_any (λ threshold. reaches quota.limit threshold.percent (Some now) && not (reaches quota.limit threshold.percent (Some before))) thresholds) (one t.percent (reaches quota.limit t.percent (Some now)) refl)
        ∙ each thresholds
