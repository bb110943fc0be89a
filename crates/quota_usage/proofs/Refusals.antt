-- What the quota of a folder tells if it refuses.
use Rattle.std.proofs.Common.{◌≡◌, ℕ, ◌+◌, ◌-◌, ◌≤◌, ◌&&◌, nat_lt, true, false, cond, List, [], Option, Some, None, refl, sym, ◌∙◌, ap}
use Rattle.std.specs.Option.{option_and_then}
use Rattle.std.specs.Prelude.{if◌then◌else◌}
use Rattle.fsrm_model.specs.declared.row.NodeRow.{NodeRow}
use Rattle.quota_usage.specs.Charge.{is_above}
use Rattle.quota_usage.specs.declared.change.Change.{Change}
use Rattle.fsrm_model.specs.declared.row.QuotaRow.{QuotaRow}
use Rattle.fsrm_base.specs.Keyed.{row_of}
use Rattle.fsrm_model.specs.objects.Quota.{folder_of, counts, refuses}
use Rattle.fsrm_base.proofs.Look.{found_key}
use Rattle.fsrm_base.proofs.TestLaws.{and_false, not_lt}
use Rattle.quota_usage.specs.Climb.{judged, refusal_of, refusal_at, IsNearestTo}
use Rattle.quota_usage.specs.Counters.{used_in}
use Rattle.quota_usage.specs.declared.change.Counter.{Counter}

-- without a counter nothing refuses
pub uncounted : (quotas : List QuotaRow) (counters : List Counter) (minus plus folder : ℕ) → used_in counters folder ≡ None → refusal_of quotas counters minus plus folder ≡ None
uncounted quotas counters minus plus folder e =
    ap (λ used. option_and_then (λ quota. option_and_then (judged minus plus quota) used) (row_of folder_of folder quotas)) e
    ∙ none (row_of folder_of folder quotas)
  where
    none : (o : Option QuotaRow) → option_and_then (λ quota. option_and_then (judged minus plus quota) None) o ≡ None
    none None = refl
    none (Some q) = refl

pub counted_is : (quotas : List QuotaRow) (counters : List Counter) (minus plus folder n : ℕ) (q : QuotaRow) → row_of folder_of folder quotas ≡ Some q → used_in counters folder ≡ Some n → refusal_of quotas counters minus plus folder ≡ judged minus plus q n
counted_is quotas counters minus plus folder n q found used =
    ap (option_and_then (λ quota. option_and_then (judged minus plus quota) (used_in counters folder))) found
    ∙ ap (option_and_then (judged minus plus q)) used

-- the quota of a folder with a counter, which comes to less and then to more
pub passed_at : (quotas : List QuotaRow) (counters : List Counter) (minus plus folder n less : ℕ) (q : QuotaRow) → row_of folder_of folder quotas ≡ Some q → used_in counters folder ≡ Some n → less ≡ n - minus → refuses q n (less + plus) ≡ false → None ≡ refusal_of quotas counters minus plus folder
passed_at quotas counters minus plus folder n less q found used e h =
    sym (counted_is quotas counters minus plus folder n q found used
    ∙ (ap (λ l. cond (refuses q n (l + plus)) (Some (record { folder = q.folder; would = l + plus; limit = q.limit })) None) (sym e)
    ∙ ap (λ b. cond b (Some (record { folder = q.folder; would = less + plus; limit = q.limit })) None) h))

-- bytes that don't rise are not refused
unrisen : (q : QuotaRow) (before after : ℕ) → after ≤ before → refuses q before after ≡ false
unrisen q before after h = ap (λ b. (counts q && q.enforce) && (b && nat_lt q.limit after)) (not_lt before after h) ∙ and_false (counts q && q.enforce)

-- a folder with a counter that doesn't come to more, whatever its quota
pub unrisen_at : (quotas : List QuotaRow) (counters : List Counter) (minus plus folder n less : ℕ) → used_in counters folder ≡ Some n → less ≡ n - minus → less + plus ≤ n → None ≡ refusal_of quotas counters minus plus folder
unrisen_at quotas counters minus plus folder n less used e h = each (row_of folder_of folder quotas) refl
  where
    each : (o : Option QuotaRow) → row_of folder_of folder quotas ≡ o → None ≡ refusal_of quotas counters minus plus folder
    each None found = sym (ap (option_and_then (λ quota. option_and_then (judged minus plus quota) (used_in counters folder))) found)
    each (Some q) found = passed_at quotas counters minus plus folder n less q found used e (unrisen q n (less + plus) h)

pub refused_at : (quotas : List QuotaRow) (counters : List Counter) (minus plus folder n less : ℕ) (q : QuotaRow) → row_of folder_of folder quotas ≡ Some q → used_in counters folder ≡ Some n → less ≡ n - minus → refuses q n (less + plus) ≡ true → Some (record { folder = folder; would = less + plus; limit = q.limit }) ≡ refusal_of quotas counters minus plus folder
refused_at quotas counters minus plus folder n less q found used e h =
    sym (counted_is quotas counters minus plus folder n q found used
    ∙ (ap (λ l. cond (refuses q n (l + plus)) (Some (record { folder = q.folder; would = l + plus; limit = q.limit })) None) (sym e)
    ∙ (ap (λ b. cond b (Some (record { folder = q.folder; would = less + plus; limit = q.limit })) None) h
    ∙ ap (λ f. Some (record { folder = f; would = less + plus; limit = q.limit })) (found_key folder_of folder quotas q found))))

-- without counters nothing refuses
pub none_refuses : (nodes : List NodeRow) (quotas : List QuotaRow) (counters : List Counter) (change : Change) (to : Option ℕ) → counters ≡ [] → IsNearestTo nodes (refusal_at nodes quotas counters change) to None
none_refuses nodes quotas counters change None e = refl
none_refuses nodes quotas counters change (Some d) e =
    λ f on. uncounted quotas counters (if is_above nodes change.from f then change.minus else 0) (if is_above nodes change.to f then change.plus else 0) f (ap (λ (counters : List Counter). used_in counters f) e)
