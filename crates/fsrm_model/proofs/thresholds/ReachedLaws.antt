-- Which thresholds are reached, part by part.
use Rattle.std.proofs.Common.{◌≡◌, ℕ, ◌*◌, ◌==◌, Bool, true, false, cond, not, ◌&&◌, refl, ◌∙◌, ap, Some, None, Option, nat_lt, nat_le}
use Rattle.std.specs.Prelude.{option_map, if◌then◌else◌}
use Rattle.std.specs.Option.{option_and_then, option_map_or}
use Rattle.fsrm_model.specs.declared.row.Capacity.{Capacity}
use Rattle.fsrm_model.specs.declared.row.QuotaRow.{QuotaRow}
use Rattle.fsrm_model.specs.declared.row.Rows.{Rows}
use Rattle.fsrm_base.specs.Keyed.{has_row}
use Rattle.fsrm_model.specs.objects.Quota.{folder_of, quota_of, counts, peaked, peaks}
use Rattle.fsrm_model.specs.objects.Reached.{reaches, has_reached, reached, IsReached, crossed}
use Rattle.fsrm_model.specs.objects.Thresholds.{percent_of}
use Rattle.fsrm_model.specs.nodes.Tree.{usage}
use Rattle.fsrm_base.proofs.Look.{find-map}
use Rattle.fsrm_base.proofs.TestLaws.{both, both_true, is_false, not_true, clash, le_is, le_test}

-- what a folder with this quota has reached
abbrev pub by_quota : Capacity → Rows → ℕ → ℕ → Option QuotaRow → Bool
by_quota K R folder percent o =
    option_map_or (λ quota. has_reached quota percent (option_and_then (λ q. if counts q then Some (usage K R.nodes folder) else None) o)) o false

pub reached_parts : (K : Capacity) (R : Rows) (folder percent : ℕ) → reached K R folder percent ≡ true → IsReached K R folder percent
reached_parts K R folder percent h = at (quota_of R folder) refl h
  where
    enough : (quota : QuotaRow) (b : Bool) → counts quota ≡ b → quota_of R folder ≡ Some quota → (has_row percent_of percent quota.thresholds && reaches quota.limit percent (if b then Some (usage K R.nodes folder) else None)) ≡ true → IsReached K R folder percent
    enough quota true c there h =
        let parts = both (has_row percent_of percent quota.thresholds) (nat_le (percent * quota.limit) (100 * usage K R.nodes folder)) h in
        record { quota = quota; is_there = there; has = parts.0; counting = c; enough = le_is _ _ parts.1 }
    enough quota false c there h = let parts = both (has_row percent_of percent quota.thresholds) false h in absurd (cc parts.1)

    at : (o : Option QuotaRow) → quota_of R folder ≡ o → by_quota K R folder percent o ≡ true → IsReached K R folder percent
    at None e h = absurd (cc h)
    at (Some quota) e h = enough quota (counts quota) refl e h

pub reached_test : (K : Capacity) (R : Rows) (folder percent : ℕ) → IsReached K R folder percent → reached K R folder percent ≡ true
reached_test K R folder percent is =
    ap (by_quota K R folder percent) is.is_there
    ∙ both_true (has_row percent_of percent is.quota.thresholds) (reaches is.quota.limit percent (if counts is.quota then Some (usage K R.nodes folder) else None))
    is.has
    (ap (λ b. reaches is.quota.limit percent (if b then Some (usage K R.nodes folder) else None)) is.counting ∙ le_test _ _ is.enough)

pub unreached : (K : Capacity) (R : Rows) (folder percent : ℕ) → (IsReached K R folder percent → ⊥) → reached K R folder percent ≡ false
unreached K R folder percent h = not_true (reached K R folder percent) (λ is. h (reached_parts K R folder percent is))

-- a threshold that is crossed is reached after, and wasn't before
pub record Crosses (K : Capacity) (before after : Rows) (folder percent : ℕ) : Type 0 where
  pub is_reached : IsReached K after folder percent
  pub was_not : IsReached K before folder percent → ⊥

pub crossed_parts : (K : Capacity) (before after : Rows) (folder percent : ℕ) → crossed K before after folder percent ≡ true → Crosses K before after folder percent
crossed_parts K before after folder percent h =
    let parts = both (reached K after folder percent) (not (reached K before folder percent)) h in
    record {
      is_reached = reached_parts K after folder percent parts.0;
      was_not = λ is. clash (reached K before folder percent) (reached_test K before folder percent is) (is_false (reached K before folder percent) parts.1);
    }

pub crossed_test : (K : Capacity) (before after : Rows) (folder percent : ℕ) → Crosses K before after folder percent → crossed K before after folder percent ≡ true
crossed_test K before after folder percent is =
    both_true (reached K after folder percent) (not (reached K before folder percent)) (reached_test K after folder percent is.is_reached)
    (ap not (unreached K before folder percent is.was_not))

-- none is crossed if the rows stay
pub none_crossed : (K : Capacity) (R : Rows) (folder percent : ℕ) → crossed K R R folder percent ≡ false
none_crossed K R folder percent = at (reached K R folder percent)
  where
    at : (b : Bool) → (b && not b) ≡ false
    at true = refl
    at false = refl

-- peaks play no part
pub reached_peaked : (K : Capacity) (R : Rows) (moment folder percent : ℕ) → reached K (peaks K R moment) folder percent ≡ reached K R folder percent
reached_peaked K R moment folder percent =
    ap (by_quota K R folder percent) (find-map (λ q. folder_of q == folder) (peaked K R.nodes moment) (λ q. ap (λ n. n == folder) (own_folder q (counts q && nat_lt q.peak (usage K R.nodes q.folder)))) R.quotas)
    ∙ at (quota_of R folder)
  where
    own_folder : (q : QuotaRow) (b : Bool) → folder_of (cond b (record q { peak = usage K R.nodes q.folder; peak_at = moment }) q) ≡ folder_of q
    own_folder q true = refl
    own_folder q false = refl

    one : (q : QuotaRow) (b : Bool) → by_quota K R folder percent (Some (cond b (record q { peak = usage K R.nodes q.folder; peak_at = moment }) q)) ≡ by_quota K R folder percent (Some q)
    one q true = refl
    one q false = refl

    at : (o : Option QuotaRow) → by_quota K R folder percent (option_map (peaked K R.nodes moment) o) ≡ by_quota K R folder percent o
    at None = refl
    at (Some q) = one q (counts q && nat_lt q.peak (usage K R.nodes q.folder))
