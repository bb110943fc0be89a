-- No counter passes 64 bits.
use Rattle.std.proofs.Common.{◌≡◌, ℕ, ◌+◌, ◌*◌, ◌^◌, ◌<◌, ◌≤◌, ◌==◌, Bool, true, false, cond, List, [], ◌∷◌, length, Option, Some, None, refl, ap, sym, ◌∙◌, arith}
use Rattle.std.proofs.lemmas.List.Sums.{sum_by-cons}
use Rattle.std.proofs.lemmas.Option.{same_Some}
use native.Mathlib.Nat.{mul-le-mul_right}
use Rattle.std.specs.Prelude.{sum_by, if◌then◌else◌}
use Rattle.std.specs.Option.{option_and_then}
use Rattle.std.specs.List.{AllByRecursion}
use Rattle.fsrm_model.specs.declared.row.Capacity.{Capacity}
use Rattle.fsrm_model.specs.declared.row.NodeRow.{NodeRow}
use Rattle.fsrm_model.specs.declared.row.QuotaRow.{QuotaRow}
use Rattle.fsrm_model.specs.store.Capacities.{is_capacity}
use Rattle.fsrm_model.specs.nodes.FileOps.{placed}
use Rattle.fsrm_base.specs.Keyed.{row_of, with_change, without_row}
use Rattle.fsrm_model.specs.values.Limits.{longest_file}
use Rattle.fsrm_model.specs.objects.Quota.{folder_of, counts}
use Rattle.fsrm_model.specs.values.Space.{space}
use Rattle.fsrm_model.specs.nodes.Tree.{number, usage}
use Rattle.fsrm_model.specs.store.Valid.{IsVolume, AreQuotas}
use Rattle.fsrm_base.proofs.Look.{found_key, has_found}
use Rattle.fsrm_base.proofs.EditedRows.{sum_by-without_row}
use Rattle.fsrm_model.proofs.nodes.Sizes.{length-removed}
use Rattle.fsrm_base.proofs.TestLaws.{cond_most}
use Rattle.quota_usage.specs.declared.change.Change.{Change}
use Rattle.quota_usage.specs.declared.change.Counter.{Counter}
use Rattle.quota_usage.specs.Charge.{is_above, charged, Fits}
use Rattle.quota_usage.specs.Counters.{used_in}
use Rattle.fsrm_parts.specs.Sums.{sums_of}
use Rattle.fsrm_base.proofs.RowLaws.{each, each_found, all_filter}
use Rattle.fsrm_parts.proofs.tables.SumLaws.{shown_of, used_sums}
use Rattle.fsrm_engine.proofs.operations.ChangeLaws.{Changes}
use Rattle.fsrm_parts.proofs.walks.WalkLaws.{row_space, nodes_few}
use Rattle.rescan.proofs.counted.FitLaws.{sum_most, root_empty, usage_total}

-- the space of all files, and of one more, is less than 2^64
pub total_small : (K : Capacity) (nodes : List NodeRow) → IsVolume K nodes → is_capacity K ≡ true → sum_by (space K) nodes + longest_file < 2 ^ 64
total_small K nodes v legal =
    let root = has_found number 0 nodes v.has_root in
    let rest = without_row number 0 nodes in
    let small : AllByRecursion (λ r. space K r ≤ longest_file) nodes = each_found number (λ r. space K r ≤ longest_file) nodes v.ascending (λ r found. row_space K nodes v legal r found) in
    let most : sum_by (space K) rest ≤ length rest * longest_file = sum_most (space K) longest_file rest (all_filter _ (λ r. space K r ≤ longest_file) nodes (each nodes (λ r h p. h) small)) in
    let split = sum_by-without_row number (space K) 0 root.row nodes v.ascending root.is in
    let none = root_empty K nodes root.row v root.is in
    let fewer = length-removed number 0 nodes v.ascending v.has_root in
    let few = nodes_few K nodes v legal in
    bound (length rest) (sum_by (space K) rest) (sum_by (space K) nodes) (omega arith) (omega arith) (omega arith)
  where
    bound : (n rest whole : ℕ) → rest ≤ n * longest_file → whole ≡ rest → n + 1 ≤ 1048576 → whole + longest_file < 2 ^ 64
    bound n rest whole h e few = omega (arith, mul-le-mul_right longest_file few)

moved_total : (K : Capacity) (x d : ℕ) (name : List ℕ) (nodes : List NodeRow) → sum_by (space K) (with_change number x (placed d name) nodes) ≡ sum_by (space K) nodes
moved_total K x d name [] = refl
moved_total K x d name (r ∷ rows) =
    sum_by-cons (space K) (if number r == x then placed d name r else r) (with_change number x (placed d name) rows) ∙ (ap (λ n. n + sum_by (space K) (with_change number x (placed d name) rows)) (at (number r == x))
    ∙ (ap (λ n. space K r + n) (moved_total K x d name rows) ∙ sym (sum_by-cons (space K) r rows)))
  where
    at : (b : Bool) → space K (cond b (placed d name r) r) ≡ space K r
    at true = refl
    at false = refl

-- the quota of a folder that has a counter
pub record Counting (K : Capacity) (nodes : List NodeRow) (quotas : List QuotaRow) (f bytes : ℕ) : Type 0 where
  pub quota : QuotaRow
  pub found : row_of folder_of f quotas ≡ Some quota
  pub is : bytes ≡ usage K nodes f

counting_at : (K : Capacity) (nodes : List NodeRow) (quotas : List QuotaRow) (f bytes : ℕ) (o : Option QuotaRow) → row_of folder_of f quotas ≡ o → option_and_then (shown_of K nodes) o ≡ Some bytes → Counting K nodes quotas f bytes
counting_at K nodes quotas f bytes None e h = cc
counting_at K nodes quotas f bytes (Some q) e h = at (counts q) h
  where
    at : (b : Bool) → cond b (Some (usage K nodes q.folder)) None ≡ Some bytes → Counting K nodes quotas f bytes
    at true h = record { quota = q; found = e; is = sym (same_Some (usage K nodes q.folder) bytes h) ∙ ap (usage K nodes) (found_key folder_of f quotas q e) }
    at false h = cc

pub counting : (K : Capacity) (nodes : List NodeRow) (quotas : List QuotaRow) (counters : List Counter) (f bytes : ℕ) → AreQuotas nodes quotas → counters ≡ sums_of K nodes quotas → used_in counters f ≡ Some bytes → Counting K nodes quotas f bytes
counting K nodes quotas counters f bytes qs sums h =
    counting_at K nodes quotas f bytes (row_of folder_of f quotas) refl (sym (used_sums K nodes f quotas qs.ascending) ∙ (ap (λ cs. used_in cs f) (sym sums) ∙ h))

-- a file more, or a longer one, fits
pub fits_plus : (K : Capacity) (nodes any : List NodeRow) (quotas : List QuotaRow) (counters : List Counter) (change : Change) → IsVolume K nodes → is_capacity K ≡ true → AreQuotas nodes quotas → counters ≡ sums_of K nodes quotas → change.plus ≤ longest_file → Fits any counters change
fits_plus K nodes any quotas counters change v legal qs sums plus = record {
  fits = λ f bytes h.
      let is : bytes ≡ usage K nodes f = (counting K nodes quotas counters f bytes qs sums h).is in
      omega (arith, is, usage_total K nodes f, total_small K nodes v legal, cond_most (is_above any change.to f) change.plus);
}

-- what moves fits where it comes to
pub fits_moved : (K : Capacity) (nodes : List NodeRow) (quotas : List QuotaRow) (counters : List Counter) (x d : ℕ) (name : List ℕ) (change : Change) → IsVolume K nodes → is_capacity K ≡ true → AreQuotas nodes quotas → counters ≡ sums_of K nodes quotas → Changes K nodes (with_change number x (placed d name) nodes) quotas change → Fits nodes counters change
fits_moved K nodes quotas counters x d name change v legal qs sums c = record {
  fits = λ f bytes h.
      let w = counting K nodes quotas counters f bytes qs sums h in
      let new = with_change number x (placed d name) nodes in
      let after : usage K new f ≡ charged nodes change f (usage K nodes f) = c.after f w.quota w.found in
      let at : charged nodes change f bytes ≡ charged nodes change f (usage K nodes f) = ap (charged nodes change f) w.is in
      let most : charged nodes change f bytes ≤ sum_by (space K) nodes = omega (arith, at, after, usage_total K new f, moved_total K x d name nodes) in
      omega (arith, most, total_small K nodes v legal);
}

-- and fits on the new ways up
pub fits_new : (K : Capacity) (nodes new : List NodeRow) (quotas : List QuotaRow) (counters : List Counter) (change : Change) → Changes K nodes new quotas change → Fits nodes counters change → Fits new counters change
fits_new K nodes new quotas counters change c h = record {
  fits = λ f bytes used.
      let a = ap (λ b. cond b change.minus 0) (c.from_same f) in
      let b = ap (λ b. cond b change.plus 0) (c.to_same f) in
      let l = h.fits f bytes used in
      omega (arith, a, b, l);
}
