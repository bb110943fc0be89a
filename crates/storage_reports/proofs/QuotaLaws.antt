-- The quotas of a report.
use Rattle.std.proofs.Common.{◌≡◌, ℕ, ◌+◌, ◌<◌, Bool, true, false, cond, ◌&&◌, List, ◌∷◌, drop, Some, None, refl, sym, ◌∙◌, ap, slice_get}
use Rattle.std.proofs.lemmas.List.{drop_more}
use Rattle.std.proofs.lemmas.Option.{get_or_from_slice_get, slice_get_within}
use Rattle.std.specs.Option.{option_and_then}
use Rattle.fsrm_base.proofs.SortedRows.{row_at}
use Rattle.fsrm_base.proofs.TestLaws.{both, le_is, lt_is}
use Rattle.fsrm_base.proofs.Look.{has_found}
use Rattle.fsrm_model.specs.declared.row.Capacity.{Capacity}
use Rattle.fsrm_model.specs.declared.row.QuotaRow.{QuotaRow}
use Rattle.fsrm_model.specs.declared.row.Rows.{Rows}
use Rattle.fsrm_model.specs.nodes.Tree.{number, usage}
use Rattle.fsrm_model.specs.objects.Quota.{counts, folder_of, used_of}
use Rattle.fsrm_model.specs.store.Valid.{IsValid}
use Rattle.fsrm_model.proofs.valid.ValidLaws.{folder_has}
use Rattle.storage_reports.specs.Quotas.{IsQuota}

pub left_from : {X : Type 0} (rows : List X) (place : ℕ) (row : X) → slice_get rows place ≡ Some row → drop place rows ≡ row ∷ drop (place + 1) rows
left_from rows place row at =
    drop_more rows place row (slice_get_within rows place row at) ∙ ap (λ r. r ∷ drop (place + 1) rows) (get_or_from_slice_get rows place row row at)

-- the quota at a place
pub quota_is : (K : Capacity) (R : Rows) (place : ℕ) (quota : QuotaRow) → IsValid K R → slice_get R.quotas place ≡ Some quota → IsQuota R quota
quota_is K R place quota v at =
    let own = row_at folder_of quota.folder R.quotas place quota v.quotas.ascending at refl in
    record {
      own = own;
      there = folder_has R.nodes quota.folder (v.quotas.folders quota.folder quota own);
      limit = le_is _ _ (both _ _ (v.quotas.limits quota.folder quota own)).0;
    }

-- its folder's number is one of the volume
pub quota_within : (K : Capacity) (R : Rows) (quota : QuotaRow) → IsValid K R → IsQuota R quota → quota.folder < K.nodes
quota_within K R quota v is =
    let found = has_found number quota.folder R.nodes is.there in
    lt_is _ _ (v.volume.below quota.folder found.row found.is)

-- what its counter holds
pub quota_used : (K : Capacity) (R : Rows) (quota : QuotaRow) → IsQuota R quota → used_of K R quota.folder ≡ cond (counts quota) (Some (usage K R.nodes quota.folder)) None
quota_used K R quota is = ap (option_and_then (λ (q : QuotaRow). cond (counts q) (Some (usage K R.nodes quota.folder)) None)) is.own

-- ---- whether it has a row
pub unmarked : (below counting much : Bool) (p : ℕ) → below ≡ false → None ≡ cond (below && (counting && much)) (Some p) None
unmarked below counting much p h = ap (λ b. cond (b && (counting && much)) (Some p) None) (sym h)

pub uncounted : (below counting much : Bool) (u p : ℕ) → cond counting (Some u) None ≡ None → None ≡ cond (below && (counting && much)) (Some p) None
uncounted true true much u p h = cc
uncounted false true much u p h = refl
uncounted true false much u p h = refl
uncounted false false much u p h = refl

pub counted : (counting : Bool) (u used : ℕ) → cond counting (Some u) None ≡ Some used → (counting ≡ true) × (u ≡ used)
counted true u used h = (refl, cc)
counted false u used h = cc

pub is_row : (below counting much : Bool) (p : ℕ) → below ≡ true → counting ≡ true → cond much (Some p) None ≡ cond (below && (counting && much)) (Some p) None
is_row below counting much p f g =
    ap (λ b. cond (b && much) (Some p) None) (sym g) ∙ ap (λ b. cond (b && (counting && much)) (Some p) None) (sym f)

pub none_counted : (counting : Bool) (u : ℕ) → cond counting (Some u) None ≡ None → counting ≡ false
none_counted true u h = cc
none_counted false u h = refl
