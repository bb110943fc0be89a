-- The rows that come first are the first of the items in their order.
use Rattle.std.proofs.Common.{◌≡◌, ℕ, ◌==◌, ◌&&◌, ◌||◌, nat_lt, Bool, List, [], ◌∷◌, map, take, refl, sym, ◌∙◌, ap}
use Rattle.std.proofs.lemmas.List.{take-map}
use Rattle.fsrm_base.specs.Order.{in_order}
use Rattle.fsrm_model.specs.declared.report.ReportRow.{ReportRow}
use Rattle.storage_reports.specs.Ranks.{comes_before, ranked, row_in, stands_before, twice_ranked}
use Rattle.storage_reports.proofs.Sorting.{in_order-map}

module _ {X : Type 0} (rank second : X → ℕ) (row : X → ReportRow) where
  rows_alone : (xs : List X) → map row_in (map (twice_ranked rank second row) xs) ≡ map row xs
  rows_alone [] = refl
  rows_alone (x ∷ xs) = ap (λ (rows : List ReportRow). row x ∷ rows) (rows_alone xs)

  pub table_twice : (most_first : Bool) (max : ℕ) (xs : List X)
      → map row_in (take max (in_order (stands_before most_first) (map (twice_ranked rank second row) xs)))
      ≡ take max (map row (in_order (λ a b. (nat_lt (second a) (second b) && (rank a == rank b)) || comes_before most_first (rank a) (rank b)) xs))
  table_twice most_first max xs =
      let ys = in_order (λ a b. (nat_lt (second a) (second b) && (rank a == rank b)) || comes_before most_first (rank a) (rank b)) xs in
      ap (λ zs. map row_in (take max zs)) (in_order-map (stands_before most_first) (twice_ranked rank second row) xs)
      ∙ (ap (map row_in) (take-map (twice_ranked rank second row) max ys)
      ∙ (rows_alone (take max ys) ∙ sym (take-map row max ys)))

pub table_is : {X : Type 0} (rank : X → ℕ) (row : X → ReportRow) (most_first : Bool) (max : ℕ) (xs : List X)
    → map row_in (take max (in_order (stands_before most_first) (map (ranked rank row) xs)))
    ≡ take max (map row (in_order (λ a b. comes_before most_first (rank a) (rank b)) xs))
table_is rank row most_first max xs = table_twice rank (λ x. 0) row most_first max xs
