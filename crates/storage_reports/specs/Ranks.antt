-- The order of a report's rows.
use Rattle.std.specs.Prelude.{ℕ, ◌==◌, ◌&&◌, ◌||◌, Bool, nat_lt}
use Rattle.fsrm_model.specs.declared.report.ReportRow.{ReportRow}
use Rattle.storage_reports.specs.declared.ranked.Ranked.{Ranked}
pub use Rattle.fsrm_model.specs.reports.Reports.{comes_before}

abbrev pub row_in : Ranked → ReportRow
row_in ranked = ranked.row

-- equal ranks by a second number, the least first
abbrev pub stands_before : Bool → Ranked → Ranked → Bool
stands_before most_first a b = (nat_lt a.second b.second && (a.rank == b.rank)) || comes_before most_first a.rank b.rank

-- an item as a row of some rank
abbrev pub ranked : {X : Type 0} → (X → ℕ) → (X → ReportRow) → X → Ranked
ranked rank row x = record { rank = rank x; second = 0; row = row x }

-- an item as a row of two ranks
abbrev pub twice_ranked : {X : Type 0} → (X → ℕ) → (X → ℕ) → (X → ReportRow) → X → Ranked
twice_ranked rank second row x = record { rank = rank x; second = second x; row = row x }
