-- The files of a report, one number after the other.
use Rattle.std.proofs.Common.{◌≡◌, ℕ, suc, ◌+◌, ◌<◌, ◌≤◌, Bool, true, false, cond, ◌&&◌, inl, inr, List, [], ◌∷◌, length, Some, refl, sym, ◌∙◌, ap, arith, add-one}
use Rattle.std.specs.Prelude.{nat_le}
use Rattle.fsrm_base.specs.Keyed.{has_row}
use Rattle.fsrm_base.proofs.EditedRows.{all_rows}
use Rattle.fsrm_base.proofs.Look.{has_found, found_key}
use Rattle.fsrm_base.proofs.TestLaws.{is_or_not, le_test, lt_is}
use Rattle.fsrm_model.specs.declared.row.Capacity.{Capacity}
use Rattle.fsrm_model.specs.declared.row.Filter.{Filter}
use Rattle.fsrm_model.specs.declared.row.NodeRow.{NodeRow}
use Rattle.fsrm_model.specs.nodes.Tree.{number, node_of, is_under}
use Rattle.fsrm_model.specs.store.Valid.{IsVolume}
use Rattle.storage_reports.specs.Files.{ahead, always, is_asked, is_file, report_files, rows_from}
use Rattle.storage_reports.specs.Marks.{AreBelow, is_marked}
use Rattle.storage_reports.proofs.ByNumber.{filter_same, filter_twice, from_absent, from_there, from_none}

module _ (K : Capacity) (nodes : List NodeRow) (v : IsVolume K nodes) where
  next : (q : NodeRow → Bool) (n : ℕ) → rows_from q (n + 1) nodes ≡ rows_from q (suc n) nodes
  next q n = ap (λ k. rows_from q k nodes) (add-one n)

  module _ (n : ℕ) (row : NodeRow) (found : node_of nodes n ≡ Some row) where
    pub lent : (q : NodeRow → Bool) → q row ≡ true → rows_from q n nodes ≡ row ∷ rows_from q (n + 1) nodes
    lent q h =
        from_there number q n nodes row v.ascending found
        ∙ (ap (λ b. cond b (row ∷ rows_from q (suc n) nodes) (rows_from q (suc n) nodes)) h ∙ ap (λ (rows : List NodeRow). row ∷ rows) (sym (next q n)))

    pub left_out : (q : NodeRow → Bool) → q row ≡ false → rows_from q n nodes ≡ rows_from q (n + 1) nodes
    left_out q h =
        from_there number q n nodes row v.ascending found
        ∙ (ap (λ b. cond b (row ∷ rows_from q (suc n) nodes) (rows_from q (suc n) nodes)) h ∙ sym (next q n))

    pub looked : ahead n nodes ≡ 1 + ahead (n + 1) nodes
    looked = let one = ap length (lent always refl) in omega (arith, one)

  -- a number that isn't marked
  pub unmarked : (marks : List Bool) (asked : Filter) (n : ℕ) → is_marked marks n ≡ false → rows_from (is_file marks asked) n nodes ≡ rows_from (is_file marks asked) (n + 1) nodes
  unmarked marks asked n h = elim (is_or_not (has_row number n nodes)) [
    | inl t ↦
        let f = has_found number n nodes t in
        left_out n f.row f.is (is_file marks asked)
        (ap (λ k. is_marked marks k && is_asked asked f.row) (found_key number n nodes f.row f.is) ∙ ap (λ b. b && is_asked asked f.row) h)
    | inr e ↦ from_absent number (is_file marks asked) n nodes e ∙ sym (next (is_file marks asked) n)
  ]

  pub fewer : (n : ℕ) → ahead (n + 1) nodes ≤ ahead n nodes
  fewer n = elim (is_or_not (has_row number n nodes)) [
    | inl t ↦ let f = has_found number n nodes t in omega (arith, looked n f.row f.is)
    | inr e ↦ omega (arith, ap length (from_absent number always n nodes e ∙ sym (next always n)))
  ]

  -- past the last number
  pub ended : (q : NodeRow → Bool) (n : ℕ) → K.nodes ≤ n → rows_from q n nodes ≡ []
  ended q n h =
      from_none number q n nodes (all_rows number (λ row. row.number < n) nodes (λ row t.
      let f = has_found number row.number nodes t in
      let low : row.number < K.nodes = lt_is _ _ (v.below row.number f.row f.is) in
      omega arith))

  -- a marked node that is asked for is one
  pub is_one : (marks : List Bool) (asked : Filter) (n : ℕ) (row : NodeRow) (b : Bool) → row.number ≡ n → is_marked marks n ≡ true → is_asked asked row ≡ b → is_file marks asked row ≡ b
  is_one marks asked n row b e m h = ap (λ k. is_marked marks k && is_asked asked row) e ∙ (ap (λ c. c && is_asked asked row) m ∙ h)

  -- all of them
  pub all_files : (marks : List Bool) (asked : Filter) (scope : ℕ) → AreBelow nodes scope marks → rows_from (is_file marks asked) 0 nodes ≡ report_files nodes scope asked
  all_files marks asked scope a =
      filter_same (λ row. nat_le 0 row.number && is_file marks asked row) (λ row. is_under nodes scope row.number && is_asked asked row) nodes
      (all_rows number (λ row. (nat_le 0 row.number && is_file marks asked row) ≡ (is_under nodes scope row.number && is_asked asked row)) nodes (λ row t.
      ap (λ b. b && is_file marks asked row) (le_test 0 row.number (omega arith)) ∙ ap (λ b. b && is_asked asked row) (a.each row.number t)))
      ∙ sym (filter_twice (is_asked asked) (λ row. is_under nodes scope row.number) nodes)

  pub all_ahead : ahead 0 nodes ≡ length nodes
  all_ahead = ap length (each nodes)
    where
      each : (rows : List NodeRow) → rows_from always 0 rows ≡ rows
      each [] = refl
      each (row ∷ rows) =
          ap (λ b. cond (b && true) (row ∷ rows_from always 0 rows) (rows_from always 0 rows)) (le_test 0 row.number (omega arith))
          ∙ ap (λ (zs : List NodeRow). row ∷ zs) (each rows)
