-- The files of a volume are few and short enough for sums of 64 bits.
use Rattle.std.proofs.Common.{◌≡◌, ℕ, suc, ◌*◌, ◌≤◌, ◌<◌, ◌^◌, ◌==◌, ◌&&◌, Bool, true, false, cond, inl, inr, List, [], ◌∷◌, length, filter, Some, refl, sym, ◌∙◌, ap, arith}
use Rattle.std.proofs.lemmas.List.Sums.{sum_by-cons}
use Rattle.std.specs.Prelude.{nat_le, sum_by}
use Rattle.std.specs.List.{list_all}
use Rattle.fsrm_base.proofs.Members.{all_pass}
use Rattle.fsrm_base.proofs.TestLaws.{is_or_not, both, eq_is, le_is, le_test}
use Rattle.fsrm_model.specs.declared.row.Capacity.{Capacity}
use Rattle.fsrm_model.specs.declared.row.Filter.{Filter}
use Rattle.fsrm_model.specs.declared.row.NodeRow.{NodeRow}
use Rattle.fsrm_model.specs.store.Capacities.{is_capacity}
use Rattle.fsrm_model.specs.values.Limits.{longest_file}
use Rattle.fsrm_model.specs.values.Space.{alloc, space}
use Rattle.fsrm_model.specs.nodes.Tree.{number, node_of, is_under, under, usage}
use Rattle.fsrm_model.specs.store.Valid.{IsVolume}
use Rattle.fsrm_model.proofs.valid.CapacityLaws.{nodes_most, alloc_most}
use Rattle.volume_tree.proofs.slotted.FreshLaws.{few_nodes}
use Rattle.storage_reports.specs.Files.{Fits, is_asked, report_files}
use Rattle.storage_reports.proofs.ByNumber.{filter_twice}

small_at : (K : Capacity) (b : Bool) (n : ℕ) → is_capacity K ≡ true → nat_le n (cond b 0 longest_file) ≡ true → nat_le (cond b 0 (alloc K n)) longest_file ≡ true
small_at K true n legal h = refl
small_at K false n legal h = le_test (alloc K n) longest_file (alloc_most K n legal (le_is n longest_file h))

short_at : (b : Bool) (n : ℕ) → nat_le n (cond b 0 longest_file) ≡ true → nat_le n longest_file ≡ true
short_at true n h = let none : n ≤ 0 = le_is n 0 h in le_test n longest_file (omega arith)
short_at false n h = h

module _ (K : Capacity) (nodes : List NodeRow) (v : IsVolume K nodes) (legal : is_capacity K ≡ true) where
  small_row : (row : NodeRow) → node_of nodes (number row) ≡ Some row → nat_le (space K row) longest_file ≡ true
  small_row row f = elim (is_or_not (number row == 0)) [
    | inl top ↦
        let root = v.root row (ap (node_of nodes) (sym (eq_is (number row) 0 top)) ∙ f) in
        let folder : row.folder ≡ true = (both _ _ (both _ _ (both _ _ root).0).0).0 in
        ap (λ (b : Bool). nat_le (cond b 0 (alloc K row.length)) longest_file) folder
    | inr inner ↦
        let own = v.own (number row) row f inner in
        small_at K row.folder row.length legal (both _ _ (both _ _ own).1).0
  ]

  short_row : (row : NodeRow) → node_of nodes (number row) ≡ Some row → nat_le row.length longest_file ≡ true
  short_row row f = elim (is_or_not (number row == 0)) [
    | inl top ↦
        let root = v.root row (ap (node_of nodes) (sym (eq_is (number row) 0 top)) ∙ f) in
        let none : row.length ≡ 0 = eq_is row.length 0 (both _ _ (both _ _ (both _ _ root).0).1).1 in
        le_test row.length longest_file (omega arith)
    | inr inner ↦
        let own = v.own (number row) row f inner in
        short_at row.folder row.length (both _ _ (both _ _ own).1).0
  ]

  few : length nodes ≤ 1048576
  few = omega (arith, few_nodes K nodes v, nodes_most K legal)

  sum_small : (f : NodeRow → ℕ) (p : NodeRow → Bool) (rows : List NodeRow) → list_all (λ row. nat_le (f row) longest_file) rows ≡ true → sum_by f (filter p rows) ≤ length rows * longest_file
  sum_small f p [] each = omega arith
  sum_small f p (row ∷ rows) each =
      let split = both _ _ each in
      at (p row) (le_is (f row) longest_file split.0) (sum_small f p rows split.1)
    where
      at : (b : Bool) → f row ≤ longest_file → sum_by f (filter p rows) ≤ length rows * longest_file → sum_by f (cond b (row ∷ filter p rows) (filter p rows)) ≤ suc (length rows) * longest_file
      at true low rest = omega (arith, sum_by-cons f row (filter p rows))
      at false low rest = omega arith

  count_small : (p : NodeRow → Bool) (rows : List NodeRow) → length (filter p rows) ≤ length rows
  count_small p [] = omega arith
  count_small p (row ∷ rows) = at (p row) (count_small p rows)
    where
      at : (b : Bool) → length (filter p rows) ≤ length rows → length (cond b (row ∷ filter p rows) (filter p rows)) ≤ suc (length rows)
      at true h = omega arith
      at false h = omega arith

  -- what is below a node fits 64 bits
  pub usage_fits : (n : ℕ) → usage K nodes n < 2 ^ 64
  usage_fits n =
      omega (arith, few, sum_small (space K) (λ row. is_under nodes n row.number) nodes (all_pass number (λ row. nat_le (space K row) longest_file) nodes v.ascending small_row))

  -- no more is at and below a folder than there is
  pub under_few : (scope : ℕ) → length (under nodes scope) ≤ length nodes
  under_few scope = count_small (λ row. is_under nodes scope row.number) nodes

  pub fits : (scope : ℕ) (asked : Filter) → Fits K (report_files nodes scope asked)
  fits scope asked =
      let p : NodeRow → Bool = λ row. is_under nodes scope row.number in
      let is : report_files nodes scope asked ≡ filter (λ row. p row && is_asked asked row) nodes = filter_twice (is_asked asked) p nodes in
      let spaces = sum_small (space K) (λ row. p row && is_asked asked row) nodes (all_pass number (λ row. nat_le (space K row) longest_file) nodes v.ascending small_row) in
      let lengths = sum_small (λ row. row.length) (λ row. p row && is_asked asked row) nodes (all_pass number (λ row. nat_le row.length longest_file) nodes v.ascending short_row) in
      record {
        few = omega (arith, few, count_small (λ row. p row && is_asked asked row) nodes, ap length is);
        lengths = omega (arith, few, lengths, ap (sum_by (λ (row : NodeRow). row.length)) is);
        alloc = omega (arith, few, spaces, ap (sum_by (space K)) is);
      }
