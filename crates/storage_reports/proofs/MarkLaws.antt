-- Nodes that a walk came to are marked.
use Rattle.std.proofs.Common.{◌≡◌, ℕ, ◌+◌, ◌*◌, ◌<◌, ◌≤◌, ◌==◌, Bool, true, false, cond, inl, inr, List, [], ◌∷◌, length, refl, sym, ◌∙◌, ap, subst, arith, get_or-set_other, get_or-set_same, set, replicate}
use Rattle.std.proofs.lemmas.Bool.{cases_lt}
use Rattle.std.proofs.lemmas.List.{get_or_past, get_or-replicate, length-replicate}
use Rattle.std.proofs.lemmas.List.Sums.{sum_by-cons}
use Rattle.std.specs.Prelude.{sum_by}
use Rattle.fsrm_base.specs.Keyed.{has_row, is_ascending}
use Rattle.fsrm_base.proofs.EditedRows.{sum_by-filter}
use Rattle.fsrm_base.proofs.Look.{has_found, found_key, found_has}
use Rattle.fsrm_base.proofs.Sums.{sum_by_only, sum_by-ones}
use Rattle.fsrm_base.proofs.TestLaws.{is_or_not, clash, eq_above, eq_is, eq_same, eq_turned, lt_is}
use Rattle.fsrm_model.specs.declared.row.Capacity.{Capacity}
use Rattle.fsrm_model.specs.declared.row.NodeRow.{NodeRow}
use Rattle.fsrm_model.specs.store.Valid.{IsVolume}
use Rattle.fsrm_model.specs.nodes.Tree.{number, is_under, under}
use Rattle.storage_reports.specs.Marks.{bit, only, Marks, AreBelow, is_marked}
use Rattle.tree_walk.specs.Walk.{AreThere, left, one, total, Takes}

nothing : (b c : Bool) → c ≡ false → cond b (bit c) 0 ≡ 0
nothing true c h = ap bit h
nothing false c h = refl

-- a node is once among those at and below another one, or not at all
only_under : (nodes : List NodeRow) (f n : ℕ) → is_ascending number nodes ≡ true → has_row number n nodes ≡ true → sum_by (only n) (under nodes f) ≡ bit (is_under nodes f n)
only_under nodes f n a h =
    let r = has_found number n nodes h in
    let own : r.row.number ≡ n = found_key number n nodes r.row r.is in
    let g : NodeRow → ℕ = λ node. cond (is_under nodes f node.number) (only n node) 0 in
    let one = sum_by_only number g n (λ node e. nothing (is_under nodes f node.number) (node.number == n) e) nodes r.row a r.is in
    sum_by-filter (λ node. is_under nodes f node.number) (only n) nodes
    ∙ (one
    ∙ (ap (λ k. cond (is_under nodes f k) (bit (k == n)) 0) own
    ∙ ap (λ b. cond (is_under nodes f n) (bit b) 0) (eq_same n)))

pub begun : (nodes : List NodeRow) (scope : ℕ) (marks : List Bool) → is_ascending number nodes ≡ true → ((n : ℕ) → is_marked marks n ≡ false) → Marks nodes scope (scope ∷ []) marks
begun nodes scope marks a none =
    record {
      there = λ n h. absurd (clash _ h (none n));
      each = λ n h.
          let f : ℕ → ℕ = λ m. sum_by (only n) (under nodes m) in
          omega (arith, ap bit (none n), sum_by-cons f scope [], only_under nodes scope n a h);
    }

alone : (a b : Bool) (rest : ℕ) → bit a + (1 + rest) ≡ bit b → (a ≡ false) × (rest ≡ 0) × (b ≡ true)
alone true true rest h = absurd (omega arith)
alone true false rest h = absurd (omega arith)
alone false true rest h = (refl, omega arith, refl)
alone false false rest h = absurd (omega arith)

pub marked : (nodes : List NodeRow) (scope : ℕ) (old new : List ℕ) (marks : List Bool) (row : NodeRow) → row.number < length marks → Takes nodes old new row → Marks nodes scope old marks → Marks nodes scope new (set marks row.number true)
marked nodes scope old new marks row within t m =
    record {
      there = λ n h. elim (is_or_not (n == row.number)) [
        | inl e ↦ subst (λ k. has_row number k nodes ≡ true) (sym (eq_is _ _ e)) (found_has number row.number nodes row t.found)
        | inr f ↦ m.there n (sym (other n f) ∙ h)
      ];
      each = λ n h. elim (is_or_not (n == row.number)) [
        | inl e ↦ itself n (eq_is _ _ e) h
        | inr f ↦
            let away : only n row ≡ 0 = ap bit (eq_turned n row.number f) in
            let same : bit (is_marked (set marks row.number true) n) ≡ bit (is_marked marks n) = ap bit (other n f) in
            omega (arith, m.each n h, t.each (only n), away, same)
      ];
    }
  where
    other : (n : ℕ) → (n == row.number) ≡ false → is_marked (set marks row.number true) n ≡ is_marked marks n
    other n f = get_or-set_other marks row.number n true false (λ e. clash _ (ap (λ k. k == row.number) e ∙ eq_same row.number) f)

    itself : (n : ℕ) → n ≡ row.number → has_row number n nodes ≡ true → bit (is_marked (set marks row.number true) n) + total (only n) nodes new ≡ bit (is_under nodes scope n)
    itself n e h =
        let here : only n row ≡ 1 = ap bit (ap (λ k. row.number == k) e ∙ eq_same row.number) in
        let before = m.each n h in
        let parts = alone (is_marked marks n) (is_under nodes scope n) (total (only n) nodes new) (omega (arith, before, t.each (only n), here)) in
        let now : is_marked (set marks row.number true) n ≡ true = ap (is_marked (set marks row.number true)) e ∙ get_or-set_same marks row.number true false within in
        omega (arith, ap bit now, parts.1, ap bit parts.2)

same_bit : (a b : Bool) → bit a ≡ bit b → a ≡ b
same_bit true true h = refl
same_bit true false h = absurd (omega arith)
same_bit false true h = absurd (omega arith)
same_bit false false h = refl

pub done : (nodes : List NodeRow) (scope : ℕ) (waiting : List ℕ) (marks : List Bool) → waiting ≡ [] → Marks nodes scope waiting marks → AreBelow nodes scope marks
done nodes scope waiting marks none m =
    record {
      there = m.there;
      each = λ n h. same_bit (is_marked marks n) (is_under nodes scope n) (omega (arith, m.each n h, ap (total (only n) nodes) none));
    }

-- a walk that begins at a folder
pub record Begins (nodes : List NodeRow) (scope : ℕ) (waiting : List ℕ) (marks : List Bool) : Type 0 where
  pub there : AreThere nodes waiting
  pub marks_are : Marks nodes scope waiting marks
  pub looks : (start : ℕ) → start + (1 + 3 * left nodes waiting) ≤ start + (length waiting + 3 * length (under nodes scope))

pub begins : (nodes : List NodeRow) (scope : ℕ) (waiting : List ℕ) (marks : List Bool) → waiting ≡ scope ∷ [] → is_ascending number nodes ≡ true → has_row number scope nodes ≡ true → ((n : ℕ) → is_marked marks n ≡ false) → Begins nodes scope waiting marks
begins nodes scope waiting marks e a h none =
    subst (λ (ns : List ℕ). Begins nodes scope ns marks) (sym e) (record {
      there = (h, tt);
      marks_are = begun nodes scope marks a none;
      looks = λ start. omega (arith, sum_by-cons (λ m. sum_by one (under nodes m)) scope [], sum_by-ones (under nodes scope));
    })

pub none_marked : (count n : ℕ) → is_marked (replicate count false) n ≡ false
none_marked count n = elim (cases_lt n count) [
  | inl l ↦ get_or-replicate count n false false l
  | inr l ↦ get_or_past (replicate count false) n false (omega (arith, length-replicate {A = Bool}))
]

-- ---- all nodes, marked one after the other
pub record AreMarked (nodes : List NodeRow) (marks : List Bool) (k : ℕ) : Type 0 where
  pub low : (n : ℕ) → n < k → is_marked marks n ≡ has_row number n nodes
  pub high : (n : ℕ) → k ≤ n → is_marked marks n ≡ false

pub marked_none : (nodes : List NodeRow) (marks : List Bool) → ((n : ℕ) → is_marked marks n ≡ false) → AreMarked nodes marks 0
marked_none nodes marks none = record { low = λ n l. absurd (omega arith); high = λ n l. none n }

pub marked_next : (nodes : List NodeRow) (marks : List Bool) (k : ℕ) (there : Bool) → k < length marks → there ≡ has_row number k nodes → AreMarked nodes marks k → AreMarked nodes (set marks k there) (k + 1)
marked_next nodes marks k there within is m = record {
  low = λ n l. elim (is_or_not (n == k)) [
    | inl e ↦ ap (is_marked (set marks k there)) (eq_is _ _ e) ∙ (get_or-set_same marks k there false within ∙ (is ∙ ap (λ j. has_row number j nodes) (sym (eq_is _ _ e))))
    | inr f ↦ other n f ∙ m.low n (less n f l)
  ];
  high = λ n l. other n (eq_above n k (omega arith)) ∙ m.high n (omega arith);
}
  where
    other : (n : ℕ) → (n == k) ≡ false → is_marked (set marks k there) n ≡ is_marked marks n
    other n f = get_or-set_other marks k n there false (λ e. clash _ (ap (λ j. j == k) e ∙ eq_same k) f)

    less : (n : ℕ) → (n == k) ≡ false → n < k + 1 → n < k
    less n f l = elim (cases_lt n k) [
      | inl t ↦ t
      | inr g ↦ let same : n ≡ k = omega (arith, g, l) in absurd (clash _ (ap (λ m. m == k) same ∙ eq_same k) f)
    ]

pub all_below : (K : Capacity) (nodes : List NodeRow) (v : IsVolume K nodes) (marks : List Bool) (k : ℕ) → K.nodes ≤ k → AreMarked nodes marks k → AreBelow nodes 0 marks
all_below K nodes v marks k past m = record {
  there = λ n h. elim (cases_lt n k) [
    | inl l ↦ sym (m.low n l) ∙ h
    | inr g ↦ absurd (clash _ h (m.high n g))
  ];
  each = λ n h.
      let f = has_found number n nodes h in
      let low : n < K.nodes = lt_is _ _ (v.below n f.row f.is) in
      m.low n (omega (arith, low, past)) ∙ (h ∙ sym (v.rooted n h));
}
