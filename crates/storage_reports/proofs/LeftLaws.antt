-- Marks that are taken away, one number after the other.
use Rattle.std.proofs.Common.{◌≡◌, ℕ, zero, suc, ◌+◌, ◌<◌, ◌≤◌, ◌==◌, ◌&&◌, Bool, true, false, cond, inl, inr, List, ◌∷◌, length, filter, Some, refl, sym, ◌∙◌, ap, subst, arith, nat_lt, zero-add, set, get_or-set_other, get_or-set_same}
use Rattle.std.proofs.lemmas.Option.{same_Some}
use Rattle.fsrm_base.specs.Keyed.{has_row}
use Rattle.fsrm_base.proofs.Look.{has_found, found_key}
use Rattle.fsrm_base.proofs.TestLaws.{is_or_not, clash, eq_is, eq_same, eq_above, lt_is, ge_is}
use Rattle.fsrm_model.specs.declared.row.Capacity.{Capacity}
use Rattle.fsrm_model.specs.declared.row.Filter.{Filter}
use Rattle.fsrm_model.specs.declared.row.NodeRow.{NodeRow}
use Rattle.fsrm_model.specs.nodes.Tree.{number, node_of}
use Rattle.fsrm_model.specs.store.Valid.{IsVolume}
use Rattle.storage_reports.specs.Files.{is_asked, is_file, rows_from}
use Rattle.storage_reports.specs.Marks.{AreThere, IsLeft, is_marked}
use Rattle.storage_reports.proofs.ByNumber.{from_absent, from_there}
use Rattle.storage_reports.proofs.CourseLaws.{ended}

-- those below a number were asked, and the others weren't
pub record Leaving (nodes : List NodeRow) (test : NodeRow → Bool) (old new : List Bool) (k : ℕ) : Type 0 where
  pub there : AreThere nodes new
  pub low : (n : ℕ) (row : NodeRow) → node_of nodes n ≡ Some row → n < k → is_marked new n ≡ (is_marked old n && test row)
  pub high : (n : ℕ) → k ≤ n → is_marked new n ≡ is_marked old n

module _ (nodes : List NodeRow) (test : NodeRow → Bool) (old : List Bool) where
  pub leaving_none : AreThere nodes old → Leaving nodes test old old 0
  leaving_none t = record { there = t; low = λ n row f l. absurd (omega arith); high = λ n l. refl }

  pub leaving_unmarked : (new : List Bool) (k : ℕ) → is_marked new k ≡ false → Leaving nodes test old new k → Leaving nodes test old new (k + 1)
  leaving_unmarked new k off h = record {
    there = h.there;
    low = λ n row f l. elim (is_or_not (n == k)) [
      | inl e ↦
          let here : n ≡ k = eq_is _ _ e in
          let was : is_marked old k ≡ false = sym (h.high k (omega arith)) ∙ off in
          ap (is_marked new) here ∙ (off ∙ sym (ap (λ m. is_marked old m && test row) here ∙ ap (λ b. b && test row) was))
      | inr g ↦ h.low n row f (less n g l)
    ];
    high = λ n l. h.high n (omega arith);
  }
    where
      less : (n : ℕ) → (n == k) ≡ false → n < k + 1 → n < k
      less n g l = elim (is_or_not (nat_lt n k)) [
        | inl t ↦ lt_is n k t
        | inr f ↦ let same : n ≡ k = omega (arith, ge_is n k f) in absurd (clash _ (ap (λ m. m == k) same ∙ eq_same k) g)
      ]

  pub leaving_marked : (new : List Bool) (k : ℕ) (row : NodeRow) (b : Bool) → k < length new → is_marked new k ≡ true → node_of nodes k ≡ Some row → b ≡ test row → Leaving nodes test old new k → Leaving nodes test old (set new k b) (k + 1)
  leaving_marked new k row b within on found is h = record {
    there = λ n m. elim (is_or_not (n == k)) [
      | inl e ↦ subst (λ j. has_row number j nodes ≡ true) (sym (eq_is _ _ e)) (h.there k on)
      | inr g ↦ h.there n (sym (other n g) ∙ m)
    ];
    low = λ n r f l. elim (is_or_not (n == k)) [
      | inl e ↦
          let here : n ≡ k = eq_is _ _ e in
          let one : row ≡ r = same_Some row r (sym found ∙ (ap (node_of nodes) (sym here) ∙ f)) in
          let was : is_marked old k ≡ true = sym (h.high k (omega arith)) ∙ on in
          ap (is_marked (set new k b)) here
          ∙ (get_or-set_same new k b false within
          ∙ (is ∙ (ap test one ∙ sym (ap (λ m. is_marked old m && test r) here ∙ ap (λ c. c && test r) was))))
      | inr g ↦ other n g ∙ h.low n r f (less n g l)
    ];
    high = λ n l. other n (apart n l) ∙ h.high n (omega arith);
  }
    where
      other : (n : ℕ) → (n == k) ≡ false → is_marked (set new k b) n ≡ is_marked new n
      other n g = get_or-set_other new k n b false (λ e. clash _ (ap (λ j. j == k) e ∙ eq_same k) g)

      apart : (n : ℕ) → k + 1 ≤ n → (n == k) ≡ false
      apart n l = eq_above n k (omega arith)

      less : (n : ℕ) → (n == k) ≡ false → n < k + 1 → n < k
      less n g l = elim (is_or_not (nat_lt n k)) [
        | inl t ↦ lt_is n k t
        | inr f ↦ let same : n ≡ k = omega (arith, ge_is n k f) in absurd (clash _ (ap (λ m. m == k) same ∙ eq_same k) g)
      ]

module _ (K : Capacity) (nodes : List NodeRow) (v : IsVolume K nodes) (test : NodeRow → Bool) (old new : List Bool) where
  pub all_left : (k : ℕ) → K.nodes ≤ k → Leaving nodes test old new k → IsLeft nodes test old new
  all_left k past h = λ n row f. let low : n < K.nodes = lt_is _ _ (v.below n row f) in h.low n row f (omega (arith, low))

  -- so the files are left that pass
  module _ (left : IsLeft nodes test old new) (asked : Filter) where
    chosen : (m a b : Bool) (xs ys : List NodeRow) → cond (m && a) (cond b xs ys) ys ≡ cond ((m && b) && a) xs ys
    chosen true true true xs ys = refl
    chosen true true false xs ys = refl
    chosen true false true xs ys = refl
    chosen true false false xs ys = refl
    chosen false a b xs ys = refl

    filter_cond : (c : Bool) (row : NodeRow) (zs : List NodeRow) → filter test (cond c (row ∷ zs) zs) ≡ cond c (cond (test row) (row ∷ filter test zs) (filter test zs)) (filter test zs)
    filter_cond true row zs = refl
    filter_cond false row zs = refl

    from : (d n : ℕ) → n + d ≡ K.nodes → rows_from (is_file new asked) n nodes ≡ filter test (rows_from (is_file old asked) n nodes)
    from zero n e =
        let past : K.nodes ≤ n = omega arith in
        ended K nodes v (is_file new asked) n past ∙ sym (ap (filter test) (ended K nodes v (is_file old asked) n past))
    from (suc d) n e = elim (is_or_not (has_row number n nodes)) [
      | inl t ↦
          let f = has_found number n nodes t in
          let own = found_key number n nodes f.row f.is in
          let rest = rows_from (is_file old asked) (suc n) nodes in
          let a = is_asked asked f.row in
          let asks : is_file new asked f.row ≡ ((is_marked old n && test f.row) && a) = ap (λ k. is_marked new k && a) own ∙ ap (λ b. b && a) (left n f.row f.is) in
          let asked_old : is_file old asked f.row ≡ (is_marked old n && a) = ap (λ k. is_marked old k && a) own in
          from_there number (is_file new asked) n nodes f.row v.ascending f.is
          ∙ (ap (λ (zs : List NodeRow). cond (is_file new asked f.row) (f.row ∷ zs) zs) (from d (suc n) (omega arith))
          ∙ (ap (λ b. cond b (f.row ∷ filter test rest) (filter test rest)) asks
          ∙ (sym (chosen (is_marked old n) a (test f.row) (f.row ∷ filter test rest) (filter test rest))
          ∙ (sym (filter_cond (is_marked old n && a) f.row rest)
          ∙ sym (ap (filter test) (from_there number (is_file old asked) n nodes f.row v.ascending f.is ∙ ap (λ b. cond b (f.row ∷ rest) rest) asked_old))))))
      | inr none ↦
          from_absent number (is_file new asked) n nodes none
          ∙ (from d (suc n) (omega arith)
          ∙ sym (ap (filter test) (from_absent number (is_file old asked) n nodes none)))
    ]

    pub files_left : rows_from (is_file new asked) 0 nodes ≡ filter test (rows_from (is_file old asked) 0 nodes)
    files_left = from K.nodes 0 (zero-add K.nodes)
