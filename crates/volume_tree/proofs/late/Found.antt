-- What the index leads to, as nodes become late, listed or absent, and as they or the index change.
use Rattle.std.proofs.Common.{◌≡◌, ℕ, ◌==◌, ◌||◌, Bool, true, false, cond, inl, inr, List, [], ◌∷◌, ◌++◌, map, IsPermutation, Option, Some, None, refl, sym, ◌∙◌, ap, subst}
use Rattle.std.specs.Prelude.{if◌then◌else◌}
use Rattle.std.proofs.lemmas.List.{map-append}
use Rattle.std.proofs.lemmas.List.Sorted.{IsPermutation-map}
use Rattle.std.proofs.lemmas.Option.{same_Some}
use Rattle.fsrm_base.proofs.Look.{changed_found, found_has, has_row-without, row_of-new_other, row_of-without}
use Rattle.fsrm_base.proofs.TestLaws.{clash, eq_is, eq_same, eq_turned, is_or_not, neither, nor, not_true, or_false, or_later}
use Rattle.fsrm_base.specs.Keyed.{has_row, with_change, with_row, without_row}
use Rattle.fsrm_base.specs.Numbers.{is_in}
use Rattle.fsrm_model.proofs.nodes.Keeps.{KeepsNode}
use Rattle.fsrm_model.specs.declared.row.NodeRow.{NodeRow}
use Rattle.fsrm_model.specs.nodes.Tree.{number, node_of}
use Rattle.name_index.specs.Index.{Indexed}
use Rattle.name_index.specs.Hash.{name_hash}
use Rattle.name_index.specs.Index.{Holds, has_lost}
use Rattle.node_order.specs.declared.entries.Entry.{Entry}
use Rattle.node_order.specs.Entries.{number_in}
use Rattle.volume_tree.specs.Late.{AreFound, IsFound}
use Rattle.volume_tree.proofs.late.Entered.{changed_but}
use Rattle.volume_tree.proofs.late.Listed.{SameBut}
use Rattle.volume_tree.proofs.late.Numbers.{in_append, in_permuted}

-- one more node is absent
pub found_absent : (nodes : List NodeRow) (absent : List ℕ) (late : List Entry) (index : Indexed) (x : ℕ) → AreFound nodes absent late index → AreFound nodes (x ∷ absent) late index
found_absent nodes absent late index x h = record { each = λ n row f other out. h.each n row f other (neither (x == n) (is_in absent n) out).1 }

-- fewer nodes are late
pub found_fewer : (nodes : List NodeRow) (absent : List ℕ) (late rest : List Entry) (index : Indexed) → ((n : ℕ) → is_in (map number_in rest) n ≡ true → is_in (map number_in late) n ≡ true) → AreFound nodes absent late index → AreFound nodes absent rest index
found_fewer nodes absent late rest index some h =
    record { each = λ n row f other out. let is = h.each n row f other out in record { held = is.held; waits = λ t. is.waits (some n t) } }

pub found_awaken : (nodes : List NodeRow) (absent : List ℕ) (late rest : List Entry) (index : Indexed) (e : Entry) → IsPermutation late (e ∷ rest) → AreFound nodes absent late index → AreFound nodes absent rest index
found_awaken nodes absent late rest index e p =
    found_fewer nodes absent late rest index (λ n t. in_permuted (map number_in late) (map number_in (e ∷ rest)) n (IsPermutation-map number_in late (e ∷ rest) p) ∙ or_later (e.node == n) (is_in (map number_in rest) n) t)

pub found_turned : (nodes : List NodeRow) (absent : List ℕ) (late turned : List Entry) (index : Indexed) → IsPermutation late turned → AreFound nodes absent late index → AreFound nodes absent turned index
found_turned nodes absent late turned index p =
    found_fewer nodes absent late turned index (λ n t. in_permuted (map number_in late) (map number_in turned) n (IsPermutation-map number_in late turned p) ∙ t)

-- an absent node is one no more
found_at : (nodes : List NodeRow) (absent : List ℕ) (late : List Entry) (index : Indexed) (x n : ℕ) (row r : NodeRow) → node_of nodes x ≡ Some row → IsFound late index x row → node_of nodes n ≡ Some r → (x == n) ≡ true → IsFound late index n r
found_at nodes absent late index x n row r here is f t =
    let same : x ≡ n = eq_is x n t in
    let row_is : row ≡ r = same_Some row r (sym here ∙ (ap (node_of nodes) same ∙ f)) in
    subst (IsFound late index n) row_is (subst (λ (m : ℕ). IsFound late index m row) same is)

pub found_here : (nodes : List NodeRow) (absent : List ℕ) (late : List Entry) (index : Indexed) (x : ℕ) (row : NodeRow) → node_of nodes x ≡ Some row → IsFound late index x row → AreFound nodes (x ∷ absent) late index → AreFound nodes absent late index
found_here nodes absent late index x row here is h =
    record {
      each = λ n r f other out. elim (is_or_not (x == n)) [
        | inl t ↦ found_at nodes absent late index x n row r here is f t
        | inr t ↦ h.each n r f other (nor (x == n) (is_in absent n) t out)
      ];
    }

-- an absent node that is late
late_other : (late : List Entry) (e : Entry) (n : ℕ) → (e.node == n) ≡ false → is_in (map number_in (late ++ e ∷ [])) n ≡ true → is_in (map number_in late) n ≡ true
late_other late e n other t =
    let waits = map number_in late in
    let all : (is_in waits n || ((e.node == n) || false)) ≡ true = sym (in_append waits (e.node ∷ []) n) ∙ (ap (λ (ns : List ℕ). is_in ns n) (sym (map-append number_in late (e ∷ []))) ∙ t) in
    or_false (is_in waits n) (sym (ap (λ b. is_in waits n || (b || false)) other) ∙ all)

pub found_late : (nodes : List NodeRow) (absent : List ℕ) (late : List Entry) (index : Indexed) (e : Entry) (row : NodeRow) → node_of nodes e.node ≡ Some row → Holds index (name_hash row.parent row.name) e.node → AreFound nodes (e.node ∷ absent) late index → AreFound nodes absent (late ++ e ∷ []) index
found_late nodes absent late index e row here holds h =
    record {
      each = λ n r f other out. elim (is_or_not (e.node == n)) [
        | inl t ↦ found_at nodes absent (late ++ e ∷ []) index e.node n row r here (record { held = λ _. holds; waits = λ _. holds }) f t
        | inr t ↦
            let is = h.each n r f other (nor (e.node == n) (is_in absent n) t out) in
            record { held = is.held; waits = λ u. is.waits (late_other late e n t u) }
      ];
    }

-- an index that holds what it held, but for absent nodes, and has lost what it had lost
pub found_index : (nodes : List NodeRow) (absent : List ℕ) (late : List Entry) (old new : Indexed) → ((h n : ℕ) → is_in absent n ≡ false → Holds old h n → Holds new h n) → ((h : ℕ) → has_lost old h ≡ true → has_lost new h ≡ true) → AreFound nodes absent late old → AreFound nodes absent late new
found_index nodes absent late old new holds lost h =
    record {
      each = λ n row f other out.
          let is = h.each n row f other out in
          let hash = name_hash row.parent row.name in
          record {
            held = λ t. holds hash n out (is.held (not_true (has_lost old hash) (λ u. clash (has_lost new hash) (lost hash u) t)));
            waits = λ t. holds hash n out (is.waits t);
          };
    }

-- nodes that are the same but for an absent one
found_but : (nodes more : List NodeRow) (absent others : List ℕ) (late : List Entry) (index : Indexed) (x : ℕ) → SameBut nodes more x → ((n : ℕ) (row : NodeRow) → node_of more n ≡ Some row → is_in others n ≡ false → ((n == x) ≡ false) × (is_in absent n ≡ false)) → AreFound nodes absent late index → AreFound more others late index
found_but nodes more absent others late index x same apart h =
    record { each = λ n row f other out. let p = apart n row f out in h.each n row (sym (same n p.0) ∙ f) other p.1 }

pub found_new : (nodes : List NodeRow) (late : List Entry) (index : Indexed) (row : NodeRow) → AreFound nodes [] late index → AreFound (with_row number row nodes) (row.number ∷ []) late index
found_new nodes late index row =
    found_but nodes (with_row number row nodes) [] (row.number ∷ []) late index row.number (λ m e. row_of-new_other number row m nodes e)
    (λ n r f out. (eq_turned row.number n (neither (row.number == n) false out).0, refl))

pub found_moved : (nodes : List NodeRow) (absent : List ℕ) (late : List Entry) (index : Indexed) (x : ℕ) (c : NodeRow → NodeRow) → ((r : NodeRow) → (c r).number ≡ r.number) → AreFound nodes (x ∷ absent) late index → AreFound (with_change number x c nodes) (x ∷ absent) late index
found_moved nodes absent late index x c keeps =
    found_but nodes (with_change number x c nodes) (x ∷ absent) (x ∷ absent) late index x (changed_but nodes x c keeps)
    (λ n r f out. (eq_turned x n (neither (x == n) (is_in absent n) out).0, out))

gone_other : (nodes : List NodeRow) (x n : ℕ) (r : NodeRow) → node_of (without_row number x nodes) n ≡ Some r → (n == x) ≡ false
gone_other nodes x n r f =
    not_true (n == x) (λ t. clash _ (ap (λ (m : ℕ). has_row number m (without_row number x nodes)) (sym (eq_is n x t)) ∙ found_has number n (without_row number x nodes) r f) (has_row-without number x nodes))

pub found_gone : (nodes : List NodeRow) (late : List Entry) (index : Indexed) (x : ℕ) → AreFound nodes (x ∷ []) late index → AreFound (without_row number x nodes) [] late index
found_gone nodes late index x =
    found_but nodes (without_row number x nodes) (x ∷ []) [] late index x (λ m e. row_of-without number x m nodes e)
    (λ n r f out. let other = gone_other nodes x n r f in (other, nor (x == n) false (eq_turned n x other) refl))

-- a change that keeps folders and names
kept_at : (late : List Entry) (index : Indexed) (n : ℕ) (c : NodeRow → NodeRow) (row : NodeRow) (b : Bool) → KeepsNode c → IsFound late index n row → IsFound late index n (cond b (c row) row)
kept_at late index n c row false keeps is = is
kept_at late index n c row true keeps is =
    let hash : name_hash (c row).parent (c row).name ≡ name_hash row.parent row.name = ap (λ p. name_hash p (c row).name) (keeps.same_parent row) ∙ ap (name_hash row.parent) (keeps.same_name row) in
    record {
      held = λ t. subst (λ h. Holds index h n) (sym hash) (is.held (ap (has_lost index) (sym hash) ∙ t));
      waits = λ t. subst (λ h. Holds index h n) (sym hash) (is.waits t);
    }

pub found_kept : (nodes : List NodeRow) (absent : List ℕ) (late : List Entry) (index : Indexed) (x : ℕ) (c : NodeRow → NodeRow) → KeepsNode c → AreFound nodes absent late index → AreFound (with_change number x c nodes) absent late index
found_kept nodes absent late index x c keeps h =
    record {
      each = λ n r f other out.
          let old = changed_found number x c keeps.same_number n nodes r f in
          subst (IsFound late index n) (sym old.is) (kept_at late index n c old.row (n == x) keeps (h.each n old.row old.found other out));
    }
