-- Nodes that are listed, late or absent, as they become one another, and as the nodes change.
use Rattle.std.proofs.Common.{◌≡◌, ℕ, zero, suc, ◌+◌, ◌<◌, ◌≤◌, ◌==◌, ◌||◌, not, Bool, true, false, cond, ◌⊎◌, inl, inr, All, List, [], ◌∷◌, ◌++◌, length, get_or, insert, remove, map, slice_get, IsPermutation, Option, Some, None, refl, sym, ◌∙◌, ap, subst, arith, length-append, append_assoc}
use Rattle.std.specs.Prelude.{if◌then◌else◌, option_map}
use Rattle.std.proofs.lemmas.List.{length-map, map-append}
use Rattle.std.proofs.lemmas.List.Elements.{All-append, All-tail}
use Rattle.std.proofs.lemmas.List.Sorted.{IsPermutation-append_left, IsPermutation-append_right, IsPermutation-cons, IsPermutation-insert, IsPermutation-map, IsPermutation-middle, IsPermutation-remove, IsPermutation-sym, IsPermutation-to_front, IsPermutation-trans, All-permutation, length_permutation}
use Rattle.std.proofs.lemmas.Option.{get_or_from_slice_get, slice_get_within}
use Rattle.fsrm_base.proofs.Look.{found_key, row_of-change, row_of-new_other, row_of-without}
use Rattle.fsrm_base.proofs.TestLaws.{clash, eq_is, is_or, neither, not_true}
use Rattle.fsrm_base.specs.Keyed.{has_row, is_ascending, with_change, with_row, without_row}
use Rattle.fsrm_base.specs.Numbers.{is_in}
use Rattle.fsrm_model.proofs.nodes.Keeps.{KeepsNode}
use Rattle.fsrm_model.specs.declared.row.NodeRow.{NodeRow}
use Rattle.fsrm_model.specs.nodes.Tree.{number, node_of}
use Rattle.block_list.specs.Runs.{entries_of}
use Rattle.node_order.specs.declared.entries.Entry.{Entry}
use Rattle.node_order.specs.Entries.{AreOwn, IsOwn, Sequence, entry_of, number_in}
use Rattle.node_order.specs.Order.{IsListed, IsPlace, LacksName, inner}
use Rattle.volume_tree.specs.Late.{AreEntered}
use Rattle.volume_tree.proofs.late.Listed.{SameBut, all_but, listed_but, listed_changed, listed_out, listed_put, own_kept, own_out, own_put}
use Rattle.volume_tree.proofs.late.Numbers.{cancel, first_once, front, in_append, in_permuted, inner_changed, inner_gone, inner_has, inner_new, inner_numbers, inner_once, node_in, once_permuted}

-- where a node is
pub entered_where : (nodes : List NodeRow) (order : Sequence) (late : List Entry) (n : ℕ) (row : NodeRow) → AreEntered nodes [] order late → node_of nodes n ≡ Some row → (n == 0) ≡ false → (is_in (entries_of order.runs) n ≡ true) ⊎ (is_in (map number_in late) n ≡ true)
entered_where nodes order late n row h found other =
    let listed = entries_of order.runs in
    let waits = map number_in late in
    is_or (is_in listed n) (is_in waits n) (sym (in_append listed waits n) ∙ (sym (in_permuted (inner_numbers nodes) (listed ++ waits) n h.members) ∙ node_in nodes n row found other))

-- how many there are
pub entered_many : (nodes : List NodeRow) (absent : List ℕ) (order : Sequence) (late : List Entry) → AreEntered nodes absent order late → length absent + (length (entries_of order.runs) + length late) ≡ length (inner nodes)
entered_many nodes absent order late h =
    let listed = entries_of order.runs in
    let waits = map number_in late in
    let all = length_permutation (inner_numbers nodes) (absent ++ (listed ++ waits)) h.members in
    omega (arith, all, length-append absent (listed ++ waits), length-append listed waits, length-map late number_in, length-map (inner nodes) number)

-- an absent node is nowhere else
pub record IsOut (order : Sequence) (late : List Entry) (x : ℕ) : Type 0 where
  pub listed : is_in (entries_of order.runs) x ≡ false
  pub waits : is_in (map number_in late) x ≡ false

pub absent_out : (nodes : List NodeRow) (absent : List ℕ) (order : Sequence) (late : List Entry) (x : ℕ) → is_ascending number nodes ≡ true → AreEntered nodes (x ∷ absent) order late → IsOut order late x
absent_out nodes absent order late x a h =
    let listed = entries_of order.runs in
    let waits = map number_in late in
    let once = first_once x (absent ++ (listed ++ waits)) (once_permuted (inner_numbers nodes) (x ∷ (absent ++ (listed ++ waits))) h.members (inner_once nodes a)) in
    let rest = neither (is_in absent x) (is_in (listed ++ waits) x) (sym (in_append absent (listed ++ waits) x) ∙ once) in
    let both = neither (is_in listed x) (is_in waits x) (sym (in_append listed waits x) ∙ rest.1) in
    record { listed = both.0; waits = both.1 }

-- a late node that becomes absent
pub entered_awaken : (nodes : List NodeRow) (absent : List ℕ) (order : Sequence) (late rest : List Entry) (e : Entry) → AreEntered nodes absent order late → IsPermutation late (e ∷ rest) → AreEntered nodes (e.node ∷ absent) order rest
entered_awaken nodes absent order late rest e h p =
    let listed = entries_of order.runs in
    let waits = map number_in late in
    let others = map number_in rest in
    record {
      listed = h.listed;
      entries = h.entries;
      own = All-tail (IsOwn nodes) e rest (All-permutation (IsOwn nodes) late (e ∷ rest) p h.own);
      members = IsPermutation-trans (inner_numbers nodes) (absent ++ (listed ++ waits)) (e.node ∷ (absent ++ (listed ++ others))) h.members
          (IsPermutation-trans (absent ++ (listed ++ waits)) (absent ++ (listed ++ e.node ∷ others)) (e.node ∷ (absent ++ (listed ++ others)))
          (IsPermutation-append_right absent (listed ++ waits) (listed ++ e.node ∷ others) (IsPermutation-append_right listed waits (e.node ∷ others) (IsPermutation-map number_in late (e ∷ rest) p)))
          (front absent listed e.node others));
    }

-- the order of late nodes is nothing
pub entered_turned : (nodes : List NodeRow) (absent : List ℕ) (order : Sequence) (late turned : List Entry) → AreEntered nodes absent order late → IsPermutation late turned → AreEntered nodes absent order turned
entered_turned nodes absent order late turned h p =
    let listed = entries_of order.runs in
    let waits = map number_in late in
    let others = map number_in turned in
    record {
      listed = h.listed;
      entries = h.entries;
      own = All-permutation (IsOwn nodes) late turned p h.own;
      members = IsPermutation-trans (inner_numbers nodes) (absent ++ (listed ++ waits)) (absent ++ (listed ++ others)) h.members
          (IsPermutation-append_right absent (listed ++ waits) (listed ++ others) (IsPermutation-append_right listed waits others (IsPermutation-map number_in late turned p)));
    }

-- a listed node that becomes absent
pub entered_out : (nodes : List NodeRow) (absent : List ℕ) (order less : Sequence) (late : List Entry) (place n : ℕ) → AreEntered nodes absent order late → slice_get (entries_of order.runs) place ≡ Some n → entries_of less.runs ≡ remove (entries_of order.runs) place → less.entries ≡ remove order.entries place → AreEntered nodes (n ∷ absent) less late
entered_out nodes absent order less late place n h at cut left =
    let listed = entries_of order.runs in
    let rest = remove listed place in
    let waits = map number_in late in
    let below = slice_get_within listed place n at in
    let taken : IsPermutation listed (n ∷ rest) = IsPermutation-remove listed place n below (sym (get_or_from_slice_get listed place n n at)) in
    record {
      listed = subst (IsListed nodes) (sym cut) (listed_out nodes listed place h.listed below);
      entries = own_out nodes order less place h.entries below cut left;
      own = h.own;
      members = subst (λ (ns : List ℕ). IsPermutation (inner_numbers nodes) (n ∷ (absent ++ (ns ++ waits)))) (sym cut)
          (IsPermutation-trans (inner_numbers nodes) (absent ++ (listed ++ waits)) (n ∷ (absent ++ (rest ++ waits))) h.members
          (IsPermutation-trans (absent ++ (listed ++ waits)) (absent ++ (n ∷ (rest ++ waits))) (n ∷ (absent ++ (rest ++ waits)))
          (IsPermutation-append_right absent (listed ++ waits) (n ∷ (rest ++ waits)) (IsPermutation-append_left waits listed (n ∷ rest) taken))
          (IsPermutation-middle absent n (rest ++ waits))));
    }

-- an absent node that is listed
pub entered_put : (nodes : List NodeRow) (absent : List ℕ) (order more : Sequence) (late : List Entry) (e : Entry) (row : NodeRow) (place : ℕ) → AreEntered nodes (e.node ∷ absent) order late → node_of nodes e.node ≡ Some row → (e.node == 0) ≡ false → IsOwn nodes e → IsPlace nodes (entries_of order.runs) row.parent row.name place → LacksName nodes (entries_of order.runs) row.parent row.name → entries_of more.runs ≡ insert (entries_of order.runs) place e.node → more.entries ≡ insert order.entries place e → AreEntered nodes absent more late
entered_put nodes absent order more late e row place h found other own p lacks put entered =
    let listed = entries_of order.runs in
    let waits = map number_in late in
    let is : row.number ≡ e.node = found_key number e.node nodes row found in
    let new = insert listed place e.node in
    record {
      listed = subst (IsListed nodes) (sym put)
          (subst (λ (n : ℕ). IsListed nodes (insert listed place n)) is
          (listed_put nodes listed row place h.listed (ap (node_of nodes) is ∙ found) (ap (λ n. n == 0) is ∙ other) p lacks));
      entries = own_put nodes order more place e h.entries own p.within put entered;
      own = h.own;
      members = subst (λ (ns : List ℕ). IsPermutation (inner_numbers nodes) (absent ++ (ns ++ waits))) (sym put)
          (IsPermutation-trans (inner_numbers nodes) (e.node ∷ (absent ++ (listed ++ waits))) (absent ++ (new ++ waits)) h.members
          (IsPermutation-trans (e.node ∷ (absent ++ (listed ++ waits))) (absent ++ (e.node ∷ (listed ++ waits))) (absent ++ (new ++ waits))
          (IsPermutation-sym (absent ++ (e.node ∷ (listed ++ waits))) (e.node ∷ (absent ++ (listed ++ waits))) (IsPermutation-middle absent e.node (listed ++ waits)))
          (IsPermutation-append_right absent (e.node ∷ (listed ++ waits)) (new ++ waits) (IsPermutation-append_left waits (e.node ∷ listed) new (IsPermutation-insert listed place e.node)))));
    }

-- an absent node that is late
pub entered_late : (nodes : List NodeRow) (absent : List ℕ) (order : Sequence) (late : List Entry) (e : Entry) → AreEntered nodes (e.node ∷ absent) order late → IsOwn nodes e → AreEntered nodes absent order (late ++ e ∷ [])
entered_late nodes absent order late e h own =
    let listed = entries_of order.runs in
    let waits = map number_in late in
    let x = e.node in
    let pushed : map number_in (late ++ e ∷ []) ≡ waits ++ x ∷ [] = map-append number_in late (e ∷ []) in
    record {
      listed = h.listed;
      entries = h.entries;
      own = All-append (IsOwn nodes) late (e ∷ []) h.own (λ k d l. one k d l);
      members = subst (λ (ns : List ℕ). IsPermutation (inner_numbers nodes) (absent ++ (listed ++ ns))) (sym pushed)
          (IsPermutation-trans (inner_numbers nodes) (x ∷ (absent ++ (listed ++ waits))) (absent ++ (listed ++ (waits ++ x ∷ []))) h.members
          (IsPermutation-trans (x ∷ (absent ++ (listed ++ waits))) (absent ++ (listed ++ x ∷ waits)) (absent ++ (listed ++ (waits ++ x ∷ [])))
          (IsPermutation-sym (absent ++ (listed ++ x ∷ waits)) (x ∷ (absent ++ (listed ++ waits))) (front absent listed x waits))
          (IsPermutation-append_right absent (listed ++ x ∷ waits) (listed ++ (waits ++ x ∷ []))
          (IsPermutation-append_right listed (x ∷ waits) (waits ++ x ∷ []) (IsPermutation-sym (waits ++ x ∷ []) (x ∷ waits) (IsPermutation-to_front waits x))))));
    }
  where
    one : (k : ℕ) (d : Entry) → k < 1 → IsOwn nodes (get_or (e ∷ []) k d)
    one zero d l = own
    one (suc k) d l = absurd (omega arith)

-- nodes that change where one is out
turned_but : (nodes more : List NodeRow) (absent others : List ℕ) (order : Sequence) (late : List Entry) (x : ℕ) → SameBut nodes more x → IsOut order late x → AreEntered nodes absent order late → IsPermutation (inner_numbers more) (others ++ (entries_of order.runs ++ map number_in late)) → AreEntered more others order late
turned_but nodes more absent others order late x same out h members =
    record {
      listed = listed_but nodes more (entries_of order.runs) x same out.listed h.listed;
      entries = record {
        numbers_are = h.entries.numbers_are;
        each = all_but nodes more x order.entries same (ap (λ (ns : List ℕ). is_in ns x) (sym h.entries.numbers_are) ∙ out.listed) h.entries.each;
      };
      own = all_but nodes more x late same out.waits h.own;
      members = members;
    }

-- a new node is absent
pub entered_new : (nodes : List NodeRow) (order : Sequence) (late : List Entry) (row : NodeRow) → has_row number row.number nodes ≡ false → (row.number == 0) ≡ false → AreEntered nodes [] order late → AreEntered (with_row number row nodes) (row.number ∷ []) order late
entered_new nodes order late row lacks other h =
    let x = row.number in
    let listed = entries_of order.runs in
    let waits = map number_in late in
    let none : is_in (listed ++ waits) x ≡ false = not_true _ (λ t. clash _ (inner_has nodes x (in_permuted (inner_numbers nodes) (listed ++ waits) x h.members ∙ t)) lacks) in
    let out = neither (is_in listed x) (is_in waits x) (sym (in_append listed waits x) ∙ none) in
    turned_but nodes (with_row number row nodes) [] (x ∷ []) order late x (λ m e. row_of-new_other number row m nodes e) (record { listed = out.0; waits = out.1 }) h
    (IsPermutation-trans (inner_numbers (with_row number row nodes)) (x ∷ inner_numbers nodes) (x ∷ (listed ++ waits)) (inner_new nodes row other)
    (IsPermutation-cons x (inner_numbers nodes) (listed ++ waits) h.members))

-- an absent node is changed
other_row : (nodes : List NodeRow) (x m : ℕ) (c : NodeRow → NodeRow) → (m == x) ≡ false → (o : Option NodeRow) → node_of nodes m ≡ o → option_map (λ (r : NodeRow). if number r == x then c r else r) o ≡ o
other_row nodes x m c e None f = refl
other_row nodes x m c e (Some r) f = ap (λ b. Some (cond b (c r) r)) (ap (λ i. i == x) (found_key number m nodes r f) ∙ e)

pub changed_but : (nodes : List NodeRow) (x : ℕ) (c : NodeRow → NodeRow) → ((r : NodeRow) → (c r).number ≡ r.number) → SameBut nodes (with_change number x c nodes) x
changed_but nodes x c keeps m e = row_of-change number x c keeps m nodes ∙ other_row nodes x m c e (node_of nodes m) refl

pub entered_moved : (nodes : List NodeRow) (absent : List ℕ) (order : Sequence) (late : List Entry) (x : ℕ) (c : NodeRow → NodeRow) → is_ascending number nodes ≡ true → ((r : NodeRow) → (c r).number ≡ r.number) → AreEntered nodes (x ∷ absent) order late → AreEntered (with_change number x c nodes) (x ∷ absent) order late
entered_moved nodes absent order late x c a keeps h =
    turned_but nodes (with_change number x c nodes) (x ∷ absent) (x ∷ absent) order late x (changed_but nodes x c keeps) (absent_out nodes absent order late x a h) h
    (subst (λ (ns : List ℕ). IsPermutation ns (x ∷ (absent ++ (entries_of order.runs ++ map number_in late)))) (sym (inner_changed nodes x c keeps)) h.members)

-- an absent node goes
pub entered_gone : (nodes : List NodeRow) (order : Sequence) (late : List Entry) (x : ℕ) (row : NodeRow) → is_ascending number nodes ≡ true → node_of nodes x ≡ Some row → (x == 0) ≡ false → AreEntered nodes (x ∷ []) order late → AreEntered (without_row number x nodes) [] order late
entered_gone nodes order late x row a found other h =
    let rest = inner_numbers (without_row number x nodes) in
    let all = entries_of order.runs ++ map number_in late in
    let moves = inner_gone nodes x row a found other in
    turned_but nodes (without_row number x nodes) (x ∷ []) [] order late x (λ m e. row_of-without number x m nodes e) (absent_out nodes [] order late x a h) h
    (cancel x rest all (once_permuted (inner_numbers nodes) (x ∷ rest) moves (inner_once nodes a))
    (IsPermutation-trans (x ∷ rest) (inner_numbers nodes) (x ∷ all) (IsPermutation-sym (inner_numbers nodes) (x ∷ rest) moves) h.members))

-- a node is changed that keeps its folder and its name
pub entered_kept : (nodes : List NodeRow) (absent : List ℕ) (order : Sequence) (late : List Entry) (n : ℕ) (c : NodeRow → NodeRow) → KeepsNode c → AreEntered nodes absent order late → AreEntered (with_change number n c nodes) absent order late
entered_kept nodes absent order late n c keeps h =
    record {
      listed = listed_changed nodes (entries_of order.runs) n c keeps h.listed;
      entries = record { numbers_are = h.entries.numbers_are; each = λ k d l. own_kept nodes n c (get_or order.entries k d) keeps (h.entries.each k d l) };
      own = λ k d l. own_kept nodes n c (get_or late k d) keeps (h.own k d l);
      members = subst (λ (ns : List ℕ). IsPermutation ns (absent ++ (entries_of order.runs ++ map number_in late))) (sym (inner_changed nodes n c keeps.same_number)) h.members;
    }
