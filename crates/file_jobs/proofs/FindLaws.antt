-- The files that a walk found are those that expire.
use Rattle.std.proofs.Common.{◌≡◌, ℕ, zero, suc, ◌+◌, ◌*◌, ◌≤◌, ◌==◌, Bool, true, false, cond, not, ◌&&◌, ◌||◌, inl, inr, List, [], ◌∷◌, ◌++◌, append_assoc, length, map, Option, Some, None, refl, sym, ◌∙◌, ap, arith}
use Rattle.std.proofs.lemmas.List.Sums.{sum_by-cons}
use Rattle.std.specs.Prelude.{drop, Err, filter, IfOk, Ok, Result, is_some, nat_le, slice_get, sum_by}
use Rattle.number_set.proofs.TakenLaws.{first_taken}
use Rattle.std.specs.List.{AllByRecursion}
use Rattle.std.specs.Option.{option_map_or}
use Rattle.fsrm_base.specs.Keyed.{has_row, is_ascending}
use Rattle.fsrm_base.specs.Numbers.{is_in, is_set, with_number}
use Rattle.fsrm_base.proofs.EditedRows.{sum_by-filter}
use Rattle.fsrm_base.proofs.Look.{found_has, found_key, is_some-find}
use Rattle.fsrm_base.proofs.NumberLaws.{in_with, same_set, set_with}
use Rattle.fsrm_base.proofs.RowLaws.{all_filter, each_found, filter_same}
use Rattle.fsrm_base.proofs.Sums.{sum_by_absent, sum_by_only, sum_by-ones}
use Rattle.fsrm_base.proofs.TestLaws.{and_false, both, clash, eq_same, is_false}
use Rattle.fsrm_model.specs.declared.row.Capacity.{Capacity}
use Rattle.fsrm_model.specs.declared.row.NodeRow.{NodeRow}
use Rattle.fsrm_model.specs.nodes.Tree.{number, node_of, parent_of, chain, chain_in, is_folder, is_under, under}
use Rattle.fsrm_model.specs.store.Valid.{IsVolume}
use Rattle.fsrm_model.proofs.nodes.Keeps.{found_folder, tree_of}
use Rattle.fsrm_model.proofs.nodes.Numbered.{in_numbers, set_numbers}
use Rattle.fsrm_model.proofs.valid.UnvisitedKept.{under_under}
use Rattle.tree_walk.specs.Walk.{Ignores, TakesOutside, left, one, total}
use Rattle.file_jobs.specs.Expired.{Expiry, expired, expires, is_old}
use Rattle.file_jobs.specs.Moves.{AreFiles, is_file}

abbrev pub bit : Bool → ℕ
bit b = cond b 1 0

-- 1 for a node that expires and has this number, by what is not below the folder
abbrev pub hit : List NodeRow → ℕ → Expiry → ℕ → NodeRow → ℕ
hit nodes to expiry n node = bit ((is_old expiry node && not (is_under nodes to node.number)) && (node.number == n))

gone : (a b c : Bool) → b ≡ true → bit ((a && not b) && c) ≡ 0
gone true true c h = refl
gone false b c h = refl
gone true false c h = absurd (clash false h refl)

pub ignores : (nodes : List NodeRow) (to : ℕ) (expiry : Expiry) (n : ℕ) → Ignores nodes to (hit nodes to expiry n)
ignores nodes to expiry n = record { nothing = λ node below. gone (is_old expiry node) (is_under nodes to node.number) (node.number == n) below }

-- ---- what is to be found
other : (a : Bool) (b : Bool) → b ≡ false → bit (a && b) ≡ 0
other true b h = ap bit h
other false b h = refl

under_other : (u a b : Bool) → b ≡ false → cond u (bit (a && b)) 0 ≡ 0
under_other true a b h = other a b h
under_other false a b h = refl

joined : (u a b c : Bool) → c ≡ true → cond u (bit ((a && not b) && c)) 0 ≡ bit (a && (u && not b))
joined true true true c h = refl
joined true true false c h = ap bit h
joined true false b c h = refl
joined false true b c h = refl
joined false false b c h = refl

pub hits : (nodes : List NodeRow) (from to : ℕ) (expiry : Expiry) (n : ℕ) → is_ascending number nodes ≡ true → sum_by (hit nodes to expiry n) (under nodes from) ≡ bit (option_map_or (expires nodes from to expiry) (node_of nodes n) false)
hits nodes from to expiry n a =
    sum_by-filter (λ node. is_under nodes from node.number) (hit nodes to expiry n) nodes ∙ at (node_of nodes n) refl
  where
    share : NodeRow → ℕ
    share node = cond (is_under nodes from node.number) (hit nodes to expiry n node) 0

    alone : (node : NodeRow) → (node.number == n) ≡ false → share node ≡ 0
    alone node e = under_other (is_under nodes from node.number) (is_old expiry node && not (is_under nodes to node.number)) (node.number == n) e

    at : (o : Option NodeRow) → node_of nodes n ≡ o → sum_by share nodes ≡ bit (option_map_or (expires nodes from to expiry) o false)
    at None e = sum_by_absent number share n alone nodes (sym (is_some-find (λ r. r.number == n) nodes) ∙ ap (λ (o : Option NodeRow). is_some o) e)
    at (Some r) e =
        sum_by_only number share n alone nodes r a e
        ∙ joined (is_under nodes from r.number) (is_old expiry r) (is_under nodes to r.number) (r.number == n) (ap (λ k. k == n) (found_key number n nodes r e) ∙ eq_same n)

-- ---- how far a walk has come
-- what was found, and what is still to be found, is what is to be found
pub record Finds (nodes : List NodeRow) (from to : ℕ) (expiry : Expiry) (waiting members : List ℕ) : Type 0 where
  pub set : is_set members ≡ true
  pub each : (n : ℕ) → bit (is_in members n) + total (hit nodes to expiry n) nodes waiting ≡ sum_by (hit nodes to expiry n) (under nodes from)

pub begun : (nodes : List NodeRow) (from to : ℕ) (expiry : Expiry) (waiting members : List ℕ) → waiting ≡ from ∷ [] → members ≡ [] → Finds nodes from to expiry waiting members
begun nodes from to expiry waiting members w m =
    record {
      set = ap is_set m;
      each = λ n.
          let f : ℕ → ℕ = λ k. sum_by (hit nodes to expiry n) (under nodes k) in
          omega (arith, ap (λ (ns : List ℕ). bit (is_in ns n)) m, ap (total (hit nodes to expiry n) nodes) w, sum_by-cons f from []);
    }

low : (b : Bool) → bit b ≤ 1
low true = omega arith
low false = omega arith

-- another node
pub passed : (nodes : List NodeRow) (from to : ℕ) (expiry : Expiry) (old new members : List ℕ) (row : NodeRow) → is_old expiry row ≡ false → TakesOutside nodes to old new row → Finds nodes from to expiry old members → Finds nodes from to expiry new members
passed nodes from to expiry old new members row young t m =
    record {
      set = m.set;
      each = λ n.
          let none : hit nodes to expiry n row ≡ 0 = ap (λ b. bit ((b && not (is_under nodes to row.number)) && (row.number == n))) young in
          omega (arith, m.each n, t.each (hit nodes to expiry n) (ignores nodes to expiry n), none);
    }

-- an old file isn't the folder that files are moved to, so it isn't below it either
apart_file : (nodes : List NodeRow) (to : ℕ) (expiry : Expiry) (old new : List ℕ) (row : NodeRow) → is_folder nodes to ≡ true → is_old expiry row ≡ true → TakesOutside nodes to old new row → is_under nodes to row.number ≡ false
apart_file nodes to expiry old new row folder is t = elim t.apart [
  | inl same ↦
      let kind : row.folder ≡ true = sym (found_folder nodes row.number row t.found) ∙ (ap (is_folder nodes) same ∙ folder) in
      let aged : not row.folder ≡ true = (both (not row.folder) (nat_le (row.modified + 86400 * expiry.days) expiry.moment) (both (not row.folder && nat_le (row.modified + 86400 * expiry.days) expiry.moment) _ is).0).0 in
      absurd (clash row.folder kind (is_false row.folder aged))
  | inr out ↦ out
]

pub found_file : (K : Capacity) (nodes : List NodeRow) (from to : ℕ) (expiry : Expiry) (old new members : List ℕ) (row : NodeRow) → IsVolume K nodes → is_folder nodes to ≡ true → is_old expiry row ≡ true → TakesOutside nodes to old new row → Finds nodes from to expiry old members → Finds nodes from to expiry new (with_number row.number members)
found_file K nodes from to expiry old new members row v folder is t m =
    record { set = set_with row.number members m.set; each = λ n. at n (row.number == n) refl }
  where
    out : is_under nodes to row.number ≡ false
    out = apart_file nodes to expiry old new row folder is t

    size : (n : ℕ) (b : Bool) → (row.number == n) ≡ b → hit nodes to expiry n row ≡ bit b
    size n b e =
        ap (λ c. bit ((c && not (is_under nodes to row.number)) && (row.number == n))) is
        ∙ (ap (λ c. bit (not c && (row.number == n))) out ∙ ap bit e)

    at : (n : ℕ) (b : Bool) → (row.number == n) ≡ b → bit (is_in (with_number row.number members) n) + total (hit nodes to expiry n) nodes new ≡ sum_by (hit nodes to expiry n) (under nodes from)
    at n true e =
        let now : is_in (with_number row.number members) n ≡ true = in_with row.number n members ∙ ap (λ c. c || is_in members n) e in
        omega (
          arith,
          ap bit now,
          m.each n,
          t.each (hit nodes to expiry n) (ignores nodes to expiry n),
          size n true e,
          hits nodes from to expiry n v.ascending,
          low (option_map_or (expires nodes from to expiry) (node_of nodes n) false),
        )
    at n false e =
        let now : is_in (with_number row.number members) n ≡ is_in members n = in_with row.number n members ∙ ap (λ c. c || is_in members n) e in
        omega (arith, ap bit now, m.each n, t.each (hit nodes to expiry n) (ignores nodes to expiry n), size n false e)

same_bit : (a b : Bool) → bit a ≡ bit b → a ≡ b
same_bit true true h = refl
same_bit true false h = absurd (omega (arith, h))
same_bit false true h = absurd (omega (arith, h))
same_bit false false h = refl

pub all_found : (K : Capacity) (nodes : List NodeRow) (from to : ℕ) (expiry : Expiry) (waiting members : List ℕ) → IsVolume K nodes → waiting ≡ [] → Finds nodes from to expiry waiting members → members ≡ map number (expired nodes from to expiry)
all_found K nodes from to expiry waiting members v none m =
    let test = expires nodes from to expiry in
    same_set members (map number (expired nodes from to expiry)) m.set (set_numbers test nodes v.ascending)
    (λ n.
    let bits : bit (is_in members n) ≡ bit (option_map_or test (node_of nodes n) false) = omega (arith, m.each n, ap (total (hit nodes to expiry n) nodes) none, hits nodes from to expiry n v.ascending) in
    same_bit (is_in members n) (option_map_or test (node_of nodes n) false) bits ∙ sym (in_numbers test nodes v.ascending n))

-- ---- looks
count_few : {X : Type 0} (p : X → Bool) (xs : List X) → length (filter p xs) ≤ length xs
count_few p [] = omega arith
count_few {X} p (x ∷ xs) = at (p x) (count_few p xs)
  where
    at : (b : Bool) → length (filter p xs) ≤ length xs → length (cond b (x ∷ filter p xs) (filter p xs)) ≤ length (x ∷ xs)
    at true h = omega (arith, h)
    at false h = omega (arith, h)

pub under_few : (nodes : List NodeRow) (from : ℕ) → length (under nodes from) ≤ length nodes
under_few nodes from = count_few (λ node. is_under nodes from node.number) nodes

pub begun_looks : (nodes : List NodeRow) (from : ℕ) (waiting : List ℕ) (start : ℕ) → waiting ≡ from ∷ [] → start + (1 + 3 * left nodes waiting) ≤ start + (length waiting + 3 * length nodes)
begun_looks nodes from waiting start w =
    omega (arith, ap length w, ap (left nodes) w, sum_by-cons (λ m. sum_by one (under nodes m)) from [], sum_by-ones (under nodes from), under_few nodes from)

-- ---- the least member of a set is listed
pub listed_more : (list ns rest : List ℕ) (n : ℕ) → slice_get ns 0 ≡ Some n → rest ≡ drop 1 ns → (list ++ n ∷ []) ++ rest ≡ list ++ ns
listed_more list ns rest n e left_is = append_assoc list (n ∷ []) rest ∙ (ap (λ ks. list ++ n ∷ ks) left_is ∙ ap (λ ks. list ++ ks) (sym (first_taken n ns e)))

-- ---- none expire if the folder is at or below the one that files are moved to
none_kept : {X : Type 0} (xs : List X) → filter (λ (x : X). false) xs ≡ []
none_kept [] = refl
none_kept (x ∷ xs) = none_kept xs

neither : (a u w : Bool) → (u ≡ true → w ≡ true) → (a && (u && not w)) ≡ false
neither a true w h = ap (λ b. a && not b) (h refl) ∙ and_false a
neither a false w h = and_false a

pub none_expire : (K : Capacity) (nodes : List NodeRow) (from to : ℕ) (expiry : Expiry) → IsVolume K nodes → has_row number from nodes ≡ true → is_under nodes to from ≡ true → map number (expired nodes from to expiry) ≡ []
none_expire K nodes from to expiry v h below =
    ap (map number)
    (filter_same (expires nodes from to expiry) (λ row. false) nodes
    (each_found number (λ row. expires nodes from to expiry row ≡ false) nodes v.ascending
    (λ row found.
    neither (is_old expiry row) (is_under nodes from row.number) (is_under nodes to row.number)
    (λ under. under_under nodes (tree_of K nodes v) to from row.number h (found_has number row.number nodes row found) under below)))
    ∙ none_kept nodes)

-- no way up is longer than there are nodes, and the root once more
chain_in_few : (k : ℕ) (nodes : List NodeRow) (n : ℕ) → length (chain_in k nodes n) ≤ k + 1
chain_in_few zero nodes n = omega arith
chain_in_few (suc k) nodes zero = omega arith
chain_in_few (suc k) nodes (suc n) = omega (arith, chain_in_few k nodes (parent_of nodes (suc n)))

pub chain_few : (nodes : List NodeRow) (n : ℕ) → length (chain nodes n) ≤ length nodes + 1
chain_few nodes n = chain_in_few (length nodes) nodes n

-- each one that expires is a file
pub are_files : (nodes : List NodeRow) (from to : ℕ) (expiry : Expiry) → is_ascending number nodes ≡ true → AreFiles nodes (map number (expired nodes from to expiry))
are_files nodes from to expiry a =
    numbered (expired nodes from to expiry)
    (all_filter (expires nodes from to expiry) (λ row. is_file nodes row.number ≡ true) nodes
    (each_found number (λ row. expires nodes from to expiry row ≡ true → is_file nodes row.number ≡ true) nodes a (λ row found is.
    let old = (both (is_old expiry row) _ is).0 in
    let aged = (both (not row.folder && nat_le (row.modified + 86400 * expiry.days) expiry.moment) _ old).0 in
    ap (λ (o : Option NodeRow). option_map_or (λ node. not node.folder) o false) found ∙ (both (not row.folder) _ aged).0)))
  where
    numbered : (rows : List NodeRow) → AllByRecursion (λ row. is_file nodes row.number ≡ true) rows → AreFiles nodes (map number rows)
    numbered [] h = tt
    numbered (row ∷ rows) h = (h.0, numbered rows h.1)

-- what a call's value has
pub if_ok : {T E : Type 0} (r : Result T E) (P Q : T → Type 0) → ((x : T) → P x → Q x) → IfOk r P → IfOk r Q
if_ok (Ok x) P Q f p = f x p
if_ok (Err e) P Q f p = tt
