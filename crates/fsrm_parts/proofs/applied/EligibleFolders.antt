-- The folders in a folder that pass a test, found in the order of their names and then sorted by their numbers.
use Rattle.std.proofs.Common.{◌≡◌, ℕ, zero, suc, ◌+◌, ◌<◌, ◌≤◌, Bool, true, false, cond, ◌&&◌, List, [], ◌∷◌, ◌++◌, append_assoc, length, slice_index, take, refl, sym, ◌∙◌, ap, arith, nat_lt, IsPermutation}
use Rattle.std.specs.Prelude.{filter, map}
use Rattle.std.specs.List.{AllByRecursion, list_all}
use Rattle.std.specs.List.Sorted.{IsNonDecreasing}
use Rattle.std.proofs.lemmas.List.{length-map, take_more}
use Rattle.std.proofs.lemmas.List.Sorted.{IsPermutation-map}
use Rattle.fsrm_base.specs.Keyed.{has_row, is_ascending}
use Rattle.fsrm_base.specs.Numbers.{itself, is_set}
use Rattle.fsrm_base.proofs.NumberLaws.{set_filter}
use Rattle.fsrm_base.proofs.Order.{ascending-filter}
use Rattle.fsrm_base.proofs.TestLaws.{both_true}
use Rattle.fsrm_base.proofs.RowLaws.{all_filter, each_found}
use Rattle.fsrm_model.specs.declared.row.NodeRow.{NodeRow}
use Rattle.fsrm_model.specs.objects.AutoApply.{subfolders}
use Rattle.fsrm_model.specs.nodes.Tree.{number, is_child, is_folder, children, children_in_order}
use Rattle.fsrm_model.proofs.nodes.Keeps.{found_folder}
use Rattle.fsrm_parts.specs.Walk.{AreThere}
use Rattle.fsrm_parts.proofs.applied.SortedNumbers.{chosen_sorted}

-- the numbers of ascending rows
set_mapped : {X : Type 0} (key : X → ℕ) (rows : List X) → is_ascending itself (map key rows) ≡ is_ascending key rows
set_mapped key [] = refl
set_mapped key (x ∷ []) = refl
set_mapped key (x ∷ y ∷ rows) = ap (λ b. nat_lt (key x) (key y) && b) (set_mapped key (y ∷ rows))

filter_both : (p q : ℕ → Bool) (ns : List ℕ) → filter p (filter q ns) ≡ filter (λ n. q n && p n) ns
filter_both p q [] = refl
filter_both p q (n ∷ ns) = at (q n) (filter_both p q ns)
  where
    rest : List ℕ
    rest = filter (λ n. q n && p n) ns

    at : (b : Bool) → filter p (filter q ns) ≡ rest → filter p (cond b (n ∷ filter q ns) (filter q ns)) ≡ cond (b && p n) (n ∷ rest) rest
    at true e = ap (λ ms. cond (p n) (n ∷ ms) ms) e
    at false e = e

pub filter-append : (p : ℕ → Bool) (ns ms : List ℕ) → filter p (ns ++ ms) ≡ filter p ns ++ filter p ms
filter-append p [] ms = refl
filter-append p (n ∷ ns) ms = at (p n) (filter-append p ns ms)
  where
    at : (b : Bool) → filter p (ns ++ ms) ≡ filter p ns ++ filter p ms → cond b (n ∷ filter p (ns ++ ms)) (filter p (ns ++ ms)) ≡ cond b (n ∷ filter p ns) (filter p ns) ++ filter p ms
    at true e = ap (λ rest. n ∷ rest) e
    at false e = e

-- each of some nodes that are there
pub there_at : (nodes : List NodeRow) (numbers : List ℕ) (place n : ℕ) → AreThere nodes numbers → n ≡ slice_index numbers place → place < length numbers → has_row number n nodes ≡ true
there_at nodes [] place n all is within = absurd (omega arith)
there_at nodes (k ∷ numbers) zero n all is within = ap (λ m. has_row number m nodes) is ∙ all.0
there_at nodes (k ∷ numbers) (suc place) n all is within = there_at nodes numbers place n all.1 is (omega arith)

-- those that pass a test among the first numbers, and one number more
module _ (test : ℕ → Bool) (numbers old folders : List ℕ) (place child : ℕ) (is : child ≡ slice_index numbers place) (within : place < length numbers) (was : folders ≡ old ++ filter test (take place numbers)) where
  taken : take place numbers ++ child ∷ [] ≡ take (place + 1) numbers
  taken = ap (λ n. take place numbers ++ n ∷ []) is ∙ sym (take_more numbers place 0 within)

  both_are : filter test (take place numbers) ++ filter test (child ∷ []) ≡ filter test (take (place + 1) numbers)
  both_are = sym (filter-append test (take place numbers) (child ∷ [])) ∙ ap (filter test) taken

  pub one_passes : test child ≡ true → folders ++ child ∷ [] ≡ old ++ filter test (take (place + 1) numbers)
  one_passes h =
      ap (λ ns. ns ++ child ∷ []) was
      ∙ (append_assoc old (filter test (take place numbers)) (child ∷ [])
      ∙ ap (λ ns. old ++ ns) (ap (λ b. filter test (take place numbers) ++ cond b (child ∷ []) []) (sym h) ∙ both_are))

-- the numbers of those that are folders
folders_first : (nodes rows : List NodeRow) → AllByRecursion (λ (r : NodeRow). is_folder nodes r.number ≡ r.folder) rows → map number (filter (λ (node : NodeRow). node.folder) rows) ≡ filter (is_folder nodes) (map number rows)
folders_first nodes [] h = refl
folders_first nodes (r ∷ rows) h =
    at r.folder (folders_first nodes rows h.1)
    ∙ ap (λ b. cond b (r.number ∷ rest) rest) (sym h.0)
  where
    rest : List ℕ
    rest = filter (is_folder nodes) (map number rows)

    at : (b : Bool) → map number (filter (λ (node : NodeRow). node.folder) rows) ≡ rest → map number (cond b (r ∷ filter (λ (node : NodeRow). node.folder) rows) (filter (λ (node : NodeRow). node.folder) rows)) ≡ cond b (r.number ∷ rest) rest
    at true e = ap (λ ms. r.number ∷ ms) e
    at false e = e

-- all that pass two tests pass the first, and all that pass one pass a weaker one
first_passes : (p q : ℕ → Bool) (ns : List ℕ) → list_all p (filter (λ n. p n && q n) ns) ≡ true
first_passes p q [] = refl
first_passes p q (n ∷ ns) = at (p n) refl (q n) (first_passes p q ns)
  where
    rest : List ℕ
    rest = filter (λ n. p n && q n) ns

    at : (b : Bool) → p n ≡ b → (d : Bool) → list_all p rest ≡ true → list_all p (cond (b && d) (n ∷ rest) rest) ≡ true
    at true e true h = both_true (p n) (list_all p rest) e h
    at true e false h = h
    at false e d h = h

pub passing_weaker : (p q : ℕ → Bool) → ((n : ℕ) → p n ≡ true → q n ≡ true) → (ns : List ℕ) → list_all q (filter p ns) ≡ true
passing_weaker p q weaker [] = refl
passing_weaker p q weaker (n ∷ ns) = at (p n) refl (passing_weaker p q weaker ns)
  where
    at : (b : Bool) → p n ≡ b → list_all q (filter p ns) ≡ true → list_all q (cond b (n ∷ filter p ns) (filter p ns)) ≡ true
    at true e h = both_true (q n) (list_all q (filter p ns)) (weaker n e) h
    at false e h = h

few_filter : (p : ℕ → Bool) (ns : List ℕ) → length (filter p ns) ≤ length ns
few_filter p [] = omega arith
few_filter p (n ∷ ns) = at (p n) (few_filter p ns)
  where
    at : (b : Bool) → length (filter p ns) ≤ length ns → length (cond b (n ∷ filter p ns) (filter p ns)) ≤ length (n ∷ ns)
    at true h = omega arith
    at false h = omega arith

module _ (nodes : List NodeRow) (folder : ℕ) (ascending : is_ascending number nodes ≡ true) where
  numbers_set : is_set (map number (children nodes folder)) ≡ true
  numbers_set = set_mapped number (children nodes folder) ∙ ascending-filter number (is_child folder) nodes ascending

  own : AllByRecursion (λ (r : NodeRow). is_folder nodes r.number ≡ r.folder) (children nodes folder)
  own =
      all_filter (is_child folder) (λ (r : NodeRow). is_folder nodes r.number ≡ r.folder) nodes
      (each_found number (λ (r : NodeRow). is_child folder r ≡ true → is_folder nodes r.number ≡ r.folder) nodes ascending (λ r found is. found_folder nodes r.number r found))

  pub folders_are : (p : ℕ → Bool) → filter p (subfolders nodes folder) ≡ filter (λ n. is_folder nodes n && p n) (map number (children nodes folder))
  folders_are p = ap (filter p) (folders_first nodes (children nodes folder) own) ∙ filter_both p (is_folder nodes) (map number (children nodes folder))

  pub eligible_sorted : (p : ℕ → Bool) (numbers sorted : List ℕ) → IsPermutation (children nodes folder) (children_in_order nodes folder) → numbers ≡ map number (children_in_order nodes folder) → IsPermutation (filter (λ n. is_folder nodes n && p n) numbers) sorted → IsNonDecreasing sorted → sorted ≡ filter p (subfolders nodes folder)
  eligible_sorted p numbers sorted moved lent order rises =
      chosen_sorted (λ n. is_folder nodes n && p n) (map number (children nodes folder)) (map number (children_in_order nodes folder)) sorted numbers_set
      (IsPermutation-map number (children nodes folder) (children_in_order nodes folder) moved)
      (rw lent at order) rises
      ∙ sym (folders_are p)

  -- what is known of those that pass
  pub passing_set : (p : ℕ → Bool) → is_set (filter p (subfolders nodes folder)) ≡ true
  passing_set p = ap is_set (folders_are p) ∙ set_filter (λ n. is_folder nodes n && p n) (map number (children nodes folder)) numbers_set

  pub passing_folders : (p : ℕ → Bool) → list_all (is_folder nodes) (filter p (subfolders nodes folder)) ≡ true
  passing_folders p = ap (list_all (is_folder nodes)) (folders_are p) ∙ first_passes (is_folder nodes) p (map number (children nodes folder))

  pub passing_few : (p : ℕ → Bool) → length (filter p (subfolders nodes folder)) ≤ length (children nodes folder)
  passing_few p =
      omega (arith, ap length (folders_are p), few_filter (λ n. is_folder nodes n && p n) (map number (children nodes folder)), length-map (children nodes folder) number)
