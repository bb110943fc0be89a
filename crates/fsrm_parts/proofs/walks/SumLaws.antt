-- A sum: what files take is added at once, and folders wait.
use Rattle.std.proofs.Common.{◌≡◌, ℕ, ◌+◌, ◌*◌, ◌^◌, ◌<◌, ◌≤◌, Bool, true, false, cond, List, [], ◌∷◌, ◌++◌, length, length-append, map, refl, sym, ◌∙◌, ap, subst, arith}
use Rattle.std.proofs.lemmas.List.{append-nil}
use Rattle.std.proofs.lemmas.List.Sums.{sum_by-append, sum_by-cons}
use Rattle.std.specs.List.{AllByRecursion}
use Rattle.std.specs.Option.{option_map_or}
use Rattle.std.specs.Prelude.{sum_by}
use Rattle.fsrm_base.proofs.Look.{has_found}
use Rattle.fsrm_base.specs.Keyed.{has_row}
use Rattle.fsrm_model.specs.declared.row.Capacity.{Capacity}
use Rattle.fsrm_model.specs.declared.row.NodeRow.{NodeRow}
use Rattle.fsrm_model.specs.store.Capacities.{is_capacity}
use Rattle.fsrm_model.specs.values.Space.{alloc, space}
use Rattle.fsrm_model.specs.nodes.Tree.{number, is_folder, children_in_order, under, usage}
use Rattle.fsrm_model.specs.store.Valid.{IsVolume}
use Rattle.fsrm_model.proofs.nodes.Keeps.{folder_found}
use Rattle.fsrm_model.proofs.nodes.UsageLaws.{usage_of_file, count_of_file}
use Rattle.fsrm_model.proofs.valid.ValidLaws.{folder_has}
use Rattle.rescan.specs.Visits.{folders_among, space_of}
use Rattle.rescan.proofs.counted.FitLaws.{total_small}
use Rattle.rescan.proofs.unvisited.EnterLaws.{part_small}
use Rattle.fsrm_parts.specs.Walk.{usage_of_all, under_all, AreThere}
use Rattle.fsrm_parts.proofs.walks.WalkLaws.{children_there, count_all, count_of_children, last_sum, usage_of_folder}

-- each of these nodes is a folder
abbrev pub AreFolders : List NodeRow → List ℕ → Type 0
AreFolders nodes numbers = AllByRecursion (λ n. is_folder nodes n ≡ true) numbers

folders-append : (nodes : List NodeRow) (xs ys : List ℕ) → AreFolders nodes xs → AreFolders nodes ys → AreFolders nodes (xs ++ ys)
folders-append nodes [] ys h g = g
folders-append nodes (x ∷ xs) ys h g = (h.0, folders-append nodes xs ys h.1 g)

folders-front : (nodes : List NodeRow) (xs ys : List ℕ) → AreFolders nodes (xs ++ ys) → AreFolders nodes xs
folders-front nodes [] ys h = tt
folders-front nodes (x ∷ xs) ys h = (h.0, folders-front nodes xs ys h.1)

folders-back : (nodes : List NodeRow) (xs ys : List ℕ) → AreFolders nodes (xs ++ ys) → AreFolders nodes ys
folders-back nodes [] ys h = h
folders-back nodes (x ∷ xs) ys h = folders-back nodes xs ys h.1

folders_there : (nodes : List NodeRow) (numbers : List ℕ) → AreFolders nodes numbers → AreThere nodes numbers
folders_there nodes [] h = tt
folders_there nodes (n ∷ numbers) h = (folder_has nodes n h.0, folders_there nodes numbers h.1)

-- a folder takes nothing itself
folder_alone : (K : Capacity) (nodes : List NodeRow) (n : ℕ) → is_folder nodes n ≡ true → space_of K nodes n ≡ 0
folder_alone K nodes n e =
    let f = folder_found nodes n e in
    ap (λ o. option_map_or (space K) o 0) f.found ∙ ap (λ b. cond b 0 (alloc K f.row.length)) f.folder

-- and there is nothing below a file
file_alone : (K : Capacity) (nodes : List NodeRow) (n : ℕ) → IsVolume K nodes → has_row number n nodes ≡ true → is_folder nodes n ≡ false → (usage K nodes n ≡ space_of K nodes n) × (length (under nodes n) ≡ 1)
file_alone K nodes n v h e =
    let f = has_found number n nodes h in
    (usage_of_file K nodes n f.row v f.is e ∙ sym (ap (λ o. option_map_or (space K) o 0) f.is), count_of_file K nodes n f.row v f.is e)

-- nodes of which the files are summed up and the folders wait
pub record Shared (K : Capacity) (nodes : List NodeRow) (numbers folders : List ℕ) : Type 0 where
  pub sum : sum_by (space_of K nodes) numbers + usage_of_all K nodes folders ≡ usage_of_all K nodes numbers
  pub count : under_all nodes numbers + length folders ≡ length numbers + under_all nodes folders
  pub few : length folders ≤ length numbers
  pub are : AreFolders nodes folders

pub shared : (K : Capacity) (nodes : List NodeRow) (numbers : List ℕ) → IsVolume K nodes → AreThere nodes numbers → Shared K nodes numbers (folders_among nodes numbers)
shared K nodes [] v h = record { sum = omega arith; count = omega arith; few = omega arith; are = tt }
shared K nodes (n ∷ numbers) v h = at (is_folder nodes n) refl (shared K nodes numbers v h.1)
  where
    at : (b : Bool) → is_folder nodes n ≡ b → Shared K nodes numbers (folders_among nodes numbers) → Shared K nodes (n ∷ numbers) (cond b (n ∷ folders_among nodes numbers) (folders_among nodes numbers))
    at true e s = record {
      sum = omega (arith, s.sum, folder_alone K nodes n e, sum_by-cons (space_of K nodes) n numbers, sum_by-cons (usage K nodes) n numbers, sum_by-cons (usage K nodes) n (folders_among nodes numbers));
      count = omega (arith, s.count, sum_by-cons (λ m. length (under nodes m)) n numbers, sum_by-cons (λ m. length (under nodes m)) n (folders_among nodes numbers));
      few = omega (arith, s.few);
      are = (e, s.are);
    }
    at false e s =
        let file = file_alone K nodes n v h.0 e in
        record {
          sum = omega (arith, s.sum, file.0, sum_by-cons (space_of K nodes) n numbers, sum_by-cons (usage K nodes) n numbers);
          count = omega (arith, s.count, file.1, sum_by-cons (λ m. length (under nodes m)) n numbers);
          few = omega (arith, s.few);
          are = s.are;
        }

-- the node at which a sum begins
pub record Begun (K : Capacity) (nodes : List NodeRow) (n : ℕ) (pending : List ℕ) : Type 0 where
  pub are : AreFolders nodes pending
  pub sum : (bytes : ℕ) → bytes ≡ space_of K nodes n → bytes + usage_of_all K nodes pending ≡ usage K nodes n
  pub looks : (start now : ℕ) → now ≡ start + 1 → now + 3 * under_all nodes pending ≤ start + (3 * length (under nodes n) + 2 * length pending)

pub begun : (K : Capacity) (nodes : List NodeRow) (n : ℕ) (pending : List ℕ) → IsVolume K nodes → has_row number n nodes ≡ true → pending ≡ folders_among nodes (n ∷ []) → Begun K nodes n pending
begun K nodes n pending v h put =
    let s : Shared K nodes (n ∷ []) pending = subst (Shared K nodes (n ∷ [])) (sym put) (shared K nodes (n ∷ []) v (h, tt)) in
    record {
      are = s.are;
      sum = λ bytes is. omega (arith, is, s.sum, sum_by-cons (space_of K nodes) n [], sum_by-cons (usage K nodes) n []);
      looks = λ start now is. omega (arith, is, s.count, s.few, sum_by-cons (λ m. length (under nodes m)) n []);
    }

-- the children of a folder
abbrev inside : List NodeRow → ℕ → List ℕ
inside nodes n = map number (children_in_order nodes n)

pub inside_shared : (K : Capacity) (nodes : List NodeRow) (n : ℕ) → IsVolume K nodes → Shared K nodes (inside nodes n) (folders_among nodes (inside nodes n))
inside_shared K nodes n v = shared K nodes (inside nodes n) v (children_there nodes n)

pub inside_small : (K : Capacity) (nodes : List NodeRow) (n : ℕ) → IsVolume K nodes → is_capacity K ≡ true → sum_by (space_of K nodes) (inside nodes n) < 2 ^ 64
inside_small K nodes n v legal =
    let part = part_small K nodes n [] (inside nodes n) [] v.ascending (append-nil (inside nodes n)) in
    omega (arith, part, total_small K nodes v legal)

-- ---- a visit of the last folder that waits
module _ (K : Capacity) (nodes : List NodeRow) (pending rest : List ℕ) (n : ℕ) (v : IsVolume K nodes) (waits : AreFolders nodes pending) (last : pending ≡ rest ++ n ∷ []) where
  last_folder : is_folder nodes n ≡ true
  last_folder = (folders-back nodes rest (n ∷ []) (subst (AreFolders nodes) last waits)).0

  rest_folders : AreFolders nodes rest
  rest_folders = folders-front nodes rest (n ∷ []) (subst (AreFolders nodes) last waits)

  below_folder : length (under nodes n) ≡ 1 + under_all nodes (inside nodes n)
  below_folder = let f = folder_found nodes n last_folder in count_of_children K nodes n f.row v f.found

  pub looks_at_visit : (start whole before now : ℕ) → before + 3 * under_all nodes pending ≤ start + (3 * whole + 2 * length pending) → now ≤ before + (1 + 2 * length (inside nodes n)) → now ≤ start + 3 * whole
  looks_at_visit start whole before now looks more =
      omega (
        arith,
        looks,
        more,
        last_sum (λ m. length (under nodes m)) pending rest n last,
        below_folder,
        count_all K nodes (inside nodes n) v (children_there nodes n),
        count_all K nodes rest v (folders_there nodes rest rest_folders),
        ap length last,
        length-append rest (n ∷ []),
      )

  module _ (new : List ℕ) (put : new ≡ rest ++ folders_among nodes (inside nodes n)) where
    pub visited_folders : AreFolders nodes new
    visited_folders = subst (AreFolders nodes) (sym put) (folders-append nodes rest (folders_among nodes (inside nodes n)) rest_folders (inside_shared K nodes n v).are)

    pub visited_sum : (bytes : ℕ) → bytes ≡ sum_by (space_of K nodes) (inside nodes n) → bytes + usage_of_all K nodes new ≡ usage K nodes n + usage_of_all K nodes rest
    visited_sum bytes is =
        let f = folder_found nodes n last_folder in
        omega (arith, is, usage_of_folder K nodes n f.row v f.found f.folder, (inside_shared K nodes n v).sum, ap (usage_of_all K nodes) put, sum_by-append (usage K nodes) rest (folders_among nodes (inside nodes n)))

    pub visited_total : (bytes total start : ℕ) → bytes ≡ sum_by (space_of K nodes) (inside nodes n) → total + usage_of_all K nodes pending ≡ usage K nodes start → total + bytes + usage_of_all K nodes new ≡ usage K nodes start
    visited_total bytes total start is sum = omega (arith, sum, visited_sum bytes is, last_sum (usage K nodes) pending rest n last)

    -- what is left becomes less
    left : under_all nodes new + (1 + length (inside nodes n)) ≡ under_all nodes pending + length (folders_among nodes (inside nodes n))
    left =
        omega (
          arith,
          last_sum (λ m. length (under nodes m)) pending rest n last,
          below_folder,
          (inside_shared K nodes n v).count,
          ap (under_all nodes) put,
          sum_by-append (λ m. length (under nodes m)) rest (folders_among nodes (inside nodes n)),
        )

    pub visited_fewer : under_all nodes new < under_all nodes pending
    visited_fewer = omega (arith, left, (inside_shared K nodes n v).few)

    pub visited_looks : (start whole before now : ℕ) → before + 3 * under_all nodes pending ≤ start + (3 * whole + 2 * length pending) → now ≡ before + (1 + 2 * length (inside nodes n)) → now + 3 * under_all nodes new ≤ start + (3 * whole + 2 * length new)
    visited_looks start whole before now looks is =
        omega (
          arith,
          looks,
          is,
          left,
          (inside_shared K nodes n v).few,
          ap length last,
          length-append rest (n ∷ []),
          ap length put,
          length-append rest (folders_among nodes (inside nodes n)),
        )

-- ---- a file has no folder that waits
pub none_waits : (nodes : List NodeRow) (n : ℕ) (pending : List ℕ) → pending ≡ folders_among nodes (n ∷ []) → is_folder nodes n ≡ false → pending ≡ []
none_waits nodes n pending put file = put ∙ ap (λ b. cond b (n ∷ []) []) file

pub some_wait : (pending rest : List ℕ) (n : ℕ) → pending ≡ rest ++ n ∷ [] → pending ≡ [] → ⊥
some_wait pending [] n last none = cc
some_wait pending (k ∷ rest) n last none = cc

true_unless : (b : Bool) → (b ≡ false → ⊥) → b ≡ true
true_unless true h = refl
true_unless false h = absurd (h refl)

pub waits_below : (nodes : List NodeRow) (n : ℕ) (pending rest : List ℕ) (folder : ℕ) → (is_folder nodes n ≡ false → pending ≡ []) → pending ≡ rest ++ folder ∷ [] → is_folder nodes n ≡ true
waits_below nodes n pending rest folder none last = true_unless (is_folder nodes n) (λ file. some_wait pending rest folder last (none file))
