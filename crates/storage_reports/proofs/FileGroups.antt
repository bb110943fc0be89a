-- Groups of files, which grow by one file after the other.
use Rattle.std.proofs.Common.{◌≡◌, ℕ, suc, ◌+◌, ◌<◌, ◌≤◌, ◌^◌, Bool, true, false, cond, List, [], ◌∷◌, ◌++◌, length, length-append, filter, unwrap_or, ◌==◌, refl, sym, ◌∙◌, ap, arith}
use Rattle.fsrm_base.proofs.TestLaws.{suc_apart}
use Rattle.std.proofs.lemmas.List.Sums.{sum_by-append, sum_by-cons}
use Rattle.std.specs.Cmp.{IsEquivalence}
use Rattle.std.specs.Map.{lookup}
use Rattle.std.specs.Prelude.{sum_by}
use Rattle.indexmap.specs.IndexMap.{insert_entry}
use Rattle.fsrm_model.specs.declared.row.Capacity.{Capacity}
use Rattle.fsrm_model.specs.declared.row.NodeRow.{NodeRow}
use Rattle.fsrm_model.specs.values.Space.{alloc, space}
use Rattle.storage_reports.specs.Files.{Fits, Sums, first_number, no_files, sums, with_file}
use Rattle.fsrm_model.specs.reports.Groups.{groups, items_of}
use Rattle.storage_reports.proofs.Grouping.{groups-look, groups-push}

push_sum : (f : NodeRow → ℕ) (xs : List NodeRow) (x : NodeRow) → sum_by f (xs ++ x ∷ []) ≡ sum_by f xs + f x
push_sum f xs x = omega (arith, sum_by-append f xs (x ∷ []), sum_by-cons f x [])

pub sums-push : (K : Capacity) (xs : List NodeRow) (x : NodeRow) → sums K (xs ++ x ∷ []) ≡ with_file (sums K xs) x.number x.length (space K x)
sums-push K xs x = λ i. record {
  first = front xs i;
  files = count i;
  lengths = push_sum (λ node. node.length) xs x i;
  alloc = push_sum (space K) xs x i;
}
  where
    front : (ys : List NodeRow) → first_number (ys ++ x ∷ []) ≡ cond (length ys == 0) x.number (first_number ys)
    front [] = refl
    front (y ∷ ys) = sym (ap (λ b. cond b x.number y.number) (suc_apart (length ys)))

    count : length (xs ++ x ∷ []) ≡ length xs + 1
    count = omega (arith, length-append xs (x ∷ []))

-- a part comes to no more than the whole
pub part_sum : (f : NodeRow → ℕ) (p : NodeRow → Bool) (xs : List NodeRow) → sum_by f (filter p xs) ≤ sum_by f xs
part_sum f p [] = omega arith
part_sum f p (x ∷ xs) = at (p x) (part_sum f p xs)
  where
    at : (b : Bool) → sum_by f (filter p xs) ≤ sum_by f xs → sum_by f (cond b (x ∷ filter p xs) (filter p xs)) ≤ sum_by f (x ∷ xs)
    at true h = omega (arith, h, sum_by-cons f x (filter p xs), sum_by-cons f x xs)
    at false h = omega (arith, h, sum_by-cons f x xs)

pub part_count : (p : NodeRow → Bool) (xs : List NodeRow) → length (filter p xs) ≤ length xs
part_count p [] = omega arith
part_count p (x ∷ xs) = at (p x) (part_count p xs)
  where
    at : (b : Bool) → length (filter p xs) ≤ length xs → length (cond b (x ∷ filter p xs) (filter p xs)) ≤ suc (length xs)
    at true h = omega arith
    at false h = omega arith

module _ {G : Type 0} (same : G → G → Bool) (e : IsEquivalence same) (key : NodeRow → G) (K : Capacity) (entries : List (G × Sums)) (xs : List NodeRow) (are : entries ≡ groups same key (sums K) xs) where
  -- what a group came to
  abbrev pub so_far : G → Sums
  so_far k = unwrap_or (lookup (same k) entries) no_files

  pub so_far_is : (k : G) → so_far k ≡ sums K (items_of same key xs k)
  so_far_is k = ap (λ (es : List (G × Sums)). unwrap_or (lookup (same k) es) no_files) are ∙ groups-look same e key (sums K) xs k

  module _ (x : NodeRow) (rest files : List NodeRow) (front : xs ++ x ∷ rest ≡ files) (fits : Fits K files) (k : G) where
    whole : (f : NodeRow → ℕ) → sum_by f files ≡ sum_by f xs + (f x + sum_by f rest)
    whole f = ap (sum_by f) (sym front) ∙ omega (arith, sum_by-append f xs (x ∷ rest), sum_by-cons f x rest)

    pub files_fit : (so_far k).files + 1 < 2 ^ 64
    files_fit =
        omega (arith, ap (λ (s : Sums). s.files) (so_far_is k), part_count (λ y. same k (key y)) xs, ap length front, length-append xs (x ∷ rest), fits.few)

    pub lengths_fit : (so_far k).lengths + x.length < 2 ^ 64
    lengths_fit =
        omega (arith, ap (λ (s : Sums). s.lengths) (so_far_is k), part_sum (λ node. node.length) (λ y. same k (key y)) xs, whole (λ node. node.length), fits.lengths)

    pub alloc_fits : (so_far k).alloc + space K x < 2 ^ 64
    alloc_fits =
        omega (arith, ap (λ (s : Sums). s.alloc) (so_far_is k), part_sum (space K) (λ y. same k (key y)) xs, whole (space K), fits.alloc)

  -- its group after a file
  pub grown : (x : NodeRow) (new : List (G × Sums)) → new ≡ insert_entry same entries (key x) (with_file (so_far (key x)) x.number x.length (space K x)) → new ≡ groups same key (sums K) (xs ++ x ∷ [])
  grown x new h =
      h
      ∙ (ap (λ (es : List (G × Sums)). insert_entry same es (key x) (with_file (so_far (key x)) x.number x.length (space K x))) are
      ∙ (ap (insert_entry same (groups same key (sums K) xs) (key x)) (ap (λ (s : Sums). with_file s x.number x.length (space K x)) (so_far_is (key x)) ∙ sym (sums-push K (items_of same key xs (key x)) x))
      ∙ sym (groups-push same e key (sums K) xs x)))

-- what a lent file takes
pub file_space : (K : Capacity) (row : NodeRow) (bytes : ℕ) → row.folder ≡ false → bytes ≡ alloc K row.length → bytes ≡ space K row
file_space K row bytes f h = h ∙ sym (ap (λ b. cond b 0 (alloc K row.length)) f)
