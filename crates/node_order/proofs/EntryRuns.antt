-- Runs of entries, and the runs of the numbers in them.
use Rattle.std.proofs.Common.{◌≡◌, ℕ, zero, suc, ◌+◌, ◌<◌, All, Contains, List, [], ◌∷◌, ◌++◌, length, get_or, map, take, insert, remove, slice_get, Some, refl, sym, ◌∙◌, ap, arith}
use Rattle.std.specs.Prelude.{option_map}
use Rattle.std.proofs.lemmas.List.{length-map, map-append, take-map}
use Rattle.std.proofs.lemmas.Option.{slice_get-map, slice_get-get_or, slice_get_within, get_or_from_slice_get}
use Rattle.block_list.specs.declared.place.Place.{Place}
use Rattle.block_list.specs.Places.{IsEntry, IsGap, index_of}
use Rattle.block_list.specs.Runs.{entries_of, run_at, start_of}
use Rattle.node_order.proofs.Edits.{map-insert, map-remove}
use Rattle.node_order.specs.Entries.{number_in, numbers_in}
use Rattle.node_order.specs.declared.entries.Entry.{Entry}

pub entries-numbers : (runs : List (List Entry)) → entries_of (numbers_in runs) ≡ map number_in (entries_of runs)
entries-numbers [] = refl
entries-numbers (run ∷ runs) = ap (λ (ns : List ℕ). map number_in run ++ ns) (entries-numbers runs) ∙ sym (map-append number_in run (entries_of runs))

pub run-numbers : (runs : List (List Entry)) (i : ℕ) → run_at (numbers_in runs) i ≡ map number_in (run_at runs i)
run-numbers [] zero = refl
run-numbers [] (suc i) = refl
run-numbers (run ∷ runs) zero = refl
run-numbers (run ∷ runs) (suc i) = run-numbers runs i

pub count-numbers : (runs : List (List Entry)) → length (numbers_in runs) ≡ length runs
count-numbers runs = length-map runs (map number_in)

pub size-numbers : (runs : List (List Entry)) → length (entries_of (numbers_in runs)) ≡ length (entries_of runs)
size-numbers runs = ap length (entries-numbers runs) ∙ length-map (entries_of runs) number_in

pub start-numbers : (runs : List (List Entry)) (i : ℕ) → start_of (numbers_in runs) i ≡ start_of runs i
start-numbers runs i = ap (λ (rs : List (List ℕ)). length (entries_of rs)) (take-map (map number_in) i runs) ∙ size-numbers (take i runs)

pub run_size-numbers : (runs : List (List Entry)) (i : ℕ) → length (run_at (numbers_in runs) i) ≡ length (run_at runs i)
run_size-numbers runs i = ap length (run-numbers runs i) ∙ length-map (run_at runs i) number_in

pub index-numbers : (runs : List (List Entry)) (place : Place) → index_of (numbers_in runs) place ≡ index_of runs place
index-numbers runs place = ap (λ (n : ℕ). n + place.offset) (start-numbers runs place.run)

pub get-numbers : (runs : List (List Entry)) (k n : ℕ) (e : Entry) → n ≡ k → slice_get (entries_of runs) k ≡ Some e → slice_get (entries_of (numbers_in runs)) n ≡ Some e.node
get-numbers runs k n e same is =
    ap (slice_get (entries_of (numbers_in runs))) same
    ∙ (ap (λ (ns : List ℕ). slice_get ns k) (entries-numbers runs)
    ∙ (slice_get-map number_in (entries_of runs) k ∙ ap (option_map number_in) is))

-- places are the same
pub entry_in : (runs : List (List Entry)) (place : Place) → IsEntry (numbers_in runs) place → IsEntry runs place
entry_in runs place h = record {
  run = omega (arith, h.run, count-numbers runs);
  offset = omega (arith, h.offset, run_size-numbers runs place.run);
}

pub entry_out : (runs : List (List Entry)) (place : Place) → IsEntry runs place → IsEntry (numbers_in runs) place
entry_out runs place h = record {
  run = omega (arith, h.run, count-numbers runs);
  offset = omega (arith, h.offset, run_size-numbers runs place.run);
}

pub gap_in : (runs : List (List Entry)) (place : Place) → IsGap (numbers_in runs) place → IsGap runs place
gap_in runs place h = record {
  run = omega (arith, h.run, count-numbers runs);
  offset = omega (arith, h.offset, run_size-numbers runs place.run);
}

pub gap_out : (runs : List (List Entry)) (place : Place) → IsGap runs place → IsGap (numbers_in runs) place
gap_out runs place h = record {
  run = omega (arith, h.run, count-numbers runs);
  offset = omega (arith, h.offset, run_size-numbers runs place.run);
}

-- what edits leave
pub inserted_numbers : (old new : List (List Entry)) (place : Place) (e : Entry) → entries_of new ≡ insert (entries_of old) (index_of old place) e → entries_of (numbers_in new) ≡ insert (entries_of (numbers_in old)) (index_of (numbers_in old) place) e.node
inserted_numbers old new place e is =
    entries-numbers new
    ∙ (ap (map number_in) is
    ∙ (map-insert number_in (entries_of old) (index_of old place) e
    ∙ (ap (λ (ns : List ℕ). insert ns (index_of old place) e.node) (sym (entries-numbers old))
    ∙ ap (λ (n : ℕ). insert (entries_of (numbers_in old)) n e.node) (sym (index-numbers old place)))))

pub removed_numbers : (old new : List (List Entry)) (place : Place) → entries_of new ≡ remove (entries_of old) (index_of old place) → entries_of (numbers_in new) ≡ remove (entries_of (numbers_in old)) (index_of (numbers_in old) place)
removed_numbers old new place is =
    entries-numbers new
    ∙ (ap (map number_in) is
    ∙ (map-remove number_in (entries_of old) (index_of old place)
    ∙ (ap (λ (ns : List ℕ). remove ns (index_of old place)) (sym (entries-numbers old))
    ∙ ap (remove (entries_of (numbers_in old))) (sym (index-numbers old place)))))

pub added_numbers : (old new : List (List Entry)) (more : List Entry) → entries_of new ≡ entries_of old ++ more → entries_of (numbers_in new) ≡ entries_of (numbers_in old) ++ map number_in more
added_numbers old new more is =
    entries-numbers new
    ∙ (ap (map number_in) is
    ∙ (map-append number_in (entries_of old) more
    ∙ ap (λ (ns : List ℕ). ns ++ map number_in more) (sym (entries-numbers old))))

-- an entry that was read is one of the list
pub contains_read : {X : Type 0} (xs : List X) (k : ℕ) (x : X) → slice_get xs k ≡ Some x → Contains xs x
contains_read xs k x is = (k, slice_get_within xs k x is, get_or_from_slice_get xs k x x is)

-- the entries of a run
pub run_get : (runs : List (List Entry)) (run : List Entry) (i : ℕ) → ((k : ℕ) → k < length run → slice_get (entries_of runs) (start_of runs i + k) ≡ slice_get run k) → (k : ℕ) (d : Entry) → k < length run → slice_get (entries_of runs) (start_of runs i + k) ≡ Some (get_or run k d)
run_get runs run i each k d l = each k l ∙ slice_get-get_or run k d l

pub run_listed : (runs : List (List Entry)) (run : List Entry) (i : ℕ) → ((k : ℕ) → k < length run → slice_get (entries_of runs) (start_of runs i + k) ≡ slice_get run k) → All (Contains (entries_of runs)) run
run_listed runs run i each k d l = contains_read (entries_of runs) (start_of runs i + k) (get_or run k d) (run_get runs run i each k d l)
