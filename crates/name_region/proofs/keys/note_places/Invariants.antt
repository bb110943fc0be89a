use Rattle.std.proofs.Common.{◌≡◌, ℕ, ◌<◌, length, slice_index}
use Rattle.std.specs.Vec.{vec_capacity}
use Rattle.name_region.specs.Log.{stored_at}
use Rattle.name_region.proofs.keys.note_places.Given as goal

abbrev pub invariant-loop-index : goal.invariant-loop-index
invariant-loop-index l = record {
  capacity : vec_capacity l.places ≡ vec_capacity l.initial.places;
  count : length l.places.items ≡ length l.initial.places.items;
  noted : (i : ℕ) → i < l.index → slice_index l.places.items (stored_at l.log.stored i).key ≡ i;
}
