-- What a list ends as, once a `&mut` into it has ended.
use Rattle.std.specs.Prelude.{ℕ, List as Items, slice_set, Option}
use Rattle.std.specs.Borrow.{Fml, RattleType, MutBor, LendsIf}
use Rattle.fsrm_base.specs.contracts.list.List.{the_row}

module _ (R : RattleType) (items : MutBor (Items R.Denot)) where
  -- the item at the place is the last value that is written through r. At None the list stays as it is
  abbrev pub lends_item : ℕ → Option (MutBor R.Denot) → Fml
  lends_item place r = LendsIf (the_row R) R items r (slice_set items.now place) items.now
