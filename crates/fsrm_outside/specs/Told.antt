-- What a read gives, where the source tells what it has left, and clocks that are told.
use Rattle.std.specs.Prelude.{◌≡◌, ℕ, ◌+◌, ◌≤◌, ◌<◌, Option, None, Some, List, [], length, take}

-- The buffer begins with the n front bytes of what was left. None come only at the end, or where there was no room.
pub record GivesFront (left : List ℕ) (n : ℕ) (given : List ℕ) : Type 0 where
  pub few : n ≤ length left
  pub front : take n given ≡ take n left
  pub ended : n ≡ 0 → 0 < length given → left ≡ []

-- A clock that is told stays told and doesn't go back, and one that isn't told stays so.
abbrev pub Later : Option ℕ → Option ℕ → Type 0
Later None None = Unit {0}
Later None (Some now) = ⊥
Later (Some before) None = ⊥
Later (Some before) (Some now) = before ≤ now

-- A clock that is told is raised by at most one, as by one call: no moment is skipped.
abbrev pub AtMostOneTick : Option ℕ → Option ℕ → Type 0
AtMostOneTick None now = Unit {0}
AtMostOneTick (Some before) None = Unit {0}
AtMostOneTick (Some before) (Some now) = now ≤ before + 1
