-- The calls up to the last sync, and what a crash leaves.
use Rattle.std.proofs.Common.{◌≡◌, ℕ, ◌+◌, ◌≤◌, ◌<◌, true, false, List, [], ◌∷◌, ◌++◌, length, get_or, take, drop, refl, sym, ◌∙◌, ap, subst, arith, length-append, length-take}
use Rattle.std.specs.Prelude.{nat_le, reverse, Vec, Result, Ok, Err, OnErr}
use Rattle.std.specs.declared.alloc.Global.{Global}
use Rattle.std.proofs.lemmas.Bool.{leb-true}
use Rattle.std.proofs.lemmas.List.{append-nil, reverse-append, take-append-drop, take_more}
use Rattle.std.specs.Result.{is_err}
use Rattle.fsrm_outside.specs.Changes.{over}
use Rattle.fsrm_outside.specs.Contents.{HasRoom, parts_in, room_of}
use Rattle.fsrm_outside.specs.declared.contents.Contents.{Contents}
use Rattle.fsrm_outside.specs.Crash.{synced, unsynced, all_ranges, IsFilled, AreFilled}
use Rattle.fsrm_outside.specs.DiskModel.{IsOutside, IsPartImage, IsImage, since_of}
use Rattle.fsrm_outside.specs.ImageLaws.{both_true, bounds, now_image, over_longer}
use Rattle.fsrm_outside.specs.Parts.{Parts, part_of}
use Rattle.fsrm_outside.specs.Record.{now_of, valid}
use Rattle.fsrm_outside.specs.declared.calls.Call.{Call}
use Rattle.fsrm_outside.specs.declared.calls.Call.TheVariants.{Read, Write, Len, ReadAt, WriteAt, FailedAt, Sync}
use Rattle.fsrm_outside.specs.declared.traits.Part.{Part}
use Rattle.fsrm_outside.specs.declared.traits.Part.TheVariants.{Zero, One}

-- the calls up to a place, the newest first, and one more
pub newest_more : (calls : List Call) (i : ℕ) (call : Call) → i < length calls → call ≡ get_or calls i call → reverse (take (i + 1) calls) ≡ call ∷ reverse (take i calls)
newest_more calls i call few is = ap reverse (take_more calls i call few) ∙ reverse-append (take i calls) (get_or calls i call ∷ []) ∙ ap (λ (c : Call). c ∷ reverse (take i calls)) (sym is)

-- of the first i calls, so many come up to the last sync that did its work
pub record Counted (calls : List Call) (count i : ℕ) : Type 0 where
  pub within : count ≤ i
  pub synced_are : reverse (take count calls) ≡ synced (reverse (take i calls))
  pub unsynced_are : reverse (drop count (take i calls)) ≡ unsynced (reverse (take i calls))

-- a record's later part is valid, and so is its earlier one
pub valid_rest : (start : Parts) (xs ys : List Call) → valid start (xs ++ ys) ≡ true → valid start ys ≡ true
valid_rest start [] ys v = v
valid_rest start (Read ∷ xs) ys v = valid_rest start xs ys v
valid_rest start (Write bytes ∷ xs) ys v = valid_rest start xs ys v
valid_rest start (Len ∷ xs) ys v = valid_rest start xs ys v
valid_rest start (ReadAt ∷ xs) ys v = valid_rest start xs ys v
valid_rest start (WriteAt part place bytes ∷ xs) ys v = valid_rest start xs ys (both_true (nat_le place (length (part_of part (now_of start (xs ++ ys))))) (valid start (xs ++ ys)) v).1
valid_rest start (FailedAt part place count ∷ xs) ys v = valid_rest start xs ys (both_true (nat_le place (length (part_of part (now_of start (xs ++ ys))))) (valid start (xs ++ ys)) v).1
valid_rest start (Sync done ∷ xs) ys v = valid_rest start xs ys v

pub valid_first : (start : Parts) (part : Part) (place : ℕ) (bytes : Vec ℕ Global) (ys : List Call) → valid start (WriteAt part place bytes ∷ ys) ≡ true → place ≤ length (part_of part (now_of start ys))
valid_first start part place bytes ys v = leb-true place (length (part_of part (now_of start ys))) (both_true (nat_le place (length (part_of part (now_of start ys)))) (valid start ys) v).0

-- calls make no part shorter
pub grows : (start : Parts) (xs ys : List Call) (part : Part) → valid start (xs ++ ys) ≡ true → length (part_of part (now_of start ys)) ≤ length (part_of part (now_of start (xs ++ ys)))
grows start [] ys part v = omega arith
grows start (Read ∷ xs) ys part v = grows start xs ys part v
grows start (Write bytes ∷ xs) ys part v = grows start xs ys part v
grows start (Len ∷ xs) ys part v = grows start xs ys part v
grows start (ReadAt ∷ xs) ys part v = grows start xs ys part v
grows start (FailedAt at place count ∷ xs) ys part v = grows start xs ys part (both_true (nat_le place (length (part_of at (now_of start (xs ++ ys))))) (valid start (xs ++ ys)) v).1
grows start (Sync done ∷ xs) ys part v = grows start xs ys part v
grows start (WriteAt Zero place bytes ∷ xs) ys Zero v =
    let both = both_true (nat_le place (length (now_of start (xs ++ ys)).zero)) (valid start (xs ++ ys)) v in
    omega (arith, grows start xs ys Zero both.1, over_longer place bytes.items (now_of start (xs ++ ys)).zero (leb-true place (length (now_of start (xs ++ ys)).zero) both.0))
grows start (WriteAt One place bytes ∷ xs) ys One v =
    let both = both_true (nat_le place (length (now_of start (xs ++ ys)).one)) (valid start (xs ++ ys)) v in
    omega (arith, grows start xs ys One both.1, over_longer place bytes.items (now_of start (xs ++ ys)).one (leb-true place (length (now_of start (xs ++ ys)).one) both.0))
grows start (WriteAt Zero place bytes ∷ xs) ys One v = grows start xs ys One (both_true (nat_le place (length (now_of start (xs ++ ys)).zero)) (valid start (xs ++ ys)) v).1
grows start (WriteAt One place bytes ∷ xs) ys Zero v = grows start xs ys Zero (both_true (nat_le place (length (now_of start (xs ++ ys)).one)) (valid start (xs ++ ys)) v).1

-- a write reaches as far as its bytes
reaches : (place : ℕ) (bytes old : List ℕ) → place ≤ length old → place + length bytes ≤ length (over place bytes old)
reaches place bytes old within = omega (arith, length-append (take place old ++ bytes) (drop (place + length bytes) old), length-append (take place old) bytes, length-take place old)

pub reached : (start : Parts) (part : Part) (place : ℕ) (bytes : Vec ℕ Global) (ys : List Call) → valid start (WriteAt part place bytes ∷ ys) ≡ true
    → place + length bytes.items ≤ length (part_of part (now_of start (WriteAt part place bytes ∷ ys)))
reached start Zero place bytes ys v = reaches place bytes.items (now_of start ys).zero (valid_first start Zero place bytes ys v)
reached start One place bytes ys v = reaches place bytes.items (now_of start ys).one (valid_first start One place bytes ys v)

-- all calls, the newest first, by a place
pub newest_split : (calls : List Call) (i : ℕ) → reverse calls ≡ reverse (drop i calls) ++ reverse (take i calls)
newest_split calls i = ap reverse (sym (take-append-drop i calls)) ∙ reverse-append (take i calls) (drop i calls)

-- a write among the calls began within its part, and reaches no further than the part is in the end
pub record Replays (start : Parts) (calls : List Call) (i place n : ℕ) (part : Part) : Type 0 where
  pub within : place ≤ length (part_of part (now_of start (reverse (take i calls))))
  pub reached_end : place + n ≤ length (part_of part (now_of start (reverse calls)))

pub replays : (start : Parts) (calls : List Call) (i : ℕ) (call : Call) (part : Part) (place : ℕ) (bytes : Vec ℕ Global) → i < length calls → call ≡ get_or calls i call → call ≡ WriteAt part place bytes
    → valid start (reverse calls) ≡ true → Replays start calls i place (length bytes.items) part
replays start calls i call part place bytes few is write v =
    let older = reverse (take i calls) in
    let newest : reverse (take (i + 1) calls) ≡ WriteAt part place bytes ∷ older = newest_more calls i call few is ∙ ap (λ (c : Call). c ∷ reverse (take i calls)) write in
    let split : reverse calls ≡ reverse (drop (i + 1) calls) ++ (WriteAt part place bytes ∷ older) = newest_split calls (i + 1) ∙ ap (λ (l : List Call). reverse (drop (i + 1) calls) ++ l) newest in
    let all : valid start (reverse (drop (i + 1) calls) ++ (WriteAt part place bytes ∷ older)) ≡ true = ap (valid start) (sym split) ∙ v in
    let now : valid start (WriteAt part place bytes ∷ older) ≡ true = valid_rest start (reverse (drop (i + 1) calls)) (WriteAt part place bytes ∷ older) all in
    let most = grows start (reverse (drop (i + 1) calls)) (WriteAt part place bytes ∷ older) part all in
    record {
      within = valid_first start part place bytes older now;
      reached_end = omega (arith, reached start part place bytes older now, most, ap (λ (l : List Call). length (part_of part (now_of start l))) split);
    }

pub room_part : (contents : Contents) (parts : Parts) → HasRoom contents parts → (part : Part) → length (part_of part parts) ≤ room_of part contents
room_part contents parts room Zero = room.zero
room_part contents parts room One = room.one

pub err_gives : {T E : Type 0} (r : Result T E) (P : Type 0) → is_err r ≡ true → OnErr r P → P
err_gives (Ok x) P no_err p = absurd (cc)
err_gives (Err e) P is p = p

-- what is stable is what the calls up to the last sync made
pub stable_is : (start : Parts) (calls : List Call) (part : Part) → (since_of start calls part).stable ≡ part_of part (now_of start (synced calls))
stable_is start [] part = refl
stable_is start (Sync true ∷ calls) part = refl
stable_is start (Sync false ∷ calls) part = stable_is start calls part
stable_is start (Read ∷ calls) part = stable_is start calls part
stable_is start (Write bytes ∷ calls) part = stable_is start calls part
stable_is start (Len ∷ calls) part = stable_is start calls part
stable_is start (ReadAt ∷ calls) part = stable_is start calls part
stable_is start (WriteAt Zero place bytes ∷ calls) Zero = stable_is start calls Zero
stable_is start (WriteAt Zero place bytes ∷ calls) One = stable_is start calls One
stable_is start (WriteAt One place bytes ∷ calls) Zero = stable_is start calls Zero
stable_is start (WriteAt One place bytes ∷ calls) One = stable_is start calls One
stable_is start (FailedAt Zero place count ∷ calls) Zero = stable_is start calls Zero
stable_is start (FailedAt Zero place count ∷ calls) One = stable_is start calls One
stable_is start (FailedAt One place count ∷ calls) Zero = stable_is start calls Zero
stable_is start (FailedAt One place count ∷ calls) One = stable_is start calls One

-- and the ranges written since are those of the calls after it
pub written_is : (start : Parts) (calls : List Call) (part : Part) → (since_of start calls part).written ≡ all_ranges part (unsynced calls)
written_is start [] part = refl
written_is start (Sync true ∷ calls) part = refl
written_is start (Sync false ∷ calls) part = written_is start calls part
written_is start (Read ∷ calls) part = written_is start calls part
written_is start (Write bytes ∷ calls) part = written_is start calls part
written_is start (Len ∷ calls) part = written_is start calls part
written_is start (ReadAt ∷ calls) part = written_is start calls part
written_is start (WriteAt Zero place bytes ∷ calls) Zero = ap (λ (l : List (ℕ × ℕ)). (place, length bytes.items) ∷ l) (written_is start calls Zero)
written_is start (WriteAt Zero place bytes ∷ calls) One = written_is start calls One
written_is start (WriteAt One place bytes ∷ calls) Zero = written_is start calls Zero
written_is start (WriteAt One place bytes ∷ calls) One = ap (λ (l : List (ℕ × ℕ)). (place, length bytes.items) ∷ l) (written_is start calls One)
written_is start (FailedAt Zero place count ∷ calls) Zero = ap (λ (l : List (ℕ × ℕ)). (place, count) ∷ l) (written_is start calls Zero)
written_is start (FailedAt Zero place count ∷ calls) One = written_is start calls One
written_is start (FailedAt One place count ∷ calls) Zero = written_is start calls Zero
written_is start (FailedAt One place count ∷ calls) One = ap (λ (l : List (ℕ × ℕ)). (place, count) ∷ l) (written_is start calls One)

lost_part : (start : Parts) (calls : List Call) (part : Part) → IsPartImage (since_of start calls part) (part_of part (now_of start (synced calls)))
lost_part start calls part =
    let is = stable_is start calls part in
    record {
      no_shorter = omega (arith, ap length is);
      no_longer = omega (arith, ap length is, (bounds start calls part).stable);
      same = λ k few out. ap (λ (l : List ℕ). get_or l k 0) (sym is);
    }

pub lost_image : (start : Parts) (calls : List Call) → IsImage start calls (now_of start (synced calls))
lost_image start calls = (lost_part start calls Zero, lost_part start calls One)

filled_part : (start : Parts) (calls : List Call) (part : Part) (byte : ℕ) (now new : List ℕ) → IsPartImage (since_of start calls part) now → IsFilled byte (all_ranges part (unsynced calls)) now new → IsPartImage (since_of start calls part) new
filled_part start calls part byte now new is filled = record {
  no_shorter = omega (arith, is.no_shorter, filled.as_long);
  no_longer = omega (arith, is.no_longer, filled.as_long);
  same = λ k few out. filled.same k (subst (λ (l : List (ℕ × ℕ)). IsOutside l k) (written_is start calls part) out) ∙ is.same k few out;
}

pub filled_image : (start : Parts) (calls : List Call) (byte : ℕ) (new : Parts) → valid start calls ≡ true → AreFilled byte (unsynced calls) (now_of start calls) new → IsImage start calls new
filled_image start calls byte new v filled =
    let now = now_image start calls v in
    (filled_part start calls Zero byte (now_of start calls).zero new.zero now.0 filled.zero, filled_part start calls One byte (now_of start calls).one new.one now.1 filled.one)

pub has_room : (contents : Contents) → HasRoom contents (parts_in contents)
has_room contents = record { zero = omega (arith, contents.zero.ok.0, contents.zero.ok.1); one = omega (arith, contents.one.ok.0, contents.one.ok.1) }

-- all calls make no part shorter
pub grown : (start : Parts) (calls : List Call) (part : Part) → valid start calls ≡ true → length (part_of part start) ≤ length (part_of part (now_of start calls))
grown start calls part v =
    let more = grows start calls [] part (ap (valid start) (append-nil calls) ∙ v) in
    omega (arith, more, ap (λ (l : List Call). length (part_of part (now_of start l))) (append-nil calls))

-- nor do the later of them
pub grown_since : (start : Parts) (calls : List Call) (count : ℕ) (part : Part) → valid start (reverse calls) ≡ true
    → length (part_of part (now_of start (reverse (take count calls)))) ≤ length (part_of part (now_of start (reverse calls)))
grown_since start calls count part v =
    let split = newest_split calls count in
    let more = grows start (reverse (drop count calls)) (reverse (take count calls)) part (ap (valid start) (sym split) ∙ v) in
    omega (arith, more, ap (λ (l : List Call). length (part_of part (now_of start l))) split)

pub valid_before : (start : Parts) (calls : List Call) (count : ℕ) → valid start (reverse calls) ≡ true → valid start (reverse (take count calls)) ≡ true
valid_before start calls count v = valid_rest start (reverse (drop count calls)) (reverse (take count calls)) (ap (valid start) (sym (newest_split calls count)) ∙ v)
