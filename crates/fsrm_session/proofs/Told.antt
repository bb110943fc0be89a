-- A reply is told: to the device, or to the text that waits.
use Rattle.std.proofs.Common.{◌≡◌, ℕ, ◌≤◌, false, Some, List, [], ◌++◌, length, drop, take, sym, ◌∙◌, ap, subst, arith, append_assoc, length-append}
use Rattle.std.specs.Prelude.{Option, Result, Ok, Err}
use Rattle.std.specs.Result.{is_err}
use Rattle.std.specs.Io.KnownBytes.{append_known}
use Rattle.std.proofs.Math.Seq.{drop-append_seam, take-append_seam}
use Rattle.std.proofs.lemmas.List.{append-nil}
use Rattle.fsrm_model.specs.declared.row.Capacity.{Capacity}
use Rattle.fsrm_model.specs.declared.row.Rows.{Rows}
use Rattle.fsrm_outside.specs.Members.{Members}
use Rattle.fsrm_outside.specs.Shown.{IsFront, ShowsFront}
use Rattle.fsrm_outside.proofs.OutsideLaws.{Laws}
use Rattle.fsrm_store.specs.Standing.{Standing, StandsAlike}
use Rattle.fsrm_store.proofs.Standings.{stands_alike, stands_beside}
use Rattle.line_parts.specs.Writes.{Sends}
use Rattle.fsrm_session.specs.Grows.{Grows}
use Rattle.fsrm_session.specs.Turns.{Turn, text_of}
use Rattle.fsrm_session.specs.Underway.{Stopped, StopsTelling, Tells, Underway}
use Rattle.fsrm_session.specs.declared.session.Session.{Session}
use Rattle.fsrm_session.specs.declared.stop.Stop.{Stop}
use Rattle.fsrm_session.specs.declared.stop.Stop.TheVariants.{WriteFault, DiskFault, NoMemory}
use Rattle.fsrm_session.proofs.Texts.{front_then, front_length}
use Rattle.fsrm_session.proofs.Going.{all_on_disk, still, write_part}

some_same : (xs ys : List ℕ) → Some xs ≡ Some ys → xs ≡ ys
some_same xs ys e = cc

-- ---- what was sent
pub sent_whole : {T E : Type 0} (r : Result T E) (before after : Option (List ℕ)) (text : List ℕ) → is_err r ≡ false → Sends r before after text → after ≡ append_known before text
sent_whole (Ok x) before after text ok s = s
sent_whole (Err e) before after text ok s = absurd (cc)

pub sent_front : {T E : Type 0} (r : Result T E) (before after : Option (List ℕ)) (text : List ℕ) → Sends r before after text → ShowsFront before after text
sent_front (Ok x) before after text s = record { front = text; shown = s; is_front = ([], sym (append-nil text)) }
sent_front (Err e) before after text s = s

-- a sink in memory has what it had, and then what was sent
pub kept_more : (old new more : List ℕ) → Some new ≡ append_known (Some old) more → new ≡ old ++ more
kept_more old new more e = some_same new (old ++ more) e

pub cut_back : (old new more : List ℕ) (mark : ℕ) → new ≡ old ++ more → mark ≡ length old → take mark new ≡ old
cut_back old new more mark e long = ap (take mark) e ∙ ap (λ (n : ℕ). take n (old ++ more)) long ∙ take-append_seam old more

-- what holds of the last value behind a reference that was kept holds of what it lent
pub ended_as : {T : Type 0} (P : T → Type 0) (lent last : T) (first kept : ℕ) → kept ≡ first → (first ≡ kept → lent ≡ last) → P last → P lent
ended_as P lent last first kept same ends p = subst P (sym (ends (sym same))) p

same_rest : (xs ys zs : List ℕ) → xs ++ ys ≡ xs ++ zs → ys ≡ zs
same_rest xs ys zs e = sym (drop-append_seam xs ys) ∙ ap (drop (length xs)) e ∙ drop-append_seam xs zs

-- what the device took of what waited and of the words that came after it
took_part : (old new : Option (List ℕ)) (before waits left more : List ℕ) → old ≡ Some before → append_known new left ≡ append_known (append_known old waits) more → (g : Grows old new)
    → (new ≡ Some (before ++ g.more)) × (waits ++ more ≡ g.more ++ left)
took_part old new before waits left more told is g =
    let shown : new ≡ Some (before ++ g.more) = g.shown ∙ ap (λ (o : Option (List ℕ)). append_known o g.more) told in
    let one : append_known new left ≡ Some ((before ++ g.more) ++ left) = ap (λ (o : Option (List ℕ)). append_known o left) shown in
    let two : append_known (append_known old waits) more ≡ Some ((before ++ waits) ++ more) = ap (λ (o : Option (List ℕ)). append_known (append_known o waits) more) told in
    let whole : (before ++ g.more) ++ left ≡ (before ++ waits) ++ more = some_same _ _ (sym one ∙ is ∙ two) in
    (shown, sym (same_rest before (g.more ++ left) (waits ++ more) (sym (append_assoc before g.more left) ∙ whole ∙ append_assoc before waits more)))

-- ---- to the device: no record is held, so all turns are on the disk
pub written_tells : {O : Type 0} {M : Members O} (more : List ℕ) (was next : Session) (old new : O) → Laws M → was.store.journal.held ≡ 0 → StandsAlike was.store next.store → M.by_write old new
    → append_known (M.shown new) next.kept.items ≡ append_known (append_known (M.shown old) was.kept.items) more → Grows (M.shown old) (M.shown new) → Tells M more was next old new
written_tells {M = M} more was next old new laws none alike ran is g = record {
  tells = λ K R turns words before u front.
      let same = all_on_disk K R turns words before u none in
      let part = took_part (M.shown old) (M.shown new) (before ++ u.shown) was.kept.items next.kept.items more u.shown_is is g in
      let shows : M.shown new ≡ Some (before ++ (u.shown ++ g.more)) = part.0 ∙ ap (λ (l : List ℕ). Some l) (append_assoc before u.shown g.more) in
      let all : words ++ more ≡ (u.shown ++ g.more) ++ next.kept.items =
      ap (λ (l : List ℕ). l ++ more) u.words_are ∙ append_assoc u.shown was.kept.items more ∙ ap (λ (l : List ℕ). u.shown ++ l) part.1
      ∙ sym (append_assoc u.shown g.more next.kept.items) in
      let few : length (u.shown ++ g.more) ≤ length (text_of R turns) = omega (arith, ap length all, length-append (u.shown ++ g.more) next.kept.items, front_length (words ++ more) (text_of R turns) front) in (
        record {
          first = turns;
          later = [];
          split = sym (append-nil turns);
          shown = u.shown ++ g.more;
          shown_is = shows;
          words_are = all;
          front = front;
          few = few;
          size = alike.size ∙ u.size;
          rows = alike.rows ∙ u.rows;
          standing = subst (λ (kept : Rows). Standing M.reads M.disk_clock M.images kept next.store new) same
              (stands_beside (laws.write_keeps_disk old new ran) (stands_alike was.store next.store alike u.standing));
        },
        write_part K R turns words before laws new (u.shown ++ g.more) u same ran shows few,
      );
}

-- ---- to the text that waits: no call is made
pub kept_tells : {O : Type 0} {M : Members O} (more : List ℕ) (was next : Session) (now : O) → Laws M → StandsAlike was.store next.store → next.kept.items ≡ was.kept.items ++ more → Tells M more was next now now
kept_tells {M = M} more was next now laws alike kept = record {
  tells = λ K R turns words before u front. (
    record {
      first = u.first;
      later = u.later;
      split = u.split;
      shown = u.shown;
      shown_is = u.shown_is;
      words_are = ap (λ (l : List ℕ). l ++ more) u.words_are ∙ append_assoc u.shown was.kept.items more ∙ ap (λ (l : List ℕ). u.shown ++ l) (sym kept);
      front = front;
      few = u.few;
      size = alike.size ∙ u.size;
      rows = alike.rows ∙ u.rows;
      standing = stands_alike was.store next.store alike u.standing;
    },
    still K R turns words before laws u,
  );
}

-- ---- a part of it was told
-- how a session stands that stops there
stopped_here : {O : Type 0} (M : Members O) (stop : Stop) (K : Capacity) (R : Rows) (turns : List Turn) (words before : List ℕ) (session : Session) (now : O) → Underway M K R turns words before session now → Stopped M stop K R turns before session now
stopped_here M WriteFault K R turns words before session now u = (u.shown, u.shown_is, front_then u.shown words (text_of R turns) (session.kept.items, u.words_are) u.front)
stopped_here M DiskFault K R turns words before session now u = (u.shown, u.shown_is, front_then u.shown words (text_of R turns) (session.kept.items, u.words_are) u.front)
stopped_here M NoMemory K R turns words before session now u = record { done = turns; rest = []; are = sym (append-nil turns); words = words; here = u }

pub tells_stops : {O : Type 0} {M : Members O} (stop : Stop) (part more : List ℕ) (was next : Session) (old new : O) → IsFront part more → Tells M part was next old new → StopsTelling M stop more was next old new
tells_stops {M = M} stop part more was next old new is t = record {
  stops = λ K R turns words before u front.
      let longer : IsFront (words ++ part) (words ++ more) = (is.0, ap (λ (l : List ℕ). words ++ l) is.1 ∙ sym (append_assoc words part is.0)) in
      let here = t.tells K R turns words before u (front_then (words ++ part) (words ++ more) (text_of R turns) longer front) in
      (stopped_here M stop K R turns (words ++ part) before next new here.0, here.1);
}
