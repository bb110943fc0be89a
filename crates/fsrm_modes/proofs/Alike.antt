-- Turns that do the same, whatever rows they come to.
use Rattle.std.proofs.Common.{◌≡◌, ℕ, ◌+◌, ◌≤◌, Some, List, [], ◌∷◌, ◌++◌, length, refl, sym, ◌∙◌, ap, subst, arith}
use Rattle.std.proofs.lemmas.List.{append-nil}
use Rattle.std.specs.Prelude.{Result, Ok, Err, MatchResult}
use Rattle.fsrm_model.specs.declared.row.Capacity.{Capacity}
use Rattle.fsrm_model.specs.declared.row.Rows.{Rows}
use Rattle.fsrm_model.specs.store.Lasting.{lasting}
use Rattle.fsrm_outside.specs.Members.{Members}
use Rattle.fsrm_outside.specs.Parts.{Parts}
use Rattle.fsrm_outside.specs.Runs.{CoversMore}
use Rattle.fsrm_outside.specs.Shown.{IsFront}
use Rattle.fsrm_outside.proofs.EachMoments.{weaker_moments}
use Rattle.fsrm_outside.proofs.OutsideLaws.{Laws}
use Rattle.fsrm_store.specs.Standing.{Standing}
use Rattle.fsrm_store.specs.States.{state_of}
use Rattle.fsrm_store.specs.States.State.{Holds}
use Rattle.fsrm_session.specs.Covers.{Covers}
use Rattle.fsrm_session.specs.Turns.{Turn, rows_after, text_of, line_turn, line_turns, AreAlike}
use Rattle.fsrm_session.specs.Underway.{Goes, Left, Safe, ShowsSome, Stopped, Stops, Underway}
use Rattle.fsrm_session.specs.declared.session.Session.{Session}
use Rattle.fsrm_session.specs.declared.stop.Stop.{Stop}
use Rattle.fsrm_session.specs.declared.stop.Stop.TheVariants.{WriteFault, DiskFault, NoMemory}
use Rattle.fsrm_session.proofs.Going.{idle_enters}
use Rattle.fsrm_session.proofs.Texts.{text_one}

-- ---- their text, and the rows after them
pub text_alike : (R : Rows) (xs ys : List Turn) → AreAlike xs ys → text_of R xs ≡ text_of R ys
text_alike R [] [] h = refl
text_alike R [] (y ∷ ys) h = absurd h
text_alike R (x ∷ xs) [] h = absurd h
text_alike R (x ∷ xs) (y ∷ ys) h =
    ap (λ (l : List ℕ). l ++ text_of (x.after R) xs) (h.0.said R)
    ∙ ap (λ (S : Rows). y.said R ++ text_of S xs) (h.0.after R)
    ∙ ap (λ (l : List ℕ). y.said R ++ l) (text_alike (y.after R) xs ys h.1)

pub rows_alike : (R : Rows) (xs ys : List Turn) → AreAlike xs ys → rows_after R xs ≡ rows_after R ys
rows_alike R [] [] h = refl
rows_alike R [] (y ∷ ys) h = absurd h
rows_alike R (x ∷ xs) [] h = absurd h
rows_alike R (x ∷ xs) (y ∷ ys) h = ap (λ (S : Rows). rows_after S xs) (h.0.after R) ∙ rows_alike (y.after R) xs ys h.1

-- ---- more turns, and fewer
pub alike_same : (turns : List Turn) → AreAlike turns turns
alike_same [] = tt
alike_same (turn ∷ turns) = (record { said = λ R. refl; after = λ R. refl; looks = λ R. refl; bytes = λ R. refl }, alike_same turns)

pub alike_after : (turns xs ys : List Turn) → AreAlike xs ys → AreAlike (turns ++ xs) (turns ++ ys)
alike_after [] xs ys h = h
alike_after (turn ∷ turns) xs ys h = (record { said = λ R. refl; after = λ R. refl; looks = λ R. refl; bytes = λ R. refl }, alike_after turns xs ys h)

-- turns that are split as those are that they are like
record Splits (first later turns : List Turn) : Type 0 where
  one : List Turn
  two : List Turn
  are : turns ≡ one ++ two
  firsts : AreAlike first one
  laters : AreAlike later two

splits : (first later turns : List Turn) → AreAlike (first ++ later) turns → Splits first later turns
splits [] later turns h = record { one = []; two = turns; are = refl; firsts = tt; laters = h }
splits (x ∷ first) later [] h = absurd h
splits (x ∷ first) later (y ∷ turns) h =
    let s = splits first later turns h.1 in
    record { one = y ∷ s.one; two = s.two; are = ap (λ (l : List Turn). y ∷ l) s.are; firsts = (h.0, s.firsts); laters = s.laters }

splits_as : (first later xs ys : List Turn) → xs ≡ first ++ later → AreAlike xs ys → Splits first later ys
splits_as first later xs ys e h = splits first later ys (subst (λ (l : List Turn). AreAlike l ys) e h)

-- ---- what was taken, and what images cover
underway_alike : {O : Type 0} {M : Members O} {session : Session} {now : O} (K : Capacity) (R : Rows) (xs ys : List Turn) (words before : List ℕ) → AreAlike xs ys → Underway M K R xs words before session now → Underway M K R ys words before session now
underway_alike {M = M} {session = session} {now = now} K R xs ys words before h u =
    let s = splits_as u.first u.later xs ys u.split h in
    record {
      first = s.one;
      later = s.two;
      split = s.are;
      shown = u.shown;
      shown_is = u.shown_is;
      words_are = u.words_are;
      front = subst (IsFront words) (text_alike R xs ys h) u.front;
      few = subst (λ (l : List ℕ). length u.shown ≤ length l) (text_alike R u.first s.one s.firsts) u.few;
      size = u.size;
      rows = u.rows ∙ rows_alike R xs ys h;
      standing = subst (λ (S : Rows). Standing M.reads M.disk_clock M.images (lasting S) session.store now) (rows_alike R u.first s.one s.firsts) u.standing;
    }

covers_alike : (K : Capacity) (R : Rows) (xs ys : List Turn) (n : ℕ) (parts : Parts) → AreAlike xs ys → Covers K R xs n parts → Covers K R ys n parts
covers_alike K R xs ys n parts h c =
    let s = splits_as c.done c.rest xs ys c.are h in
    record {
      done = s.one;
      rest = s.two;
      are = s.are;
      holds = c.holds ∙ ap (λ (S : Rows). Holds K (lasting S)) (rows_alike R c.done s.one s.firsts);
      acknowledged = subst (λ (l : List ℕ). n ≤ length l) (text_alike R c.done s.one s.firsts) c.acknowledged;
    }

safe_alike : {O : Type 0} {M : Members O} {old new : O} (K : Capacity) (R : Rows) (xs ys : List Turn) (before : List ℕ) → AreAlike xs ys → Safe M K R xs before old new → Safe M K R ys before old new
safe_alike K R xs ys before h e = weaker_moments (CoversMore (Covers K R ys) (length before)) (λ n i c. λ shown is. covers_alike K R xs ys shown i h (c shown is)) e

stopped_alike : {O : Type 0} (M : Members O) (stop : Stop) (K : Capacity) (R : Rows) (xs ys : List Turn) (before : List ℕ) (session : Session) (now : O) → AreAlike xs ys → Stopped M stop K R xs before session now → Stopped M stop K R ys before session now
stopped_alike M WriteFault K R xs ys before session now h s = subst (λ (words : List ℕ). ShowsSome M words before now) (text_alike R xs ys h) s
stopped_alike M DiskFault K R xs ys before session now h s = subst (λ (words : List ℕ). ShowsSome M words before now) (text_alike R xs ys h) s
stopped_alike M NoMemory K R xs ys before session now h s =
    let p = splits_as s.done s.rest xs ys s.are h in
    record { done = p.one; rest = p.two; are = p.are; words = s.words; here = underway_alike K R s.done p.one s.words before p.firsts s.here }

-- ---- how it goes on and stops
pub alike_goes : {O : Type 0} {M : Members O} (xs ys : List Turn) (a b : Session) (first last : O) → AreAlike xs ys → Goes M xs a b first last → Goes M ys a b first last
alike_goes {M = M} xs ys a b first last h p = record {
  goes = λ K R turns before u.
      let one = p.goes K R turns before u in
      let more = alike_after turns xs ys h in
      let same : text_of R (turns ++ xs) ≡ text_of R (turns ++ ys) = text_alike R (turns ++ xs) (turns ++ ys) more in (
        subst (λ (words : List ℕ). Underway M K R (turns ++ ys) words before b last) same (underway_alike K R (turns ++ xs) (turns ++ ys) (text_of R (turns ++ xs)) before more one.0),
        safe_alike K R (turns ++ xs) (turns ++ ys) before more one.1,
      );
}

pub alike_stops : {O : Type 0} {M : Members O} (stop : Stop) (xs ys : List Turn) (a b : Session) (first last : O) → AreAlike xs ys → Stops M stop xs a b first last → Stops M stop ys a b first last
alike_stops {M = M} stop xs ys a b first last h p = record {
  stops = λ K R turns before u.
      let one = p.stops K R turns before u in
      let more = alike_after turns xs ys h in (
        stopped_alike M stop K R (turns ++ xs) (turns ++ ys) before b last more one.0,
        safe_alike K R (turns ++ xs) (turns ++ ys) before more one.1,
      );
}

pub alike_result : {O T : Type 0} (M : Members O) (r : Result T Stop) (xs ys : List Turn) (a b : Session) (first last : O) → AreAlike xs ys
    → MatchResult r (λ x. Goes M xs a b first last) (λ stop. Stops M stop xs a b first last) → MatchResult r (λ x. Goes M ys a b first last) (λ stop. Stops M stop ys a b first last)
alike_result M (Ok x) xs ys a b first last h p = alike_goes xs ys a b first last h p
alike_result M (Err stop) xs ys a b first last h p = alike_stops stop xs ys a b first last h p

-- a turn that shows nothing and leaves the rows as they are
pub idle_goes : {O : Type 0} {M : Members O} (turn : Turn) (session : Session) (now : O) → Laws M → ((R : Rows) → turn.said R ≡ []) → ((R : Rows) → turn.after R ≡ R) → Goes M (turn ∷ []) session session now now
idle_goes {M = M} turn session now laws silent idle = record {
  goes = λ K R turns before u.
      let one = (idle_enters turn session now laws idle).enters K R turns (text_of R turns) before u in
      let same : text_of R turns ≡ text_of R (turns ++ turn ∷ []) = sym (text_one R turns turn ∙ ap (λ (l : List ℕ). text_of R turns ++ l) (silent (rows_after R turns)) ∙ append-nil (text_of R turns)) in
      (subst (λ (words : List ℕ). Underway M K R (turns ++ turn ∷ []) words before session now) same one.0, one.1);
}

-- ---- the turns of lines, and of more lines
pub line_turns-append : (K : Capacity) (number : ℕ) (xs ys : List (List ℕ)) → line_turns K number (xs ++ ys) ≡ line_turns K number xs ++ line_turns K (number + length xs) ys
line_turns-append K number [] ys = ap (λ (n : ℕ). line_turns K n ys) (omega arith)
line_turns-append K number (x ∷ xs) ys =
    let more : (number + 1) + length xs ≡ number + length (x ∷ xs) = omega arith in
    ap (λ (l : List Turn). line_turn K number x ∷ l) (line_turns-append K (number + 1) xs ys ∙ ap (λ (n : ℕ). line_turns K (number + 1) xs ++ line_turns K n ys) more)
