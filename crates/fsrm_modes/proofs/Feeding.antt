-- How the pieces of a script join.
use Rattle.std.proofs.Common.{◌≡◌, ℕ, ◌+◌, ◌≤◌, List, [], ◌∷◌, ◌++◌, refl, sym, ap, subst, ◌∙◌, append_assoc, length-append, false, length, take, arith, inl, inr}
use Rattle.std.specs.Prelude.{Result, Ok, Err, MatchResult}
use Rattle.std.specs.List.{list_any}
use Rattle.std.proofs.lemmas.Bool.{cases_lt}
use Rattle.std.proofs.lemmas.List.{append-nil, nil_from_length, take_all, length-take, take-append-le}
use Rattle.std.proofs.lemmas.List.Folds.{list_any-append}
use Rattle.fsrm_model.specs.declared.row.Capacity.{Capacity}
use Rattle.fsrm_model.specs.declared.row.Rows.{Rows}
use Rattle.fsrm_model.specs.lines.Script.{is_end, lines, spelled_lines, Replied, replied, line_cost}
use Rattle.fsrm_model.specs.store.Replays.{line_entries, read_entries}
use Rattle.fsrm_model.proofs.lines.ScriptLaws.{lines_last, spelled_lines-append, AreLines-append, line_cost-held, read_line-held, replied-held}
use Rattle.fsrm_outside.specs.Members.{Members}
use Rattle.fsrm_outside.proofs.OutsideLaws.{Laws}
use Rattle.fsrm_store.specs.Amortized.{entries_bytes}
use Rattle.fsrm_session.specs.Turns.{AreAlike, Turn, line_turn, line_turns}
use Rattle.fsrm_session.specs.Underway.{Breaks, Calms, Goes, Stops}
use Rattle.fsrm_session.specs.declared.session.Session.{Session}
use Rattle.fsrm_session.specs.declared.stop.Stop.{Stop}
use Rattle.fsrm_session.specs.declared.stop.Stop.TheVariants.{NoMemory}
use Rattle.fsrm_modes.proofs.Alike.{alike_goes, alike_stops, line_turns-append}
use Rattle.fsrm_session.proofs.Going.{goes_break, goes_calms, goes_nothing, goes_stops, goes_then}
use Rattle.fsrm_modes.specs.Reading.{Place, IsHeld, Leads, Fed, BreaksOff, Broken, Ends, EndBroken}
use Rattle.fsrm_modes.proofs.Outcomes.{full_stops}
use Rattle.fsrm_base.proofs.TestLaws.{nor}

pub held_nothing : IsHeld [] []
held_nothing = record { kept = refl; one_line = refl }

-- no byte
pub fed_nothing : {O : Type 0} {M : Members O} (K : Capacity) (a : Place) (session : Session) (now : O) → Laws M → Fed M K a a [] session session now now
fed_nothing K a session now laws = record {
  fed = λ line h. record {
    ended = [];
    next = line;
    each = tt;
    held = h;
    stream_is = append-nil line;
    line_is = omega arith;
    goes = goes_nothing session now laws;
  };
}

-- the streams of two pieces
pub joined : (line xs ys next : List ℕ) (ended : List (List ℕ)) → line ++ xs ≡ spelled_lines ended ++ next → line ++ (xs ++ ys) ≡ spelled_lines ended ++ (next ++ ys)
joined line xs ys next ended e = sym (append_assoc line xs ys) ∙ ap (λ (bs : List ℕ). bs ++ ys) e ∙ append_assoc (spelled_lines ended) next ys

joined_more : (stream next rest : List ℕ) (xs ys : List (List ℕ)) → stream ≡ spelled_lines xs ++ next → next ≡ spelled_lines ys ++ rest → stream ≡ spelled_lines (xs ++ ys) ++ rest
joined_more stream next rest xs ys e f = e ∙ ap (λ (bs : List ℕ). spelled_lines xs ++ bs) f ∙ sym (append_assoc (spelled_lines xs) (spelled_lines ys) rest) ∙ ap (λ (bs : List ℕ). bs ++ rest) (sym (spelled_lines-append xs ys))

-- their turns
pub joined_turns : (K : Capacity) (n m : ℕ) (xs ys : List (List ℕ)) → m ≡ n + length xs → line_turns K n xs ++ line_turns K m ys ≡ line_turns K n (xs ++ ys)
joined_turns K n m xs ys e = ap (λ (k : ℕ). line_turns K n xs ++ line_turns K k ys) e ∙ sym (line_turns-append K n xs ys)

pub turns_then : {O : Type 0} {M : Members O} (K : Capacity) (n m : ℕ) (xs ys : List (List ℕ)) (was mid now : Session) (first half last : O) → Laws M → m ≡ n + length xs
    → Goes M (line_turns K n xs) was mid first half → Goes M (line_turns K m ys) mid now half last → Goes M (line_turns K n (xs ++ ys)) was now first last
turns_then {M = M} K n m xs ys was mid now first half last laws e p q =
    subst (λ (turns : List Turn). Goes M turns was now first last) (joined_turns K n m xs ys e) (goes_then (line_turns K n xs) (line_turns K m ys) was mid now first half last laws p q)

pub turns_stop : {O : Type 0} {M : Members O} (stop : Stop) (K : Capacity) (n m : ℕ) (xs ys : List (List ℕ)) (was mid now : Session) (first half last : O) → Laws M → m ≡ n + length xs
    → Goes M (line_turns K n xs) was mid first half → Stops M stop (line_turns K m ys) mid now half last → Stops M stop (line_turns K n (xs ++ ys)) was now first last
turns_stop {M = M} stop K n m xs ys was mid now first half last laws e p q =
    subst (λ (turns : List Turn). Stops M stop turns was now first last) (joined_turns K n m xs ys e) (goes_stops stop (line_turns K n xs) (line_turns K m ys) was mid now first half last laws p q)

leads_then : {O : Type 0} {M : Members O} (K : Capacity) (a b c : Place) (line xs ys : List ℕ) (was mid now : Session) (first half last : O) → Laws M → Leads M K a b (line ++ xs) was mid first half
    → ((next : List ℕ) → IsHeld next b.held → Leads M K b c (next ++ ys) mid now half last) → Leads M K a c (line ++ (xs ++ ys)) was now first last
leads_then K a b c line xs ys was mid now first half last laws one rest =
    let two = rest one.next one.held in
    let more : (a.line + length one.ended) + length two.ended ≡ a.line + length (one.ended ++ two.ended) = omega (arith, length-append one.ended two.ended) in
    record {
      ended = one.ended ++ two.ended;
      next = two.next;
      each = AreLines-append one.ended two.ended one.each two.each;
      held = two.held;
      stream_is = joined_more (line ++ (xs ++ ys)) (one.next ++ ys) two.next one.ended two.ended (joined line xs ys one.next one.ended one.stream_is) two.stream_is;
      line_is = two.line_is ∙ ap (λ (n : ℕ). n + length two.ended) one.line_is ∙ more;
      goes = turns_then K a.line b.line one.ended two.ended was mid now first half last laws one.line_is one.goes two.goes;
    }

-- one piece after another
pub fed_then : {O : Type 0} {M : Members O} (K : Capacity) (a b c : Place) (xs ys : List ℕ) (was mid now : Session) (first half last : O) → Laws M → Fed M K a b xs was mid first half → Fed M K b c ys mid now half last → Fed M K a c (xs ++ ys) was now first last
fed_then K a b c xs ys was mid now first half last laws p q = record { fed = λ line h. leads_then K a b c line xs ys was mid now first half last laws (p.fed line h) q.fed }

-- what waits may be shown after it
pub fed_calms : {O : Type 0} {M : Members O} (K : Capacity) (a b : Place) (xs : List ℕ) (was mid now : Session) (first half last : O) → Laws M → Fed M K a b xs was mid first half → Calms M mid now half last → Fed M K a b xs was now first last
fed_calms K a b xs was mid now first half last laws p q = record {
  fed = λ line h.
      let one = p.fed line h in
      record { ended = one.ended; next = one.next; each = one.each; held = one.held; stream_is = one.stream_is; line_is = one.line_is; goes = goes_calms (line_turns K a.line one.ended) was mid now first half last laws one.goes q };
}

-- a stop in the second piece
pub fed_broken : {O : Type 0} {M : Members O} (K : Capacity) (stop : Stop) (a b : Place) (xs ys : List ℕ) (was mid now : Session) (first half last : O) → Laws M → Fed M K a b xs was mid first half → Broken M K stop b ys mid now half last → Broken M K stop a (xs ++ ys) was now first last
fed_broken K stop a b xs ys was mid now first half last laws p q = record {
  broken = λ line held.
      let one = p.fed line held in
      let two = q.broken one.next one.held in
      record {
        ended = one.ended ++ two.ended;
        rest = two.rest;
        each = AreLines-append one.ended two.ended one.each two.each;
        stream_is = joined_more (line ++ (xs ++ ys)) (one.next ++ ys) two.rest one.ended two.ended (joined line xs ys one.next one.ended one.stream_is) two.stream_is;
        stops = turns_stop stop K a.line b.line one.ended two.ended was mid now first half last laws one.line_is one.goes two.stops;
      };
}

-- a stop after it, as what waits is shown
pub fed_breaks : {O : Type 0} {M : Members O} (K : Capacity) (stop : Stop) (a b : Place) (xs : List ℕ) (was mid now : Session) (first half last : O) → Laws M → Fed M K a b xs was mid first half → Breaks M stop mid now half last → Broken M K stop a xs was now first last
fed_breaks K stop a b xs was mid now first half last laws p q = record {
  broken = λ line held.
      let one = p.fed line held in
      record { ended = one.ended; rest = one.next; each = one.each; stream_is = one.stream_is; stops = goes_break stop (line_turns K a.line one.ended) was mid now first half last laws one.goes q };
}

-- whatever bytes come after
pub broken_more : {O : Type 0} {M : Members O} (K : Capacity) (stop : Stop) (a : Place) (xs ys : List ℕ) (was now : Session) (first last : O) → Broken M K stop a xs was now first last → Broken M K stop a (xs ++ ys) was now first last
broken_more K stop a xs ys was now first last p = record {
  broken = λ line held.
      let one = p.broken line held in
      record { ended = one.ended; rest = one.rest ++ ys; each = one.each; stream_is = joined line xs ys one.rest one.ended one.stream_is; stops = one.stops };
}

-- no memory for bytes
pub broken_still : {O : Type 0} {M : Members O} (K : Capacity) (a : Place) (bytes : List ℕ) (session : Session) (now : O) → Laws M → Broken M K NoMemory a bytes session session now now
broken_still K a bytes session now laws = record {
  broken = λ line h. record { ended = []; rest = line ++ bytes; each = tt; stream_is = refl; stops = full_stops [] session now laws };
}

-- what is answered says the same as the line
pub record Says (held rest said : List ℕ) : Type 0 where
  pub same : (line : List ℕ) → IsHeld line held → take 65538 said ≡ take 65538 (line ++ rest)

no_line : (line : List ℕ) → take 65538 line ≡ [] → line ≡ []
no_line line h = nil_from_length line (omega (arith, length-take 65538 line, ap length h))

-- if nothing is held, the line is in the piece
says_whole : (held rest : List ℕ) → held ≡ [] → Says held rest rest
says_whole held rest none = record { same = λ line h. ap (λ (bs : List ℕ). take 65538 (bs ++ rest)) (sym (no_line line (sym h.kept ∙ none))) }

-- more of a line, held
take_held : (line rest : List ℕ) → take 65538 (take 65538 line ++ rest) ≡ take 65538 (line ++ rest)
take_held line rest = elim (cases_lt 65538 (length line)) [
  | inl long ↦
      take-append-le 65538 (take 65538 line) rest (omega (arith, length-take 65538 line))
      ∙ take_all 65538 (take 65538 line) (omega (arith, length-take 65538 line))
      ∙ sym (take-append-le 65538 line rest (omega arith))
  | inr short ↦ ap (λ (bs : List ℕ). take 65538 (bs ++ rest)) (take_all 65538 line short)
]

take_twice : (bytes : List ℕ) → take 65538 (take 65538 bytes) ≡ take 65538 bytes
take_twice bytes = take_all 65538 (take 65538 bytes) (omega (arith, length-take 65538 bytes))

-- what is held has a bound
pub held_short : (line held : List ℕ) → IsHeld line held → length held ≤ 65538
held_short line held h = omega (arith, ap length h.kept, length-take 65538 line)

says_held : (held rest said : List ℕ) → (length held ≤ 65538 → said ≡ take 65538 (held ++ rest)) → Says held rest said
says_held held rest said e = record {
  same = λ line h.
      ap (λ (bs : List ℕ). take 65538 bs) (e (held_short line held h))
      ∙ take_twice (held ++ rest)
      ∙ ap (λ (bs : List ℕ). take 65538 (bs ++ rest)) h.kept
      ∙ take_held line rest;
}

-- the line that is answered: what is kept of its beginning and its end, or its end alone if nothing was held
pub says_line : (held rest kept lent said : List ℕ) → (held ≡ [] → kept ≡ []) → ((held ≡ [] → ⊥) → length held ≤ 65538 → kept ≡ take 65538 (held ++ rest)) → lent ≡ kept → (lent ≡ [] → said ≡ rest) → ((lent ≡ [] → ⊥) → said ≡ lent) → Says held rest said
says_line [] rest kept lent said none some same whole cut = subst (Says [] rest) (sym (whole (same ∙ none refl))) (says_whole [] rest refl)
says_line (byte ∷ bytes) rest kept lent said none some same whole cut =
    let held = byte ∷ bytes in
    says_held held rest said
    (λ short.
    let is : lent ≡ take 65538 (held ++ rest) = same ∙ some (λ e. cc) short in
    cut (λ e. absurd (omega (arith, ap length is, ap length e, length-take 65538 (held ++ rest)))) ∙ is)

pub one_line-append : (line rest : List ℕ) → list_any is_end line ≡ false → list_any is_end rest ≡ false → list_any is_end (line ++ rest) ≡ false
one_line-append line rest p q = list_any-append is_end line rest ∙ nor (list_any is_end line) (list_any is_end rest) p q

-- bytes that end no line
pub fed_held : {O : Type 0} {M : Members O} (K : Capacity) (a b : Place) (bytes : List ℕ) (session : Session) (now : O) → Laws M → list_any is_end bytes ≡ false → b.line ≡ a.line → (length a.held ≤ 65538 → b.held ≡ take 65538 (a.held ++ bytes)) → Fed M K a b bytes session session now now
fed_held K a b bytes session now laws one line held = record {
  fed = λ front h. record {
    ended = [];
    next = front ++ bytes;
    each = tt;
    held = record {
      kept = held (held_short front a.held h) ∙ ap (λ (bs : List ℕ). take 65538 (bs ++ bytes)) h.kept ∙ take_held front bytes;
      one_line = one_line-append front bytes h.one_line one;
    };
    stream_is = refl;
    line_is = omega (arith, line);
    goes = goes_nothing session now laws;
  };
}

-- lines that are read alike
line_entries-held : (K : Capacity) (R : Rows) (line : List ℕ) → line_entries K R (take 65538 line) ≡ line_entries K R line
unfolding line_entries
line_entries-held K R line = ap (read_entries K R) (read_line-held line)

pub said_alike : (K : Capacity) (n : ℕ) (said line : List ℕ) → take 65538 said ≡ take 65538 line → AreAlike (line_turn K n said ∷ []) (line_turn K n line ∷ [])
said_alike K n said line e =
    let same : (R : Rows) → replied K R n said ≡ replied K R n line = λ R. sym (replied-held K R n said) ∙ ap (λ (bs : List ℕ). replied K R n bs) e ∙ replied-held K R n line in (
      record {
        said = λ R. ap (λ (x : Replied). x.text) (same R);
        after = λ R. ap (λ (x : Replied). x.rows) (same R);
        looks = λ R. sym (line_cost-held K R said) ∙ ap (λ (bs : List ℕ). line_cost K R bs) e ∙ line_cost-held K R line;
        bytes = λ R. ap entries_bytes (sym (line_entries-held K R said) ∙ ap (λ (bs : List ℕ). line_entries K R bs) e ∙ line_entries-held K R line);
      },
      tt,
    )

line_stream : (line rest : List ℕ) → line ++ (rest ++ 10 ∷ []) ≡ spelled_lines ((line ++ rest) ∷ []) ++ []
line_stream line rest = sym (append_assoc line rest (10 ∷ [])) ∙ sym (append-nil ((line ++ rest) ++ 10 ∷ []))

-- bytes that end a line
pub fed_line : {O : Type 0} {M : Members O} (K : Capacity) (a b : Place) (rest said : List ℕ) (was now : Session) (first last : O) → list_any is_end rest ≡ false → Says a.held rest said → b.line ≡ a.line + 1 → b.held ≡ []
    → Goes M (line_turn K a.line said ∷ []) was now first last → Fed M K a b (rest ++ 10 ∷ []) was now first last
fed_line K a b rest said was now first last one s line held goes = record {
  fed = λ front h.
      let whole = front ++ rest in
      record {
        ended = whole ∷ [];
        next = [];
        each = (one_line-append front rest h.one_line one, tt);
        held = record { kept = held; one_line = refl };
        stream_is = line_stream front rest;
        line_is = line;
        goes = alike_goes (line_turn K a.line said ∷ []) (line_turn K a.line whole ∷ []) was now first last (said_alike K a.line said whole (s.same front h)) goes;
      };
}

-- a stop at the line
pub broken_line : {O : Type 0} {M : Members O} (K : Capacity) (stop : Stop) (a : Place) (rest said : List ℕ) (was now : Session) (first last : O) → list_any is_end rest ≡ false → Says a.held rest said
    → Stops M stop (line_turn K a.line said ∷ []) was now first last → Broken M K stop a (rest ++ 10 ∷ []) was now first last
broken_line K stop a rest said was now first last one s stops = record {
  broken = λ front h.
      let whole = front ++ rest in
      record {
        ended = whole ∷ [];
        rest = [];
        each = (one_line-append front rest h.one_line one, tt);
        stream_is = line_stream front rest;
        stops = alike_stops stop (line_turn K a.line said ∷ []) (line_turn K a.line whole ∷ []) was now first last (said_alike K a.line said whole (s.same front h)) stops;
      };
}

-- ---- the last line
-- there is none
pub ends_nothing : {O : Type 0} {M : Members O} (K : Capacity) (a : Place) (session : Session) (now : O) → Laws M → a.held ≡ [] → Ends M K a session session now now
ends_nothing {M = M} K a session now laws none = record {
  ends = λ line h. subst (λ (bs : List ℕ). Goes M (line_turns K a.line (lines bs)) session session now now) (sym (no_line line (sym h.kept ∙ none))) (goes_nothing session now laws);
}

last_lines : (line held : List ℕ) → IsHeld line held → (held ≡ [] → ⊥) → lines line ≡ line ∷ []
last_lines [] held h some = absurd (some h.kept)
last_lines (byte ∷ line) held h some = lines_last byte line h.one_line

pub last_alike : (K : Capacity) (n : ℕ) (line held said : List ℕ) → IsHeld line held → said ≡ held → AreAlike (line_turn K n said ∷ []) (line_turn K n line ∷ [])
last_alike K n line held said h same = said_alike K n said line (ap (λ (bs : List ℕ). take 65538 bs) (same ∙ h.kept) ∙ take_twice line)

pub last_turns : (K : Capacity) (n : ℕ) (line held : List ℕ) → IsHeld line held → (held ≡ [] → ⊥) → line_turn K n line ∷ [] ≡ line_turns K n (lines line)
last_turns K n line held h some = ap (line_turns K n) (sym (last_lines line held h some))

-- there is one
pub ends_line : {O T : Type 0} (M : Members O) (r : Result T Stop) (K : Capacity) (a : Place) (said : List ℕ) (was now : Session) (first last : O) → (a.held ≡ [] → ⊥) → said ≡ a.held
    → MatchResult r (λ x. Goes M (line_turn K a.line said ∷ []) was now first last) (λ stop. Stops M stop (line_turn K a.line said ∷ []) was now first last)
    → MatchResult r (λ x. Ends M K a was now first last) (λ stop. EndBroken M K stop a was now first last)
ends_line M (Ok x) K a said was now first last some same p = record {
  ends = λ line h.
      subst (λ (turns : List Turn). Goes M turns was now first last) (last_turns K a.line line a.held h some)
      (alike_goes (line_turn K a.line said ∷ []) (line_turn K a.line line ∷ []) was now first last (last_alike K a.line line a.held said h same) p);
}
ends_line M (Err stop) K a said was now first last some same p = record {
  ends = λ line h.
      subst (λ (turns : List Turn). Stops M stop turns was now first last) (last_turns K a.line line a.held h some)
      (alike_stops stop (line_turn K a.line said ∷ []) (line_turn K a.line line ∷ []) was now first last (last_alike K a.line line a.held said h same) p);
}
