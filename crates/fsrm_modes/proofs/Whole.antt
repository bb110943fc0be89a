-- Whole scripts.
use Rattle.std.proofs.Common.{◌≡◌, ℕ, ◌+◌, List, [], ◌++◌, length, drop, refl, sym, ap, ◌∙◌, subst, append_assoc, length-append, arith}
use Rattle.std.specs.Prelude.{Option, Some}
use Rattle.std.proofs.lemmas.List.{append-nil, nil_from_length}
use Rattle.std.proofs.Math.Seq.{drop-append_seam}
use Rattle.fsrm_model.specs.declared.row.Capacity.{Capacity}
use Rattle.fsrm_model.specs.values.Limits.{longest_script}
use Rattle.fsrm_model.specs.lines.Script.{lines, spelled_lines, AreLines}
use Rattle.fsrm_model.proofs.lines.ScriptLaws.{lines_spelled}
use Rattle.fsrm_outside.specs.Members.{Members}
use Rattle.fsrm_outside.proofs.OutsideLaws.{Laws}
use Rattle.fsrm_session.specs.Turns.{Turn, line_turns, script_turns}
use Rattle.fsrm_session.specs.Underway.{Goes, Stops}
use Rattle.fsrm_session.specs.declared.session.Session.{Session}
use Rattle.fsrm_session.specs.declared.stop.Stop.{Stop}
use Rattle.fsrm_session.specs.declared.stop.Stop.TheVariants as stops
use Rattle.fsrm_modes.proofs.Alike.{line_turns-append}
use Rattle.fsrm_session.proofs.Going.{stops_more}
use Rattle.fsrm_modes.specs.Pieces.{GivesUp, Halts, ReadsAll, StopsAt}
use Rattle.fsrm_modes.specs.Reading.{EndBroken, Ends, EndsBy, IsFailed, IsRead, IsTooMuch, Place, start}
use Rattle.fsrm_modes.specs.Statuses.{of_stop}
use Rattle.fsrm_modes.specs.declared.status.Status.{Status}
use Rattle.fsrm_modes.specs.declared.status.Status.TheVariants.{Done, Usage, ReadFault, WriteFault, DiskFault, TooLong, Damaged, NoMemory, NoStore, AlreadyStore}
use Rattle.fsrm_modes.proofs.Feeding.{held_nothing, turns_stop, turns_then}

-- whole lines that the script begins with, and those after them
pub divides : (script rest : List ℕ) (ended : List (List ℕ)) → AreLines ended → script ≡ spelled_lines ended ++ rest → ended ++ lines rest ≡ lines script
divides script rest ended each e = sym (ap lines e ∙ lines_spelled ended rest each)

-- ---- the script was taken whole
pub record AllTaken (script bytes : List ℕ) (left : Option (List ℕ)) : Type 0 where
  pub script_is : script ≡ bytes
  pub at_end : left ≡ Some []

pub all_taken : {O : Type 0} {M : Members O} (K : Capacity) (a b : Place) (script : List ℕ) (was now : Session) (old new : O) → M.left old ≡ Some script → (r : ReadsAll M K a b was now old new) → AllTaken script r.takes.bytes (M.left new)
all_taken K a b script was now old new told r =
    let t = r.takes.taken.rest script told in
    let none : t.0 ≡ [] = r.at_end.ended t.0 t.2 in
    record {
      script_is = t.1 ∙ ap (λ (bs : List ℕ). r.takes.bytes ++ bs) none ∙ append-nil r.takes.bytes;
      at_end = t.2 ∙ ap Some none;
    }

-- and its last line too
pub is_read : {O : Type 0} {M : Members O} (K L : Capacity) (b : Place) (script : List ℕ) (was mid now : Session) (first half last : O) → Laws M → L ≡ K → M.left first ≡ Some script → M.left last ≡ M.left half
    → ReadsAll M K start b was mid first half → Ends M L b mid now half last → IsRead M K script was now first last
is_read {M = M} K L b script was mid now first half last laws size told left r ends =
    let all = all_taken K start b script was mid first half told r in
    let l = r.takes.fed.fed [] held_nothing in
    let same = subst (λ (C : Capacity). Ends M C b mid now half last) size ends in
    record {
      at_end = left ∙ all.at_end;
      short = omega (arith, r.short, r.takes.count_is, ap length all.script_is);
      goes =
          subst (λ (all : List (List ℕ)). Goes M (line_turns K 1 all) was now first last) (divides script l.next l.ended l.each (all.script_is ∙ l.stream_is))
          (turns_then K 1 b.line l.ended (lines l.next) was mid now first half last laws l.line_is l.goes (same.ends l.next l.held));
    }

-- the session stopped at its last line
last_stops : {O : Type 0} {M : Members O} (stop : Stop) (K : Capacity) (b : Place) (script : List ℕ) (was mid now : Session) (first half last : O) → Laws M → M.left first ≡ Some script
    → ReadsAll M K start b was mid first half → EndBroken M K stop b mid now half last → Stops M stop (script_turns K script) was now first last
last_stops {M = M} stop K b script was mid now first half last laws told r ends =
    let all = all_taken K start b script was mid first half told r in
    let l = r.takes.fed.fed [] held_nothing in
    subst (λ (all : List (List ℕ)). Stops M stop (line_turns K 1 all) was now first last) (divides script l.next l.ended l.each (all.script_is ∙ l.stream_is))
    (turns_stop stop K 1 b.line l.ended (lines l.next) was mid now first half last laws l.line_is l.goes (ends.ends l.next l.held))

ends_by : {O : Type 0} {M : Members O} (stop : Stop) (K : Capacity) (script : List ℕ) (was now : Session) (old new : O) → Stops M stop (script_turns K script) was now old new → EndsBy M K (of_stop stop) script was now old new
ends_by stops.WriteFault K script was now old new p = p
ends_by stops.DiskFault K script was now old new p = p
ends_by stops.NoMemory K script was now old new p = p

pub ends_last : {O : Type 0} {M : Members O} (stop : Stop) (K L : Capacity) (b : Place) (script : List ℕ) (was mid now : Session) (first half last : O) → Laws M → L ≡ K → M.left first ≡ Some script
    → ReadsAll M K start b was mid first half → EndBroken M L stop b mid now half last → EndsBy M K (of_stop stop) script was now first last
ends_last {M = M} stop K L b script was mid now first half last laws size told r ends =
    ends_by stop K script was now first last
    (last_stops stop K b script was mid now first half last laws told r (subst (λ (C : Capacity). EndBroken M C stop b mid now half last) size ends))

-- ---- it was not
-- the session stopped before
given_up : {O : Type 0} {M : Members O} (stop : Stop) (K : Capacity) (script : List ℕ) (was now : Session) (old new : O) → M.left old ≡ Some script → GivesUp M K stop start was now old new → Stops M stop (script_turns K script) was now old new
given_up {M = M} stop K script was now old new told p =
    let t = p.taken.rest script told in
    let b = p.broken.broken [] held_nothing in
    let rest = b.rest ++ t.0 in
    let is : script ≡ spelled_lines b.ended ++ rest = t.1 ∙ ap (λ (bs : List ℕ). bs ++ t.0) b.stream_is ∙ append_assoc (spelled_lines b.ended) b.rest t.0 in
    let turns : line_turns K 1 b.ended ++ line_turns K (1 + length b.ended) (lines rest) ≡ script_turns K script = sym (line_turns-append K 1 b.ended (lines rest)) ∙ ap (line_turns K 1) (divides script rest b.ended b.each is) in
    subst (λ (ts : List Turn). Stops M stop ts was now old new) turns
    (stops_more stop (line_turns K 1 b.ended) (line_turns K (1 + length b.ended) (lines rest)) was now old new b.stops)

-- a read failed
failed : {O : Type 0} {M : Members O} (K : Capacity) (script : List ℕ) (n : ℕ) (was now : Session) (old new : O) → M.left old ≡ Some script → Halts M K start n 0 was now old new → IsFailed M K script was now old new
failed K script n was now old new told p =
    let t = p.taken.rest script told in
    let l = p.fed.fed [] held_nothing in
    let none : p.more ≡ [] = nil_from_length p.more p.lost_are in
    record {
      left = t.0;
      cut = record {
        ended = l.ended;
        next = l.next;
        rest = p.more ++ t.0;
        each = l.each;
        no_end = l.held.one_line;
        script_is = t.1 ∙ append_assoc p.bytes p.more t.0 ∙ ap (λ (bs : List ℕ). bs ++ (p.more ++ t.0)) l.stream_is;
        left_is = t.2;
        goes = l.goes;
      };
      none_lost = ap (λ (bs : List ℕ). bs ++ t.0) none;
    }

-- it was too long
too_much : {O : Type 0} {M : Members O} (K : Capacity) (script : List ℕ) (n : ℕ) (was now : Session) (old new : O) → M.left old ≡ Some script → n ≡ longest_script → Halts M K start n 1 was now old new → IsTooMuch M K script was now old new
too_much K script n was now old new told full p =
    let t = p.taken.rest script told in
    let l = p.fed.fed [] held_nothing in
    let whole = p.bytes ++ p.more in
    let rest = p.more ++ t.0 in
    let is : script ≡ p.bytes ++ rest = t.1 ∙ append_assoc p.bytes p.more t.0 in
    let count : length p.bytes ≡ longest_script = p.count_is ∙ full in
    let long : length whole ≡ longest_script + 1 = omega (arith, length-append p.bytes p.more, count, p.lost_are) in
    let left : t.0 ≡ drop (longest_script + 1) script = sym (drop-append_seam whole t.0) ∙ ap (λ (k : ℕ). drop k (whole ++ t.0)) long ∙ ap (drop (longest_script + 1)) (sym t.1) in
    record {
      cut = record {
        ended = l.ended;
        next = l.next;
        rest = rest;
        each = l.each;
        no_end = l.held.one_line;
        script_is = is ∙ ap (λ (bs : List ℕ). bs ++ rest) l.stream_is;
        left_is = t.2 ∙ ap Some left;
        goes = l.goes;
      };
      longer = omega (arith, ap length t.1, length-append whole t.0, long);
      rest_is = sym (drop-append_seam p.bytes rest) ∙ ap (λ (k : ℕ). drop k (p.bytes ++ rest)) count ∙ ap (drop longest_script) (sym is);
    }

-- a status ended the reading
pub stopped : {O : Type 0} {M : Members O} (status : Status) (K : Capacity) (script : List ℕ) (was now : Session) (old new : O) → M.left old ≡ Some script → StopsAt M K status start was now old new → EndsBy M K status script was now old new
stopped ReadFault K script was now old new told p = failed K script p.count was now old new told p.stops
stopped TooLong K script was now old new told p = too_much K script p.count was now old new told (p.full refl) p.stops
stopped WriteFault K script was now old new told p = given_up stops.WriteFault K script was now old new told p.stops
stopped DiskFault K script was now old new told p = given_up stops.DiskFault K script was now old new told p.stops
stopped NoMemory K script was now old new told p = given_up stops.NoMemory K script was now old new told p.stops
stopped Done K script was now old new told p = absurd p.stops
stopped Usage K script was now old new told p = absurd p.stops
stopped (Damaged part place) K script was now old new told p = absurd p.stops
stopped NoStore K script was now old new told p = absurd p.stops
stopped AlreadyStore K script was now old new told p = absurd p.stops
