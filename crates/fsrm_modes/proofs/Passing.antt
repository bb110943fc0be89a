-- How the passes over a script join.
use Rattle.std.proofs.Common.{◌≡◌, ℕ, ◌+◌, ◌≤◌, List, [], ◌++◌, length, take, refl, sym, ap, ◌∙◌, subst, append_assoc, length-append, arith}
use Rattle.std.specs.Prelude.{Option}
use Rattle.std.proofs.lemmas.List.{length-take}
use Rattle.fsrm_model.specs.declared.row.Capacity.{Capacity}
use Rattle.fsrm_model.specs.values.Limits.{longest_script}
use Rattle.fsrm_outside.specs.Members.{Members}
use Rattle.fsrm_outside.proofs.OutsideLaws.{Laws}
use Rattle.fsrm_session.specs.Turns.{line_turns}
use Rattle.fsrm_session.specs.Underway.{Calms}
use Rattle.fsrm_session.specs.declared.session.Session.{Session}
use Rattle.fsrm_session.specs.declared.stop.Stop.{Stop}
use Rattle.fsrm_session.specs.declared.stop.Stop.TheVariants as stops
use Rattle.fsrm_session.proofs.Going.{calms_goes, calms_stops}
use Rattle.fsrm_modes.proofs.ReadCalms.{read_calms}
use Rattle.fsrm_modes.specs.Bytes.{Loses, Taken}
use Rattle.fsrm_modes.specs.Pieces.{GivesUp, Halts, StopsAt, StopsReading, Takes}
use Rattle.fsrm_modes.specs.Reading.{Broken, Fed, Place, start}
use Rattle.fsrm_modes.specs.Statuses.{of_stop}
use Rattle.fsrm_modes.specs.declared.status.Status.{Status}
use Rattle.fsrm_modes.specs.declared.status.Status.TheVariants.{Done, Usage, ReadFault, WriteFault, DiskFault, TooLong, Damaged, NoMemory, NoStore, AlreadyStore}
use Rattle.fsrm_modes.proofs.Feeding.{fed_broken, fed_calms, fed_nothing, fed_then}
use Rattle.fsrm_modes.proofs.Taking.{taken_nothing, taken_then}

-- before the first byte
abbrev place : ℕ → List ℕ → Place
place line held = record { line = line; held = held }

pub at_start : (a : Place) → a.line ≡ 1 → a.held ≡ [] → a ≡ start
at_start a one none = ap (λ (n : ℕ). place n a.held) one ∙ ap (λ (bs : List ℕ). place 1 bs) none

-- as many bytes as were read
pub piece_length : (buffer : List ℕ) (count : ℕ) → count ≤ length buffer → length (take count buffer) ≡ count
piece_length buffer count few = omega (arith, length-take count buffer)

-- ---- what waits may be shown before bytes come
calms_fed : {O : Type 0} {M : Members O} (K : Capacity) (a b : Place) (xs : List ℕ) (was mid now : Session) (first half last : O) → Laws M → Calms M was mid first half → Fed M K a b xs mid now half last → Fed M K a b xs was now first last
calms_fed K a b xs was mid now first half last laws p q = record {
  fed = λ line h.
      let one = q.fed line h in
      record { ended = one.ended; next = one.next; each = one.each; held = one.held; stream_is = one.stream_is; line_is = one.line_is; goes = calms_goes (line_turns K a.line one.ended) was mid now first half last laws p one.goes };
}

calms_broken : {O : Type 0} {M : Members O} (K : Capacity) (stop : Stop) (a : Place) (xs : List ℕ) (was mid now : Session) (first half last : O) → Laws M → Calms M was mid first half → Broken M K stop a xs mid now half last → Broken M K stop a xs was now first last
calms_broken K stop a xs was mid now first half last laws p q = record {
  broken = λ line h.
      let one = q.broken line h in
      record { ended = one.ended; rest = one.rest; each = one.each; stream_is = one.stream_is; stops = calms_stops stop (line_turns K a.line one.ended) was mid now first half last laws p one.stops };
}

-- ---- one pass
-- a piece was read, its lines were taken, and what may be shown was
pub takes_piece : {O : Type 0} {M : Members O} (K : Capacity) (a b : Place) (bytes : List ℕ) (count : ℕ) (was mid now : Session) (o0 o1 o2 o3 : O) → Laws M → length bytes ≡ count → Taken (M.left o0) (M.left o1) bytes → M.left o3 ≡ M.left o1 → M.by_read o0 o1
    → Fed M K a b bytes was mid o1 o2 → Calms M mid now o2 o3 → Takes M K a b count was now o0 o3
takes_piece {M = M} K a b bytes count was mid now o0 o1 o2 o3 laws many taken left ran fed calms = record {
  bytes = bytes;
  count_is = many;
  taken = subst (λ (l : Option (List ℕ)). Taken (M.left o0) l bytes) (sym left) taken;
  fed = calms_fed K a b bytes was was now o0 o1 o3 laws (read_calms was o0 o1 laws ran) (fed_calms K a b bytes was mid now o1 o2 o3 laws fed calms);
}

-- the session stopped at it
pub gives_up : {O : Type 0} {M : Members O} (K : Capacity) (stop : Stop) (a : Place) (bytes : List ℕ) (was now : Session) (o0 o1 o2 : O) → Laws M → Taken (M.left o0) (M.left o1) bytes → M.left o2 ≡ M.left o1 → M.by_read o0 o1
    → Broken M K stop a bytes was now o1 o2 → GivesUp M K stop a was now o0 o2
gives_up {M = M} K stop a bytes was now o0 o1 o2 laws taken left ran broken = record {
  bytes = bytes;
  taken = subst (λ (l : Option (List ℕ)). Taken (M.left o0) l bytes) (sym left) taken;
  broken = calms_broken K stop a bytes was was now o0 o1 o2 laws (read_calms was o0 o1 laws ran) broken;
}

pub stops_reading : {O : Type 0} {M : Members O} (stop : Stop) (K : Capacity) (a : Place) (count : ℕ) (was now : Session) (old new : O) → GivesUp M K stop a was now old new → StopsReading M K (of_stop stop) a count was now old new
stops_reading stops.WriteFault K a count was now old new p = p
stops_reading stops.DiskFault K a count was now old new p = p
stops_reading stops.NoMemory K a count was now old new p = p

-- a read ended the run
read_nothing : {O : Type 0} {M : Members O} (K : Capacity) (a : Place) (session : Session) (old new : O) → Laws M → M.by_read old new → Fed M K a a [] session session old new
read_nothing K a session old new laws ran = calms_fed K a a [] session session session old new new laws (read_calms session old new laws ran) (fed_nothing K a session new laws)

pub halts_reading : {O : Type 0} {M : Members O} (status : Status) (K : Capacity) (a : Place) (session : Session) (old new : O) → Laws M → M.by_read old new → Loses status (M.left old) (M.left new) → StopsReading M K status a 0 session session old new
halts_reading {M = M} ReadFault K a session old new laws ran lost = record {
  to = a;
  bytes = [];
  count_is = refl;
  more = [];
  lost_are = refl;
  taken = subst (λ (l : Option (List ℕ)). Taken (M.left old) l []) (sym lost) (taken_nothing (M.left old));
  fed = read_nothing K a session old new laws ran;
}
halts_reading TooLong K a session old new laws ran lost = record {
  to = a;
  bytes = [];
  count_is = refl;
  more = lost.0;
  lost_are = lost.1;
  taken = lost.2;
  fed = read_nothing K a session old new laws ran;
}
halts_reading Done K a session old new laws ran lost = absurd lost
halts_reading Usage K a session old new laws ran lost = absurd lost
halts_reading WriteFault K a session old new laws ran lost = absurd lost
halts_reading DiskFault K a session old new laws ran lost = absurd lost
halts_reading (Damaged part place) K a session old new laws ran lost = absurd lost
halts_reading NoMemory K a session old new laws ran lost = absurd lost
halts_reading NoStore K a session old new laws ran lost = absurd lost
halts_reading AlreadyStore K a session old new laws ran lost = absurd lost

-- ---- one pass after another
pub takes_nothing : {O : Type 0} {M : Members O} (K : Capacity) (a b : Place) (session : Session) (now : O) → Laws M → b ≡ a → Takes M K a b 0 session session now now
takes_nothing {M = M} K a b session now laws same =
    subst (λ (x : Place). Takes M K a x 0 session session now now) (sym same)
    (record { bytes = []; count_is = refl; taken = taken_nothing (M.left now); fed = fed_nothing K a session now laws })

pub takes_then : {O : Type 0} {M : Members O} (K L : Capacity) (a b c : Place) (n k : ℕ) (was mid now : Session) (first half last : O) → Laws M → L ≡ K → Takes M K a b n was mid first half → Takes M L b c k mid now half last → Takes M K a c (n + k) was now first last
takes_then {M = M} K L a b c n k was mid now first half last laws size p q = record {
  bytes = p.bytes ++ q.bytes;
  count_is = omega (arith, length-append p.bytes q.bytes, p.count_is, q.count_is);
  taken = taken_then (M.left first) (M.left half) (M.left last) p.bytes q.bytes p.taken q.taken;
  fed = fed_then K a b c p.bytes q.bytes was mid now first half last laws p.fed (subst (λ (C : Capacity). Fed M C b c q.bytes mid now half last) size q.fed);
}

halts_after : {O : Type 0} {M : Members O} (K : Capacity) (a b : Place) (n lost : ℕ) (was mid now : Session) (first half last : O) → Laws M → Takes M K a b n was mid first half → Halts M K b 0 lost mid now half last → Halts M K a n lost was now first last
halts_after {M = M} K a b n lost was mid now first half last laws p q = record {
  to = q.to;
  bytes = p.bytes ++ q.bytes;
  count_is = omega (arith, length-append p.bytes q.bytes, p.count_is, q.count_is);
  more = q.more;
  lost_are = q.lost_are;
  taken = subst (Taken (M.left first) (M.left last)) (sym (append_assoc p.bytes q.bytes q.more)) (taken_then (M.left first) (M.left half) (M.left last) p.bytes (q.bytes ++ q.more) p.taken q.taken);
  fed = fed_then K a b q.to p.bytes q.bytes was mid now first half last laws p.fed q.fed;
}

gives_up_after : {O : Type 0} {M : Members O} (K : Capacity) (stop : Stop) (a b : Place) (n : ℕ) (was mid now : Session) (first half last : O) → Laws M → Takes M K a b n was mid first half → GivesUp M K stop b mid now half last → GivesUp M K stop a was now first last
gives_up_after {M = M} K stop a b n was mid now first half last laws p q = record {
  bytes = p.bytes ++ q.bytes;
  taken = taken_then (M.left first) (M.left half) (M.left last) p.bytes q.bytes p.taken q.taken;
  broken = fed_broken K stop a b p.bytes q.bytes was mid now first half last laws p.fed q.broken;
}

stops_there : {O : Type 0} {M : Members O} (status : Status) (K : Capacity) (a b : Place) (n : ℕ) (was mid now : Session) (first half last : O) → Laws M → Takes M K a b n was mid first half → StopsReading M K status b 0 mid now half last → StopsReading M K status a n was now first last
stops_there ReadFault K a b n was mid now first half last laws p q = halts_after K a b n 0 was mid now first half last laws p q
stops_there TooLong K a b n was mid now first half last laws p q = halts_after K a b n 1 was mid now first half last laws p q
stops_there WriteFault K a b n was mid now first half last laws p q = gives_up_after K stops.WriteFault a b n was mid now first half last laws p q
stops_there DiskFault K a b n was mid now first half last laws p q = gives_up_after K stops.DiskFault a b n was mid now first half last laws p q
stops_there NoMemory K a b n was mid now first half last laws p q = gives_up_after K stops.NoMemory a b n was mid now first half last laws p q
stops_there Done K a b n was mid now first half last laws p q = absurd q
stops_there Usage K a b n was mid now first half last laws p q = absurd q
stops_there (Damaged part place) K a b n was mid now first half last laws p q = absurd q
stops_there NoStore K a b n was mid now first half last laws p q = absurd q
stops_there AlreadyStore K a b n was mid now first half last laws p q = absurd q

-- a status that ends a pass ends the reading
pub stops_after : {O : Type 0} {M : Members O} (status : Status) (K L : Capacity) (a b : Place) (n : ℕ) (was mid now : Session) (first half last : O) → Laws M → L ≡ K → Takes M K a b n was mid first half → (status ≡ TooLong → n ≡ longest_script)
    → StopsReading M L status b 0 mid now half last → StopsAt M K status a was now first last
stops_after {M = M} status K L a b n was mid now first half last laws size p full q = record {
  count = n;
  full = full;
  stops = stops_there status K a b n was mid now first half last laws p (subst (λ (C : Capacity). StopsReading M C status b 0 mid now half last) size q);
}
