-- What the lines of a script take, piece by piece.
use Rattle.std.proofs.Common.{◌≡◌, ℕ, ◌+◌, ◌≤◌, true, false, Bool, List, [], ◌∷◌, ◌++◌, length, take, drop, refl, sym, ap, ◌∙◌, subst, append_assoc, arith, Some}
use Rattle.std.specs.Prelude.{Err, Ok, Result, if◌then◌else◌}
use Rattle.std.specs.List.{list_any}
use Rattle.std.proofs.lemmas.List.{append-nil, take-append-drop}
use Rattle.std.proofs.Math.Seq.{take-append_seam, take-append-add}
use Rattle.fsrm_base.proofs.TestLaws.{neither}
use Rattle.fsrm_model.specs.declared.row.Capacity.{Capacity}
use Rattle.fsrm_model.specs.lines.Script.{is_end, lines, onto_first, spelled_lines, AreLines}
use Rattle.fsrm_outside.specs.Members.{Members}
use Rattle.fsrm_outside.proofs.OutsideLaws.{Laws}
use Rattle.fsrm_store.specs.Amortized.{bytes_since}
use Rattle.fsrm_session.specs.Spending.{bytes_after, Spends}
use Rattle.fsrm_session.specs.Turns.{line_turn, line_turns, script_turns, Turn}
use Rattle.fsrm_session.specs.declared.session.Session.{Session}
use Rattle.fsrm_session.specs.declared.stop.Stop.{Stop}
use Rattle.fsrm_session.specs.declared.stop.Stop.TheVariants as stops
use Rattle.fsrm_session.proofs.Spending.{calm_then, eases_nothing, spends_alike, spends_first, spends_less, spends_nothing, spends_then}
use Rattle.fsrm_modes.specs.Bytes.{Taken}
use Rattle.fsrm_modes.specs.Looks.{ended_lines, left_after, onto_ended, SpendsLast, SpendsLines}
use Rattle.fsrm_modes.specs.Pieces.{ReadsAll, Takes}
use Rattle.fsrm_modes.specs.Reading.{Fed, Place, start}
use Rattle.fsrm_modes.specs.Statuses.{of_stop}
use Rattle.fsrm_modes.specs.declared.status.Status.{Status}
use Rattle.fsrm_modes.specs.declared.status.Status.TheVariants.{Done, Usage, ReadFault, WriteFault, DiskFault, TooLong, Damaged, NoMemory, NoStore, AlreadyStore}
use Rattle.fsrm_modes.proofs.Feeding.{held_nothing, joined, joined_turns, last_alike, last_turns, one_line-append, said_alike, Says}
use Rattle.fsrm_modes.proofs.ReadCalms.{read_calms}
use Rattle.fsrm_modes.proofs.Whole.{all_taken, divides}

-- ---- whole lines
-- one that has ended
ended_first : (line rest : List ℕ) → list_any is_end line ≡ false → ended_lines (line ++ 10 ∷ rest) ≡ line ∷ ended_lines rest
ended_first [] rest h = refl
ended_first (byte ∷ line) rest h =
    let tests = neither (is_end byte) (list_any is_end line) h in
    rw tests.0 (ap (onto_ended byte) (ended_first line rest tests.1))

-- one that hasn't
ended_none : (line : List ℕ) → list_any is_end line ≡ false → ended_lines line ≡ []
ended_none [] h = refl
ended_none (byte ∷ line) h =
    let tests = neither (is_end byte) (list_any is_end line) h in
    rw tests.0 (ap (onto_ended byte) (ended_none line tests.1))

-- whole lines in front
ended_spelled : (ended : List (List ℕ)) (rest : List ℕ) → AreLines ended → ended_lines (spelled_lines ended ++ rest) ≡ ended ++ ended_lines rest
ended_spelled [] rest each = refl
ended_spelled (line ∷ ended) rest each =
    ap ended_lines (append_assoc line (10 ∷ spelled_lines ended) rest)
    ∙ ended_first line (spelled_lines ended ++ rest) each.0
    ∙ ap (λ (ls : List (List ℕ)). line ∷ ls) (ended_spelled ended rest each.1)

-- before a line that hasn't ended they are all
ended_all : (bytes next : List ℕ) (ended : List (List ℕ)) → AreLines ended → list_any is_end next ≡ false → bytes ≡ spelled_lines ended ++ next → ended_lines bytes ≡ ended
ended_all bytes next ended each one is =
    ap ended_lines is ∙ ended_spelled ended next each ∙ ap (λ (ls : List (List ℕ)). ended ++ ls) (ended_none next one) ∙ append-nil ended

-- ---- more bytes end more lines
onto_more : (byte : ℕ) (xs more : List (List ℕ)) → (rest : List (List ℕ)) × (onto_ended byte (xs ++ more) ≡ onto_ended byte xs ++ rest)
onto_more byte [] more = (onto_ended byte more, refl)
onto_more byte (x ∷ xs) more = (more, refl)

byte_more : (end : Bool) (byte : ℕ) (xs all more : List (List ℕ)) → all ≡ xs ++ more → (rest : List (List ℕ)) × ((if end then [] ∷ all else onto_ended byte all) ≡ (if end then [] ∷ xs else onto_ended byte xs) ++ rest)
byte_more true byte xs all more e = (more, ap (λ (ls : List (List ℕ)). [] ∷ ls) e)
byte_more false byte xs all more e = let rest = onto_more byte xs more in (rest.0, ap (onto_ended byte) e ∙ rest.1)

ended_more : (xs ys : List ℕ) → (more : List (List ℕ)) × (ended_lines (xs ++ ys) ≡ ended_lines xs ++ more)
ended_more [] ys = (ended_lines ys, refl)
ended_more (x ∷ xs) ys = let rest = ended_more xs ys in byte_more (is_end x) x (ended_lines xs) (ended_lines (xs ++ ys)) rest.0 rest.1

-- the last line may have no LF
first_more : (byte : ℕ) (xs more : List (List ℕ)) → (rest : List (List ℕ)) × (onto_first byte (xs ++ more) ≡ onto_ended byte xs ++ rest)
first_more byte [] more = (onto_first byte more, refl)
first_more byte (x ∷ xs) more = (more, refl)

last_more : (end : Bool) (byte : ℕ) (xs all more : List (List ℕ)) → all ≡ xs ++ more → (rest : List (List ℕ)) × ((if end then [] ∷ all else onto_first byte all) ≡ (if end then [] ∷ xs else onto_ended byte xs) ++ rest)
last_more true byte xs all more e = (more, ap (λ (ls : List (List ℕ)). [] ∷ ls) e)
last_more false byte xs all more e = let rest = first_more byte xs more in (rest.0, ap (onto_first byte) e ∙ rest.1)

lines_more : (script : List ℕ) → (more : List (List ℕ)) × (lines script ≡ ended_lines script ++ more)
lines_more [] = ([], refl)
lines_more (b ∷ bs) = let rest = lines_more bs in last_more (is_end b) b (ended_lines bs) (lines bs) rest.0 rest.1

-- ---- lines
-- none is taken
pub spends_none : {O : Type 0} {M : Members O} (K : Capacity) (a : Place) (bytes : List ℕ) (session : Session) (now : O) (looks : ℕ) → SpendsLines M K a bytes session now looks looks (bytes_since session.store.journal)
spends_none K a bytes session now looks = record { spends = λ line h. spends_nothing (line_turns K a.line (ended_lines (line ++ bytes))) session now looks }

-- fewer bytes of records are left
pub leaves_less : {O : Type 0} {M : Members O} (K : Capacity) (a : Place) (bytes : List ℕ) (was : Session) (old : O) (looks steps left fewer : ℕ) → fewer ≤ left → SpendsLines M K a bytes was old looks steps left → SpendsLines M K a bytes was old looks steps fewer
leaves_less K a bytes was old looks steps left fewer less p = record {
  spends = λ line h. spends_less (line_turns K a.line (ended_lines (line ++ bytes))) was old looks looks steps left fewer (omega arith) less (p.spends line h);
}

-- more bytes could be taken
pub spends_more : {O : Type 0} {M : Members O} (K : Capacity) (a : Place) (xs ys : List ℕ) (was : Session) (old : O) (looks steps left : ℕ) → SpendsLines M K a xs was old looks steps left → SpendsLines M K a (xs ++ ys) was old looks steps left
spends_more {M = M} K a xs ys was old looks steps left p = record {
  spends = λ line h.
      let first = ended_lines (line ++ xs) in
      let more = ended_more (line ++ xs) ys in
      let all : first ++ more.0 ≡ ended_lines (line ++ (xs ++ ys)) = sym more.1 ∙ ap ended_lines (append_assoc line xs ys) in
      subst (λ (turns : List Turn). Spends M turns was old looks steps left) (joined_turns K a.line (a.line + length first) first more.0 refl ∙ ap (λ (ls : List (List ℕ)). line_turns K a.line ls) all)
      (spends_first (line_turns K a.line first) (line_turns K (a.line + length first) more.0) was old looks steps left (p.spends line h));
}

-- one line that ends
pub spends_line : {O : Type 0} {M : Members O} (K : Capacity) (a : Place) (rest said : List ℕ) (was : Session) (old : O) (looks steps left : ℕ) → list_any is_end rest ≡ false → Says a.held rest said
    → Spends M (line_turn K a.line said ∷ []) was old looks steps left → SpendsLines M K a (rest ++ 10 ∷ []) was old looks steps left
spends_line {M = M} K a rest said was old looks steps left one s p = record {
  spends = λ line h.
      let whole = line ++ rest in
      let is : ended_lines (line ++ (rest ++ 10 ∷ [])) ≡ whole ∷ [] = ap ended_lines (sym (append_assoc line rest (10 ∷ []))) ∙ ended_first whole [] (one_line-append line rest h.one_line one) in
      subst (λ (ls : List (List ℕ)). Spends M (line_turns K a.line ls) was old looks steps left) (sym is)
      (spends_alike (line_turn K a.line said ∷ []) (line_turn K a.line whole ∷ []) was old looks steps left (said_alike K a.line said whole (s.same line h)) p);
}

-- one piece after another
pub pieces_spend : {O : Type 0} {M : Members O} (K : Capacity) (a b : Place) (xs ys : List ℕ) (was mid : Session) (first half : O) (looks spent steps left : ℕ) → Fed M K a b xs was mid first half
    → SpendsLines M K a xs was first looks spent (bytes_since mid.store.journal) → SpendsLines M K b ys mid half spent steps left → SpendsLines M K a (xs ++ ys) was first looks steps left
pieces_spend {M = M} K a b xs ys was mid first half looks spent steps left fed p q = record {
  spends = λ line h.
      let one = fed.fed line h in
      let more = ended_lines (one.next ++ ys) in
      let here : ended_lines (line ++ xs) ≡ one.ended = ended_all (line ++ xs) one.next one.ended one.each one.held.one_line one.stream_is in
      let all : ended_lines (line ++ (xs ++ ys)) ≡ one.ended ++ more = ap ended_lines (joined line xs ys one.next one.ended one.stream_is) ∙ ended_spelled one.ended (one.next ++ ys) one.each in
      let begun = subst (λ (ls : List (List ℕ)). Spends M (line_turns K a.line ls) was first looks spent (bytes_since mid.store.journal)) here (p.spends line h) in
      subst (λ (turns : List Turn). Spends M turns was first looks steps left) (joined_turns K a.line b.line one.ended more one.line_is ∙ ap (λ (ls : List (List ℕ)). line_turns K a.line ls) (sym all))
      (spends_then (line_turns K a.line one.ended) (line_turns K b.line more) was mid first half looks spent steps left one.goes begun (q.spends one.next one.held));
}

-- ---- the last line
-- there is none
pub last_none : {O : Type 0} {M : Members O} (K : Capacity) (a : Place) (session : Session) (now : O) (looks : ℕ) → SpendsLast M K a session now looks looks (bytes_since session.store.journal)
last_none K a session now looks = record { spends = λ line h. spends_nothing (line_turns K a.line (lines line)) session now looks }

pub last_spends : {O : Type 0} {M : Members O} (K : Capacity) (a : Place) (said : List ℕ) (was : Session) (old : O) (looks steps left : ℕ) → (a.held ≡ [] → ⊥) → said ≡ a.held
    → Spends M (line_turn K a.line said ∷ []) was old looks steps left → SpendsLast M K a was old looks steps left
last_spends {M = M} K a said was old looks steps left some same p = record {
  spends = λ line h.
      subst (λ (turns : List Turn). Spends M turns was old looks steps left) (last_turns K a.line line a.held h some)
      (spends_alike (line_turn K a.line said ∷ []) (line_turn K a.line line ∷ []) was old looks steps left (last_alike K a.line line a.held said h same) p);
}

-- ---- what a status leaves
pub left_most : {T : Type 0} (r : Result T Status) (session : Session) → left_after r session ≤ bytes_since session.store.journal
left_most (Ok done) session = omega arith
left_most (Err ReadFault) session = omega arith
left_most (Err TooLong) session = omega arith
left_most (Err NoMemory) session = omega arith
left_most (Err WriteFault) session = omega arith
left_most (Err DiskFault) session = omega arith
left_most (Err Done) session = omega arith
left_most (Err Usage) session = omega arith
left_most (Err (Damaged part place)) session = omega arith
left_most (Err NoStore) session = omega arith
left_most (Err AlreadyStore) session = omega arith

pub left_same : {T : Type 0} (r : Result T Status) (was now : Session) → now.store.journal ≡ was.store.journal → left_after r now ≤ bytes_since was.store.journal
left_same r was now same = omega (arith, left_most r now, ap bytes_since same)

-- whatever else the call gives
pub left_alike : (S T : Type 0) (status : Status) (session : Session) → left_after {T = T} (Err status) session ≤ left_after {T = S} (Err status) session
left_alike S T ReadFault session = omega arith
left_alike S T TooLong session = omega arith
left_alike S T NoMemory session = omega arith
left_alike S T WriteFault session = omega arith
left_alike S T DiskFault session = omega arith
left_alike S T Done session = omega arith
left_alike S T Usage session = omega arith
left_alike S T (Damaged part place) session = omega arith
left_alike S T NoStore session = omega arith
left_alike S T AlreadyStore session = omega arith

-- a session that stopped
pub left_stop : (S T : Type 0) (stop : Stop) (session : Session) → left_after {T = T} (Err (of_stop stop)) session ≤ bytes_after {T = S} (Err stop) session
left_stop S T stops.WriteFault session = omega arith
left_stop S T stops.DiskFault session = omega arith
left_stop S T stops.NoMemory session = omega arith

-- ---- one pass
-- a read comes first
read_spends : {O : Type 0} {M : Members O} (K : Capacity) (a : Place) (bytes : List ℕ) (was : Session) (first half : O) (looks steps left : ℕ) → Laws M → M.by_read first half → SpendsLines M K a bytes was half looks steps left → SpendsLines M K a bytes was first looks steps left
read_spends K a bytes was first half looks steps left laws ran p = record {
  spends = λ line h. calm_then (line_turns K a.line (ended_lines (line ++ bytes))) was was first half looks looks steps left laws (read_calms was first half laws ran) (eases_nothing was first looks) (p.spends line h);
}

-- a piece was taken
pub pass_spends : {O : Type 0} {M : Members O} (K : Capacity) (a : Place) (bytes script : List ℕ) (count : ℕ) (was : Session) (first half : O) (looks steps left : ℕ) → Laws M → M.by_read first half → length bytes ≡ count → Taken (M.left first) (M.left half) bytes
    → M.left first ≡ Some script → SpendsLines M K a bytes was half looks steps left → SpendsLines M K a (take count script) was first looks steps left
pass_spends {M = M} K a bytes script count was first half looks steps left laws ran long taken told p =
    let t = taken.rest script told in
    let front : take count script ≡ bytes = ap (λ (n : ℕ). take n script) (sym long) ∙ ap (take (length bytes)) t.1 ∙ take-append_seam bytes t.0 in
    subst (λ (bs : List ℕ). SpendsLines M K a bs was first looks steps left) (sym front) (read_spends K a bytes was first half looks steps left laws ran p)

-- the session stopped at it
pub stop_spends : {O : Type 0} {M : Members O} (K : Capacity) (a : Place) (bytes script : List ℕ) (was : Session) (first half : O) (looks steps left fewer : ℕ) → Laws M → M.by_read first half → Taken (M.left first) (M.left half) bytes
    → M.left first ≡ Some script → fewer ≤ left → SpendsLines M K a bytes was half looks steps left → SpendsLines M K a script was first looks steps fewer
stop_spends {M = M} K a bytes script was first half looks steps left fewer laws ran taken told less p =
    let t = taken.rest script told in
    subst (λ (bs : List ℕ). SpendsLines M K a bs was first looks steps fewer) (sym t.1)
    (spends_more K a bytes t.0 was first looks steps fewer (leaves_less K a bytes was first looks steps left fewer less (read_spends K a bytes was first half looks steps left laws ran p)))

-- ---- one pass after another
after_passes : {O : Type 0} {M : Members O} (K L : Capacity) (a b : Place) (n : ℕ) (script more : List ℕ) (was mid : Session) (first half : O) (looks spent steps left : ℕ) → L ≡ K → M.left first ≡ Some script → (p : Takes M K a b n was mid first half)
    → SpendsLines M K a (take n script) was first looks spent (bytes_since mid.store.journal) → SpendsLines M L b more mid half spent steps left → SpendsLines M K a (p.bytes ++ more) was first looks steps left
after_passes {M = M} K L a b n script more was mid first half looks spent steps left size told p spends q =
    let t = p.taken.rest script told in
    let front : take n script ≡ p.bytes = ap (λ (k : ℕ). take k script) (sym p.count_is) ∙ ap (take (length p.bytes)) t.1 ∙ take-append_seam p.bytes t.0 in
    pieces_spend K a b p.bytes more was mid first half looks spent steps left p.fed (subst (λ (bs : List ℕ). SpendsLines M K a bs was first looks spent (bytes_since mid.store.journal)) front spends)
    (subst (λ (C : Capacity). SpendsLines M C b more mid half spent steps left) size q)

-- a piece more
pub passes_spend : {O : Type 0} {M : Members O} (K L : Capacity) (a b : Place) (n k : ℕ) (script : List ℕ) (was mid : Session) (first half : O) (looks spent steps left : ℕ) → L ≡ K → M.left first ≡ Some script → Takes M K a b n was mid first half
    → SpendsLines M K a (take n script) was first looks spent (bytes_since mid.store.journal) → ((rest : List ℕ) → M.left half ≡ Some rest → SpendsLines M L b (take k rest) mid half spent steps left) → SpendsLines M K a (take (n + k) script) was first looks steps left
passes_spend {M = M} K L a b n k script was mid first half looks spent steps left size told p spends q =
    let t = p.taken.rest script told in
    let front : take (n + k) script ≡ p.bytes ++ take k t.0 = ap (λ (m : ℕ). take (m + k) script) (sym p.count_is) ∙ ap (take (length p.bytes + k)) t.1 ∙ take-append-add p.bytes t.0 k in
    subst (λ (bs : List ℕ). SpendsLines M K a bs was first looks steps left) (sym front)
    (after_passes K L a b n script (take k t.0) was mid first half looks spent steps left size told p spends (q t.0 t.2))

-- all of the script
script_lines : {O : Type 0} {M : Members O} (K : Capacity) (script : List ℕ) (was : Session) (old : O) (looks steps left : ℕ) → SpendsLines M K start script was old looks steps left → Spends M (line_turns K 1 (ended_lines script)) was old looks steps left
script_lines K script was old looks steps left p = p.spends [] held_nothing

pub passes_end : {O : Type 0} {M : Members O} (K L : Capacity) (b : Place) (n : ℕ) (script : List ℕ) (was mid : Session) (first half : O) (looks spent steps left : ℕ) → L ≡ K → M.left first ≡ Some script → Takes M K start b n was mid first half
    → SpendsLines M K start (take n script) was first looks spent (bytes_since mid.store.journal) → ((rest : List ℕ) → M.left half ≡ Some rest → SpendsLines M L b rest mid half spent steps left) → Spends M (line_turns K 1 (ended_lines script)) was first looks steps left
passes_end {M = M} K L b n script was mid first half looks spent steps left size told p spends q =
    let t = p.taken.rest script told in
    script_lines K script was first looks steps left
    (subst (λ (bs : List ℕ). SpendsLines M K start bs was first looks steps left) (sym t.1) (after_passes K L start b n script t.0 was mid first half looks spent steps left size told p spends (q t.0 t.2)))

-- a piece of what is left, and what comes after it
pub piece_spends : {O : Type 0} {M : Members O} (K : Capacity) (a : Place) (k : ℕ) (rest : List ℕ) (was : Session) (old : O) (looks steps left : ℕ) → SpendsLines M K a (take k rest) was old looks steps left → SpendsLines M K a rest was old looks steps left
piece_spends {M = M} K a k rest was old looks steps left p =
    subst (λ (bs : List ℕ). SpendsLines M K a bs was old looks steps left) (take-append-drop k rest) (spends_more K a (take k rest) (drop k rest) was old looks steps left p)

-- ---- a script
-- its whole lines, and those that could come
pub whole_lines : {O : Type 0} {M : Members O} (K : Capacity) (script : List ℕ) (was : Session) (old : O) (looks steps left : ℕ) → Spends M (line_turns K 1 (ended_lines script)) was old looks steps left → Spends M (script_turns K script) was old looks steps left
whole_lines {M = M} K script was old looks steps left p =
    let first = ended_lines script in
    let more = lines_more script in
    subst (λ (turns : List Turn). Spends M turns was old looks steps left) (joined_turns K 1 (1 + length first) first more.0 refl ∙ ap (λ (ls : List (List ℕ)). line_turns K 1 ls) (sym more.1))
    (spends_first (line_turns K 1 first) (line_turns K (1 + length first) more.0) was old looks steps left p)

-- its whole lines, and then the last
pub script_spends : {O : Type 0} {M : Members O} (K L : Capacity) (b : Place) (script : List ℕ) (was mid : Session) (first half : O) (looks spent steps left : ℕ) → L ≡ K → M.left first ≡ Some script → ReadsAll M K start b was mid first half
    → Spends M (line_turns K 1 (ended_lines script)) was first looks spent (bytes_since mid.store.journal) → SpendsLast M L b mid half spent steps left → Spends M (script_turns K script) was first looks steps left
script_spends {M = M} K L b script was mid first half looks spent steps left size told r p q =
    let all = all_taken K start b script was mid first half told r in
    let l = r.takes.fed.fed [] held_nothing in
    let is : script ≡ spelled_lines l.ended ++ l.next = all.script_is ∙ l.stream_is in
    let last = (subst (λ (C : Capacity). SpendsLast M C b mid half spent steps left) size q).spends l.next l.held in
    let begun = subst (λ (ls : List (List ℕ)). Spends M (line_turns K 1 ls) was first looks spent (bytes_since mid.store.journal)) (ended_all script l.next l.ended l.each l.held.one_line is) p in
    subst (λ (turns : List Turn). Spends M turns was first looks steps left) (joined_turns K 1 b.line l.ended (lines l.next) l.line_is ∙ ap (λ (ls : List (List ℕ)). line_turns K 1 ls) (divides script l.next l.ended l.each is))
    (spends_then (line_turns K 1 l.ended) (line_turns K b.line (lines l.next)) was mid first half looks spent steps left l.goes begun last)
