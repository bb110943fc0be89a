-- A run over a made script, from its beginning to its end.
use Rattle.std.proofs.Common.{◌≡◌, ℕ, ◌+◌, ◌*◌, ◌≤◌, Some, List, [], ◌∷◌, ◌++◌, refl, ◌∙◌, ap, subst, arith}
use Rattle.std.specs.Prelude.{◌/◌, Result, Ok, Err, MatchResult, if◌then◌else◌}
use Rattle.std.proofs.lemmas.List.{append-nil}
use Rattle.fsrm_model.specs.declared.row.Capacity.{Capacity}
use Rattle.fsrm_model.specs.declared.row.Rows.{Rows}
use Rattle.fsrm_model.specs.lines.Script.{cost_from, fold_from, replied}
use Rattle.fsrm_model.specs.store.Lasting.{lasting}
use Rattle.fsrm_outside.specs.Members.{Members}
use Rattle.fsrm_outside.specs.Parts.{Parts}
use Rattle.fsrm_outside.proofs.OutsideLaws.{Laws}
use Rattle.fsrm_store.specs.Amortized.{bytes_since}
use Rattle.fsrm_store.specs.States.State.{Holds}
use Rattle.fsrm_store.proofs.Amortizing.{whole}
use Rattle.made_script.specs.Lines.{made_lines}
use Rattle.made_script.specs.Summary.{summary}
use Rattle.made_script.specs.Tally.{summary_line, tally_from}
use Rattle.made_script.specs.declared.tally.Tally.{Tally}
use Rattle.fsrm_session.specs.Spending.{bytes_after, Spends}
use Rattle.fsrm_session.specs.Turns.{Turn, bytes_of, line_turns, looks_of, rows_after, text_of, said_turn, IsWithin}
use Rattle.fsrm_session.specs.Underway.{Goes, ShowsSome, Stops}
use Rattle.fsrm_session.specs.declared.session.Session.{Session}
use Rattle.fsrm_session.specs.declared.stop.Stop.{Stop}
use Rattle.fsrm_session.specs.declared.stop.Stop.TheVariants as stops
use Rattle.fsrm_session.proofs.Going.{goes_stops, goes_then, stops_more}
use Rattle.fsrm_session.proofs.Spending.{spends_first, spends_then}
use Rattle.fsrm_modes.specs.Looks.{FewForTurns}
use Rattle.fsrm_modes.specs.OwnTurns.{TakesTurns}
use Rattle.fsrm_modes.specs.Working.{unshown_lines, work_turns, FewForLines, Works}
use Rattle.fsrm_modes.specs.declared.status.Status.{Status}
use Rattle.fsrm_modes.proofs.Outcomes.{full_stops}

-- ---- what lines come to of which nothing is shown, and then a text
then_text : (K : Capacity) (R : Rows) (number : ℕ) (lines : List (List ℕ)) (text : List ℕ) → text_of R (unshown_lines K number lines ++ said_turn text ∷ []) ≡ text
then_text K R number [] text = append-nil text
then_text K R number (line ∷ lines) text = then_text K (replied K R number line).rows (number + 1) lines text

then_rows : (K : Capacity) (R : Rows) (number : ℕ) (lines : List (List ℕ)) (text : List ℕ) → rows_after R (unshown_lines K number lines ++ said_turn text ∷ []) ≡ fold_from K R number lines
then_rows K R number [] text = refl
then_rows K R number (line ∷ lines) text = then_rows K (replied K R number line).rows (number + 1) lines text

then_looks : (K : Capacity) (R : Rows) (number : ℕ) (lines : List (List ℕ)) (text : List ℕ) → looks_of R (unshown_lines K number lines ++ said_turn text ∷ []) ≡ cost_from K R number lines
then_looks K R number [] text = refl
then_looks K R number (line ∷ lines) text = omega (arith, then_looks K (replied K R number line).rows (number + 1) lines text)

then_bytes : (K : Capacity) (R : Rows) (number : ℕ) (lines : List (List ℕ)) (text : List ℕ) → bytes_of R (unshown_lines K number lines ++ said_turn text ∷ []) ≡ bytes_of R (line_turns K number lines)
then_bytes K R number [] text = refl
then_bytes K R number (line ∷ lines) text = omega (arith, then_bytes K (replied K R number line).rows (number + 1) lines text)

then_within : (most : ℕ) (K : Capacity) (R : Rows) (number : ℕ) (lines : List (List ℕ)) (text : List ℕ) → IsWithin most R (line_turns K number lines) → IsWithin most R (unshown_lines K number lines ++ said_turn text ∷ [])
then_within most K R number [] text h = (h, h)
then_within most K R number (line ∷ lines) text h = (h.0, then_within most K (replied K R number line).rows (number + 1) lines text h.1)

-- ---- the line that sums all up is told after them
lines_are : (K : Capacity) (number : ℕ) (lines made : List (List ℕ)) → number ≡ 0 → lines ≡ made → unshown_lines K (number + 1) lines ≡ unshown_lines K 1 made
lines_are K number lines made first is = ap (λ (n : ℕ). unshown_lines K (n + 1) lines) first ∙ ap (unshown_lines K 1) is

pub text_is : (K : Capacity) (R : Rows) (seed count number : ℕ) (lines : List (List ℕ)) (tally : Tally) (text : List ℕ) → number ≡ 0 → lines ≡ made_lines seed count → tally ≡ tally_from K R (number + 1) lines → text ≡ summary_line count tally → text ≡ summary K R seed count
text_is K R seed count number lines tally text first is tallies says =
    says ∙ ap (summary_line count) (tallies ∙ ap (λ (n : ℕ). tally_from K R (n + 1) lines) first ∙ ap (tally_from K R 1) is)

pub summed : {O T : Type 0} {M : Members O} (r : Result T Stop) (K : Capacity) (R : Rows) (seed count number : ℕ) (lines : List (List ℕ)) (text : List ℕ) (a b c : Session) (first mid last : O) → Laws M → number ≡ 0 → lines ≡ made_lines seed count → text ≡ summary K R seed count
    → Goes M (unshown_lines K (number + 1) lines) a b first mid → MatchResult r (λ x. Goes M (said_turn text ∷ []) b c mid last) (λ e. Stops M e (said_turn text ∷ []) b c mid last)
    → MatchResult r (λ x. Goes M (work_turns K R seed count) a c first last) (λ e. Stops M e (work_turns K R seed count) a c first last)
summed {M = M} (Ok x) K R seed count number lines text a b c first mid last laws starts is says goes told =
    subst (λ (l : List Turn). Goes M l a c first last) (ap (λ (l : List Turn). l ++ said_turn text ∷ []) (lines_are K number lines (made_lines seed count) starts is) ∙ ap (λ (t : List ℕ). unshown_lines K 1 (made_lines seed count) ++ said_turn t ∷ []) says)
    (goes_then (unshown_lines K (number + 1) lines) (said_turn text ∷ []) a b c first mid last laws goes told)
summed {M = M} (Err e) K R seed count number lines text a b c first mid last laws starts is says goes told =
    subst (λ (l : List Turn). Stops M e l a c first last) (ap (λ (l : List Turn). l ++ said_turn text ∷ []) (lines_are K number lines (made_lines seed count) starts is) ∙ ap (λ (t : List ℕ). unshown_lines K 1 (made_lines seed count) ++ said_turn t ∷ []) says)
    (goes_stops e (unshown_lines K (number + 1) lines) (said_turn text ∷ []) a b c first mid last laws goes told)

pub summed_spends : {O : Type 0} {M : Members O} (K : Capacity) (R : Rows) (seed count number : ℕ) (lines : List (List ℕ)) (text : List ℕ) (a b : Session) (first mid : O) (looks spent steps left : ℕ) → number ≡ 0 → lines ≡ made_lines seed count → text ≡ summary K R seed count
    → Goes M (unshown_lines K (number + 1) lines) a b first mid → Spends M (unshown_lines K (number + 1) lines) a first looks spent (bytes_since b.store.journal) → Spends M (said_turn text ∷ []) b mid spent steps left → Spends M (work_turns K R seed count) a first looks steps left
summed_spends {M = M} K R seed count number lines text a b first mid looks spent steps left starts is says goes begun last =
    subst (λ (l : List Turn). Spends M l a first looks steps left) (ap (λ (l : List Turn). l ++ said_turn text ∷ []) (lines_are K number lines (made_lines seed count) starts is) ∙ ap (λ (t : List ℕ). unshown_lines K 1 (made_lines seed count) ++ said_turn t ∷ []) says)
    (spends_then (unshown_lines K (number + 1) lines) (said_turn text ∷ []) a b first mid looks spent steps left goes begun last)

-- a text of one part
pub one_part : {O T : Type 0} (M : Members O) (r : Result T Stop) (text : List ℕ) (a b : Session) (first last : O) → MatchResult r (λ x. Goes M (said_turn (text ++ []) ∷ []) a b first last) (λ e. Stops M e (said_turn (text ++ []) ∷ []) a b first last)
    → MatchResult r (λ x. Goes M (said_turn text ∷ []) a b first last) (λ e. Stops M e (said_turn text ∷ []) a b first last)
one_part M (Ok x) text a b first last p = subst (λ (l : List ℕ). Goes M (said_turn l ∷ []) a b first last) (append-nil text) p
one_part M (Err e) text a b first last p = subst (λ (l : List ℕ). Stops M e (said_turn l ∷ []) a b first last) (append-nil text) p

pub one_part_spends : {O : Type 0} {M : Members O} (text : List ℕ) (a : Session) (first : O) (looks steps left : ℕ) → Spends M (said_turn (text ++ []) ∷ []) a first looks steps left → Spends M (said_turn text ∷ []) a first looks steps left
one_part_spends {M = M} text a first looks steps left p = subst (λ (l : List ℕ). Spends M (said_turn l ∷ []) a first looks steps left) (append-nil text) p

pub lines_stop : {O : Type 0} {M : Members O} (stop : Stop) (K : Capacity) (R : Rows) (seed count number : ℕ) (lines : List (List ℕ)) (a c : Session) (first last : O) → number ≡ 0 → lines ≡ made_lines seed count → Stops M stop (unshown_lines K (number + 1) lines) a c first last → Stops M stop (work_turns K R seed count) a c first last
lines_stop {M = M} stop K R seed count number lines a c first last starts is stops =
    stops_more stop (unshown_lines K 1 (made_lines seed count)) (said_turn (summary K R seed count) ∷ []) a c first last (subst (λ (l : List Turn). Stops M stop l a c first last) (lines_are K number lines (made_lines seed count) starts is) stops)

pub lines_spend : {O : Type 0} {M : Members O} (K : Capacity) (R : Rows) (seed count number : ℕ) (lines : List (List ℕ)) (a : Session) (first : O) (looks steps left : ℕ) → number ≡ 0 → lines ≡ made_lines seed count → Spends M (unshown_lines K (number + 1) lines) a first looks steps left → Spends M (work_turns K R seed count) a first looks steps left
lines_spend {M = M} K R seed count number lines a first looks steps left starts is spends =
    spends_first (unshown_lines K 1 (made_lines seed count)) (said_turn (summary K R seed count) ∷ []) a first looks steps left (subst (λ (l : List Turn). Spends M l a first looks steps left) (lines_are K number lines (made_lines seed count) starts is) spends)

-- there was no memory for the summary
pub sum_full : {O : Type 0} {M : Members O} (K : Capacity) (R : Rows) (seed count number : ℕ) (lines : List (List ℕ)) (a b : Session) (first mid : O) → Laws M → number ≡ 0 → lines ≡ made_lines seed count → Goes M (unshown_lines K (number + 1) lines) a b first mid → Stops M stops.NoMemory (work_turns K R seed count) a b first mid
sum_full {M = M} K R seed count number lines a b first mid laws starts is goes =
    let turns = unshown_lines K 1 (made_lines seed count) in
    let last = said_turn (summary K R seed count) ∷ [] in
    goes_stops stops.NoMemory turns last a b b first mid mid laws (subst (λ (l : List Turn). Goes M l a b first mid) (lines_are K number lines (made_lines seed count) starts is) goes) (full_stops last b mid laws)

same_after : (S T : Type 0) (stop : Stop) (session : Session) → bytes_after {T = T} (Err stop) session ≡ bytes_after {T = S} (Err stop) session
same_after S T stops.WriteFault session = refl
same_after S T stops.DiskFault session = refl
same_after S T stops.NoMemory session = refl

-- a stop leaves as much, whatever the call would have answered
pub after_stop : (S : Type 0) {T : Type 0} (r : Result T Stop) (stop : Stop) (session : Session) → r ≡ Err stop → bytes_after r session ≤ bytes_after {T = S} (Err stop) session
after_stop S {T = T} r stop session is = omega (arith, ap (λ (q : Result T Stop). bytes_after q session) is, same_after S T stop session)

-- ---- the run
-- what is shown and kept
pub works : {O : Type 0} {M : Members O} (K : Capacity) (R : Rows) (status : Status) (seed count : ℕ) (before : List ℕ) (new : O) → TakesTurns M K R status (work_turns K R seed count) before new → Works M K R status seed count before new
works {M = M} K R status seed count before new took =
    let text = then_text K R 1 (made_lines seed count) (summary K R seed count) in
    record {
      front = subst (λ (l : List ℕ). ShowsSome M l before new) text took.front;
      whole = λ done. took.whole done ∙ ap (λ (l : List ℕ). Some (before ++ l)) text;
      kept = λ done. let k = took.kept done in (k.0, k.1, k.2 ∙ ap (λ (x : Rows). Holds K (lasting x)) (then_rows K R 1 (made_lines seed count) (summary K R seed count)));
    }

-- the looks that it takes
pub few_lines : (parts : Parts) (K : Capacity) (R : Rows) (seed count looks steps : ℕ) → FewForTurns parts R (work_turns K R seed count) 0 looks steps → FewForLines parts K R (made_lines seed count) looks steps
few_lines parts K R seed count looks steps h = record {
  opened = h.opened;
  opening = h.opening;
  few = λ ruling tail most judged has within.
      let lines = made_lines seed count in
      let turns = work_turns K R seed count in
      let sum = summary K R seed count in
      let bytes : tail + bytes_of R turns ≡ tail + bytes_of R (line_turns K 1 lines) = omega (arith, then_bytes K R 1 lines sum) in
      let images : (tail + bytes_of R turns) / 1048576 * (2 * most) ≡ (tail + bytes_of R (line_turns K 1 lines)) / 1048576 * (2 * most) = ap (λ (n : ℕ). n / 1048576 * (2 * most)) bytes in
      omega (arith, h.few ruling tail most judged has (then_within most K R 1 lines sum within), images, then_looks K R 1 lines sum);
}
