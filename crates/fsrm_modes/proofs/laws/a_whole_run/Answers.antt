use Rattle.std.proofs.Common.{◌≡◌, ℕ, ◌+◌, ◌≤◌, List, [], ◌∷◌, ◌++◌, length, refl, sym, ◌∙◌, ap, subst, arith, length-append}
use Rattle.std.specs.Prelude.{decimal, Err, None, Ok, Option, Some}
use Rattle.fsrm_model.specs.commands.Step.{step}
use Rattle.fsrm_model.specs.declared.command.Command.{Command}
use Rattle.fsrm_model.specs.declared.row.Capacity.{Capacity}
use Rattle.fsrm_model.specs.declared.row.Rows.{Rows}
use Rattle.fsrm_model.specs.lines.Line.{read_line}
use Rattle.fsrm_model.specs.lines.Reading.{Read}
use Rattle.fsrm_model.specs.lines.Script.{lines, replied, replied_to, without_cr}
use Rattle.fsrm_model.specs.store.Lasting.{lasting}
use Rattle.fsrm_model.specs.texts.ActText.{act_lines}
use Rattle.fsrm_model.specs.texts.Printed.{line_of}
use Rattle.fsrm_model.specs.texts.Text.{body, head_line, head_words, reply}
use Rattle.fsrm_store.specs.States.State.{Holds}
use Rattle.fsrm_session.specs.Turns.{line_turn, line_turns, rows_after, text_of, Turn}
use Rattle.fsrm_modes.proofs.ScriptTurns.{rows_after-script, text_of-script}
use Rattle.fsrm_modes.proofs.laws.a_whole_run.Goals as goal

-- ---- a line of whose reply no byte is shown leaves the rows
line_long : (words : List (List ℕ)) → 1 ≤ length (line_of words)
line_long [] = omega arith
line_long (word ∷ []) = omega (arith, length-append word (10 ∷ []))
line_long (word ∷ next ∷ words) = omega (arith, length-append word (32 ∷ line_of (next ∷ words)))

told_long : (K : Capacity) (R : Rows) (number : ℕ) (read : Option (Read Command)) → length (replied_to K R number read).text ≤ 0 → (replied_to K R number read).rows ≡ R
told_long K R number None none = refl
told_long K R number (Some (Err refusal)) none = refl
told_long K R number (Some (Ok c)) none =
    let s = step K R c in
    let head = line_long (decimal number ∷ head_words s.rows.nodes s.outcome) in
    let first = length-append (head_line s.rows.nodes number s.outcome) (body K s.rows c.moment s.outcome) in
    let all = length-append (reply K s.rows c.moment number s.outcome) (act_lines s.rows s.acts) in
    absurd (omega (arith, none, head, first, all))

line_told : (K : Capacity) (R : Rows) (number : ℕ) (line : List ℕ) → length (replied K R number line).text ≤ 0 → (replied K R number line).rows ≡ R
unfolding replied
line_told K R number line none = told_long K R number (read_line (without_cr line)) none

lines_told : (K : Capacity) (R : Rows) (number : ℕ) (all : List (List ℕ)) → length (text_of R (line_turns K number all)) ≤ 0 → rows_after R (line_turns K number all) ≡ R
lines_told K R number [] none = refl
lines_told K R number (line ∷ more) none =
    let own = (replied K R number line).text in
    let after = (replied K R number line).rows in
    let rest = text_of after (line_turns K (number + 1) more) in
    let both : length (own ++ rest) ≤ 0 = none in
    let long = length-append own rest in
    lines_told K after (number + 1) more (omega (arith, both, long)) ∙ line_told K R number line (omega (arith, both, long))

-- so some first turns leave the rows that all do, if their text is as long
all_told : (K : Capacity) (R : Rows) (number : ℕ) (all : List (List ℕ)) (done rest : List Turn) → line_turns K number all ≡ done ++ rest → length (text_of R (line_turns K number all)) ≤ length (text_of R done) → rows_after R done ≡ rows_after R (line_turns K number all)
all_told K R number all [] rest is long = sym (lines_told K R number all long)
all_told K R number [] (turn ∷ done) rest is long = absurd (cc)
all_told K R number (line ∷ more) (turn ∷ done) rest is long =
    let turns = line_turns K (number + 1) more in
    let split : line_turn K number line ∷ turns ≡ turn ∷ (done ++ rest) = is in
    let first : line_turn K number line ≡ turn = cc in
    let others : turns ≡ done ++ rest = cc in
    let own = (replied K R number line).text in
    let after = (replied K R number line).rows in
    let both : length (own ++ text_of after turns) ≤ length (own ++ text_of after done) = subst (λ (t : Turn). length (text_of R (line_turn K number line ∷ turns)) ≤ length (text_of R (t ∷ done))) (sym first) long in
    let few : length (text_of after turns) ≤ length (text_of after done) = omega (arith, both, length-append own (text_of after turns), length-append own (text_of after done)) in
    subst (λ (t : Turn). rows_after R (t ∷ done) ≡ rows_after R (line_turn K number line ∷ turns)) first (all_told K after (number + 1) more done rest others few)

pub returns : goal.returns
returns c K R script shown parts v whole =
    let told = all_told K R 1 (lines script) v.done v.rest v.are (omega (arith, ap length (text_of-script K R script), whole, v.acknowledged)) in
    v.holds ∙ ap (λ (S : Rows). Holds K (lasting S)) (told ∙ rows_after-script K R script)
