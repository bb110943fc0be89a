-- The text of a script's turns is that of its lines, and so are the rows after them.
use Rattle.std.proofs.Common.{◌≡◌, ℕ, ◌+◌, List, [], ◌∷◌, ◌++◌, length, refl, ap, ◌∙◌, arith}
use Rattle.fsrm_model.specs.declared.row.Capacity.{Capacity}
use Rattle.fsrm_model.specs.declared.row.Rows.{Rows}
use Rattle.fsrm_model.specs.lines.Script.{fold_from, lines, replied, spelled_lines, text, text_from, AreLines}
use Rattle.fsrm_model.proofs.lines.ScriptLaws.{lines_spelled}
use Rattle.fsrm_session.specs.Turns.{Turn, line_turn, line_turns, rows_after, script_turns, text_of}

pub text_of-lines : (K : Capacity) (R : Rows) (number : ℕ) (all : List (List ℕ)) → text_of R (line_turns K number all) ≡ text_from K R number all
text_of-lines K R number [] = refl
text_of-lines K R number (line ∷ more) = ap (λ (l : List ℕ). (replied K R number line).text ++ l) (text_of-lines K (replied K R number line).rows (number + 1) more)

pub rows_after-lines : (K : Capacity) (R : Rows) (number : ℕ) (all : List (List ℕ)) → rows_after R (line_turns K number all) ≡ fold_from K R number all
rows_after-lines K R number [] = refl
rows_after-lines K R number (line ∷ more) = rows_after-lines K (replied K R number line).rows (number + 1) more

pub text_of-script : (K : Capacity) (R : Rows) (script : List ℕ) → text_of R (script_turns K script) ≡ text K R script
text_of-script K R script = text_of-lines K R 1 (lines script)

pub rows_after-script : (K : Capacity) (R : Rows) (script : List ℕ) → rows_after R (script_turns K script) ≡ fold_from K R 1 (lines script)
rows_after-script K R script = rows_after-lines K R 1 (lines script)

-- the turns of lines, and then of more
pub turns-append : (K : Capacity) (number : ℕ) (a b : List (List ℕ)) → line_turns K number (a ++ b) ≡ line_turns K number a ++ line_turns K (number + length a) b
turns-append K number [] b = ap (λ (n : ℕ). line_turns K n b) (omega arith)
turns-append K number (line ∷ a) b =
    let more : number + 1 + length a ≡ number + length (line ∷ a) = omega arith in
    ap (λ (l : List Turn). line_turn K number line ∷ l) (turns-append K (number + 1) a b ∙ ap (λ (n : ℕ). line_turns K (number + 1) a ++ line_turns K n b) more)

-- a script begins with whole lines: their turns come first
pub script_turns-begin : (K : Capacity) (ended : List (List ℕ)) (script rest : List ℕ) → AreLines ended → script ≡ spelled_lines ended ++ rest → script_turns K script ≡ line_turns K 1 ended ++ line_turns K (1 + length ended) (lines rest)
script_turns-begin K ended script rest each is =
    ap (λ (l : List (List ℕ)). line_turns K 1 l) (ap lines is ∙ lines_spelled ended rest each) ∙ turns-append K 1 ended (lines rest)
