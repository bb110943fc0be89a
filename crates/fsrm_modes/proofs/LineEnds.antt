-- Texts of whole lines.
use Rattle.std.proofs.Common.{◌≡◌, inl, inr, ℕ, List, [], ◌∷◌, ◌++◌, refl, sym, ◌∙◌, ap, subst, append_assoc}
use Rattle.std.specs.Prelude.{codes, decimal, None, Option, Some}
use Rattle.std.proofs.lemmas.List.{append-nil}
use Rattle.fsrm_model.specs.declared.command.Act.{Act}
use Rattle.fsrm_model.specs.declared.command.Outcome.TheVariants.{Done, Refused}
use Rattle.fsrm_model.specs.declared.command.Refusal.{Refusal}
use Rattle.fsrm_model.specs.declared.row.Capacity.{Capacity}
use Rattle.fsrm_model.specs.declared.row.NodeRow.{NodeRow}
use Rattle.fsrm_model.specs.declared.row.Rows.{Rows}
use Rattle.fsrm_model.specs.objects.Acts.{folder_in}
use Rattle.fsrm_model.specs.texts.ActText.{act_line, act_lines, subject_words, text_of}
use Rattle.fsrm_model.specs.texts.ActionWords.{kind_word}
use Rattle.fsrm_model.specs.texts.Printed.{line_of, path_text}
use Rattle.fsrm_model.specs.texts.Text.{head_line, head_words, passive_line, reply}
use Rattle.fsrm_modes.specs.Expiry.{move_line, skipped_line, IsWholeLines}

pub whole_then : (a b : List ℕ) → IsWholeLines a → IsWholeLines b → IsWholeLines (a ++ b)
whole_then a b p (inl none) = subst IsWholeLines (sym (ap (λ (l : List ℕ). a ++ l) none ∙ append-nil a)) p
whole_then a b p (inr ends) = inr (a ++ ends.0, ap (λ (l : List ℕ). a ++ l) ends.1 ∙ sym (append_assoc a ends.0 (10 ∷ [])))

-- the words of a line, and its end
line_end : (words : List (List ℕ)) → (first : List ℕ) × (line_of words ≡ first ++ 10 ∷ [])
line_end [] = ([], refl)
line_end (word ∷ []) = (word, refl)
line_end (word ∷ next ∷ words) =
    let rest = line_end (next ∷ words) in
    (word ++ 32 ∷ rest.0, ap (λ (l : List ℕ). word ++ 32 ∷ l) rest.1 ∙ sym (append_assoc word (32 ∷ rest.0) (10 ∷ [])))

line_whole : (words : List (List ℕ)) → IsWholeLines (line_of words)
line_whole words = inr (line_end words)

-- what is told of a file
pub move_whole : (nodes : List NodeRow) (line node : ℕ) → IsWholeLines (move_line nodes line node)
move_whole nodes line node = line_whole (decimal line ∷ codes "move" ∷ path_text nodes node ∷ [])

pub skipped_whole : (line : ℕ) → IsWholeLines (skipped_line line)
skipped_whole line = line_whole (decimal line ∷ codes "skipped" ∷ [])

-- such a line, set in
body_whole : (words : List (List ℕ)) → IsWholeLines (32 ∷ 32 ∷ line_of words)
body_whole words = let end = line_end words in inr (32 ∷ 32 ∷ end.0, ap (λ (l : List ℕ). 32 ∷ 32 ∷ l) end.1)

-- of acts
pub acts_whole : (R : Rows) (acts : List Act) → IsWholeLines (act_lines R acts)
acts_whole R [] = inl refl
acts_whole R (act ∷ acts) =
    whole_then (act_line R act) (act_lines R acts)
    (body_whole (codes "act" ∷ subject_words act.subject ++ kind_word act.kind ∷ (path_text R.nodes (folder_in act.subject) ++ codes "|" ++ text_of R act) ∷ []))
    (acts_whole R acts)

passive_whole : (nodes : List NodeRow) (o : Option ℕ) → IsWholeLines (passive_line nodes o)
passive_whole nodes None = inl refl
passive_whole nodes (Some screen) = body_whole (codes "passive" ∷ path_text nodes screen ∷ [])

-- replies to a command that moves a file
pub done_whole : (K : Capacity) (R : Rows) (moment line : ℕ) (passive : Option ℕ) → IsWholeLines (reply K R moment line (Done passive))
done_whole K R moment line passive = whole_then (head_line R.nodes line (Done passive)) (passive_line R.nodes passive) (line_whole (decimal line ∷ head_words R.nodes (Done passive))) (passive_whole R.nodes passive)

pub refused_whole : (K : Capacity) (R : Rows) (moment line : ℕ) (refusal : Refusal) → IsWholeLines (reply K R moment line (Refused refusal))
refused_whole K R moment line refusal = whole_then (head_line R.nodes line (Refused refusal)) [] (line_whole (decimal line ∷ head_words R.nodes (Refused refusal))) (inl refl)
