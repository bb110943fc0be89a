use Rattle.std.proofs.Common.{ap, sym, ◌∙◌, List, ℕ, [], ◌∷◌, ◌++◌}
use Rattle.std.proofs.lemmas.List.{append-nil}
use Rattle.fsrm_model.specs.lines.Script.{lines, spelled_lines}
use Rattle.fsrm_model.proofs.lines.ScriptLaws.{lines_spelled, lines_last}
use Rattle.fsrm_model.proofs.laws.script_lines.Goals as goal

pub returns-clause-ended : goal.returns-clause-ended
returns-clause-ended c = λ ended each. ap lines (sym (append-nil (spelled_lines ended))) ∙ lines_spelled ended [] each ∙ append-nil ended

pub returns-clause-last : goal.returns-clause-last
returns-clause-last c = λ ended byte rest each none. lines_spelled ended (byte ∷ rest) each ∙ ap (λ (ls : List (List ℕ)). ended ++ ls) (lines_last byte rest none)
