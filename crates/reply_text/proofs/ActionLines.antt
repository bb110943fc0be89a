-- The lines of thresholds, and those of actions.
use Rattle.std.proofs.Common.{◌≡◌, ℕ, ◌+◌, List, [], ◌∷◌, ◌++◌, length, refl, sym, ap, ◌∙◌, arith, append_assoc, ℤ, pos, negsuc, unsigned_abs, ltb-true, true≢false}
use Rattle.std.specs.Prelude.{◌==◌, true, false, decimal, codes, flat_map, int_lt}
use Rattle.fsrm_base.proofs.TestLaws.{eq_is}
use Rattle.fsrm_model.specs.declared.row.Action.{Action}
use Rattle.fsrm_model.specs.declared.row.Threshold.{Threshold}
use Rattle.fsrm_model.specs.texts.ActText.{at_lines}
use Rattle.fsrm_model.specs.texts.ActionWords.{kind_word, minutes_word}
use Rattle.fsrm_model.specs.texts.Printed.{deep_line}
use Rattle.reply_text.specs.Lines.{action_line, do_text, threshold_text}

-- ---- minutes, by their sign and their digits
pub negative_word : (minutes : ℤ) (n : ℕ) → int_lt minutes (pos 0) ≡ true → n ≡ unsigned_abs minutes → codes "-" ++ decimal n ≡ minutes_word minutes
negative_word (pos k) n h e = absurd (omega (arith, ltb-true))
negative_word (negsuc k) n h e = let same : n ≡ k + 1 = omega arith in ap (λ i. codes "-" ++ decimal i) same

pub natural_word : (minutes : ℤ) (n : ℕ) → int_lt minutes (pos 0) ≡ false → n ≡ unsigned_abs minutes → decimal n ≡ minutes_word minutes
natural_word (pos k) n h e = ap decimal e
natural_word (negsuc k) n h e = absurd (true≢false h)

-- ---- an action
abbrev words_line : List ℕ → List ℕ → List ℕ → List ℕ → List ℕ
words_line percent kind minutes text = deep_line (codes "at" ∷ percent ∷ kind ∷ minutes ∷ text ∷ [])

pub action_shown : (percent number : ℕ) (action : Action) (kind sign digits text : List ℕ) → number ≡ percent → kind ≡ kind_word action.kind → sign ++ digits ≡ minutes_word action.minutes → text ≡ action.text
    → 32 ∷ 32 ∷ 32 ∷ 32 ∷ 97 ∷ 116 ∷ 32 ∷ (decimal number ++ 32 ∷ (kind ++ 32 ∷ (sign ++ (digits ++ 32 ∷ (text ++ 10 ∷ []))))) ≡ action_line percent action
unfolding action_line
action_shown percent number action kind sign digits text numbers kinds minutes texts =
    ap (λ (tail : List ℕ). 32 ∷ 32 ∷ 32 ∷ 32 ∷ 97 ∷ 116 ∷ 32 ∷ (decimal number ++ 32 ∷ (kind ++ 32 ∷ tail))) (sym (append_assoc sign digits (32 ∷ (text ++ 10 ∷ []))))
    ∙ ap (λ n. words_line (decimal n) kind (sign ++ digits) text) numbers
    ∙ ap (λ k. words_line (decimal percent) k (sign ++ digits) text) kinds
    ∙ ap (λ m. words_line (decimal percent) (kind_word action.kind) m text) minutes
    ∙ ap (words_line (decimal percent) (kind_word action.kind) (minutes_word action.minutes)) texts

-- ---- a threshold without actions, and with some
pub bare_shown : (threshold : Threshold) → (length threshold.actions == 0) ≡ true → deep_line (codes "at" ∷ decimal threshold.percent ∷ []) ≡ threshold_text threshold
unfolding threshold_text
bare_shown threshold none = at threshold.actions none
  where
    at : (actions : List Action) → (length actions == 0) ≡ true → deep_line (codes "at" ∷ decimal threshold.percent ∷ []) ≡ at_lines (decimal threshold.percent) actions
    at [] none = refl
    at (action ∷ actions) none = absurd (omega (arith, eq_is (length (action ∷ actions)) 0 none))

pub actions_shown : (threshold : Threshold) (actions : List Action) → (length threshold.actions == 0) ≡ false → actions ≡ threshold.actions → flat_map (action_line threshold.percent) actions ≡ threshold_text threshold
unfolding action_line threshold_text
actions_shown threshold actions some same = ap (flat_map (action_line threshold.percent)) same ∙ at threshold.actions some
  where
    at : (actions : List Action) → (length actions == 0) ≡ false → flat_map (action_line threshold.percent) actions ≡ at_lines (decimal threshold.percent) actions
    at [] some = absurd (true≢false some)
    at (action ∷ actions) some = refl

-- ---- an action of a screen
abbrev done_line : List ℕ → List ℕ → List ℕ → List ℕ
done_line kind minutes text = deep_line (codes "do" ∷ kind ∷ minutes ∷ text ∷ [])

pub do_shown : (action : Action) (kind sign digits text : List ℕ) → kind ≡ kind_word action.kind → sign ++ digits ≡ minutes_word action.minutes → text ≡ action.text
    → 32 ∷ 32 ∷ 32 ∷ 32 ∷ 100 ∷ 111 ∷ 32 ∷ (kind ++ 32 ∷ (sign ++ (digits ++ 32 ∷ (text ++ 10 ∷ [])))) ≡ do_text action
unfolding do_text
do_shown action kind sign digits text kinds minutes texts =
    ap (λ (tail : List ℕ). 32 ∷ 32 ∷ 32 ∷ 32 ∷ 100 ∷ 111 ∷ 32 ∷ (kind ++ 32 ∷ tail)) (sym (append_assoc sign digits (32 ∷ (text ++ 10 ∷ []))))
    ∙ ap (λ k. done_line k (sign ++ digits) text) kinds
    ∙ ap (λ m. done_line (kind_word action.kind) m text) minutes
    ∙ ap (done_line (kind_word action.kind) (minutes_word action.minutes)) texts
