use Rattle.std.proofs.Common.{◌≡◌, ℕ, ◌+◌, List, ◌∷◌, length, false}
use Rattle.std.specs.Prelude.{option_map}
use Rattle.fsrm_base.specs.Numbers.{is_in}
use Rattle.fsrm_model.specs.values.Name.{folded}
use Rattle.file_screens.specs.Blocked.{told}
use Rattle.file_screens.specs.Way.{applying_on, judging_on}
use Rattle.file_screens.proofs.JudgeLaws.{judged_by}
use Rattle.file_screens.proofs.screening.climb.Given as goal

-- what is left, and the passive screen that was found, judge as the whole way does
abbrev pub invariant-loop-passive : goal.invariant-loop-passive
invariant-loop-passive g l = record {
  apart : is_in l.way l.at ≡ false;
  judged : (text : List ℕ) → folded text ≡ l.name → judged_by l.passive (applying_on l.groups l.objects (l.at ∷ l.way) text) ≡ option_map told (judging_on l.groups l.objects (l.start ∷ l.fn.way) text);
  looks : l.steps + length l.way ≡ l.fn.steps + length l.fn.way;
}

abbrev pub decreases-loop-passive : goal.decreases-loop-passive
decreases-loop-passive g l = length l.way
