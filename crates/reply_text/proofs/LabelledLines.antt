-- Lines of a text after its label.
use Rattle.std.proofs.Common.{◌≡◌, ℕ, List, [], ◌∷◌, ◌++◌, refl, ap}
use Rattle.std.specs.Prelude.{flat_map}
use Rattle.fsrm_model.specs.texts.Printed.{labelled_line}
use Rattle.reply_text.specs.Lines.{labelled_text}

pub labelled_shown : (label text bytes : List ℕ) → bytes ≡ text → 32 ∷ 32 ∷ 32 ∷ 32 ∷ (label ++ 32 ∷ (bytes ++ 10 ∷ [])) ≡ labelled_text label text
unfolding labelled_text
labelled_shown label text bytes same = ap (λ (xs : List ℕ). 32 ∷ 32 ∷ 32 ∷ 32 ∷ (label ++ 32 ∷ (xs ++ 10 ∷ []))) same

pub labelled_is : (label text : List ℕ) → labelled_text label text ≡ labelled_line label text
unfolding labelled_text
labelled_is label text = refl

pub labelled_same : (label : List ℕ) (texts : List (List ℕ)) → flat_map (labelled_text label) texts ≡ flat_map (labelled_line label) texts
unfolding labelled_text
labelled_same label texts = refl
