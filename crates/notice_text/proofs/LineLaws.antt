-- The lines of a notice.
use Rattle.std.proofs.Common.{◌≡◌, ℕ, List, [], ◌∷◌, ◌++◌, refl, sym, ap}
use Rattle.std.specs.Prelude.{codes, decimal}
use Rattle.fsrm_model.specs.declared.command.Act.{Act}
use Rattle.fsrm_model.specs.declared.command.Subject.TheVariants.{Quota, Screen}
use Rattle.fsrm_model.specs.texts.ActionWords.{kind_word}
use Rattle.fsrm_model.specs.texts.ActText.{subject_words}
use Rattle.fsrm_model.specs.texts.Printed.{body_line}
use Rattle.notice_text.specs.Expand.{Values, expand}
use Rattle.notice_text.specs.NoticeText.{expanded_line, head_line}

pub quota_head : (act : Act) (values : Values) (folder percent number place : ℕ) (kind path : List ℕ) → act.subject ≡ Quota folder percent → number ≡ percent → place ≡ act.place → kind ≡ kind_word act.kind → path ≡ values.path
    → 32 ∷ 32 ∷ (values.date ++ 32 ∷ (kind ++ (codes " quota " ++ (decimal number ++ 32 ∷ (decimal place ++ 32 ∷ (path ++ 10 ∷ [])))))) ≡ head_line act values
unfolding head_line
quota_head act values folder percent number place kind path p q r s t = rw (q, r, s, t) (ap (λ subject. body_line (values.date ∷ kind_word act.kind ∷ subject_words subject ++ decimal act.place ∷ values.path ∷ [])) (sym p))

pub screen_head : (act : Act) (values : Values) (folder place : ℕ) (kind path : List ℕ) → act.subject ≡ Screen folder → place ≡ act.place → kind ≡ kind_word act.kind → path ≡ values.path
    → 32 ∷ 32 ∷ (values.date ++ 32 ∷ (kind ++ (codes " screen " ++ (decimal place ++ 32 ∷ (path ++ 10 ∷ []))))) ≡ head_line act values
unfolding head_line
screen_head act values folder place kind path p r s t = rw (r, s, t) (ap (λ subject. body_line (values.date ∷ kind_word act.kind ∷ subject_words subject ++ decimal act.place ∷ values.path ∷ [])) (sym p))

pub text_line : (values : Values) (text bytes : List ℕ) → bytes ≡ text → codes "    " ++ (expand values bytes ++ 10 ∷ []) ≡ expanded_line values text
unfolding expanded_line
text_line values text bytes is = rw is refl
