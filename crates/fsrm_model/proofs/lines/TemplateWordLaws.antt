-- The words of templates and auto-apply quotas are read exactly as they are written, and refused only as a line is.
use Rattle.std.proofs.Common.{◌≡◌, ℕ, List, [], ◌∷◌, Bool, true, refl, ◌∙◌, ap, subst, cond}
use Rattle.std.specs.Prelude.{Ok, codes, Option, Some, None}
use Rattle.std.specs.Str.{str_eq_ignore_ascii_case}
use Rattle.fsrm_model.specs.declared.command.Refusal.TheVariants.{BadLine, InvalidName}
use Rattle.fsrm_model.specs.declared.command.Update.{Update}
use Rattle.fsrm_model.specs.declared.command.Update.TheVariants.{Keep, Matching, All}
use Rattle.fsrm_model.specs.values.Name.{is_name}
use Rattle.fsrm_model.specs.lines.Reading.{known}
use Rattle.fsrm_model.specs.meaning.Spelling.{IsNamed, WritesName}
use Rattle.fsrm_model.specs.lines.TemplateWords.{update_word, update_named, update_from, name_from}
use Rattle.fsrm_base.proofs.Look.{found_passes}
use Rattle.fsrm_model.proofs.lines.LineValues.{AsLine, guarded_line, known_line}
use Rattle.fsrm_model.proofs.lines.ReadLaws.{guarded_ok, guarded_from}
use Rattle.fsrm_model.proofs.lines.ValueLaws.{name_same, known_ok}

-- ---- which derived quotas a change reaches
pub update_writes : (column : ℕ) (text : List ℕ) (update : Update) → update_from column text ≡ Ok update → IsNamed (update_word update) text
update_writes column text update h =
    found_passes (λ update. str_eq_ignore_ascii_case (update_word update) text) (Keep ∷ Matching ∷ All ∷ []) update (known_ok (BadLine column) (update_named text) update h)

-- the words in their order, each of which is the text's or isn't
abbrev by_words : Bool → Bool → Bool → Option Update
by_words none matching all = cond none (Some Keep) (cond matching (Some Matching) (cond all (Some All) None))

named_update : (text : List ℕ) (update : Update) → IsNamed (update_word update) text → update_named text ≡ Some update
named_update text update w =
    ap (λ b. by_words b (str_eq_ignore_ascii_case (codes "matching") text) (str_eq_ignore_ascii_case (codes "all") text)) (name_same (codes "none") (update_word update) text w)
    ∙ (ap (λ b. by_words (str_eq_ignore_ascii_case (codes "none") (update_word update)) b (str_eq_ignore_ascii_case (codes "all") text)) (name_same (codes "matching") (update_word update) text w)
    ∙ (ap (λ b. by_words (str_eq_ignore_ascii_case (codes "none") (update_word update)) (str_eq_ignore_ascii_case (codes "matching") (update_word update)) b) (name_same (codes "all") (update_word update) text w)
    ∙ own update))
  where
    own : (update : Update) → by_words (str_eq_ignore_ascii_case (codes "none") (update_word update)) (str_eq_ignore_ascii_case (codes "matching") (update_word update)) (str_eq_ignore_ascii_case (codes "all") (update_word update)) ≡ Some update
    own Keep = refl
    own Matching = refl
    own All = refl

pub update_reads : (column : ℕ) (text : List ℕ) (update : Update) → IsNamed (update_word update) text → update_from column text ≡ Ok update
update_reads column text update w = ap (known (BadLine column)) (named_update text update w)

pub update_line : (column : ℕ) (text : List ℕ) → AsLine (update_from column text)
update_line column text = known_line (BadLine column) (update_named text) refl

-- ---- a name that is excluded
pub name_writes : (text name : List ℕ) → name_from text ≡ Ok name → WritesName text name
name_writes text name h =
    let named = guarded_ok (is_name text) InvalidName text name h in
    record { text_is = named.1; legal = subst (λ (t : List ℕ). is_name t ≡ true) named.1 named.0 }

pub name_reads : (text name : List ℕ) → WritesName text name → name_from text ≡ Ok name
name_reads text name w = ap name_from w.text_is ∙ guarded_from (is_name name) InvalidName name w.legal

pub name_line : (text : List ℕ) → AsLine (name_from text)
name_line text = guarded_line (is_name text) InvalidName text refl
