-- The words of templates and auto-apply quotas: which derived quotas a change reaches, and names of folders.
use Rattle.std.specs.Prelude.{ℕ, List, [], ◌∷◌, find, codes, Option}
use Rattle.std.specs.Str.{str_eq_ignore_ascii_case}
use Rattle.fsrm_model.specs.declared.command.Refusal.TheVariants.{BadLine, InvalidName}
use Rattle.fsrm_model.specs.declared.command.Update.{Update}
use Rattle.fsrm_model.specs.declared.command.Update.TheVariants.{Keep, Matching, All}
use Rattle.fsrm_model.specs.values.Name.{is_name}
use Rattle.fsrm_model.specs.lines.Reading.{Read, guarded, known}

abbrev pub update_word : Update → List ℕ
update_word Keep = codes "none"
update_word Matching = codes "matching"
update_word All = codes "all"

-- the update of a word, in letters of either case
abbrev pub update_named : List ℕ → Option Update
update_named text = find (λ update. str_eq_ignore_ascii_case (update_word update) text) (Keep ∷ Matching ∷ All ∷ [])

abbrev pub update_from : ℕ → List ℕ → Read Update
update_from column text = known (BadLine column) (update_named text)

-- the name of a folder or a file
abbrev pub name_from : List ℕ → Read (List ℕ)
name_from text = guarded (is_name text) InvalidName text
