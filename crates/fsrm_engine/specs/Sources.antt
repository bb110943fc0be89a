-- The quota of a folder before the options of a command change it.
use Rattle.std.specs.Prelude.{◌≡◌, ℕ, ◌&&◌, is_none, is_some, true, false, Bool, List, Option, MatchOption}
use Rattle.fsrm_model.specs.declared.row.QuotaRow.{QuotaRow}
use Rattle.fsrm_model.specs.declared.row.QuotaState.{QuotaState}
use Rattle.fsrm_model.specs.declared.row.Rows.{Rows}
use Rattle.fsrm_model.specs.commands.QuotaWork.{first_quota, source_of}

-- a template is named that isn't there
abbrev pub is_missing : Rows → Option (List ℕ) → Bool
is_missing R source = is_some source && is_none (source_of R source)

abbrev pub IsFirst : Rows → Option (List ℕ) → ℕ → QuotaState → ℕ → Option QuotaRow → Type 0
IsFirst R source folder state moment first =
    MatchOption first (is_missing R source ≡ true) (λ row. (is_missing R source ≡ false) × (row ≡ first_quota (source_of R source) folder state moment))
