-- Taking away what isn't there changes nothing.
use Rattle.std.proofs.Common.{◌≡◌, ℕ, ◌==◌, true, false, List, Option, Some, None, refl, ap, sym, ◌∙◌}
use Rattle.std.specs.Borrow.{Bor}
use Rattle.std.specs.Prelude.{is_some}
use Rattle.std.specs.Option.{option_copied}
use Rattle.fsrm_model.specs.declared.row.QuotaRow.{QuotaRow}
use Rattle.fsrm_model.specs.declared.row.ScreenRow.{ScreenRow}
use Rattle.fsrm_model.specs.declared.row.ExceptRow.{ExceptRow}
use Rattle.fsrm_base.specs.Keyed.{row_of, has_row}
use Rattle.fsrm_model.specs.objects.Quota.{folder_of}
use Rattle.fsrm_model.specs.objects.Screens.{screen_folder, except_folder}
use Rattle.fsrm_base.proofs.Look.{is_some-find, is_some-mapped}
use Rattle.fsrm_base.proofs.EditedRows.{without_absent}
use Rattle.fsrm_objects.specs.Tables.{Tables, without_except, without_quota, without_screen}
use Rattle.quota_usage.specs.declared.change.Counter.{Counter}
use Rattle.quota_usage.specs.Counters.{counted, used_in, without_counter}

-- counters and quotas that are there, and that aren't
counter_test : (counters : List Counter) (n : ℕ) (o : Option ℕ) → o ≡ used_in counters n → has_row counted n counters ≡ is_some o
counter_test counters n o e = sym (ap is_some e ∙ (is_some-mapped (λ (c : Counter). c.bytes) (row_of counted n counters) ∙ is_some-find (λ c. counted c == n) counters))

pub counter_there : (counters : List Counter) (n : ℕ) (o : Option ℕ) → o ≡ used_in counters n → is_some o ≡ true → has_row counted n counters ≡ true
counter_there counters n o e h = counter_test counters n o e ∙ h

pub counter_absent : (counters : List Counter) (n : ℕ) (o : Option ℕ) → o ≡ used_in counters n → is_some o ≡ false → counters ≡ without_counter counters n
counter_absent counters n o e h = sym (without_absent counted n counters (counter_test counters n o e ∙ h))

copied : {X : Type 0} (o : Option (Bor X)) → is_some (option_copied o) ≡ is_some o
copied None = refl
copied (Some x) = refl

pub row_test : {X : Type 0} (key : X → ℕ) (rows : List X) (n : ℕ) (o : Option (Bor X)) → option_copied o ≡ row_of key n rows → has_row key n rows ≡ is_some o
row_test key rows n o e = sym (sym (copied o) ∙ (ap is_some e ∙ is_some-find (λ r. key r == n) rows))

pub quota_there : (quotas : List QuotaRow) (n : ℕ) (o : Option (Bor QuotaRow)) → option_copied o ≡ row_of folder_of n quotas → is_some o ≡ true → has_row folder_of n quotas ≡ true
quota_there quotas n o e h = row_test folder_of quotas n o e ∙ h

pub quota_absent : (tables : Tables) (n : ℕ) (o : Option (Bor QuotaRow)) → option_copied o ≡ row_of folder_of n tables.quotas → is_some o ≡ false → tables ≡ without_quota tables n
quota_absent tables n o e h = ap (λ qs. record tables { quotas = qs }) (sym (without_absent folder_of n tables.quotas (row_test folder_of tables.quotas n o e ∙ h)))

-- and screens and exceptions
pub screen_there : (screens : List ScreenRow) (n : ℕ) (o : Option (Bor ScreenRow)) → option_copied o ≡ row_of screen_folder n screens → is_some o ≡ true → has_row screen_folder n screens ≡ true
screen_there screens n o e h = row_test screen_folder screens n o e ∙ h

pub screen_absent : (tables : Tables) (n : ℕ) (o : Option (Bor ScreenRow)) → option_copied o ≡ row_of screen_folder n tables.screens → is_some o ≡ false → tables ≡ without_screen tables n
screen_absent tables n o e h = ap (λ ss. record tables { screens = ss }) (sym (without_absent screen_folder n tables.screens (row_test screen_folder tables.screens n o e ∙ h)))

pub except_there : (excepts : List ExceptRow) (n : ℕ) (o : Option (Bor ExceptRow)) → option_copied o ≡ row_of except_folder n excepts → is_some o ≡ true → has_row except_folder n excepts ≡ true
except_there excepts n o e h = row_test except_folder excepts n o e ∙ h

pub except_absent : (tables : Tables) (n : ℕ) (o : Option (Bor ExceptRow)) → option_copied o ≡ row_of except_folder n tables.excepts → is_some o ≡ false → tables ≡ without_except tables n
except_absent tables n o e h = ap (λ es. record tables { excepts = es }) (sym (without_absent except_folder n tables.excepts (row_test except_folder tables.excepts n o e ∙ h)))
