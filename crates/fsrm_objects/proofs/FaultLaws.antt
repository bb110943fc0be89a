-- Which fault is due.
use Rattle.std.proofs.Common.{◌≡◌, ℕ, ◌<◌, ◌==◌, ◌||◌, Bool, true, false, List, ◌∷◌, length, Option, None, refl}
use Rattle.fsrm_model.specs.declared.row.QuotaRow.{QuotaRow}
use Rattle.fsrm_model.specs.declared.row.ScreenRow.{ScreenRow}
use Rattle.fsrm_base.specs.Causes.{◌when◌, first}
use Rattle.fsrm_base.specs.Keyed.{has_row}
use Rattle.fsrm_model.specs.values.Limits.{most_quotas, most_screens}
use Rattle.fsrm_model.specs.objects.Quota.{folder_of}
use Rattle.fsrm_model.specs.objects.Screens.{screen_folder, except_folder}
use Rattle.fsrm_model.specs.objects.Thresholds.{are_too_many}
use Rattle.fsrm_base.proofs.TestLaws.{gt_is}
use Rattle.fsrm_objects.specs.declared.answer.ObjectFault.{ObjectFault}
use Rattle.fsrm_objects.specs.declared.answer.ObjectFault.TheVariants.{AlreadyExists, InvalidCombination, OutOfRange, TableFull}
use Rattle.fsrm_objects.specs.Tables.{Tables, is_long_screen, other_fault, other_screen_fault, quota_fault, screen_fault}

-- if none is due, the first one isn't, nor is one of the rest
none_due : (fault : ObjectFault) (b : Bool) (rest : List (Option ObjectFault)) → first ((fault when b) ∷ rest) ≡ None → (b ≡ false) × (first rest ≡ None)
none_due fault false rest h = (refl, h)
none_due fault true rest h = cc

-- ---- quotas
-- if none is due, the folder has none, no list is too long, and there is a place for one more row
pub record Admitted (tables : Tables) (row : QuotaRow) : Type 0 where
  pub free : has_row folder_of row.folder tables.quotas ≡ false
  pub short : are_too_many row.thresholds ≡ false
  pub few : length tables.quotas < most_quotas

pub admitted : (tables : Tables) (row : QuotaRow) (room : ℕ) → quota_fault tables row room ≡ None → Admitted tables row
admitted tables row room h =
    let taken = none_due AlreadyExists _ _ h in
    let long = none_due OutOfRange _ _ taken.1 in
    record { free = taken.0; short = long.0; few = gt_is _ _ (none_due TableFull _ _ long.1).0 }

-- the same of one in the place of another
pub short_other : (tables : Tables) (row : QuotaRow) (room : ℕ) → other_fault tables row room ≡ None → are_too_many row.thresholds ≡ false
short_other tables row room h = (none_due OutOfRange _ _ h).0

-- ---- screens
-- if no fault is due, the folder has no screen, no list is too long, and there is a place for one more row
pub record ScreenAdmitted (tables : Tables) (row : ScreenRow) : Type 0 where
  pub free : has_row screen_folder row.folder tables.screens ≡ false
  pub short : is_long_screen row ≡ false
  pub few : length tables.screens < most_screens

pub screen_admitted : (tables : Tables) (row : ScreenRow) (room : ℕ) → screen_fault tables row room ≡ None → ScreenAdmitted tables row
screen_admitted tables row room h =
    let taken = none_due AlreadyExists _ _ h in
    let bare = none_due InvalidCombination (has_row except_folder row.folder tables.excepts || (length row.groups == 0)) _ taken.1 in
    let long = none_due OutOfRange _ _ bare.1 in
    record { free = taken.0; short = long.0; few = gt_is _ _ (none_due TableFull _ _ long.1).0 }

-- the same of one in the place of another
pub short_screen : (tables : Tables) (row : ScreenRow) (room : ℕ) → other_screen_fault tables row room ≡ None → is_long_screen row ≡ false
short_screen tables row room h =
    let bare = none_due InvalidCombination (length row.groups == 0) _ h in
    (none_due OutOfRange _ _ bare.1).0
