-- The laws of the entries of commands on the service as a whole.
use Rattle.std.proofs.Common.{◌≡◌, ℕ, ◌+◌, Bool, true, length, Some, refl, ◌∙◌, arith}
use Rattle.std.specs.Prelude.{option_map, is_some, sum_by}
use Rattle.std.specs.Option.{option_map_or}
use Rattle.std.proofs.lemmas.Grind.{common_steps}
use Rattle.fsrm_model.specs.commands.Commands.{kind, form_of_admin}
use Rattle.fsrm_model.specs.commands.Entry.{path_bytes}
use Rattle.fsrm_model.specs.declared.command.AdminDeed.{AdminDeed}
use Rattle.fsrm_model.specs.declared.command.AdminDeed.TheVariants.{Options as AdminOptions}
use Rattle.fsrm_model.specs.declared.command.Deed.TheVariants.{Admin}
use Rattle.fsrm_model.specs.values.Limits.{most_minutes}
use Rattle.record_fields.specs.Laws.{Places}
use Rattle.record_codec.specs.declared.settings.SettingKind.{SettingKind}
use Rattle.record_codec.specs.declared.settings.SettingKind.TheVariants.{Options as OptionsKind}
use Rattle.record_codec.specs.Fields.{run_limit}
use Rattle.record_codec.specs.Settings.{setting_kind, setting_code, setting_kind_in, setting_deed, setting_spelled, options_part}
use Rattle.record_codec.proofs.FieldLaws.{run_limit_places}
use Rattle.record_codec.proofs.KindLaws.{one_of_places}
use Rattle.record_codec.proofs.Legal.{within_legal, from_zero, one_byte, eight_bytes, two}

-- ---- the bytes of the kinds
pub setting_home : (n : ℕ) (k : SettingKind) → setting_kind n ≡ Some k → setting_code k ≡ n
setting_home = grind (arith, common_steps)

-- ---- their values
pub setting_deed_places : (k : SettingKind) → Places (setting_deed k)
setting_deed_places OptionsKind = one_of_places (λ n. AdminOptions n) options_part run_limit run_limit_places (λ v. refl) (grind (arith, common_steps))

-- each value is of its kind alone
pub setting_own : (k : SettingKind) (deed : AdminDeed) → (setting_deed k).legal deed ≡ true → setting_kind_in deed ≡ Some k
setting_own = grind (arith, common_steps)

-- ---- the machine's own kinds
pub setting_numbered : (deed : AdminDeed) → kind (Admin deed) ≡ option_map setting_code (setting_kind_in deed)
setting_numbered = grind (arith, common_steps)

-- ---- what has its forms and ranges is legal, and of the length that the definitions count
abbrev pub setting_is_legal : AdminDeed → Bool
setting_is_legal deed = option_map_or (λ k. (setting_deed k).legal deed) (setting_kind_in deed) true

abbrev pub setting_bytes : AdminDeed → ℕ
setting_bytes deed = sum_by path_bytes (form_of_admin deed).paths + option_map_or (λ entry. entry.bytes) (form_of_admin deed).entry 0

pub setting_legal : (deed : AdminDeed) → (form_of_admin deed).legal ≡ true → setting_is_legal deed ≡ true
setting_legal (AdminOptions minutes) is = within_legal 0 most_minutes minutes (omega arith) (from_zero most_minutes minutes is)
setting_legal other is = refl

pub setting_long : (deed : AdminDeed) → is_some (setting_kind_in deed) ≡ true → length (setting_spelled deed) ≡ 1 + setting_bytes deed
setting_long (AdminOptions minutes) some = two _ _ _ _ (one_byte 35) (eight_bytes minutes) ∙ omega arith
setting_long other some = absurd (cc some)
