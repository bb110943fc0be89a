-- Entries of commands on the service as a whole.
use Rattle.std.specs.Prelude.{ℕ, ◌==◌, List, [], ◌++◌, Option, Some, None, if◌then◌else◌}
use Rattle.std.specs.Option.{option_map_or}
use Rattle.fsrm_model.specs.declared.command.AdminDeed.{AdminDeed}
use Rattle.fsrm_model.specs.declared.command.AdminDeed.TheVariants.{Options as AdminOptions}
use Rattle.record_fields.specs.Formats.{Format, number_spelled}
use Rattle.record_codec.specs.declared.settings.SettingKind.{SettingKind}
use Rattle.record_codec.specs.declared.settings.SettingKind.TheVariants.{Options as OptionsKind}
use Rattle.record_codec.specs.Fields.{run_limit}
use Rattle.record_codec.specs.Kinds.{one_of}

abbrev pub setting_kind : ℕ → Option SettingKind
setting_kind n = if n == 35 then Some OptionsKind else None

abbrev pub setting_code : SettingKind → ℕ
setting_code OptionsKind = 35

-- the kind of a deed, if its entry has one
abbrev pub setting_kind_in : AdminDeed → Option SettingKind
setting_kind_in (AdminOptions minutes) = Some OptionsKind
setting_kind_in other = None

abbrev pub options_part : AdminDeed → Option ℕ
options_part (AdminOptions minutes) = Some minutes
options_part other = None

abbrev pub setting_deed : SettingKind → Format AdminDeed
setting_deed OptionsKind = one_of (λ n. AdminOptions n) options_part run_limit

-- a command after its kind, if its entry has one
abbrev pub setting_spelled_as : AdminDeed → SettingKind → List ℕ
setting_spelled_as deed k = number_spelled 1 (setting_code k) ++ (setting_deed k).spell deed

abbrev pub setting_spelled : AdminDeed → List ℕ
setting_spelled deed = option_map_or (setting_spelled_as deed) (setting_kind_in deed) []
