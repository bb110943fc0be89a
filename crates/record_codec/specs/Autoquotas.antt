-- Entries of commands on auto-apply quotas.
use Rattle.std.specs.Prelude.{ℕ, ◌==◌, ◌&&◌, Bool, true, List, [], ◌++◌, Option, Some, None, if◌then◌else◌}
use Rattle.std.specs.Option.{option_map_or}
use Rattle.std.specs.Str.{is_utf8}
use Rattle.fsrm_model.specs.commands.Entry.{Path}
use Rattle.fsrm_model.specs.declared.command.AutoquotaDeed.{AutoquotaDeed}
use Rattle.fsrm_model.specs.declared.command.AutoquotaDeed.TheVariants.{Add as AutoquotaAdd, Delete as AutoquotaDelete}
use Rattle.fsrm_model.specs.declared.command.NewAutoquota.{NewAutoquota}
use Rattle.record_fields.specs.Formats.{Format, number_spelled, shaped, ◌⊗◌}
use Rattle.record_codec.specs.declared.autoquotas.AutoquotaKind.{AutoquotaKind}
use Rattle.record_codec.specs.declared.autoquotas.AutoquotaKind.TheVariants.{Add as AddKind, Delete as DeleteKind}
use Rattle.record_codec.specs.Fields.{object_name, path, excluded_names}
use Rattle.record_codec.specs.Kinds.{one_of}
use Rattle.record_codec.specs.Typed.{all_typed, is_path_text}

abbrev pub autoquota_kind : ℕ → Option AutoquotaKind
autoquota_kind n = if n == 30 then Some AddKind else if n == 31 then Some DeleteKind else None

abbrev pub autoquota_code : AutoquotaKind → ℕ
autoquota_code AddKind = 30
autoquota_code DeleteKind = 31

-- the kind of a deed, if its entry has one
abbrev pub autoquota_kind_in : AutoquotaDeed → Option AutoquotaKind
autoquota_kind_in (AutoquotaAdd new) = Some AddKind
autoquota_kind_in (AutoquotaDelete at) = Some DeleteKind
autoquota_kind_in other = None

-- ---- a new auto-apply quota
abbrev pub AutoquotaValues : Type 0
AutoquotaValues = Path × (List ℕ × List (List ℕ))

abbrev pub autoquota_of : AutoquotaValues → NewAutoquota
autoquota_of v = record { path = v.0; template = v.1.0; excluded = v.1.1 }

abbrev pub autoquota_values : NewAutoquota → AutoquotaValues
autoquota_values new = (new.path, (new.template, new.excluded))

abbrev pub new_autoquota : Format NewAutoquota
new_autoquota = shaped autoquota_of autoquota_values (path ⊗ object_name ⊗ excluded_names)

-- ---- the values of each kind
abbrev pub add_part : AutoquotaDeed → Option NewAutoquota
add_part (AutoquotaAdd new) = Some new
add_part other = None

abbrev pub delete_part : AutoquotaDeed → Option Path
delete_part (AutoquotaDelete at) = Some at
delete_part other = None

abbrev pub autoquota_deed : AutoquotaKind → Format AutoquotaDeed
autoquota_deed AddKind = one_of AutoquotaAdd add_part new_autoquota
autoquota_deed DeleteKind = one_of (λ p. AutoquotaDelete p) delete_part path

-- a command after its kind, if its entry has one
abbrev pub autoquota_spelled_as : AutoquotaDeed → AutoquotaKind → List ℕ
autoquota_spelled_as deed k = number_spelled 1 (autoquota_code k) ++ (autoquota_deed k).spell deed

abbrev pub autoquota_spelled : AutoquotaDeed → List ℕ
autoquota_spelled deed = option_map_or (autoquota_spelled_as deed) (autoquota_kind_in deed) []

-- ---- its texts
abbrev pub new_autoquota_typed : NewAutoquota → Bool
new_autoquota_typed new = is_path_text new.path && (is_utf8 new.template && all_typed is_utf8 new.excluded)

abbrev pub autoquota_typed : AutoquotaDeed → Bool
autoquota_typed (AutoquotaAdd new) = new_autoquota_typed new
autoquota_typed (AutoquotaDelete at) = is_path_text at
autoquota_typed other = true
