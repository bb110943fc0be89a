-- Commands on auto-apply quotas whose values are legal have a spelling, of the length that the definitions count.
use Rattle.std.proofs.Common.{◌≡◌, ℕ, ◌+◌, Bool, true, ◌∷◌, [], length, refl, ◌∙◌, arith}
use Rattle.std.specs.Prelude.{◌&&◌, nat_le, is_some, sum_by}
use Rattle.std.specs.List.{list_all}
use Rattle.std.specs.Option.{option_map_or}
use Rattle.std.specs.Str.{is_utf8}
use Rattle.fsrm_base.proofs.TestLaws.{both, both_true}
use Rattle.fsrm_model.specs.commands.Commands.{form_of_autoquota, is_new_autoquota}
use Rattle.fsrm_model.specs.commands.Entry.{path_bytes}
use Rattle.fsrm_model.specs.declared.command.AutoquotaDeed.{AutoquotaDeed}
use Rattle.fsrm_model.specs.declared.command.AutoquotaDeed.TheVariants.{Add as AutoquotaAdd, Delete as AutoquotaDelete}
use Rattle.fsrm_model.specs.declared.command.NewAutoquota.{NewAutoquota}
use Rattle.fsrm_model.specs.store.Valued.{is_path, is_short_path}
use Rattle.fsrm_model.specs.values.Limits.{most_excluded}
use Rattle.fsrm_model.specs.values.Name.{is_name}
use Rattle.fsrm_model.specs.values.Patterns.{is_object_name}
use Rattle.record_codec.specs.Autoquotas.{autoquota_kind_in, autoquota_deed, autoquota_spelled, autoquota_typed, new_autoquota, new_autoquota_typed}
use Rattle.record_codec.specs.Typed.{is_path_text, all_typed}
use Rattle.record_codec.proofs.Legal.{object_name_legal, excluded_legal, first_path, one_byte, two, text_long, path_long, texts_long}

new_autoquota_legal : (new : NewAutoquota) → list_all is_path (new.path ∷ []) ≡ true → list_all is_short_path (new.path ∷ []) ≡ true → is_new_autoquota new ≡ true → new_autoquota_typed new ≡ true → new_autoquota.legal new ≡ true
new_autoquota_legal new names short is typed =
    let l = both (is_object_name new.template) (nat_le (length new.excluded) most_excluded && list_all is_name new.excluded) is in
    let e = both (nat_le (length new.excluded) most_excluded) (list_all is_name new.excluded) l.1 in
    let t = both (is_path_text new.path) (is_utf8 new.template && all_typed is_utf8 new.excluded) typed in
    let u = both (is_utf8 new.template) (all_typed is_utf8 new.excluded) t.1 in
    both_true _ _ (first_path new.path names short t.0) (both_true _ _ (object_name_legal new.template l.0 u.0) (excluded_legal new.excluded e.0 e.1 u.1))

-- whether a command's values are legal, if it has a kind
abbrev pub autoquota_is_legal : AutoquotaDeed → Bool
autoquota_is_legal deed = option_map_or (λ k. (autoquota_deed k).legal deed) (autoquota_kind_in deed) true

-- the bytes of a command after its kind
abbrev pub autoquota_bytes : AutoquotaDeed → ℕ
autoquota_bytes deed = sum_by path_bytes (form_of_autoquota deed).paths + option_map_or (λ entry. entry.bytes) (form_of_autoquota deed).entry 0

pub autoquota_legal : (deed : AutoquotaDeed) → list_all is_path (form_of_autoquota deed).paths ≡ true → list_all is_short_path (form_of_autoquota deed).paths ≡ true → (form_of_autoquota deed).legal ≡ true
    → autoquota_typed deed ≡ true → autoquota_is_legal deed ≡ true
autoquota_legal (AutoquotaAdd new) names short is typed = new_autoquota_legal new names short is typed
autoquota_legal (AutoquotaDelete at) names short is typed = first_path at names short typed
autoquota_legal other names short is typed = refl

pub autoquota_long : (deed : AutoquotaDeed) → is_some (autoquota_kind_in deed) ≡ true → length (autoquota_spelled deed) ≡ 1 + autoquota_bytes deed
autoquota_long (AutoquotaAdd new) there =
    two _ _ _ _ (one_byte 30) (two _ _ _ _ (path_long new.path) (two _ _ _ _ (text_long new.template) (texts_long new.excluded))) ∙ omega arith
autoquota_long (AutoquotaDelete at) there = two _ _ _ _ (one_byte 31) (path_long at) ∙ omega arith
autoquota_long other there = absurd (cc there)
