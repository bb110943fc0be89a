-- Commands on exceptions whose values are legal have a spelling, of the length that the definitions count.
use Rattle.std.proofs.Common.{◌≡◌, ℕ, ◌+◌, ◌≤◌, Bool, true, ◌∷◌, [], length, refl, ◌∙◌, arith}
use Rattle.std.specs.Prelude.{is_some, sum_by}
use Rattle.std.specs.List.{list_all}
use Rattle.std.specs.Option.{option_map_or}
use Rattle.std.specs.Str.{is_utf8}
use Rattle.fsrm_base.proofs.TestLaws.{both, both_true}
use Rattle.fsrm_model.specs.commands.Commands.{form_of_exception, is_new_exception}
use Rattle.fsrm_model.specs.commands.Entry.{path_bytes, text_bytes, counted}
use Rattle.fsrm_model.specs.declared.command.ExceptionDeed.{ExceptionDeed}
use Rattle.fsrm_model.specs.declared.command.ExceptionDeed.TheVariants.{Add as ExceptionAdd, Delete as ExceptionDelete}
use Rattle.fsrm_model.specs.declared.command.NewException.{NewException}
use Rattle.fsrm_model.specs.store.Valued.{is_path, is_short_path}
use Rattle.record_codec.specs.Exceptions.{exception_kind_in, exception_deed, exception_spelled, exception_typed, new_exception, new_exception_typed}
use Rattle.record_codec.specs.Typed.{is_path_text, all_typed}
use Rattle.record_codec.proofs.Legal.{some_names_legal, first_path, one_byte, two, path_long, texts_long}

new_exception_legal : (new : NewException) → list_all is_path (new.path ∷ []) ≡ true → list_all is_short_path (new.path ∷ []) ≡ true → is_new_exception new ≡ true → new_exception_typed new ≡ true
    → counted text_bytes new.groups ≤ 131072 → new_exception.legal new ≡ true
new_exception_legal new names short is typed room =
    let t = both (is_path_text new.path) (all_typed is_utf8 new.groups) typed in
    both_true _ _ (first_path new.path names short t.0) (some_names_legal new.groups is t.1 room)

-- whether a command's values are legal, if it has a kind
abbrev pub exception_is_legal : ExceptionDeed → Bool
exception_is_legal deed = option_map_or (λ k. (exception_deed k).legal deed) (exception_kind_in deed) true

-- the bytes of a command after its kind
abbrev pub exception_bytes : ExceptionDeed → ℕ
exception_bytes deed = sum_by path_bytes (form_of_exception deed).paths + option_map_or (λ entry. entry.bytes) (form_of_exception deed).entry 0

pub exception_legal : (deed : ExceptionDeed) → list_all is_path (form_of_exception deed).paths ≡ true → list_all is_short_path (form_of_exception deed).paths ≡ true → (form_of_exception deed).legal ≡ true
    → exception_typed deed ≡ true → exception_bytes deed ≤ 131072 → exception_is_legal deed ≡ true
exception_legal (ExceptionAdd new) names short is typed room = new_exception_legal new names short is typed (omega (arith, room))
exception_legal (ExceptionDelete at) names short is typed room = first_path at names short typed
exception_legal other names short is typed room = refl

pub exception_long : (deed : ExceptionDeed) → is_some (exception_kind_in deed) ≡ true → length (exception_spelled deed) ≡ 1 + exception_bytes deed
exception_long (ExceptionAdd new) there = two _ _ _ _ (one_byte 60) (two _ _ _ _ (path_long new.path) (texts_long new.groups)) ∙ omega arith
exception_long (ExceptionDelete at) there = two _ _ _ _ (one_byte 61) (path_long at) ∙ omega arith
exception_long other there = absurd (cc there)
