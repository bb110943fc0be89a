-- Commands on screens whose values are legal have a spelling, of the length that the definitions count.
use Rattle.std.proofs.Common.{◌≡◌, ℕ, ◌+◌, ◌≤◌, Bool, true, ◌∷◌, [], length, refl, ◌∙◌, arith}
use Rattle.std.specs.Prelude.{◌&&◌, is_some, sum_by}
use Rattle.std.specs.List.{list_all}
use Rattle.std.specs.Option.{option_map_or}
use Rattle.std.specs.Str.{is_utf8}
use Rattle.fsrm_base.proofs.TestLaws.{both, both_true}
use Rattle.fsrm_model.specs.commands.Commands.{form_of_screen, are_some_names, is_new_screen, is_screen_change}
use Rattle.fsrm_model.specs.commands.Entry.{path_bytes, text_bytes, screen_notice_bytes, counted}
use Rattle.fsrm_model.specs.declared.command.NewScreen.{NewScreen}
use Rattle.fsrm_model.specs.declared.command.ScreenChange.{ScreenChange}
use Rattle.fsrm_model.specs.declared.command.ScreenDeed.{ScreenDeed}
use Rattle.fsrm_model.specs.declared.command.ScreenDeed.TheVariants.{Add as ScreenAdd, Modify as ScreenModify, Delete as ScreenDelete}
use Rattle.fsrm_model.specs.objects.Thresholds.{is_new_action}
use Rattle.fsrm_model.specs.store.Valued.{is_path, is_short_path}
use Rattle.fsrm_model.specs.values.Patterns.{is_object_name}
use Rattle.record_fields.specs.Formats.{truth}
use Rattle.record_codec.specs.Fields.{action}
use Rattle.record_codec.specs.Screens.{screen_kind_in, screen_deed, screen_spelled, screen_typed, new_screen, new_screen_typed, screen_change, screen_change_typed}
use Rattle.record_codec.specs.Typed.{is_path_text, all_typed, action_typed}
use Rattle.record_codec.proofs.Legal.{truth_legal, names_legal, some_names_legal, first_path, one_byte, two, path_long, texts_long, list_long, option_long, action_long, truth_long}
use Rattle.record_codec.proofs.NoticeWriting.{actions_legal, truth_given}

new_screen_legal : (new : NewScreen) → list_all is_path (new.path ∷ []) ≡ true → list_all is_short_path (new.path ∷ []) ≡ true → is_new_screen new ≡ true → new_screen_typed new ≡ true
    → counted text_bytes new.groups ≤ 131072 → counted screen_notice_bytes new.actions ≤ 131072 → new_screen.legal new ≡ true
new_screen_legal new names short is typed groups actions =
    let l = both (are_some_names new.groups) (list_all is_new_action new.actions) is in
    let t = both (is_path_text new.path) (all_typed is_utf8 new.groups && all_typed action_typed new.actions) typed in
    let u = both (all_typed is_utf8 new.groups) (all_typed action_typed new.actions) t.1 in
    both_true _ _ (first_path new.path names short t.0) (both_true _ _ (truth_legal new.active)
    (both_true _ _ (some_names_legal new.groups l.0 u.0 groups) (actions_legal new.actions l.1 u.1 actions)))

screen_change_legal : (change : ScreenChange) → list_all is_path (change.path ∷ []) ≡ true → list_all is_short_path (change.path ∷ []) ≡ true → is_screen_change change ≡ true → screen_change_typed change ≡ true
    → counted text_bytes change.removed ≤ 131072 → counted text_bytes change.groups ≤ 131072 → screen_change.legal change ≡ true
screen_change_legal change names short is typed gone come =
    let l = both (list_all is_object_name change.removed) (list_all is_object_name change.groups) is in
    let t = both (is_path_text change.path) (all_typed is_utf8 change.removed && all_typed is_utf8 change.groups) typed in
    let u = both (all_typed is_utf8 change.removed) (all_typed is_utf8 change.groups) t.1 in
    both_true _ _ (first_path change.path names short t.0) (both_true _ _ (truth_given change.active)
    (both_true _ _ (names_legal change.removed l.0 u.0 gone) (names_legal change.groups l.1 u.1 come)))

-- whether a command's values are legal, if it has a kind
abbrev pub screen_is_legal : ScreenDeed → Bool
screen_is_legal deed = option_map_or (λ k. (screen_deed k).legal deed) (screen_kind_in deed) true

-- the bytes of a command after its kind
abbrev pub screen_bytes : ScreenDeed → ℕ
screen_bytes deed = sum_by path_bytes (form_of_screen deed).paths + option_map_or (λ entry. entry.bytes) (form_of_screen deed).entry 0

pub screen_legal : (deed : ScreenDeed) → list_all is_path (form_of_screen deed).paths ≡ true → list_all is_short_path (form_of_screen deed).paths ≡ true → (form_of_screen deed).legal ≡ true → screen_typed deed ≡ true
    → screen_bytes deed ≤ 131072 → screen_is_legal deed ≡ true
screen_legal (ScreenAdd new) names short is typed room = new_screen_legal new names short is typed (omega (arith, room)) (omega (arith, room))
screen_legal (ScreenModify change) names short is typed room = screen_change_legal change names short is typed (omega (arith, room)) (omega (arith, room))
screen_legal (ScreenDelete at) names short is typed room = first_path at names short typed
screen_legal other names short is typed room = refl

pub screen_long : (deed : ScreenDeed) → is_some (screen_kind_in deed) ≡ true → length (screen_spelled deed) ≡ 1 + screen_bytes deed
screen_long (ScreenAdd new) there =
    two _ _ _ _ (one_byte 50) (two _ _ _ _ (path_long new.path) (two _ _ _ _ (truth_long new.active)
    (two _ _ _ _ (texts_long new.groups) (list_long action.spell screen_notice_bytes action_long new.actions)))) ∙ omega arith
screen_long (ScreenModify change) there =
    two _ _ _ _ (one_byte 51) (two _ _ _ _ (path_long change.path) (two _ _ _ _ (option_long truth.spell (λ b. 1) truth_long change.active)
    (two _ _ _ _ (texts_long change.removed) (texts_long change.groups)))) ∙ omega arith
screen_long (ScreenDelete at) there = two _ _ _ _ (one_byte 52) (path_long at) ∙ omega arith
screen_long other there = absurd (cc there)
