-- The laws of the entries of commands on screens.
use Rattle.std.proofs.Common.{◌≡◌, ℕ, true, Some, refl, arith}
use Rattle.std.specs.Prelude.{option_map}
use Rattle.std.proofs.lemmas.Grind.{common_steps}
use Rattle.fsrm_model.specs.commands.Commands.{kind}
use Rattle.fsrm_model.specs.declared.command.Deed.TheVariants.{Screen}
use Rattle.fsrm_model.specs.declared.command.ScreenDeed.{ScreenDeed}
use Rattle.fsrm_model.specs.declared.command.ScreenDeed.TheVariants.{Add as ScreenAdd, Modify as ScreenModify, Delete as ScreenDelete}
use Rattle.record_fields.specs.Formats.{truth, optional, ◌⊗◌}
use Rattle.record_fields.specs.Laws.{Places}
use Rattle.record_fields.proofs.FollowedLaws.{◌also◌}
use Rattle.record_fields.proofs.OptionalLaws.{optional_places}
use Rattle.record_fields.proofs.StandingLaws.{shaped_places, truth_places}
use Rattle.record_codec.specs.declared.screens.ScreenKind.{ScreenKind}
use Rattle.record_codec.specs.declared.screens.ScreenKind.TheVariants.{Add as AddKind, Modify as ModifyKind, Delete as DeleteKind}
use Rattle.record_codec.specs.Fields.{object_name, path, action, many, at_least_one}
use Rattle.record_codec.specs.Screens.{screen_kind, screen_code, screen_kind_in, screen_deed, screen_of, screen_values, new_screen, change_of, change_values, screen_change, add_part, modify_part, delete_part}
use Rattle.record_codec.proofs.FieldLaws.{object_name_places, path_places, action_places, many_places, at_least_one_places}
use Rattle.record_codec.proofs.KindLaws.{one_of_places}

-- ---- the bytes of the kinds
pub screen_home : (n : ℕ) (k : ScreenKind) → screen_kind n ≡ Some k → screen_code k ≡ n
screen_home = grind (arith, common_steps)

-- ---- their values
new_screen_places : Places new_screen
new_screen_places =
    shaped_places screen_of screen_values (path ⊗ truth ⊗ at_least_one object_name ⊗ many action)
    (path_places also truth_places also at_least_one_places object_name object_name_places also many_places action action_places) (λ n. refl) (λ v. refl)

screen_change_places : Places screen_change
screen_change_places =
    shaped_places change_of change_values (path ⊗ optional truth ⊗ many object_name ⊗ many object_name)
    (path_places also optional_places truth truth_places also many_places object_name object_name_places also many_places object_name object_name_places) (λ n. refl) (λ v. refl)

pub screen_deed_places : (k : ScreenKind) → Places (screen_deed k)
screen_deed_places AddKind = one_of_places ScreenAdd add_part new_screen new_screen_places (λ v. refl) (grind (arith, common_steps))
screen_deed_places ModifyKind = one_of_places ScreenModify modify_part screen_change screen_change_places (λ v. refl) (grind (arith, common_steps))
screen_deed_places DeleteKind = one_of_places (λ p. ScreenDelete p) delete_part path path_places (λ v. refl) (grind (arith, common_steps))

-- each value is of its kind alone
pub screen_own : (k : ScreenKind) (deed : ScreenDeed) → (screen_deed k).legal deed ≡ true → screen_kind_in deed ≡ Some k
screen_own = grind (arith, common_steps)

-- ---- the machine's own kinds
pub screen_numbered : (deed : ScreenDeed) → kind (Screen deed) ≡ option_map screen_code (screen_kind_in deed)
screen_numbered = grind (arith, common_steps)
