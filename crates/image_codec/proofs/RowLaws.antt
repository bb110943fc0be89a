-- The laws of the rows of an image, and of the image.
use Rattle.std.proofs.Common.{◌≡◌, true, List, [], ◌∷◌, Some, refl, sym, ap, ◌∙◌}
use Rattle.fsrm_base.proofs.TestLaws.{both}
use Rattle.fsrm_model.specs.declared.row.Rows.{Rows}
use Rattle.fsrm_model.specs.store.Valid.{is_empty}
use Rattle.record_fields.specs.Formats.{Format, number, text, truth, ◌⊗◌, optional}
use Rattle.record_fields.specs.Laws.{Places}
use Rattle.record_fields.proofs.FollowedLaws.{◌also◌}
use Rattle.record_fields.proofs.ListLaws.{listed_places}
use Rattle.record_fields.proofs.NumberLaws.{width_2, width_4, width_8, number_places}
use Rattle.record_fields.proofs.OptionalLaws.{optional_places}
use Rattle.record_fields.proofs.StandingLaws.{shaped_places, standing_places, truth_places}
use Rattle.record_fields.proofs.TextLaws.{text_places}
use Rattle.record_codec.proofs.FieldLaws.{action_kind_places, report_kind_places}
use Rattle.record_codec.specs.Fields.{action_kind, report_kind}
use Rattle.image_codec.specs.Choices.{minutes, state}
use Rattle.image_codec.specs.Images.{image, rows_of, rows_values, has_no_scan, RowsValues}
use Rattle.image_codec.specs.Rows.{rows, node, node_of, node_values, action, action_of, action_values, threshold, threshold_of, threshold_values, quota, quota_of, quota_values, template, template_of, template_values, auto, auto_of, auto_values, group, group_of, group_values, screen, screen_of, screen_values, except, except_of, except_values, filter, filter_of, filter_values, job, job_of, job_values, act, act_of, act_values, audit, audit_of, audit_values}
use Rattle.image_codec.proofs.ChoiceLaws.{minutes_places, state_places}

two : Places (number 2)
two = number_places 2 width_2

four : Places (number 4)
four = number_places 4 width_4

eight : Places (number 8)
eight = number_places 8 width_8

pub rows_places : {X : Type 0} (f : Format X) → Places f → Places (rows f)
rows_places f law = listed_places (number 4) f four law

pub node_places : Places node
node_places =
    shaped_places node_of node_values (number 4 ⊗ number 4 ⊗ text ⊗ truth ⊗ number 8 ⊗ number 4 ⊗ number 8 ⊗ number 8 ⊗ number 8)
    (four also four also text_places also truth_places also eight also four also eight also eight also eight) (λ r. refl) (λ v. refl)

pub action_places : Places action
action_places =
    shaped_places action_of action_values (action_kind ⊗ minutes ⊗ text ⊗ optional (number 8))
    (action_kind_places also minutes_places also text_places also optional_places (number 8) eight) (λ r. refl) (λ v. refl)

pub threshold_places : Places threshold
threshold_places = shaped_places threshold_of threshold_values (number 2 ⊗ rows action) (two also rows_places action action_places) (λ r. refl) (λ v. refl)

pub quota_places : Places quota
quota_places =
    shaped_places quota_of quota_values (number 4 ⊗ number 8 ⊗ truth ⊗ state ⊗ rows threshold ⊗ optional (number 4) ⊗ number 8 ⊗ number 8)
    (four also eight also truth_places also state_places also rows_places threshold threshold_places also optional_places (number 4) four also eight also eight) (λ r. refl) (λ v. refl)

pub template_places : Places template
template_places =
    shaped_places template_of template_values (number 4 ⊗ text ⊗ number 8 ⊗ truth ⊗ rows threshold)
    (four also text_places also eight also truth_places also rows_places threshold threshold_places) (λ r. refl) (λ v. refl)

pub auto_places : Places auto
auto_places = shaped_places auto_of auto_values (number 4 ⊗ number 4 ⊗ rows text) (four also four also rows_places text text_places) (λ r. refl) (λ v. refl)

pub group_places : Places group
group_places =
    shaped_places group_of group_values (number 4 ⊗ text ⊗ rows text ⊗ rows text)
    (four also text_places also rows_places text text_places also rows_places text text_places) (λ r. refl) (λ v. refl)

pub screen_places : Places screen
screen_places =
    shaped_places screen_of screen_values (number 4 ⊗ truth ⊗ rows (number 4) ⊗ rows action)
    (four also truth_places also rows_places (number 4) four also rows_places action action_places) (λ r. refl) (λ v. refl)

pub except_places : Places except
except_places = shaped_places except_of except_values (number 4 ⊗ rows (number 4)) (four also rows_places (number 4) four) (λ r. refl) (λ v. refl)

pub filter_places : Places filter
filter_places =
    shaped_places filter_of filter_values (optional (number 4) ⊗ optional text ⊗ optional (number 8) ⊗ optional (number 4) ⊗ optional (number 4) ⊗ number 4)
    (optional_places (number 4) four also optional_places text text_places also optional_places (number 8) eight also optional_places (number 4) four also optional_places (number 4) four also four) (λ r. refl) (λ v. refl)

pub job_places : Places job
job_places =
    shaped_places job_of job_values (number 4 ⊗ text ⊗ report_kind ⊗ number 4 ⊗ filter ⊗ text ⊗ number 8 ⊗ optional (number 8))
    (four also text_places also report_kind_places also four also filter_places also text_places also eight also optional_places (number 8) eight) (λ r. refl) (λ v. refl)

pub act_places : Places act
act_places = shaped_places act_of act_values (number 8 ⊗ number 4 ⊗ number 2 ⊗ action_kind) (eight also four also two also action_kind_places) (λ r. refl) (λ v. refl)

pub audit_places : Places audit
audit_places =
    shaped_places audit_of audit_values (number 8 ⊗ truth ⊗ number 4 ⊗ number 4 ⊗ number 4 ⊗ text)
    (eight also truth_places also four also four also four also text_places) (λ r. refl) (λ v. refl)

-- ---- the image
none_left : {X : Type 0} (xs : List X) → is_empty xs ≡ true → [] ≡ xs
none_left [] e = refl
none_left (x ∷ xs) e = absurd (cc e)

image_there : (R : Rows) → has_no_scan R ≡ true → Some (rows_of (rows_values R)) ≡ Some R
image_there R may =
    let none = both (is_empty R.queue) (is_empty R.unvisited) may in
    ap (λ q. Some (record (rows_of (rows_values R)) { queue = q })) (none_left R.queue none.0)
    ∙ ap (λ u. Some (record R { unvisited = u })) (none_left R.unvisited none.1)

some_same : {X : Type 0} (x y : X) → Some x ≡ Some y → x ≡ y
some_same x y e = cc

image_home : (v : RowsValues) (R : Rows) → Some (rows_of v) ≡ Some R → (has_no_scan R ≡ true) × (rows_values R ≡ v)
image_home v R e = let same : rows_of v ≡ R = some_same (rows_of v) R e in (ap has_no_scan (sym same), ap rows_values (sym same))

pub image_places : Places image
image_places =
    standing_places (λ v. Some (rows_of v)) rows_values has_no_scan
    (number 8 ⊗ number 4 ⊗ rows node ⊗ rows quota ⊗ rows template ⊗ rows auto ⊗ rows group ⊗ rows screen ⊗ rows except ⊗ rows job ⊗ rows act ⊗ rows audit)
    (eight also four also rows_places node node_places also rows_places quota quota_places also rows_places template template_places also rows_places auto auto_places
    also rows_places group group_places also rows_places screen screen_places also rows_places except except_places also rows_places job job_places
    also rows_places act act_places also rows_places audit audit_places)
    image_there image_home (λ v legal. (rows_of v, refl))
