-- A value of each form is read exactly as it is written, and refused only as a line is.
use Rattle.std.proofs.Common.{◌≡◌, ℕ, List, true, refl, sym, ◌∙◌, ap, subst}
use Rattle.std.specs.Prelude.{Ok, ◌==◌, bytes_eq}
use Rattle.std.proofs.lemmas.Slice.Eq.{bytes_eq-Decides}
use Rattle.fsrm_model.specs.texts.ActionWords.{action_from, notice_from}
use Rattle.fsrm_model.specs.texts.ReportWords.{report_from, pattern_from, schedule_from}
use Rattle.fsrm_model.specs.lines.ValueForms.{ValueForm, PathForm, LimitForm, NumberForm, ChoiceForm, UpdateForm, ObjectForm, NameForm, MembersForm, NonMembersForm, NoticeForm, ActionForm, ReportForm, PatternForm, ScheduleForm, Value, PathValue, NumberValue, ChoiceValue, UpdateValue, TextValue, TextsValue, NoticeValue, ActionValue, ReportValue, value_from, same_form}
use Rattle.fsrm_model.specs.lines.GroupWords.{object_from, patterns_from, non_members_from}
use Rattle.fsrm_model.specs.lines.Reading.{Read, ◌>>=◌, number_from, path_from, limit_from, choice_from}
use Rattle.fsrm_model.specs.meaning.Spelling.{WritesValue}
use Rattle.fsrm_model.specs.lines.TemplateWords.{update_from, name_from}
use Rattle.fsrm_base.proofs.TestLaws.{both, both_true, eq_is, eq_same}
use Rattle.fsrm_model.proofs.lines.ActionLaws.{action_writes, action_reads, action_line, notice_writes, notice_reads, notice_line}
use Rattle.fsrm_model.proofs.lines.GroupWordLaws.{object_writes, object_reads, object_line, patterns_writes, patterns_reads, patterns_line, non_members_writes, non_members_reads, non_members_line}
use Rattle.fsrm_model.proofs.lines.LineValues.{AsLine, then_line, number_line, path_line, limit_line, choice_line}
use Rattle.fsrm_model.proofs.lines.PathLaws.{path_writes, path_reads}
use Rattle.fsrm_model.proofs.lines.ReadLaws.{then_ok, both_ok, number_writes, number_reads}
use Rattle.fsrm_model.proofs.lines.ReportWordLaws.{report_writes, report_reads, report_line, pattern_writes, pattern_reads, pattern_line, schedule_writes, schedule_reads, schedule_line}
use Rattle.fsrm_model.proofs.lines.TemplateWordLaws.{update_writes, update_reads, update_line, name_writes, name_reads, name_line}
use Rattle.fsrm_model.proofs.lines.ValueLaws.{limit_writes, limit_reads, choice_writes, choice_reads}

-- what is known of each form
pub record IsForm (form : ValueForm) : Type 0 where
  pub writes : (column : ℕ) (text : List ℕ) (value : Value) → value_from form column text ≡ Ok value
      → WritesValue form text value
  pub line : (column : ℕ) (text : List ℕ) → AsLine (value_from form column text)

form_of : {X : Type 0} (form : ValueForm) (read : ℕ → List ℕ → Read X) (make : X → Value)
    → ((column : ℕ) (text : List ℕ) → value_from form column text ≡ (read column text >>= λ x. Ok (make x)))
    → ((column : ℕ) (text : List ℕ) (x : X) → read column text ≡ Ok x → WritesValue form text (make x))
    → ((column : ℕ) (text : List ℕ) → AsLine (read column text)) → IsForm form
form_of form read make is writes line =
    record {
      writes = λ column text value h.
          let x = both_ok (read column text) (λ x. Ok (make x)) value (sym (is column text) ∙ h) in
          let made : make x.0 ≡ value = cc x.2 in
          subst (WritesValue form text) made (writes column text x.0 x.1);
      line = λ column text. subst AsLine (sym (is column text)) (then_line (read column text) (λ x. Ok (make x)) (line column text) (λ x. tt));
    }

pub is_form : (form : ValueForm) → IsForm form
is_form PathForm =
    form_of PathForm (λ column text. path_from text) PathValue (λ column text. refl) (λ column. path_writes) (λ column. path_line)
is_form LimitForm = form_of LimitForm limit_from NumberValue (λ column text. refl) limit_writes limit_line
is_form (NumberForm low high) =
    form_of (NumberForm low high) (number_from low high) NumberValue (λ column text. refl) (number_writes low high) (number_line low high)
is_form (ChoiceForm first second) =
    form_of (ChoiceForm first second) (choice_from first second) ChoiceValue (λ column text. refl) (choice_writes first second) (choice_line first second)
is_form UpdateForm = form_of UpdateForm update_from UpdateValue (λ column text. refl) update_writes update_line
is_form ObjectForm =
    form_of ObjectForm (λ column text. object_from text) TextValue (λ column text. refl) (λ column. object_writes) (λ column. object_line)
is_form NameForm =
    form_of NameForm (λ column text. name_from text) TextValue (λ column text. refl) (λ column. name_writes) (λ column. name_line)
is_form MembersForm =
    form_of MembersForm (λ column text. patterns_from text) TextsValue (λ column text. refl) (λ column. patterns_writes) (λ column. patterns_line)
is_form NonMembersForm =
    form_of NonMembersForm (λ column text. non_members_from text) TextsValue (λ column text. refl) (λ column. non_members_writes) (λ column. non_members_line)
is_form NoticeForm = form_of NoticeForm notice_from NoticeValue (λ column text. refl) notice_writes notice_line
is_form ActionForm = form_of ActionForm action_from ActionValue (λ column text. refl) action_writes action_line
is_form ReportForm = form_of ReportForm report_from ReportValue (λ column text. refl) report_writes report_line
is_form PatternForm =
    form_of PatternForm (λ column text. pattern_from text) TextValue (λ column text. refl) (λ column. pattern_writes) (λ column. pattern_line)
is_form ScheduleForm =
    form_of ScheduleForm (λ column text. schedule_from text) TextValue (λ column text. refl) (λ column. schedule_writes) (λ column. schedule_line)

-- a value that is written is read
pub value_reads : (form : ValueForm) (column : ℕ) (text : List ℕ) (value : Value) → WritesValue form text value
    → value_from form column text ≡ Ok value
value_reads PathForm column text (PathValue path) w =
    then_ok (path_from text) path (λ x. Ok (PathValue x)) (path_reads text path w)
value_reads LimitForm column text (NumberValue limit) w =
    then_ok (limit_from column text) limit (λ x. Ok (NumberValue x)) (limit_reads column text limit w)
value_reads (NumberForm low high) column text (NumberValue n) w =
    then_ok (number_from low high column text) n (λ x. Ok (NumberValue x)) (number_reads low high column text n w)
value_reads (ChoiceForm first second) column text (ChoiceValue picked) w =
    then_ok (choice_from first second column text) picked (λ x. Ok (ChoiceValue x)) (choice_reads first second column text picked w)
value_reads UpdateForm column text (UpdateValue update) w =
    then_ok (update_from column text) update (λ x. Ok (UpdateValue x)) (update_reads column text update w)
value_reads ObjectForm column text (TextValue name) w =
    then_ok (object_from text) name (λ x. Ok (TextValue x)) (object_reads text name w)
value_reads NameForm column text (TextValue name) w =
    then_ok (name_from text) name (λ x. Ok (TextValue x)) (name_reads text name w)
value_reads MembersForm column text (TextsValue patterns) w =
    then_ok (patterns_from text) patterns (λ x. Ok (TextsValue x)) (patterns_reads text patterns w)
value_reads NonMembersForm column text (TextsValue patterns) w =
    then_ok (non_members_from text) patterns (λ x. Ok (TextsValue x)) (non_members_reads text patterns w)
value_reads NoticeForm column text (NoticeValue notice) w =
    then_ok (notice_from column text) notice (λ x. Ok (NoticeValue x)) (notice_reads column text notice w)
value_reads ActionForm column text (ActionValue action) w =
    then_ok (action_from column text) action (λ x. Ok (ActionValue x)) (action_reads column text action w)
value_reads ReportForm column text (ReportValue kind) w =
    then_ok (report_from column text) kind (λ x. Ok (ReportValue x)) (report_reads column text kind w)
value_reads PatternForm column text (TextValue pattern) w =
    then_ok (pattern_from text) pattern (λ x. Ok (TextValue x)) (pattern_reads text pattern w)
value_reads ScheduleForm column text (TextValue schedule) w =
    then_ok (schedule_from text) schedule (λ x. Ok (TextValue x)) (schedule_reads text schedule w)
value_reads form column text value w = absurd w

-- the test of two forms
pub form_same : (a b : ValueForm) → same_form a b ≡ true → a ≡ b
form_same PathForm PathForm h = refl
form_same LimitForm LimitForm h = refl
form_same (NumberForm low high) (NumberForm least most) h =
    let parts = both (low == least) (high == most) h in
    ap (λ (n : ℕ). NumberForm n high) (eq_is low least parts.0) ∙ ap (NumberForm least) (eq_is high most parts.1)
form_same (ChoiceForm first second) (ChoiceForm one other) h =
    let parts = both (bytes_eq first one) (bytes_eq second other) h in
    ap (λ (text : List ℕ). ChoiceForm text second) ((bytes_eq-Decides first one).0 parts.0)
    ∙ ap (ChoiceForm one) ((bytes_eq-Decides second other).0 parts.1)
form_same UpdateForm UpdateForm h = refl
form_same ObjectForm ObjectForm h = refl
form_same NameForm NameForm h = refl
form_same MembersForm MembersForm h = refl
form_same NonMembersForm NonMembersForm h = refl
form_same NoticeForm NoticeForm h = refl
form_same ActionForm ActionForm h = refl
form_same ReportForm ReportForm h = refl
form_same PatternForm PatternForm h = refl
form_same ScheduleForm ScheduleForm h = refl
form_same a b h = absurd (cc h)

pub form_is_itself : (form : ValueForm) → same_form form form ≡ true
form_is_itself PathForm = refl
form_is_itself LimitForm = refl
form_is_itself (NumberForm low high) = both_true (low == low) (high == high) (eq_same low) (eq_same high)
form_is_itself (ChoiceForm first second) =
    both_true (bytes_eq first first) (bytes_eq second second) ((bytes_eq-Decides first first).1 refl) ((bytes_eq-Decides second second).1 refl)
form_is_itself UpdateForm = refl
form_is_itself ObjectForm = refl
form_is_itself NameForm = refl
form_is_itself MembersForm = refl
form_is_itself NonMembersForm = refl
form_is_itself NoticeForm = refl
form_is_itself ActionForm = refl
form_is_itself ReportForm = refl
form_is_itself PatternForm = refl
form_is_itself ScheduleForm = refl
