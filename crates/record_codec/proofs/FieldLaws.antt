-- The laws of the fields of entries.
use Rattle.std.proofs.Common.{◌≡◌, inl, inr, ℕ, ◌-◌, ◌^◌, true, List, [], Option, Some, None, Ok, Err, refl, sym, ap, ◌∙◌, arith}
use Rattle.std.specs.Prelude.{ℤ, pos, negsuc, nat_le, nat_eq, nat_lt, bytes_eq, codes, is_none, length}
use Rattle.std.specs.List.{list_all}
use Rattle.std.proofs.lemmas.Bool.{eqb-true}
use Rattle.std.proofs.lemmas.Str.{is_utf8-from_IsUtf8}
use Rattle.fsrm_base.proofs.TestLaws.{both_true}
use Rattle.std.proofs.lemmas.Slice.Eq.{bytes_eq-Decides}
use Rattle.fsrm_model.specs.declared.row.Action.{Action}
use Rattle.fsrm_model.specs.declared.row.ActionKind.{ActionKind}
use Rattle.fsrm_model.specs.declared.row.ActionKind.TheVariants.{Event, Mail, Program, Report}
use Rattle.fsrm_model.specs.declared.row.ReportKind.{ReportKind}
use Rattle.fsrm_model.specs.declared.row.ReportKind.TheVariants.{LargeFiles, FilesByType, LeastRecentlyAccessed, MostRecentlyAccessed, QuotaUsage, FilesByOwner, DuplicateFiles, FileScreenAudit}
use Rattle.fsrm_model.specs.commands.Entry.{Path}
use Rattle.fsrm_model.specs.lines.Reading.{Read, path_from}
use Rattle.fsrm_model.specs.objects.Jobs.{is_schedule}
use Rattle.fsrm_model.specs.objects.Thresholds.{is_action_text, are_minutes}
use Rattle.fsrm_model.specs.store.Valued.{is_path}
use Rattle.fsrm_model.specs.values.Limits.{latest_moment, last_owner, longest_file, least_limit, greatest_limit, greatest_percent, most_minutes, most_patterns, most_excluded, most_days, most_use, most_rows}
use Rattle.fsrm_model.specs.values.Name.{is_name}
use Rattle.fsrm_model.specs.values.Patterns.{is_object_name, is_pattern}
use Rattle.fsrm_model.proofs.lines.PathLaws.{path_writes, path_reads}
use Rattle.record_fields.specs.Formats.{Format, number, number_within, text, ◌⊗◌}
use Rattle.record_fields.specs.Laws.{Places}
use Rattle.record_fields.proofs.FollowedLaws.{◌also◌}
use Rattle.record_fields.proofs.ListLaws.{listed_places}
use Rattle.record_fields.proofs.NumberLaws.{width_1, width_2, width_8, number_exact, number_field}
use Rattle.record_fields.proofs.StandingLaws.{picked, within_places, standing_places, standing_field_places, shaped_places, tested_field_places}
use Rattle.record_fields.proofs.TextLaws.{text_exact, text_field}
use Rattle.record_codec.specs.Fields.{moment, owner, file_length, limit, percent, run_limit, days, least_use, row_count, folder, minutes, minutes_of, minutes_code, action_kind, action_kind_of, action_kind_code, report_kind, report_kind_of, report_kind_code, object_name, name, pattern, action_text, schedule, path, path_of, path_text, if_read, many, at_least_one, members, non_members, excluded_names, new_action, action_parts, is_new, action_values, action, new_notice, notice_parts, notice}
use Rattle.record_codec.proofs.KindLaws.{chosen}
use Rattle.record_codec.proofs.PathText.{spells, ascii_text}

-- ---- numbers
pub moment_places : Places moment
moment_places = within_places 8 0 latest_moment width_8 (omega arith) (omega arith)

pub owner_places : Places owner
owner_places = within_places 8 1 last_owner width_8 (omega arith) (omega arith)

pub file_length_places : Places file_length
file_length_places = within_places 8 0 longest_file width_8 (omega arith) (omega arith)

pub limit_places : Places limit
limit_places = within_places 8 least_limit greatest_limit width_8 (omega arith) (omega arith)

pub percent_places : Places percent
percent_places = within_places 8 1 greatest_percent width_8 (omega arith) (omega arith)

pub run_limit_places : Places run_limit
run_limit_places = within_places 8 0 most_minutes width_8 (omega arith) (omega arith)

pub days_places : Places days
days_places = within_places 8 0 most_days width_8 (omega arith) (omega arith)

pub least_use_places : Places least_use
least_use_places = within_places 8 0 most_use width_8 (omega arith) (omega arith)

pub row_count_places : Places row_count
row_count_places = within_places 8 1 most_rows width_8 (omega arith) (omega arith)

pub folder_places : Places folder
folder_places = within_places 8 0 (2 ^ 32 - 1) width_8 (omega arith) (omega arith)

minutes_there : (m : ℤ) → are_minutes m ≡ true → minutes_of (minutes_code m) ≡ Some m
minutes_there (pos n) may = rw may refl
minutes_there (negsuc n) may = let z : n ≡ 0 = eqb-true n 0 may in rw z refl

abbrev AreMinutes : ℕ → ℤ → Type 0
AreMinutes n z = (are_minutes z ≡ true) × (minutes_code z ≡ n)

minutes_home : (n : ℕ) (m : ℤ) → minutes_of n ≡ Some m → (are_minutes m ≡ true) × (minutes_code m ≡ n)
minutes_home n m =
    chosen (AreMinutes n) (nat_le n most_minutes) (pos n) m _ (λ e. (e, refl))
    (chosen (AreMinutes n) (nat_eq n (2 ^ 64 - 1)) (negsuc 0) m None (λ e. (refl, sym (eqb-true n (2 ^ 64 - 1) e))) (λ e. absurd (cc e)))

pub minutes_places : Places minutes
minutes_places = standing_field_places minutes_of minutes_code are_minutes (number 8) (number_exact 8 width_8) (number_field 8) minutes_there minutes_home (pos 0) refl refl

action_kind_there : (k : ActionKind) → true ≡ true → action_kind_of (action_kind_code k) ≡ Some k
action_kind_there Event may = refl
action_kind_there Mail may = refl
action_kind_there Program may = refl
action_kind_there Report may = refl

abbrev IsActionKind : ℕ → ActionKind → Type 0
IsActionKind n k = (true ≡ true) × (action_kind_code k ≡ n)

action_kind_home : (n : ℕ) (k : ActionKind) → action_kind_of n ≡ Some k → (true ≡ true) × (action_kind_code k ≡ n)
action_kind_home n k =
    chosen (IsActionKind n) (nat_eq n 1) Event k _ (λ e. (refl, sym (eqb-true n 1 e)))
    (chosen (IsActionKind n) (nat_eq n 2) Mail k _ (λ e. (refl, sym (eqb-true n 2 e)))
    (chosen (IsActionKind n) (nat_eq n 3) Program k _ (λ e. (refl, sym (eqb-true n 3 e)))
    (chosen (IsActionKind n) (nat_eq n 4) Report k None (λ e. (refl, sym (eqb-true n 4 e))) (λ e. absurd (cc e)))))

pub action_kind_places : Places action_kind
action_kind_places = standing_field_places action_kind_of action_kind_code (λ k. true) (number 1) (number_exact 1 width_1) (number_field 1) action_kind_there action_kind_home Event refl refl

report_kind_there : (k : ReportKind) → true ≡ true → report_kind_of (report_kind_code k) ≡ Some k
report_kind_there LargeFiles may = refl
report_kind_there FilesByType may = refl
report_kind_there LeastRecentlyAccessed may = refl
report_kind_there MostRecentlyAccessed may = refl
report_kind_there QuotaUsage may = refl
report_kind_there FilesByOwner may = refl
report_kind_there DuplicateFiles may = refl
report_kind_there FileScreenAudit may = refl

abbrev IsReportKind : ℕ → ReportKind → Type 0
IsReportKind n k = (true ≡ true) × (report_kind_code k ≡ n)

report_kind_home : (n : ℕ) (k : ReportKind) → report_kind_of n ≡ Some k → (true ≡ true) × (report_kind_code k ≡ n)
report_kind_home n k =
    chosen (IsReportKind n) (nat_eq n 1) LargeFiles k _ (λ e. (refl, sym (eqb-true n 1 e)))
    (chosen (IsReportKind n) (nat_eq n 2) FilesByType k _ (λ e. (refl, sym (eqb-true n 2 e)))
    (chosen (IsReportKind n) (nat_eq n 3) LeastRecentlyAccessed k _ (λ e. (refl, sym (eqb-true n 3 e)))
    (chosen (IsReportKind n) (nat_eq n 4) MostRecentlyAccessed k _ (λ e. (refl, sym (eqb-true n 4 e)))
    (chosen (IsReportKind n) (nat_eq n 5) QuotaUsage k _ (λ e. (refl, sym (eqb-true n 5 e)))
    (chosen (IsReportKind n) (nat_eq n 6) FilesByOwner k _ (λ e. (refl, sym (eqb-true n 6 e)))
    (chosen (IsReportKind n) (nat_eq n 7) DuplicateFiles k _ (λ e. (refl, sym (eqb-true n 7 e)))
    (chosen (IsReportKind n) (nat_eq n 8) FileScreenAudit k None (λ e. (refl, sym (eqb-true n 8 e))) (λ e. absurd (cc e)))))))))

pub report_kind_places : Places report_kind
report_kind_places = standing_field_places report_kind_of report_kind_code (λ k. true) (number 1) (number_exact 1 width_1) (number_field 1) report_kind_there report_kind_home LargeFiles refl refl

-- ---- texts
-- some texts that are legal
plain_text : (bytes : List ℕ) → nat_lt (length bytes) 65536 ≡ true → list_all (λ b. nat_lt b 128) bytes ≡ true → text.legal bytes ≡ true
plain_text bytes short all = both_true _ _ short (is_utf8-from_IsUtf8 bytes (ascii_text bytes all))

letter : text.legal (codes "a") ≡ true
letter = plain_text (codes "a") refl refl

pub object_name_places : Places object_name
object_name_places = tested_field_places is_object_name text text_exact text_field (codes "a") letter refl

pub name_places : Places name
name_places = tested_field_places is_name text text_exact text_field (codes "a") letter refl

pub pattern_places : Places pattern
pattern_places = tested_field_places is_pattern text text_exact text_field (codes "a") letter refl

pub action_text_places : Places action_text
action_text_places = tested_field_places is_action_text text text_exact text_field [] (plain_text [] refl refl) refl

pub schedule_places : Places schedule
schedule_places = tested_field_places is_schedule text text_exact text_field [] (plain_text [] refl refl) refl

path_there : (names : Path) → is_path names ≡ true → path_of (path_text names) ≡ Some names
path_there names may =
    let read : path_from (path_text names) ≡ Ok names = path_reads (path_text names) names (record { each = may; volume = codes "D:\\"; volume_is = inl refl; names = inl refl }) in
    spells (path_text names) names read ((bytes_eq-Decides (path_text names) (path_text names)).1 refl)

path_found : (given : List ℕ) (read : Read Path) (names : Path) → path_from given ≡ read → if_read given read ≡ Some names → (is_path names ≡ true) × (path_text names ≡ given)
path_found given (Ok found) names is e =
    elim (picked (bytes_eq given (path_text found)) found names None e) [
      | inl a ↦
          let w = path_writes given found is in
          (ap is_path (sym a.1) ∙ w.each, ap path_text (sym a.1) ∙ sym ((bytes_eq-Decides given (path_text found)).0 a.0))
      | inr b ↦ absurd (cc b.1)
    ]
path_found given (Err refusal) names is e = absurd (cc e)

path_home : (given : List ℕ) (names : Path) → path_of given ≡ Some names → (is_path names ≡ true) × (path_text names ≡ given)
unfolding path_of
path_home given names e = path_found given (path_from given) names refl e

pub path_places : Places path
path_places = standing_field_places path_of path_text is_path text text_exact text_field path_there path_home [] refl (plain_text (path_text []) refl refl)

-- ---- lists
pub many_places : {X : Type 0} (f : Format X) → Places f → Places (many f)
many_places f law = listed_places (number_within 2 0 65535) f (within_places 2 0 65535 width_2 (omega arith) (omega arith)) law

pub at_least_one_places : {X : Type 0} (f : Format X) → Places f → Places (at_least_one f)
at_least_one_places f law = listed_places (number_within 2 1 65535) f (within_places 2 1 65535 width_2 (omega arith) (omega arith)) law

pub members_places : Places members
members_places = listed_places (number_within 2 1 most_patterns) pattern (within_places 2 1 most_patterns width_2 (omega arith) (omega arith)) pattern_places

pub non_members_places : Places non_members
non_members_places = listed_places (number_within 2 0 most_patterns) pattern (within_places 2 0 most_patterns width_2 (omega arith) (omega arith)) pattern_places

pub excluded_names_places : Places excluded_names
excluded_names_places = listed_places (number_within 2 0 most_excluded) name (within_places 2 0 most_excluded width_2 (omega arith) (omega arith)) name_places

-- ---- actions and notifications
never_run : (o : Option ℕ) → is_none o ≡ true → None ≡ o
never_run None e = refl
never_run (Some n) e = absurd (cc e)

action_there : (a : Action) → is_new a ≡ true → Some (new_action (action_parts a)) ≡ Some a
action_there a may = ap (λ (run : Option ℕ). Some (record { kind = a.kind; minutes = a.minutes; text = a.text; last_run = run })) (never_run a.last_run may)

action_home : (v : ActionKind × (ℤ × List ℕ)) (a : Action) → Some (new_action v) ≡ Some a → (is_new a ≡ true) × (action_parts a ≡ v)
action_home v a e = let same : new_action v ≡ a = some_same (new_action v) a e in (ap is_new (sym same), ap action_parts (sym same))
  where
    some_same : {X : Type 0} (x y : X) → Some x ≡ Some y → x ≡ y
    some_same x y e = cc

pub action_places : Places action
action_places = standing_places (λ v. Some (new_action v)) action_parts is_new action_values (action_kind_places also minutes_places also action_text_places) action_there action_home (λ v legal. (new_action v, refl))

pub notice_places : Places notice
notice_places = shaped_places new_notice notice_parts (percent ⊗ action) (percent_places also action_places) (λ n. refl) (λ v. refl)
