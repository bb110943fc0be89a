-- Values that are legal have their forms and ranges.
use Rattle.std.proofs.Common.{◌≡◌, ℕ, Bool, true, false, List, [], ◌∷◌, length, Option, Some, None, refl, arith}
use Rattle.std.specs.Prelude.{◌&&◌, nat_lt, nat_le, is_none, is_some}
use Rattle.std.specs.List.{list_all}
use Rattle.std.specs.Option.{option_map_or}
use Rattle.std.specs.Str.{is_utf8}
use Rattle.std.proofs.lemmas.Bool.{lt-ltb, ltb-true, leb-true, le-leb}
use Rattle.fsrm_base.proofs.TestLaws.{both, both_true}
use Rattle.fsrm_model.specs.commands.Commands.{is_owner, is_length, is_filter, are_some_names, are_new_thresholds}
use Rattle.fsrm_model.specs.commands.Entry.{Path}
use Rattle.fsrm_model.specs.declared.command.Added.{Added}
use Rattle.fsrm_model.specs.declared.command.NewThresholds.{NewThresholds}
use Rattle.fsrm_model.specs.declared.row.Action.{Action}
use Rattle.fsrm_model.specs.declared.row.Filter.{Filter}
use Rattle.fsrm_model.specs.objects.Jobs.{is_schedule}
use Rattle.fsrm_model.specs.objects.Quota.{is_limit}
use Rattle.fsrm_model.specs.objects.Thresholds.{is_percent, are_minutes, is_action_text, is_new_action, is_notice}
use Rattle.fsrm_model.specs.store.Valued.{is_path, is_short_path}
use Rattle.fsrm_model.specs.values.Limits.{last_owner, longest_file, least_limit, greatest_limit, greatest_percent, longest_path, most_patterns, most_excluded, most_days, most_use, most_rows}
use Rattle.fsrm_model.specs.values.Name.{is_name}
use Rattle.fsrm_model.specs.values.Patterns.{is_object_name, is_pattern, are_members, are_non_members}
use Rattle.record_fields.specs.Formats.{Format, is_within, number, number_legal, number_within, text, optional_legal, listed}
use Rattle.record_codec.specs.Fields.{owner, file_length, limit, percent, minutes, minutes_code, action_kind, action_text, action, is_new, action_values, action_parts, notice, object_name, name, pattern, schedule, days, least_use, row_count, path, path_text, many, at_least_one, members, non_members, excluded_names}
use Rattle.record_codec.specs.Filters.{filter}
use Rattle.record_codec.specs.Notices.{new_thresholds}

-- ---- numbers
within_formed : (low high n : ℕ) → (number_within 8 low high).legal n ≡ true → is_within low high n ≡ true
within_formed low high n legal = (both (number_legal 8 n) (is_within low high n) legal).1

pub most_formed : (high n : ℕ) → (number_within 8 0 high).legal n ≡ true → nat_le n high ≡ true
most_formed high n legal = (both (nat_le 0 n) (nat_le n high) (within_formed 0 high n legal)).1

pub owner_formed : (n : ℕ) → owner.legal n ≡ true → is_owner n ≡ true
owner_formed n legal = within_formed 1 last_owner n legal

pub length_formed : (n : ℕ) → file_length.legal n ≡ true → is_length n ≡ true
length_formed n legal = most_formed longest_file n legal

pub limit_formed : (n : ℕ) → limit.legal n ≡ true → is_limit n ≡ true
limit_formed n legal = within_formed least_limit greatest_limit n legal

percent_formed : (n : ℕ) → percent.legal n ≡ true → is_percent n ≡ true
percent_formed n legal = within_formed 1 greatest_percent n legal

-- ---- texts
pub object_name_formed : (t : List ℕ) → object_name.legal t ≡ true → is_object_name t ≡ true
object_name_formed t legal = (both (text.legal t) (is_object_name t) legal).1

name_formed : (t : List ℕ) → name.legal t ≡ true → is_name t ≡ true
name_formed t legal = (both (text.legal t) (is_name t) legal).1

pattern_formed : (t : List ℕ) → pattern.legal t ≡ true → is_pattern t ≡ true
pattern_formed t legal = (both (text.legal t) (is_pattern t) legal).1

pub schedule_formed : (t : List ℕ) → schedule.legal t ≡ true → is_schedule t ≡ true
schedule_formed t legal = (both (text.legal t) (is_schedule t) legal).1

path_formed : (p : Path) → path.legal p ≡ true → (is_path p ≡ true) × (is_short_path p ≡ true)
path_formed p legal =
    let l = both (is_path p) (text.legal (path_text p)) legal in
    let t = both (nat_lt (length (path_text p)) 65536) (is_utf8 (path_text p)) l.1 in
    (l.0, le-leb _ longest_path (omega (arith, ltb-true (length (path_text p)) 65536 t.0)))

-- the paths of a command that has one
pub one_formed : (p : Path) → path.legal p ≡ true → (list_all is_path (p ∷ []) ≡ true) × (list_all is_short_path (p ∷ []) ≡ true)
one_formed p legal = let f = path_formed p legal in (both_true _ _ f.0 refl, both_true _ _ f.1 refl)

pub two_formed : (p q : Path) → path.legal p ≡ true → path.legal q ≡ true → (list_all is_path (p ∷ q ∷ []) ≡ true) × (list_all is_short_path (p ∷ q ∷ []) ≡ true)
two_formed p q first second = let f = path_formed p first in let g = one_formed q second in (both_true _ _ f.0 g.0, both_true _ _ f.1 g.1)

-- ---- actions
action_formed : (a : Action) → action.legal a ≡ true → is_new_action a ≡ true
action_formed a legal =
    let l = both (is_new a) (action_values.legal (action_parts a)) legal in
    let k = both (action_kind.legal a.kind) (minutes.legal a.minutes && action_text.legal a.text) l.1 in
    let v = both (minutes.legal a.minutes) (action_text.legal a.text) k.1 in
    let m = both (are_minutes a.minutes) ((number 8).legal (minutes_code a.minutes)) v.0 in
    both_true _ _ (both_true _ _ m.0 (both (text.legal a.text) (is_action_text a.text) v.1).1) l.0

notice_formed : (n : Added) → notice.legal n ≡ true → is_notice n ≡ true
notice_formed n legal =
    let l = both (percent.legal n.percent) (action.legal n.action) legal in
    both_true _ _ (percent_formed n.percent l.0) (action_formed n.action l.1)

-- ---- lists
each_formed : {X : Type 0} (f g : X → Bool) → ((x : X) → f x ≡ true → g x ≡ true) → (xs : List X) → list_all f xs ≡ true → list_all g xs ≡ true
each_formed f g law [] all = refl
each_formed f g law (x ∷ xs) all = let p = both (f x) (list_all f xs) all in both_true _ _ (law x p.0) (each_formed f g law xs p.1)

count_formed : {X : Type 0} (least most : ℕ) (f : Format X) (xs : List X) → (listed (number_within 2 least most) f).legal xs ≡ true → (nat_le least (length xs) ≡ true) × (nat_le (length xs) most ≡ true) × (list_all f.legal xs ≡ true)
count_formed least most f xs legal =
    let l = both ((number_within 2 least most).legal (length xs)) (list_all f.legal xs) legal in
    let n = both (number_legal 2 (length xs)) (is_within least most (length xs)) l.0 in
    let b = both (nat_le least (length xs)) (nat_le (length xs) most) n.1 in
    (b.0, b.1, l.1)

not_none : (n : ℕ) → nat_le 1 n ≡ true → nat_lt 0 n ≡ true
not_none n least = lt-ltb 0 n (omega (arith, leb-true 1 n least))

pub percents_formed : (xs : List ℕ) → (many percent).legal xs ≡ true → list_all is_percent xs ≡ true
percents_formed xs legal = each_formed percent.legal is_percent percent_formed xs (count_formed 0 65535 percent xs legal).2

notices_formed : (xs : List Added) → (many notice).legal xs ≡ true → list_all is_notice xs ≡ true
notices_formed xs legal = each_formed notice.legal is_notice notice_formed xs (count_formed 0 65535 notice xs legal).2

pub actions_formed : (xs : List Action) → (many action).legal xs ≡ true → list_all is_new_action xs ≡ true
actions_formed xs legal = each_formed action.legal is_new_action action_formed xs (count_formed 0 65535 action xs legal).2

pub thresholds_formed : (new : NewThresholds) → new_thresholds.legal new ≡ true → are_new_thresholds new ≡ true
thresholds_formed new legal =
    let l = both ((many percent).legal new.percents) ((many notice).legal new.notices) legal in
    both_true _ _ (percents_formed new.percents l.0) (notices_formed new.notices l.1)

pub names_formed : (ts : List (List ℕ)) → (many object_name).legal ts ≡ true → list_all is_object_name ts ≡ true
names_formed ts legal = each_formed object_name.legal is_object_name object_name_formed ts (count_formed 0 65535 object_name ts legal).2

pub some_names_formed : (ts : List (List ℕ)) → (at_least_one object_name).legal ts ≡ true → are_some_names ts ≡ true
some_names_formed ts legal =
    let l = count_formed 1 65535 object_name ts legal in
    both_true _ _ (not_none (length ts) l.0) (each_formed object_name.legal is_object_name object_name_formed ts l.2)

pub members_formed : (ts : List (List ℕ)) → members.legal ts ≡ true → are_members ts ≡ true
members_formed ts legal =
    let l = count_formed 1 most_patterns pattern ts legal in
    both_true _ _ (both_true _ _ (not_none (length ts) l.0) l.1) (each_formed pattern.legal is_pattern pattern_formed ts l.2)

pub non_members_formed : (ts : List (List ℕ)) → non_members.legal ts ≡ true → are_non_members ts ≡ true
non_members_formed ts legal =
    let l = count_formed 0 most_patterns pattern ts legal in
    both_true _ _ l.1 (each_formed pattern.legal is_pattern pattern_formed ts l.2)

pub excluded_formed : (ts : List (List ℕ)) → excluded_names.legal ts ≡ true → (nat_le (length ts) most_excluded && list_all is_name ts) ≡ true
excluded_formed ts legal =
    let l = count_formed 0 most_excluded name ts legal in
    both_true _ _ l.1 (each_formed name.legal is_name name_formed ts l.2)

-- ---- optional values
pub given_formed : {X : Type 0} (f : Format X) (test : X → Bool) → ((x : X) → f.legal x ≡ true → test x ≡ true) → (o : Option X) → optional_legal false f o ≡ true → option_map_or test o true ≡ true
given_formed f test law None legal = refl
given_formed f test law (Some x) legal = law x legal

-- a limit, or a template in its place
pub limit_or_formed : (o : Option ℕ) (template : Option (List ℕ)) → optional_legal false limit o ≡ true → optional_legal (is_none o) object_name template ≡ true
    → (option_map_or is_limit o (is_some template) ≡ true) × (option_map_or is_object_name template true ≡ true)
limit_or_formed (Some n) None given legal = (limit_formed n given, refl)
limit_or_formed (Some n) (Some t) given legal = (limit_formed n given, object_name_formed t legal)
limit_or_formed None (Some t) given legal = (refl, object_name_formed t legal)
limit_or_formed None None given legal = absurd (cc legal)

-- ---- what a report is asked for
pub filter_formed : (f : Filter) → filter.legal f ≡ true → is_filter f ≡ true
filter_formed f legal =
    let rest = optional_legal false days f.days && (optional_legal false least_use f.min_use && row_count.legal f.max) in
    let a = both (optional_legal false owner f.owner) (optional_legal false pattern f.pattern && (optional_legal false file_length f.min_size && rest)) legal in
    let b = both (optional_legal false pattern f.pattern) (optional_legal false file_length f.min_size && rest) a.1 in
    let c = both (optional_legal false file_length f.min_size) rest b.1 in
    let d = both (optional_legal false days f.days) (optional_legal false least_use f.min_use && row_count.legal f.max) c.1 in
    let e = both (optional_legal false least_use f.min_use) (row_count.legal f.max) d.1 in
    both_true _ _
    (both_true _ _ (given_formed owner is_owner owner_formed f.owner a.0)
    (both_true _ _ (given_formed pattern is_pattern pattern_formed f.pattern b.0) (given_formed file_length is_length length_formed f.min_size c.0)))
    (both_true _ _ (both_true _ _ (given_formed days _ (most_formed most_days) f.days d.0) (given_formed least_use _ (most_formed most_use) f.min_use e.0))
    (within_formed 1 most_rows f.max e.1))
