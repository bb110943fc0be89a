-- A value that is written is valid, and has hardly more bytes in an entry than its option has in the line.
use Rattle.std.proofs.Common.{◌≡◌, ℕ, ◌+◌, ◌≤◌, ℤ, pos, negsuc, ◌==◌, List, [], ◌∷◌, ◌++◌, Bool, true, length, sym, ◌∙◌, ap, inl, inr, arith}
use Rattle.std.specs.Prelude.{◌&&◌, ◌⊎◌, ◌<◌, codes, sum_by, nat_lt, nat_le, is_none, Some, min}
use Rattle.std.specs.Char.{to_ascii_lowercase}
use Rattle.std.specs.List.{join_with_byte, list_all}
use Rattle.std.proofs.lemmas.Bool.{le-leb, lt-ltb}
use Rattle.std.specs.Str.{str_eq_ignore_ascii_case}
use Rattle.std.proofs.lemmas.List.{length-append, length-map}
use Rattle.std.proofs.lemmas.List.Sums.{sum_by-cons}
use Rattle.std.proofs.Math.Nat.{min-le_right}
use Rattle.fsrm_model.specs.declared.command.Added.{Added}
use Rattle.fsrm_model.specs.declared.row.Action.{Action}
use Rattle.fsrm_model.specs.commands.Entry.{path_length, path_bytes}
use Rattle.fsrm_model.specs.values.Limits.{longest_path, greatest_percent, most_minutes, most_patterns}
use Rattle.fsrm_model.specs.values.Name.{is_name}
use Rattle.fsrm_model.specs.lines.ValueForms.{ValueForm, PathForm, LimitForm, NumberForm, ChoiceForm, UpdateForm, ObjectForm, NameForm, MembersForm, NonMembersForm, NoticeForm, ActionForm, ReportForm, PatternForm, ScheduleForm, Value, PathValue, NumberValue, ChoiceValue, UpdateValue, TextValue, TextsValue, NoticeValue, ActionValue, ReportValue}
use Rattle.fsrm_model.specs.lines.Options.{Key, Given, key_named}
use Rattle.fsrm_model.specs.values.Patterns.{is_object_name, is_pattern, are_members, are_non_members}
use Rattle.fsrm_model.specs.objects.Jobs.{is_schedule}
use Rattle.fsrm_model.specs.objects.Quota.{is_limit}
use Rattle.fsrm_model.specs.meaning.Spelling.{Writes, WritesPath, WritesMinutes, WritesAction, WritesNotice, WritesPatterns, WritesValue}
use Rattle.fsrm_model.specs.objects.Thresholds.{is_percent, are_minutes, is_action_text, is_action, is_new_action, is_notice}
use Rattle.fsrm_model.specs.store.Valued.{is_path, is_short_path}
use Rattle.fsrm_base.proofs.Look.{found_passes}
use Rattle.fsrm_base.proofs.TestLaws.{both_true}
use Rattle.fsrm_model.proofs.lines.ValueLaws.{named_lower}

abbrev pub Path : Type 0
Path = List (List ℕ)

-- a path that a valid command may carry
abbrev pub is_sound_path : Path → Bool
is_sound_path path = is_path path && is_short_path path

-- what is known of a path that so many bytes spell
pub record IsSoundPath (L : ℕ) (path : Path) : Type 0 where
  pub named : is_sound_path path ≡ true
  pub bytes : path_bytes path ≤ L + 2

path_fits : (L : ℕ) (text : List ℕ) (path : Path) → length text ≤ L → WritesPath text path → path_bytes path ≤ L + 2
path_fits L text path fits w = bound (volume_length w.volume_is) w.names
  where
    volume_length : {volume : List ℕ} → (volume ≡ codes "D:\\") ⊎ (volume ≡ codes "d:\\") → length volume ≡ 3
    volume_length (inl e) = ap length e
    volume_length (inr e) = ap length e

    bound : length w.volume ≡ 3
        → (text ≡ w.volume ++ join_with_byte 92 path) ⊎ ((0 < length path) × (text ≡ w.volume ++ (join_with_byte 92 path ++ 92 ∷ [])))
        → path_bytes path ≤ L + 2
    bound three (inl e) = omega (arith, fits, three, ap length e, length-append w.volume (join_with_byte 92 path))
    bound three (inr e) =
        omega (arith, fits, three, ap length e.1, length-append w.volume (join_with_byte 92 path ++ 92 ∷ []), length-append (join_with_byte 92 path) (92 ∷ []))

pub path_sound : (L : ℕ) (text : List ℕ) (path : Path) → length text ≤ L → L ≤ longest_path → WritesPath text path
    → IsSoundPath L path
path_sound L text path fits short w =
    let bytes = path_fits L text path fits w in
    record {
      named = both_true (is_path path) (is_short_path path) w.each (le-leb (path_length path) longest_path (omega (arith, bytes, short)));
      bytes = bytes;
    }

pub within : (low high : ℕ) (text : List ℕ) (n : ℕ) → Writes low high text n → (nat_le low n && nat_le n high) ≡ true
within low high text n w = both_true (nat_le low n) (nat_le n high) (le-leb low n w.least) (le-leb n high w.most)

-- what is known of a value of a form
abbrev pub IsSoundValue : ValueForm → Value → Type 0
IsSoundValue PathForm (PathValue path) = is_sound_path path ≡ true
IsSoundValue LimitForm (NumberValue limit) = is_limit limit ≡ true
IsSoundValue (NumberForm low high) (NumberValue n) = (nat_le low n && nat_le n high) ≡ true
IsSoundValue (ChoiceForm first second) (ChoiceValue picked) = Unit {0}
IsSoundValue UpdateForm (UpdateValue update) = Unit {0}
IsSoundValue ObjectForm (TextValue name) = is_object_name name ≡ true
IsSoundValue NameForm (TextValue name) = is_name name ≡ true
IsSoundValue MembersForm (TextsValue patterns) = are_members patterns ≡ true
IsSoundValue NonMembersForm (TextsValue patterns) = are_non_members patterns ≡ true
IsSoundValue NoticeForm (NoticeValue notice) = is_notice notice ≡ true
IsSoundValue ActionForm (ActionValue action) = is_new_action action ≡ true
IsSoundValue ReportForm (ReportValue kind) = Unit {0}
IsSoundValue PatternForm (TextValue pattern) = is_pattern pattern ≡ true
IsSoundValue ScheduleForm (TextValue schedule) = is_schedule schedule ≡ true
IsSoundValue form other = ⊥

abbrev pub IsSoundGiven : Given → Type 0
IsSoundGiven given = IsSoundValue given.key.form given.value

-- the bytes of texts, without those of their lengths
abbrev pub lengths : List (List ℕ) → ℕ
lengths texts = sum_by length texts

-- so many bytes, or as many as the option's name and its colon have if those are fewer
abbrev pub name_pays : Key → ℕ → ℕ
name_pays key n = min n (length key.name + 1)

-- The bytes of a value in an entry, without those of the lengths of patterns. A value of one byte has none here
abbrev pub weight : Key → Value → ℕ
weight key (PathValue path) = name_pays key 2 + (3 + length (join_with_byte 92 path))
weight key (NumberValue n) = name_pays key 8
weight key (ChoiceValue picked) = 0
weight key (UpdateValue update) = 0
weight key (TextValue text) = name_pays key 2 + length text
weight key (TextsValue texts) = lengths texts
weight key (NoticeValue notice) = name_pays key 16 + (3 + length notice.action.text)
weight key (ActionValue action) = name_pays key 9 + (2 + length action.text)
weight key (ReportValue kind) = 0

abbrev pub weigh : Given → ℕ
weigh given = weight given.key given.value

minutes_sound : (text : List ℕ) (minutes : ℤ) → WritesMinutes text minutes → are_minutes minutes ≡ true
minutes_sound text (pos n) w = le-leb n most_minutes w.most
minutes_sound text (negsuc n) w = ap (λ k. k == 0) w.0

action_sound : (text : List ℕ) (action : Action) → WritesAction text action → is_new_action action ≡ true
action_sound text action w =
    both_true (is_action action) (is_none action.last_run)
    (both_true (are_minutes action.minutes) (is_action_text action.text) (minutes_sound w.minutes action.minutes w.minutes_are) w.legal)
    (ap is_none w.new)

notice_sound : (text : List ℕ) (notice : Added) → WritesNotice text notice → is_notice notice ≡ true
notice_sound text notice w =
    both_true (is_percent notice.percent) (is_new_action notice.action) (within 1 greatest_percent w.percent notice.percent w.percent_is)
    (action_sound w.action notice.action w.action_is)

patterns_sound : (least : ℕ) (text : List ℕ) (patterns : List (List ℕ)) → WritesPatterns least text patterns
    → are_non_members patterns ≡ true
patterns_sound least text patterns w =
    both_true (nat_le (length patterns) most_patterns) (list_all is_pattern patterns) (le-leb (length patterns) most_patterns w.few) w.each

members_sound : (text : List ℕ) (patterns : List (List ℕ)) → WritesPatterns 1 text patterns
    → are_members patterns ≡ true
members_sound text patterns w =
    both_true (nat_lt 0 (length patterns) && nat_le (length patterns) most_patterns) (list_all is_pattern patterns)
    (both_true (nat_lt 0 (length patterns)) (nat_le (length patterns) most_patterns) (lt-ltb 0 (length patterns) (omega (arith, w.some))) (le-leb (length patterns) most_patterns w.few)) w.each

pub value_sound : (form : ValueForm) (text : List ℕ) (value : Value) → length text ≤ longest_path → WritesValue form text value
    → IsSoundValue form value
value_sound PathForm text (PathValue path) short w = (path_sound (length text) text path (omega arith) short w).named
value_sound LimitForm text (NumberValue limit) short w = w.legal
value_sound (NumberForm low high) text (NumberValue n) short w = within low high text n w
value_sound (ChoiceForm first second) text (ChoiceValue picked) short w = tt
value_sound UpdateForm text (UpdateValue update) short w = tt
value_sound ObjectForm text (TextValue name) short w = w.legal
value_sound NameForm text (TextValue name) short w = w.legal
value_sound MembersForm text (TextsValue patterns) short w = members_sound text patterns w
value_sound NonMembersForm text (TextsValue patterns) short w = patterns_sound 0 text patterns w
value_sound NoticeForm text (NoticeValue notice) short w = notice_sound text notice w
value_sound ActionForm text (ActionValue action) short w = action_sound text action w
value_sound ReportForm text (ReportValue kind) short w = tt
value_sound PatternForm text (TextValue pattern) short w = w.legal
value_sound ScheduleForm text (TextValue schedule) short w = w.legal
value_sound form text value short w = absurd w

-- the name of an option has as many bytes, however it is spelled
pub name_length : (keys : List Key) (name : List ℕ) (key : Key) → key_named keys name ≡ Some key
    → length name ≡ length key.name
name_length keys name key h =
    let named = named_lower key.name name (found_passes (λ (key : Key). str_eq_ignore_ascii_case key.name name) keys key h) in
    sym (length-map name to_ascii_lowercase) ∙ (ap length (sym named) ∙ length-map key.name to_ascii_lowercase)

notice_fits : (text : List ℕ) (notice : Added) → WritesNotice text notice → 3 + length notice.action.text ≤ length text
notice_fits text notice w =
    let a = w.action_is in
    omega (arith, ap length w.text_is, length-append w.percent (44 ∷ w.action), ap length a.text_is, length-append a.kind (44 ∷ (a.minutes ++ 44 ∷ notice.action.text)), length-append a.minutes (44 ∷ notice.action.text))

action_fits : (text : List ℕ) (action : Action) → WritesAction text action → length action.text + 2 ≤ length text
action_fits text action w =
    omega (arith, ap length w.text_is, length-append w.kind (44 ∷ (w.minutes ++ 44 ∷ action.text)), length-append w.minutes (44 ∷ action.text))

joined_fits : (texts : List (List ℕ)) → lengths texts ≤ length (join_with_byte 124 texts)
joined_fits [] = omega arith
joined_fits (text ∷ []) = omega (arith, sum_by-cons length text [])
joined_fits (text ∷ next ∷ texts) =
    omega (arith, sum_by-cons length text (next ∷ texts), length-append text (124 ∷ join_with_byte 124 (next ∷ texts)), joined_fits (next ∷ texts))

-- no option has more bytes in an entry than its word has in the line, without those of the lengths of patterns
pub value_fits : (key : Key) (text : List ℕ) (value : Value) → WritesValue key.form text value
    → weight key value ≤ length text + length key.name + 1
value_fits key text value w = by key.form value w
  where
    most : (n : ℕ) → name_pays key n ≤ length key.name + 1
    most n = min-le_right n (length key.name + 1)

    by : (form : ValueForm) (value : Value) → WritesValue form text value
        → weight key value ≤ length text + length key.name + 1
    by PathForm (PathValue path) w =
        omega (arith, path_fits (length text) text path (omega arith) w, most 2)
    by LimitForm (NumberValue limit) w = omega (arith, most 8)
    by (NumberForm low high) (NumberValue n) w = omega (arith, most 8)
    by (ChoiceForm first second) (ChoiceValue picked) w = omega arith
    by UpdateForm (UpdateValue update) w = omega arith
    by ObjectForm (TextValue name) w = omega (arith, ap length w.text_is, most 2)
    by NameForm (TextValue name) w = omega (arith, ap length w.text_is, most 2)
    by MembersForm (TextsValue patterns) w = omega (arith, ap length w.text_is, joined_fits patterns)
    by NonMembersForm (TextsValue patterns) w = omega (arith, ap length w.text_is, joined_fits patterns)
    by NoticeForm (NoticeValue notice) w = omega (arith, notice_fits text notice w, most 16)
    by ActionForm (ActionValue action) w = omega (arith, action_fits text action w, most 9)
    by ReportForm (ReportValue kind) w = omega arith
    by PatternForm (TextValue pattern) w = omega (arith, ap length w.text_is, most 2)
    by ScheduleForm (TextValue schedule) w = omega (arith, ap length w.text_is, most 2)
    by form value w = absurd w
