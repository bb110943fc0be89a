-- Values that have their forms and ranges are legal, and their spellings have the lengths that the definitions count.
use Rattle.std.proofs.Common.{◌≡◌, ℕ, ◌+◌, ◌*◌, ◌<◌, ◌≤◌, ◌^◌, Bool, true, List, [], ◌∷◌, ◌++◌, length, Option, Some, None, refl, sym, ◌∙◌, arith, length-append}
use Rattle.std.specs.Prelude.{◌&&◌, ◌||◌, not, ℤ, pos, negsuc, nat_lt, nat_le, is_none, sum_by, bytes_eq, codes}
use Rattle.std.specs.List.{list_all, flat_map}
use Rattle.std.specs.Str.{is_utf8}
use Rattle.std.proofs.lemmas.Bool.{lt-ltb, ltb-true, leb-true, le-leb}
use Rattle.std.proofs.lemmas.List.Sums.{sum_by-cons}
use Rattle.fsrm_base.proofs.TestLaws.{both, both_true}
use Rattle.fsrm_model.specs.commands.Commands.{is_owner, is_length, are_some_names}
use Rattle.fsrm_model.specs.commands.Entry.{Path, path_bytes, text_bytes, notice_bytes, screen_notice_bytes, counted, optional as optional_bytes}
use Rattle.fsrm_model.specs.declared.command.Added.{Added}
use Rattle.fsrm_model.specs.declared.row.Action.{Action}
use Rattle.fsrm_model.specs.declared.row.ActionKind.{ActionKind}
use Rattle.fsrm_model.specs.declared.row.ActionKind.TheVariants.{Event, Mail, Program, Report}
use Rattle.fsrm_model.specs.objects.Jobs.{is_schedule}
use Rattle.fsrm_model.specs.objects.Quota.{is_limit}
use Rattle.fsrm_model.specs.objects.Thresholds.{is_percent, is_printing, are_minutes, is_action, is_action_text, is_new_action, is_notice}
use Rattle.fsrm_model.specs.store.Valued.{is_path, is_short_path}
use Rattle.fsrm_model.specs.values.Limits.{last_owner, longest_file, least_limit, greatest_limit, greatest_percent, longest_path, longest_name, longest_action_text, longest_schedule, most_minutes, most_patterns, most_excluded}
use Rattle.fsrm_model.specs.values.Name.{is_name, is_name_byte}
use Rattle.fsrm_model.specs.values.Patterns.{is_object_name, is_object_byte, is_pattern, is_pattern_byte, are_members, are_non_members}
use Rattle.record_fields.specs.Formats.{Format, is_within, number_within, text, listed, number_spelled, text_spelled, truth, truth_code, optional_spelled, listed_spelled}
use Rattle.record_codec.specs.Fields.{owner, file_length, limit, percent, minutes, action_kind, action_text, schedule, action, notice, object_name, name, pattern, path, path_text, many, at_least_one, members, non_members, excluded_names}
use Rattle.record_codec.specs.Typed.{all_typed, is_path_text, action_typed, notice_typed}

-- ---- numbers and choices
pub within_legal : (low high n : ℕ) → high < 256 ^ 8 → is_within low high n ≡ true → (number_within 8 low high).legal n ≡ true
within_legal low high n fits inside =
    both_true _ _ (lt-ltb n (256 ^ 8) (omega (arith, fits, leb-true n high (both (nat_le low n) (nat_le n high) inside).1))) inside

pub from_zero : (high n : ℕ) → nat_le n high ≡ true → is_within 0 high n ≡ true
from_zero high n most = both_true _ _ (le-leb 0 n (omega arith)) most

pub owner_legal : (n : ℕ) → is_owner n ≡ true → owner.legal n ≡ true
owner_legal n is = within_legal 1 last_owner n (omega arith) is

pub length_legal : (n : ℕ) → is_length n ≡ true → file_length.legal n ≡ true
length_legal n is = within_legal 0 longest_file n (omega arith) (from_zero longest_file n is)

pub limit_legal : (n : ℕ) → is_limit n ≡ true → limit.legal n ≡ true
limit_legal n is = within_legal least_limit greatest_limit n (omega arith) is

pub percent_legal : (n : ℕ) → is_percent n ≡ true → percent.legal n ≡ true
percent_legal n is = within_legal 1 greatest_percent n (omega arith) is

pub truth_legal : (b : Bool) → truth.legal b ≡ true
truth_legal true = refl
truth_legal other = refl

minutes_legal : (m : ℤ) → are_minutes m ≡ true → minutes.legal m ≡ true
minutes_legal (pos n) is = both_true _ _ is (lt-ltb n (256 ^ 8) (omega (arith, leb-true n most_minutes is)))
minutes_legal (negsuc n) is = both_true _ _ is refl

action_kind_legal : (k : ActionKind) → action_kind.legal k ≡ true
action_kind_legal Event = refl
action_kind_legal Mail = refl
action_kind_legal Program = refl
action_kind_legal Report = refl

-- ---- texts
-- what names, patterns and names of objects have in common
abbrev is_text_length : List ℕ → Bool
is_text_length t = nat_lt 0 (length t) && nat_le (length t) longest_name

abbrev is_dots : List ℕ → Bool
is_dots t = bytes_eq t (codes ".") || bytes_eq t (codes "..")

short_text : (t : List ℕ) → is_text_length t ≡ true → is_utf8 t ≡ true → text.legal t ≡ true
short_text t long utf8 =
    let l = both (nat_lt 0 (length t)) (nat_le (length t) longest_name) long in
    both_true _ _ (lt-ltb (length t) 65536 (omega (arith, leb-true _ longest_name l.1))) utf8

pub object_name_legal : (t : List ℕ) → is_object_name t ≡ true → is_utf8 t ≡ true → object_name.legal t ≡ true
object_name_legal t is utf8 = both_true _ _ (short_text t (both (is_text_length t) (list_all is_object_byte t) is).0 utf8) is

pub name_legal : (t : List ℕ) → is_name t ≡ true → is_utf8 t ≡ true → name.legal t ≡ true
name_legal t is utf8 = both_true _ _ (short_text t (both (is_text_length t) (list_all is_name_byte t) (both (is_text_length t && list_all is_name_byte t) (not (is_dots t)) is).0).0 utf8) is

pub pattern_legal : (t : List ℕ) → is_pattern t ≡ true → is_utf8 t ≡ true → pattern.legal t ≡ true
pattern_legal t is utf8 = both_true _ _ (short_text t (both (is_text_length t) (list_all is_pattern_byte t) (both (is_text_length t && list_all is_pattern_byte t) (not (is_dots t)) is).0).0 utf8) is

action_text_legal : (t : List ℕ) → is_action_text t ≡ true → is_utf8 t ≡ true → action_text.legal t ≡ true
action_text_legal t is utf8 =
    let l = both (nat_le (length t) longest_action_text) (list_all is_printing t) is in
    both_true _ _ (both_true _ _ (lt-ltb (length t) 65536 (omega (arith, leb-true _ longest_action_text l.0))) utf8) is

pub schedule_legal : (t : List ℕ) → is_schedule t ≡ true → is_utf8 t ≡ true → schedule.legal t ≡ true
schedule_legal t is utf8 =
    let l = both (nat_le (length t) longest_schedule) (list_all is_printing t) is in
    both_true _ _ (both_true _ _ (lt-ltb (length t) 65536 (omega (arith, leb-true _ longest_schedule l.0))) utf8) is

pub path_legal : (p : Path) → is_path p ≡ true → is_short_path p ≡ true → is_path_text p ≡ true → path.legal p ≡ true
path_legal p names short utf8 =
    both_true _ _ names (both_true _ _ (lt-ltb (length (path_text p)) 65536 (omega (arith, leb-true _ longest_path short))) utf8)

-- a path that is the only one
pub first_path : (p : Path) → list_all is_path (p ∷ []) ≡ true → list_all is_short_path (p ∷ []) ≡ true → is_path_text p ≡ true → path.legal p ≡ true
first_path p names short utf8 = path_legal p (both (is_path p) true names).0 (both (is_short_path p) true short).0 utf8

pub action_legal : (a : Action) → is_new_action a ≡ true → action_typed a ≡ true → action.legal a ≡ true
action_legal a is utf8 =
    let n = both (is_action a) (is_none a.last_run) is in
    let v = both (are_minutes a.minutes) (is_action_text a.text) n.0 in
    both_true _ _ n.1 (both_true _ _ (action_kind_legal a.kind) (both_true _ _ (minutes_legal a.minutes v.0) (action_text_legal a.text v.1 utf8)))

pub notice_legal : (n : Added) → is_notice n ≡ true → notice_typed n ≡ true → notice.legal n ≡ true
notice_legal n is utf8 =
    let v = both (is_percent n.percent) (is_new_action n.action) is in
    both_true _ _ (percent_legal n.percent v.0) (action_legal n.action v.1 utf8)

-- ---- lists and optional values
pub each_legal : {X : Type 0} (f g h : X → Bool) → ((x : X) → f x ≡ true → g x ≡ true → h x ≡ true) → (xs : List X) → list_all f xs ≡ true → list_all g xs ≡ true → list_all h xs ≡ true
each_legal f g h law [] a b = refl
each_legal f g h law (x ∷ xs) a b =
    let p = both (f x) (list_all f xs) a in
    let q = both (g x) (list_all g xs) b in
    both_true _ _ (law x p.0 q.0) (each_legal f g h law xs p.1 q.1)

pub always : {X : Type 0} (xs : List X) → list_all (λ x. true) xs ≡ true
always [] = refl
always (x ∷ xs) = always xs

-- values of three bytes at least are no more than there is room for
triple : {X : Type 0} (test : X → Bool) (bytes : X → ℕ) → ((x : X) → test x ≡ true → 3 ≤ bytes x) → (xs : List X) → list_all test xs ≡ true → 3 * length xs ≤ sum_by bytes xs
triple test bytes law [] all = omega arith
triple test bytes law (x ∷ xs) all =
    let p = both (test x) (list_all test xs) all in
    omega (arith, law x p.0, triple test bytes law xs p.1, sum_by-cons bytes x xs)

pub few : {X : Type 0} (test : X → Bool) (bytes : X → ℕ) → ((x : X) → test x ≡ true → 3 ≤ bytes x) → (xs : List X) → list_all test xs ≡ true → counted bytes xs ≤ 131072 → length xs ≤ 65535
few test bytes law xs all room = let each = triple test bytes law xs all in omega (arith, room, each)

name_bytes : (t : List ℕ) → is_object_name t ≡ true → 3 ≤ text_bytes t
name_bytes t is =
    let l = both (nat_lt 0 (length t)) (nat_le (length t) longest_name) (both (is_text_length t) (list_all is_object_byte t) is).0 in
    omega (arith, ltb-true 0 (length t) l.0)

-- a list whose count is in its range
counted_legal : {X : Type 0} (least most : ℕ) (f : Format X) (xs : List X) → most ≤ 65535 → is_within least most (length xs) ≡ true → list_all f.legal xs ≡ true → (listed (number_within 2 least most) f).legal xs ≡ true
counted_legal least most f xs fits inside each =
    both_true _ _ (both_true _ _ (lt-ltb (length xs) (256 ^ 2) (omega (arith, fits, leb-true (length xs) most (both (nat_le least (length xs)) (nat_le (length xs) most) inside).1))) inside) each

pub many_legal : {X : Type 0} (f : Format X) (xs : List X) → length xs ≤ 65535 → list_all f.legal xs ≡ true → (many f).legal xs ≡ true
many_legal f xs short each = counted_legal 0 65535 f xs (omega arith) (from_zero 65535 (length xs) (le-leb (length xs) 65535 short)) each

from_one : (high n : ℕ) → nat_lt 0 n ≡ true → nat_le n high ≡ true → is_within 1 high n ≡ true
from_one high n least most = both_true _ _ (le-leb 1 n (omega (arith, ltb-true 0 n least))) most

object_names_legal : (ts : List (List ℕ)) → list_all is_object_name ts ≡ true → all_typed is_utf8 ts ≡ true → list_all object_name.legal ts ≡ true
object_names_legal ts are utf8 = each_legal is_object_name is_utf8 object_name.legal object_name_legal ts are utf8

pub names_legal : (ts : List (List ℕ)) → list_all is_object_name ts ≡ true → all_typed is_utf8 ts ≡ true → counted text_bytes ts ≤ 131072 → (many object_name).legal ts ≡ true
names_legal ts are utf8 room = many_legal object_name ts (few is_object_name text_bytes name_bytes ts are room) (object_names_legal ts are utf8)

pub some_names_legal : (ts : List (List ℕ)) → are_some_names ts ≡ true → all_typed is_utf8 ts ≡ true → counted text_bytes ts ≤ 131072 → (at_least_one object_name).legal ts ≡ true
some_names_legal ts are utf8 room =
    let l = both (nat_lt 0 (length ts)) (list_all is_object_name ts) are in
    counted_legal 1 65535 object_name ts (omega arith) (from_one 65535 (length ts) l.0 (le-leb (length ts) 65535 (few is_object_name text_bytes name_bytes ts l.1 room))) (object_names_legal ts l.1 utf8)

patterns_legal : (ts : List (List ℕ)) → list_all is_pattern ts ≡ true → all_typed is_utf8 ts ≡ true → list_all pattern.legal ts ≡ true
patterns_legal ts are utf8 = each_legal is_pattern is_utf8 pattern.legal pattern_legal ts are utf8

pub members_legal : (ts : List (List ℕ)) → are_members ts ≡ true → all_typed is_utf8 ts ≡ true → members.legal ts ≡ true
members_legal ts are utf8 =
    let l = both (nat_lt 0 (length ts) && nat_le (length ts) most_patterns) (list_all is_pattern ts) are in
    let n = both (nat_lt 0 (length ts)) (nat_le (length ts) most_patterns) l.0 in
    counted_legal 1 most_patterns pattern ts (omega arith) (from_one most_patterns (length ts) n.0 n.1) (patterns_legal ts l.1 utf8)

pub non_members_legal : (ts : List (List ℕ)) → are_non_members ts ≡ true → all_typed is_utf8 ts ≡ true → non_members.legal ts ≡ true
non_members_legal ts are utf8 =
    let l = both (nat_le (length ts) most_patterns) (list_all is_pattern ts) are in
    counted_legal 0 most_patterns pattern ts (omega arith) (from_zero most_patterns (length ts) l.0) (patterns_legal ts l.1 utf8)

pub excluded_legal : (ts : List (List ℕ)) → nat_le (length ts) most_excluded ≡ true → list_all is_name ts ≡ true → all_typed is_utf8 ts ≡ true → excluded_names.legal ts ≡ true
excluded_legal ts short are utf8 = counted_legal 0 most_excluded name ts (omega arith) (from_zero most_excluded (length ts) short) (each_legal is_name is_utf8 name.legal name_legal ts are utf8)

-- ---- lengths
pub one_byte : (n : ℕ) → length (number_spelled 1 n) ≡ 1
unfolding number_spelled
one_byte n = refl

pub two_bytes : (n : ℕ) → length (number_spelled 2 n) ≡ 2
unfolding number_spelled
two_bytes n = refl

pub eight_bytes : (n : ℕ) → length (number_spelled 8 n) ≡ 8
unfolding number_spelled
eight_bytes n = refl

-- two fields
pub two : (xs ys : List ℕ) (a b : ℕ) → length xs ≡ a → length ys ≡ b → length (xs ++ ys) ≡ a + b
two xs ys a b first second = omega (arith, length-append xs ys, first, second)

pub text_long : (t : List ℕ) → length (text_spelled t) ≡ text_bytes t
unfolding text_spelled
text_long t = two (number_spelled 2 (length t)) t 2 (length t) (two_bytes (length t)) refl

pub path_long : (p : Path) → length (path.spell p) ≡ path_bytes p
path_long p = text_long (path_text p) ∙ omega arith

each_long : {X : Type 0} (spell : X → List ℕ) (bytes : X → ℕ) → ((x : X) → length (spell x) ≡ bytes x) → (xs : List X) → length (flat_map spell xs) ≡ sum_by bytes xs
each_long spell bytes law [] = refl
each_long spell bytes law (x ∷ xs) = two (spell x) (flat_map spell xs) _ _ (law x) (each_long spell bytes law xs) ∙ sym (sum_by-cons bytes x xs)

pub list_long : {X : Type 0} (spell : X → List ℕ) (bytes : X → ℕ) → ((x : X) → length (spell x) ≡ bytes x) → (xs : List X) → length (listed_spelled (number_spelled 2) spell xs) ≡ counted bytes xs
unfolding listed_spelled
list_long spell bytes law xs = two (number_spelled 2 (length xs)) (flat_map spell xs) 2 _ (two_bytes (length xs)) (each_long spell bytes law xs)

pub option_long : {X : Type 0} (spell : X → List ℕ) (bytes : X → ℕ) → ((x : X) → length (spell x) ≡ bytes x) → (o : Option X) → length (optional_spelled spell o) ≡ optional_bytes bytes o
unfolding optional_spelled
option_long spell bytes law None = one_byte 0 ∙ omega arith
option_long spell bytes law (Some x) = two (number_spelled 1 1) (spell x) 1 _ (one_byte 1) (law x)

pub notice_long : (n : Added) → length (notice.spell n) ≡ notice_bytes n
notice_long n = two _ _ _ _ (eight_bytes n.percent) (two _ _ _ _ (one_byte _) (two _ _ _ _ (eight_bytes _) (text_long n.action.text)))

pub action_long : (a : Action) → length (action.spell a) ≡ screen_notice_bytes a
action_long a = two _ _ _ _ (one_byte _) (two _ _ _ _ (eight_bytes _) (text_long a.text))

pub texts_long : (ts : List (List ℕ)) → length (listed_spelled (number_spelled 2) text_spelled ts) ≡ counted text_bytes ts
texts_long ts = list_long text_spelled text_bytes text_long ts

pub truth_long : (b : Bool) → length (truth.spell b) ≡ 1
truth_long b = one_byte (truth_code b)
