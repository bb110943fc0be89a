-- A line spells only valid commands: their values have their forms and ranges, and an entry has few more bytes than
-- the line.
use Rattle.std.proofs.Common.{◌≡◌, ℕ, ◌+◌, ◌≤◌, ◌<◌, List, [], ◌∷◌, ◌++◌, Bool, true, false, length, refl, sym, ap, subst, inl, inr, arith}
use Rattle.std.specs.Prelude.{◌&&◌, ◌||◌, is_some, if◌then◌else◌, codes, sum_by, nat_lt, nat_le, Option, Some, None, option_map}
use Rattle.std.specs.Char.{is_ascii_digit}
use Rattle.std.specs.List.{AllByRecursion, list_all}
use Rattle.std.specs.Option.{option_map_or}
use Rattle.std.proofs.lemmas.Bool.{le-leb}
use Rattle.std.proofs.lemmas.List.{length-append}
use Rattle.std.proofs.lemmas.List.Sums.{sum_by-cons}
use Rattle.fsrm_model.specs.declared.command.AdminDeed.TheVariants.{List as AdminList, Log as AdminLog}
use Rattle.fsrm_model.specs.declared.command.Command.{Command}
use Rattle.fsrm_model.specs.declared.command.Deed.{Deed}
use Rattle.fsrm_model.specs.declared.command.Deed.TheVariants.{File, Usage, Step, Quota, Admin}
use Rattle.fsrm_model.specs.declared.command.FileOp.TheVariants.{Mkdir, Create, Resize, Touch, Move, Remove}
use Rattle.fsrm_model.specs.declared.command.QuotaDeed.TheVariants.{Delete as QuotaDelete, Scan as QuotaScan, Resetpeak as QuotaResetpeak, List as QuotaList}
use Rattle.fsrm_model.specs.commands.Commands.{paths, has_values, is_owner, is_length, kind, more_bytes}
use Rattle.fsrm_model.specs.commands.Entry.{number_bytes, choice_bytes, text_bytes, path_bytes, optional}
use Rattle.fsrm_model.specs.values.Limits.{latest_moment, longest_file, longest_path, longest_entry, last_owner, most_visits, most_minutes}
use Rattle.fsrm_model.specs.lines.ValueForms.{path_of, number_of, text_of}
use Rattle.fsrm_model.specs.lines.Options.{path_key, limit_key, source_template_key, run_limit_key, Given, one}
use Rattle.fsrm_model.specs.values.Patterns.{is_object_name}
use Rattle.fsrm_model.specs.objects.Quota.{is_limit}
use Rattle.fsrm_model.specs.meaning.Spelling.{Piece, Plain, Quoted, spelled_pieces, text_of_pieces, Writes, SpellsWords, SpellsTool, SpellsPlaced, SpellsDeed, Spells}
use Rattle.fsrm_model.specs.lines.Tools.{Names, ToolCommand, quota_add, quota_modify, quota_list, quota_commands, has_limit, admin_options, admin_commands, dirquota, tools}
use Rattle.fsrm_model.specs.store.Valued.{is_path, is_deed, is_short_path, is_short, is_command}
use Rattle.fsrm_model.specs.store.Valid.{is_moment}
use Rattle.fsrm_model.proofs.lines.CommandLaws.{named_each}
use Rattle.fsrm_base.proofs.TestLaws.{both, both_true, lt_is}
use Rattle.fsrm_model.proofs.lines.SoundValues.{Path, is_sound_path, path_sound, within, IsSoundGiven}
use Rattle.fsrm_model.proofs.lines.GivenOptions.{AreSound, each_sound, numbers_kind, one_sound, maybe_sound}
use Rattle.fsrm_model.proofs.lines.SpelledOptions.{IsSound, one_true, alone, has_path, given_path, given_limit, given_removals, given_percents, given_notices, limit_or, given_source, needed, deed_is, IsSoundCommand, path_sound_command, alone_sound, number_fits, choice_fits, AreSoundCommands}
use Rattle.fsrm_model.proofs.lines.SpelledReports.{storrept_sound}
use Rattle.fsrm_model.proofs.lines.SpelledScreens.{filescrn_sound}
use Rattle.fsrm_model.proofs.lines.SpelledTemplates.{template_commands_sound, auto_commands_sound}

-- A word has no more bytes than are spelled for it, and so the words of a line no more than the line
pieces_fit : (pieces : List Piece) → length (text_of_pieces pieces) ≤ length (spelled_pieces pieces)
pieces_fit [] = omega arith
pieces_fit (Plain byte ∷ pieces) = omega (arith, pieces_fit pieces)
pieces_fit (Quoted bytes ∷ pieces) =
    omega (arith, pieces_fit pieces, length-append bytes (text_of_pieces pieces), length-append bytes (34 ∷ spelled_pieces pieces))

words_fit : (line : List ℕ) (words : List (List ℕ)) → SpellsWords line words → sum_by length words ≤ length line
words_fit line [] s = omega arith
words_fit line (text ∷ texts) s =
    let whole = ap length s.3 in
    let word : length text ≤ length s.1 = subst (λ (n : ℕ). n ≤ length s.1) (sym (ap length s.5.text_is)) (subst (λ (n : ℕ). length (text_of_pieces s.5.pieces) ≤ n) (sym (ap length s.5.spelling_is)) (pieces_fit s.5.pieces)) in
    omega (arith, whole, word, length-append s.0 (s.1 ++ s.2), length-append s.1 s.2, sum_by-cons length text texts, words_fit s.2 texts s.7)

placed_sound : (words : List (List ℕ)) (d : Deed) → sum_by length words ≤ longest_path → SpellsPlaced words d → IsSound (sum_by length words) d
placed_sound words (File (Mkdir path owner)) few s =
    let size : sum_by length words ≡ 0 + length s.0 + length s.1 + length s.2 = ap (sum_by length) s.3 in
    let p = path_sound (length s.1) s.1 path (omega arith) (omega (arith, size, few)) s.5 in
    record { valued = both_true (is_sound_path path && true) (is_owner owner) (one_true (is_sound_path path) p.named) (within 1 last_owner s.2 owner s.6); bytes = omega (arith, size, p.bytes) }
placed_sound words (File (Create path bytes owner)) few s =
    let size : sum_by length words ≡ 0 + length s.0 + length s.1 + length s.2 + length s.3 = ap (sum_by length) s.4 in
    let p = path_sound (length s.1) s.1 path (omega arith) (omega (arith, size, few)) s.6 in
    record {
      valued = both_true (is_sound_path path && true) (is_length bytes && is_owner owner) (one_true (is_sound_path path) p.named) (both_true (is_length bytes) (is_owner owner) (le-leb bytes longest_file s.7.most) (within 1 last_owner s.3 owner s.8));
      bytes = omega (arith, size, p.bytes);
    }
placed_sound words (File (Resize path bytes)) few s =
    let size : sum_by length words ≡ 0 + length s.0 + length s.1 + length s.2 = ap (sum_by length) s.3 in
    let p = path_sound (length s.1) s.1 path (omega arith) (omega (arith, size, few)) s.5 in
    record { valued = both_true (is_sound_path path && true) (is_length bytes) (one_true (is_sound_path path) p.named) (le-leb bytes longest_file s.6.most); bytes = omega (arith, size, p.bytes) }
placed_sound words (File (Touch path)) few s =
    let size : sum_by length words ≡ 0 + length s.0 + length s.1 = ap (sum_by length) s.2 in
    alone (File (Touch path)) path (sum_by length words) refl refl refl (path_sound (sum_by length words) s.1 path (omega (arith, size)) few s.4)
placed_sound words (File (Move from to)) few s =
    let size : sum_by length words ≡ 0 + length s.0 + length s.1 + length s.2 = ap (sum_by length) s.3 in
    let p = path_sound (length s.1) s.1 from (omega arith) (omega (arith, size, few)) s.5 in
    let q = path_sound (length s.2) s.2 to (omega arith) (omega (arith, size, few)) s.6 in
    record { valued = one_true (is_sound_path from && (is_sound_path to && true)) (both_true (is_sound_path from) (is_sound_path to && true) p.named (one_true (is_sound_path to) q.named)); bytes = omega (arith, size, p.bytes, q.bytes) }
placed_sound words (File (Remove path)) few s =
    let size : sum_by length words ≡ 0 + length s.0 + length s.1 = ap (sum_by length) s.2 in
    alone (File (Remove path)) path (sum_by length words) refl refl refl (path_sound (sum_by length words) s.1 path (omega (arith, size)) few s.4)
placed_sound words (Usage path) few s =
    let size : sum_by length words ≡ 0 + length s.0 + length s.1 = ap (sum_by length) s.2 in
    alone (Usage path) path (sum_by length words) refl refl refl (path_sound (sum_by length words) s.1 path (omega (arith, size)) few s.4)
placed_sound words (Step n) few s = record { valued = within 1 most_visits s.1 n s.4; bytes = omega arith }
placed_sound words other few s = absurd s

given_run_limit : (given : List Given) (minutes : ℕ) → AllByRecursion IsSoundGiven given
    → one number_of run_limit_key given ≡ Some minutes → nat_le minutes most_minutes ≡ true
given_run_limit given minutes s e =
    (both (nat_le 0 minutes) (nat_le minutes most_minutes) (one_sound number_of numbers_kind run_limit_key given minutes s e)).1

source_or : (given : List Given) → AllByRecursion IsSoundGiven given
    → option_map_or is_object_name (one text_of source_template_key given) true ≡ true
source_or given s =
    maybe_sound is_object_name (one text_of source_template_key given) (λ name e. given_source given name s e)

source_fits : (o : Option (List ℕ)) → optional text_bytes o ≤ 1 + option_map_or text_bytes o 0
source_fits None = omega arith
source_fits (Some name) = omega arith

-- a limit that may be left out where a template is given
limit_or_source : (given : List Given) (o : Option ℕ) (source : Option (List ℕ)) → AllByRecursion IsSoundGiven given
    → one number_of limit_key given ≡ o → (is_some o || is_some source) ≡ true
    → option_map_or is_limit o (is_some source) ≡ true
limit_or_source given None source s e h = h
limit_or_source given (Some limit) source s e h = given_limit given limit s e

chosen : (test : Bool) (o : Option Deed) (d : Deed) → (if test then o else None) ≡ Some d → (test ≡ true) × (o ≡ Some d)
chosen true o d h = (refl, h)
chosen false o d h = absurd (cc h)

add_sound : IsSoundCommand (codes "add", quota_add)
add_sound =
    record {
      sound = λ L given d s h.
          let path = needed path_of path_key given _ d h in
          let picked = chosen (has_limit given) _ d path.2 in
          let p = has_path L given path.0 s path.1 in
          let limit = limit_or_source given (one number_of limit_key given) (one text_of source_template_key given) s.each refl picked.0 in
          subst (IsSound L) (deed_is picked.1) (record {
            valued = rw (p.named, limit, source_or given s.each, given_percents given s.each, given_notices given s.each) refl;
            bytes = omega (arith, p.bytes, number_fits, choice_fits, source_fits);
          });
    }

modify_sound : IsSoundCommand (codes "modify", quota_modify)
modify_sound =
    record {
      sound = λ L given d s h.
          let path = needed path_of path_key given _ d h in
          let p = has_path L given path.0 s path.1 in
          subst (IsSound L) (deed_is path.2) (record {
            valued = rw (p.named, limit_or given s.each, given_removals given s.each, given_percents given s.each, given_notices given s.each) refl;
            bytes = omega (arith, p.bytes, number_fits, choice_fits);
          });
    }

options_sound : IsSoundCommand (codes "options", admin_options)
options_sound =
    record {
      sound = λ L given d s h.
          let minutes = needed number_of run_limit_key given _ d h in
          subst (IsSound L) (deed_is minutes.2) (record { valued = given_run_limit given minutes.0 s.each minutes.1; bytes = omega arith });
    }

list_sound : IsSoundCommand (codes "list", quota_list)
list_sound =
    record {
      sound = λ L given d s h. let made : Quota (QuotaList (one path_of path_key given)) ≡ d = cc h in subst (IsSound L) made (by L given s (one path_of path_key given) refl);
    }
  where
    by : (L : ℕ) (given : List Given) → AreSound L given → (o : Option Path) → one path_of path_key given ≡ o
        → IsSound L (Quota (QuotaList o))
    by L given s None e = record { valued = refl; bytes = omega arith }
    by L given s (Some path) e =
        alone (Quota (QuotaList (Some path))) path L refl refl refl (given_path L given path s e)

quota_commands_sound : AllByRecursion IsSoundCommand quota_commands
quota_commands_sound = (
  add_sound,
  (
    modify_sound,
    (
      path_sound_command (codes "delete") (λ path. Quota (QuotaDelete path)) (λ path. refl) (λ path. refl) (λ path. refl),
      (
        path_sound_command (codes "scan") (λ path. Quota (QuotaScan path)) (λ path. refl) (λ path. refl) (λ path. refl),
        (
          path_sound_command (codes "resetpeak") (λ path. Quota (QuotaResetpeak path)) (λ path. refl) (λ path. refl) (λ path. refl),
          (list_sound, tt),
        ),
      ),
    ),
  ),
)

admin_commands_sound : AllByRecursion IsSoundCommand admin_commands
admin_commands_sound =
    (options_sound, (alone_sound (codes "list") (Admin AdminList) refl refl refl, (alone_sound (codes "log") (Admin AdminLog) refl refl refl, tt)))

abbrev IsSoundTool : List ℕ × Names (Names ToolCommand) → Type 0
IsSoundTool tool = AllByRecursion AreSoundCommands tool.1

dirquota_sound : AllByRecursion AreSoundCommands dirquota
dirquota_sound = (quota_commands_sound, (template_commands_sound, (auto_commands_sound, (admin_commands_sound, tt))))

tools_sound : AllByRecursion IsSoundTool tools
tools_sound = (dirquota_sound, (filescrn_sound, (storrept_sound, tt)))

tool_sound : (words : List (List ℕ)) (d : Deed) → sum_by length words ≤ longest_path → SpellsTool words d → IsSound (sum_by length words) d
tool_sound words d few s =
    let L = sum_by length words in
    let tool = named_each IsSoundTool tools s.tool s.objects tools_sound s.tool_is in
    let object = named_each AreSoundCommands s.objects s.object s.commands tool.2 s.object_is in
    let command = named_each IsSoundCommand s.commands s.command s.own object.2 s.command_is in
    let size = ap (sum_by length) s.words_are in
    let first = sum_by-cons length s.tool (s.object ∷ s.command ∷ s.rest) in
    let second = sum_by-cons length s.object (s.command ∷ s.rest) in
    let third = sum_by-cons length s.command s.rest in
    let given = each_sound L s.own.keys s.rest s.given s.options_are (omega (arith, size, first, second, third)) few in
    command.2.sound L s.given d given s.deed_is

deed_sound : (words : List (List ℕ)) (d : Deed) → sum_by length words ≤ longest_path → SpellsDeed words d → IsSound (sum_by length words) d
deed_sound words d few (inl s) = placed_sound words d few s
deed_sound words d few (inr s) = tool_sound words d few s

short : (L : ℕ) (d : Deed) → IsSound L d → L ≤ longest_path → list_all is_short_path (paths d) ≡ true → is_short d ≡ true
short L d s fits each = at (kind d)
  where
    bytes : ℕ
    bytes = number_bytes + (choice_bytes + (sum_by path_bytes (paths d) + more_bytes d))

    at : (k : Option ℕ) → option_map_or (λ n. list_all is_short_path (paths d) && nat_le n longest_entry) (option_map (λ k. bytes) k) true ≡ true
    at None = refl
    at (Some k) =
        both_true (list_all is_short_path (paths d)) (nat_le bytes longest_entry) each (le-leb bytes longest_entry (omega (arith, s.bytes, fits)))

all_both : {X : Type 0} (p q : X → Bool) (xs : List X) → list_all (λ x. p x && q x) xs ≡ true
    → (list_all p xs ≡ true) × (list_all q xs ≡ true)
all_both p q [] h = (refl, refl)
all_both p q (x ∷ xs) h =
    let parts = both (p x && q x) (list_all (λ x. p x && q x) xs) h in
    let own = both (p x) (q x) parts.0 in
    let more = all_both p q xs parts.1 in
    (both_true (p x) (list_all p xs) own.0 more.0, both_true (q x) (list_all q xs) own.1 more.1)

-- a number has a digit at least
some_digits : (low high : ℕ) (digits : List ℕ) (n : ℕ) → Writes low high digits n → 0 < length digits
some_digits low high digits n w =
    let size = nat_lt 0 (length digits) && nat_le (length digits) 20 in
    let parts : (size ≡ true) × (list_all is_ascii_digit digits ≡ true) = both _ _ w.form in
    lt_is 0 (length digits) (both (nat_lt 0 (length digits)) (nat_le (length digits) 20) parts.0).0

-- A line spells only valid commands. The moment has a byte at least, so what is left of the longest line is no longer than a
-- path may be
pub spelled_valid : (line : List ℕ) (c : Command) → Spells line c → is_command c ≡ true
spelled_valid line c s =
    let L = sum_by length s.words in
    let some = some_digits 0 latest_moment s.moment c.moment s.moment_is in
    let fits : L ≤ longest_path = omega (arith, words_fit line (s.moment ∷ s.words) s.words_are, sum_by-cons length s.moment s.words, s.is_line.short, some) in
    let sound = deed_sound s.words c.deed fits s.deed_is in
    let parts = both (list_all is_sound_path (paths c.deed)) (has_values c.deed) sound.valued in
    let own = all_both is_path is_short_path (paths c.deed) parts.0 in
    both_true (is_moment c.moment) (is_deed c.deed && is_short c.deed) (le-leb c.moment latest_moment s.moment_is.most)
    (both_true (is_deed c.deed) (is_short c.deed)
    (both_true (list_all is_path (paths c.deed)) (has_values c.deed) own.0 parts.1)
    (short L c.deed sound fits own.1))
