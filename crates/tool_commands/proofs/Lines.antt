-- What a line reads as, by the stage at which that is settled.
use Rattle.std.proofs.Common.{◌≡◌, ℕ, ◌+◌, ◌<◌, ◌≤◌, Bool, true, false, cond, List, [], ◌∷◌, length, get_or, drop, Some, None, refl, sym, ap, ◌∙◌, arith, suc}
use Rattle.std.specs.Prelude.{nat_lt, nat_eq, Result, Ok, Err, IfOk, IfErr, MatchResult, Option, option_map, ◌||◌}
use Rattle.std.specs.List.{prefix_len}
use Rattle.std.specs.Result.{is_ok}
use Rattle.std.specs.Str.{IsUtf8, is_utf8}
use Rattle.std.specs.Str.Lossy.{utf8_valid_len}
use Rattle.std.proofs.Math.ListN.{drop_of_length-le}
use Rattle.std.proofs.lemmas.Bool.{le-ltb}
use Rattle.std.proofs.lemmas.Bool.Decides.{nat_tests}
use Rattle.std.proofs.lemmas.List.{get_or-drop, length-drop}
use Rattle.std.proofs.lemmas.List.Sums.{prefix_len-le-length}
use Rattle.command_words.proofs.WordLengths.{prefix_len-after}
use Rattle.std.proofs.lemmas.Str.{IsUtf8-from_is_utf8, is_utf8-from_IsUtf8}
use Rattle.fsrm_model.specs.declared.command.Refusal.TheVariants.{BadLine}
use Rattle.fsrm_model.specs.lines.Line.{read_line, read_words, is_skipped}
use Rattle.fsrm_model.specs.declared.command.Command.{Command}
use Rattle.fsrm_model.specs.store.Valued.{is_command}
use Rattle.fsrm_model.proofs.lines.SpelledValues.{spelled_valid}
use Rattle.fsrm_model.proofs.lines.SpellingLaws.{read_spells}
use Rattle.fsrm_model.specs.lines.Words.{is_blank}
use Rattle.command_words.specs.LineFaults.{Reads}
use Rattle.tool_commands.specs.LineFaults.{IsFault, ReadsWords}
use Rattle.command_words.specs.declared.fault.LineFault.{LineFault}
use Rattle.command_words.specs.declared.fault.LineFault.TheVariants.{Refused, NoMemory}

-- blanks in front change nothing
skipped-after : (line : List ℕ) → is_skipped line ≡ is_skipped (drop (prefix_len is_blank line) line)
skipped-after [] = refl
skipped-after (b ∷ bs) = at (is_blank b) refl (skipped-after bs)
  where
    no_mark : (b : ℕ) → is_blank b ≡ true → nat_eq b 35 ≡ false
    no_mark b blank = grind (arith, nat_tests)

    at : (blank : Bool) → is_blank b ≡ blank → is_skipped bs ≡ is_skipped (drop (prefix_len is_blank bs) bs) → is_skipped (b ∷ bs) ≡ is_skipped (drop (cond blank (1 + prefix_len is_blank bs) 0) (b ∷ bs))
    at false e ih = refl
    at true e ih =
        let one : 1 + prefix_len is_blank bs ≡ suc (prefix_len is_blank bs) = omega arith in
        rw (one, no_mark b e, e) ih

skipped-mark : (text : List ℕ) → prefix_len is_blank text ≡ 0 → 0 < length text → is_skipped text ≡ nat_eq (get_or text 0 0) 35
skipped-mark [] none some = absurd (omega arith)
skipped-mark (b ∷ bs) none some = at (is_blank b) refl
  where
    or_false : (a : Bool) → (a || false) ≡ a
    or_false true = refl
    or_false false = refl

    at : (blank : Bool) → is_blank b ≡ blank → is_skipped (b ∷ bs) ≡ nat_eq b 35
    at true e = let one : 1 + prefix_len is_blank bs ≡ 0 = rw e at none in absurd (omega (arith, one))
    at false e = rw (e, or_false (nat_eq b 35)) refl

-- a line of blanks alone
pub skipped_all : (line : List ℕ) (n : ℕ) → n ≡ prefix_len is_blank line → n ≡ length line → is_skipped line ≡ true
skipped_all line n n_is all =
    let none : drop (prefix_len is_blank line) line ≡ [] = drop_of_length-le line (omega arith) in
    skipped-after line ∙ rw none refl

-- a line is skipped by its first byte that isn't blank
pub skipped_at : (line : List ℕ) (n : ℕ) → n ≡ prefix_len is_blank line → n < length line → is_skipped line ≡ nat_eq (get_or line n 0) 35
skipped_at line n n_is inside =
    let long = length-drop (prefix_len is_blank line) line in
    let here : get_or (drop (prefix_len is_blank line) line) 0 0 ≡ get_or line n 0 =
    get_or-drop (prefix_len is_blank line) line 0 0 ∙ (let k : prefix_len is_blank line + 0 ≡ n = omega arith in ap (λ (k : ℕ). get_or line k 0) k) in
    skipped-after line ∙ skipped-mark (drop (prefix_len is_blank line) line) (prefix_len-after is_blank line) (omega arith) ∙ ap (λ (b : ℕ). nat_eq b 35) here

pub blanks_within : (line : List ℕ) (n : ℕ) → n ≡ prefix_len is_blank line → (n ≡ length line → ⊥) → n < length line
blanks_within line n n_is more = omega (arith, prefix_len-le-length is_blank line)

not_utf8 : (line : List ℕ) (b : Bool) → is_utf8 line ≡ b → (IsUtf8 line → ⊥) → is_utf8 line ≡ false
not_utf8 line true e never = absurd (never (IsUtf8-from_is_utf8 line e))
not_utf8 line false e never = e

pub not_text : (line : List ℕ) → length line ≤ 65536 → (IsUtf8 line → ⊥) → read_line line ≡ Some (Err (BadLine (utf8_valid_len line + 1)))
unfolding read_line
not_text line short never =
    let test : nat_lt 65536 (length line) ≡ false = le-ltb 65536 (length line) short in
    rw (test, not_utf8 line (is_utf8 line) refl never) refl

pub passed_over : (line : List ℕ) → length line ≤ 65536 → IsUtf8 line → is_skipped line ≡ true → read_line line ≡ None
unfolding read_line
passed_over line short utf8 skipped =
    let test : nat_lt 65536 (length line) ≡ false = le-ltb 65536 (length line) short in
    rw (test, is_utf8-from_IsUtf8 line utf8, skipped) refl

pub by_words : (line : List ℕ) → length line ≤ 65536 → IsUtf8 line → is_skipped line ≡ false → read_line line ≡ Some (read_words line)
unfolding read_line
by_words line short utf8 skipped =
    let test : nat_lt 65536 (length line) ≡ false = le-ltb 65536 (length line) short in
    rw (test, is_utf8-from_IsUtf8 line utf8, skipped) refl

-- a fault of its words is the line's
pub fault_of : (line text : List ℕ) (fault : LineFault) → text ≡ line → read_line line ≡ Some (read_words line) → Reads {X = Command} (Err fault) (read_words text) → IsFault fault (read_line line)
fault_of line text (Refused refusal) same reads fault = reads ∙ ap Some (ap read_words (sym same) ∙ fault)
fault_of line text NoMemory same reads fault = tt

-- what its words give is what the line gives
pub read_of : (line text : List ℕ) (result : Result (Option Command) LineFault) → text ≡ line → read_line line ≡ Some (read_words line) → ReadsWords result (read_words text) → IfOk result (λ read. read_line line ≡ option_map (λ command. Ok command) read)
read_of line text (Ok None) same reads read = absurd read
read_of line text (Ok (Some command)) same reads read = reads ∙ ap Some (ap read_words (sym same) ∙ read)
read_of line text (Err fault) same reads read = tt

pub valid_of : (line : List ℕ) (result : Result (Option Command) LineFault) → IfOk result (λ read. read_line line ≡ option_map (λ command. Ok command) read) → IfOk result (λ read. (command : Command) → read ≡ Some command → is_command command ≡ true)
valid_of line (Ok None) read = λ command is. absurd (cc)
valid_of line (Ok (Some own)) read = λ command is.
    let same : own ≡ command = cc in
    ap is_command (sym same) ∙ spelled_valid line own (read_spells line own read)
valid_of line (Err fault) read = tt

pub faults_of : (line text : List ℕ) (result : Result (Option Command) LineFault) → text ≡ line → read_line line ≡ Some (read_words line) → ReadsWords result (read_words text) → IfErr result (λ fault. IsFault fault (read_line line))
faults_of line text (Ok read) same reads words = tt
faults_of line text (Err fault) same reads words = fault_of line text fault same reads words

-- a line that the words alone show not to be skipped
pub not_skipped : (line : List ℕ) → length line ≤ 65536 → is_skipped line ≡ false → read_line line ≡ None → ⊥
not_skipped line short skipped none = at (is_utf8 line) refl
  where
    at : (b : Bool) → is_utf8 line ≡ b → ⊥
    at true e = let some : read_line line ≡ Some (read_words line) = by_words line short (IsUtf8-from_is_utf8 line e) skipped in absurd (cc (some, none))
    at false e =
        let never : IsUtf8 line → ⊥ = λ utf8. let is : is_utf8 line ≡ true = is_utf8-from_IsUtf8 line utf8 in absurd (cc (e, is)) in
        let some : read_line line ≡ Some (Err (BadLine (utf8_valid_len line + 1))) = not_text line short never in
        absurd (cc (some, none))

-- a line of which only the bytes are in question
pub skipped_exactly : (line : List ℕ) (test : Bool) → length line ≤ 65536 → is_skipped line ≡ true → ((test ≡ true → IsUtf8 line) × (IsUtf8 line → test ≡ true)) → (test ≡ true → read_line line ≡ None) × (read_line line ≡ None → test ≡ true)
skipped_exactly line test short skipped exactly = (λ t. passed_over line short (exactly.0 t) skipped, at test refl)
  where
    at : (b : Bool) → test ≡ b → read_line line ≡ None → test ≡ true
    at true e none = e
    at false e none =
        let never : IsUtf8 line → ⊥ = λ utf8. let is : test ≡ true = exactly.1 utf8 in absurd (cc (e, is)) in
        let some : read_line line ≡ Some (Err (BadLine (utf8_valid_len line + 1))) = not_text line short never in
        absurd (cc (some, none))

-- bytes are UTF-8 exactly if they can be taken as a text
pub utf8_exactly : {A E : Type 0} (line : List ℕ) (r : Result A E) (P : A → Type 0) (Q : E → Type 0) (test : Bool) → test ≡ is_ok r → MatchResult r (λ s. P s × IsUtf8 line) (λ e. (IsUtf8 line → ⊥) × Q e) → (test ≡ true → IsUtf8 line) × (IsUtf8 line → test ≡ true)
utf8_exactly line (Ok s) P Q test e h = (λ _. h.1, λ _. e)
utf8_exactly line (Err x) P Q test e h = (λ t. absurd (cc (e, t)), λ utf8. absurd (h.0 utf8))
