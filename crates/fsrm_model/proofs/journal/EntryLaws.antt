-- What the entries of a journal make of rows is what the machine made of them, as far as it is kept.
use Rattle.std.proofs.Common.{◌≡◌, ℕ, zero, suc, ◌+◌, ◌&&◌, Bool, true, false, List, [], ◌∷◌, ◌++◌, refl, sym, ◌∙◌, ap, subst, ◌⊎◌, inl, inr, Some, None, Option}
use Rattle.std.specs.Prelude.{◌≤◌, nat_le, Err, Ok, unwrap_or, take, if◌then◌else◌}
use Rattle.std.specs.List.{AllByRecursion, list_all}
use Rattle.std.specs.Option.{option_map_or}
use Rattle.fsrm_base.proofs.TestLaws.{both, le_is}
use Rattle.fsrm_model.specs.declared.command.Command.{Command}
use Rattle.fsrm_model.specs.declared.command.Deed.{Deed}
use Rattle.fsrm_model.specs.declared.command.Deed.TheVariants.{Step}
use Rattle.fsrm_model.specs.declared.command.Entry.{Entry}
use Rattle.fsrm_model.specs.declared.command.Entry.TheVariants.{Order, Finish}
use Rattle.fsrm_model.specs.declared.row.Capacity.{Capacity}
use Rattle.fsrm_model.specs.declared.row.Rows.{Rows}
use Rattle.fsrm_model.specs.commands.Commands.{paths, entry_bytes}
use Rattle.fsrm_model.specs.commands.Entry.{path_length}
use Rattle.fsrm_model.specs.store.Lasting.{lasting}
use Rattle.fsrm_model.specs.values.Limits.{latest_moment, longest_path, longest_entry}
use Rattle.fsrm_model.specs.lines.Line.{read_line}
use Rattle.fsrm_model.specs.objects.QuotaStates.{head}
use Rattle.fsrm_model.specs.lines.Reading.{Read}
use Rattle.fsrm_model.specs.objects.Scan.{visits}
use Rattle.fsrm_model.specs.store.Replays.{finish, finish_acts, after_entry, replayed, recovered, is_scan_step, deed_entry, journal_entry, command_entries, read_entries, line_entries, entries_from, is_valid_entry, IsJournaled}
use Rattle.fsrm_model.specs.lines.Script.{Replied, replied, replied_to, fold_from, without_cr}
use Rattle.fsrm_model.specs.commands.Step.{step}
use Rattle.fsrm_model.specs.store.Valid.{is_moment, IsValid}
use Rattle.fsrm_model.specs.store.Valued.{is_deed, is_short_path, is_short, is_command}
use Rattle.fsrm_model.proofs.commands.EachCommand.{kept_alike, lasting_kept, step_valid}
use Rattle.fsrm_model.proofs.journal.AlikeSteps.{StepsAlike}
use Rattle.fsrm_model.proofs.journal.FinishLaws.{lasting_valid, finish_alike, finish_acts_alike, finish_valid, step_is_finish, step_finishes}
use Rattle.fsrm_model.proofs.journal.KeptEnds.{lasting_twice}
use Rattle.fsrm_model.proofs.lines.PlainMachine.{replied-read}
use Rattle.fsrm_model.proofs.lines.SpelledValues.{spelled_valid}
use Rattle.fsrm_model.proofs.lines.SpellingLaws.{read_spells}

-- ---- rows of which the same is kept
-- a command does the same to both
pub same_steps : (K : Capacity) (R Q : Rows) (c : Command) → is_scan_step c.deed ≡ false → lasting Q ≡ lasting R → StepsAlike (step K R c) (step K Q c)
same_steps K R Q c other h =
    let r = kept_alike K R c other in
    let q = kept_alike K Q c other in
    record {
      rows = record { same = sym q.rows.same ∙ (ap (λ (L : Rows). lasting (step K L c).rows) h ∙ r.rows.same) };
      outcome = sym q.outcome ∙ (ap (λ (L : Rows). (step K L c).outcome) h ∙ r.outcome);
      lasting = sym q.lasting ∙ (ap (λ (L : Rows). (step K L c).lasting) h ∙ r.lasting);
      acts = sym q.acts ∙ (ap (λ (L : Rows). (step K L c).acts) h ∙ r.acts);
    }

-- and so does a finish
pub same_finish : (K : Capacity) (R Q : Rows) (moment folder : ℕ) → lasting Q ≡ lasting R → lasting (finish K Q moment folder) ≡ lasting (finish K R moment folder)
same_finish K R Q moment folder h =
    sym (finish_alike K Q moment folder).same ∙ (ap (λ (L : Rows). lasting (finish K L moment folder)) h ∙ (finish_alike K R moment folder).same)

pub same_finish_acts : (K : Capacity) (R Q : Rows) (moment folder : ℕ) → lasting Q ≡ lasting R → finish_acts K Q moment folder ≡ finish_acts K R moment folder
same_finish_acts K R Q moment folder h =
    sym (finish_acts_alike K Q moment folder) ∙ (ap (λ (L : Rows). finish_acts K L moment folder) h ∙ finish_acts_alike K R moment folder)

-- the finish of a scan has the actions run that the step had run which finished it
pub step_acts : (K : Capacity) (R Q : Rows) (moment n : ℕ) → IsValid K R → lasting Q ≡ lasting R → (step K R (record { moment = moment; deed = Step n })).lasting ≡ true → finish_acts K Q moment (unwrap_or (head R.queue) 0) ≡ (step K R (record { moment = moment; deed = Step n })).acts
step_acts K R Q moment n s h l =
    same_finish_acts K (record R { unvisited = visits n R.nodes R.unvisited }) Q moment (unwrap_or (head R.queue) 0) h
    ∙ sym (step_is_finish K R moment n s l).acts

-- ---- entries
pub replayed_more : (K : Capacity) (R : Rows) (entries more : List Entry) → replayed K R (entries ++ more) ≡ replayed K (replayed K R entries) more
replayed_more K R [] more = refl
replayed_more K R (entry ∷ entries) more = replayed_more K (after_entry K R entry) entries more

-- valid ones keep valid rows
pub entry_valid : (K : Capacity) (R : Rows) (entry : Entry) → IsValid K R → is_valid_entry entry ≡ true → IsValid K (after_entry K R entry)
entry_valid K R (Order c) s legal = step_valid K R c s legal
entry_valid K R (Finish moment folder) s legal = finish_valid K R moment folder s (le_is moment latest_moment legal)

pub replayed_valid : (K : Capacity) (R : Rows) (entries : List Entry) → IsValid K R → list_all is_valid_entry entries ≡ true → IsValid K (replayed K R entries)
replayed_valid K R [] s legal = s
replayed_valid K R (entry ∷ entries) s legal =
    let parts : (is_valid_entry entry ≡ true) × (list_all is_valid_entry entries ≡ true) = both _ _ legal in
    replayed_valid K (after_entry K R entry) entries (entry_valid K R entry s parts.0) parts.1

-- ---- the entry of a command
-- a command's entry makes of what is kept what the command made
lasting_entry : (K : Capacity) (R Q : Rows) (moment : ℕ) (deed : Deed) → IsValid K R → lasting Q ≡ lasting R → (step K R (record { moment = moment; deed = deed })).lasting ≡ true → lasting (after_entry K Q (deed_entry R moment deed)) ≡ lasting (step K R (record { moment = moment; deed = deed })).rows
lasting_entry K R Q moment (Step n) s h l =
    let folder = unwrap_or (head R.queue) 0 in
    sym (finish_alike K Q moment folder).same ∙ (ap (λ (L : Rows). lasting (finish K L moment folder)) h ∙ (step_finishes K R moment n s l).same)
lasting_entry K R Q moment other s h l = (same_steps K R Q (record { moment = moment; deed = other }) refl h).rows.same

pub entry_kept : (K : Capacity) (R Q : Rows) (c : Command) → IsValid K R → lasting Q ≡ lasting R → (step K R c).lasting ≡ true → lasting (after_entry K Q (journal_entry R c)) ≡ lasting (step K R c).rows
entry_kept K R Q c s h l = lasting_entry K R Q c.moment c.deed s h l

-- so do all entries of a command, of which there are none if it doesn't last
pub command_kept : (K : Capacity) (R Q : Rows) (c : Command) → IsValid K R → lasting Q ≡ lasting R → lasting (replayed K Q (command_entries K R c)) ≡ lasting (step K R c).rows
command_kept K R Q c s h = at (step K R c).lasting refl
  where
    at : (b : Bool) → (step K R c).lasting ≡ b → lasting (replayed K Q (if b then journal_entry R c ∷ [] else [])) ≡ lasting (step K R c).rows
    at true e = entry_kept K R Q c s h e
    at false e = h ∙ sym (lasting_kept K R c s e)

-- an entry of a valid command is valid
deed_valid : (R : Rows) (moment : ℕ) (deed : Deed) → is_command (record { moment = moment; deed = deed }) ≡ true → is_valid_entry (deed_entry R moment deed) ≡ true
deed_valid R moment (Step n) legal =
    let parts : (is_moment moment ≡ true) × ((is_deed (Step n) && is_short (Step n)) ≡ true) = both _ _ legal in parts.0
deed_valid R moment other legal = legal

pub journal_entry_valid : (R : Rows) (c : Command) → is_command c ≡ true → is_valid_entry (journal_entry R c) ≡ true
journal_entry_valid R c legal = deed_valid R c.moment c.deed legal

-- ---- rows that are journaled
-- when what is kept of them is written; when they are recovered; and after more entries and what these stand for
pub journaled_new : (K : Capacity) (R : Rows) → IsValid K R → IsJournaled K (lasting R) [] R
journaled_new K R s = record { recovers = lasting_twice R; valid = s }

pub journaled_again : (K : Capacity) (base : Rows) (entries : List Entry) → IsValid K base → list_all is_valid_entry entries ≡ true → IsJournaled K base entries (recovered K base entries)
journaled_again K base entries s legal =
    record {
      recovers = sym (lasting_twice (replayed K base entries));
      valid = lasting_valid K (replayed K base entries) (replayed_valid K base entries s legal);
    }

journaled_more : (K : Capacity) (base : Rows) (entries more : List Entry) (R : Rows) → IsJournaled K (replayed K base entries) more R → IsJournaled K base (entries ++ more) R
journaled_more K base entries more R is =
    record { recovers = ap lasting (replayed_more K base entries more) ∙ is.recovers; valid = is.valid }

-- after a command
command_journaled : (K : Capacity) (Q R : Rows) (c : Command) → IsJournaled K Q [] R → is_command c ≡ true → IsJournaled K Q (command_entries K R c) (step K R c).rows
command_journaled K Q R c is legal =
    record { recovers = command_kept K R Q c is.valid is.recovers; valid = step_valid K R c is.valid legal }

pub journaled_next : (K : Capacity) (base : Rows) (entries : List Entry) (R : Rows) (c : Command) → IsJournaled K base entries R → is_command c ≡ true → IsJournaled K base (entries ++ command_entries K R c) (step K R c).rows
journaled_next K base entries R c is legal =
    journaled_more K base entries (command_entries K R c) (step K R c).rows
    (command_journaled K (replayed K base entries) R c (record { recovers = is.recovers; valid = is.valid }) legal)

-- after lines
line_entries-read : (K : Capacity) (R : Rows) (line : List ℕ) (r : Option (Read Command)) → read_line (without_cr line) ≡ r → line_entries K R line ≡ read_entries K R r
unfolding line_entries
line_entries-read K R line r e = ap (read_entries K R) e

line_journaled : (K : Capacity) (Q R : Rows) (n : ℕ) (line : List ℕ) → IsJournaled K Q [] R → IsJournaled K Q (line_entries K R line) (replied K R n line).rows
line_journaled K Q R n line is = at (read_line (without_cr line)) refl
  where
    own : (r : Option (Read Command)) → read_line (without_cr line) ≡ r → IsJournaled K Q (read_entries K R r) (replied_to K R n r).rows
    own None e = is
    own (Some (Err refusal)) e = is
    own (Some (Ok c)) e = command_journaled K Q R c is (spelled_valid (without_cr line) c (read_spells (without_cr line) c e))

    at : (r : Option (Read Command)) → read_line (without_cr line) ≡ r → IsJournaled K Q (line_entries K R line) (replied K R n line).rows
    at r e =
        subst (λ (entries : List Entry). IsJournaled K Q entries (replied K R n line).rows) (sym (line_entries-read K R line r e))
        (subst (λ (reply : Replied). IsJournaled K Q (read_entries K R r) reply.rows) (sym (replied-read K R n line r e)) (own r e))

lines_journaled : (K : Capacity) (Q R : Rows) (n : ℕ) (lines : List (List ℕ)) → IsJournaled K Q [] R → IsJournaled K Q (entries_from K R n lines) (fold_from K R n lines)
lines_journaled K Q R n [] is = is
lines_journaled K Q R n (line ∷ lines) is =
    let first = line_journaled K Q R n line is in
    let after : Rows = (replied K R n line).rows in
    journaled_more K Q (line_entries K R line) (entries_from K after (n + 1) lines) (fold_from K after (n + 1) lines)
    (lines_journaled K (replayed K Q (line_entries K R line)) after (n + 1) lines (record { recovers = first.recovers; valid = first.valid }))

pub journaled_lines : (K : Capacity) (base : Rows) (entries : List Entry) (R : Rows) (n : ℕ) (lines : List (List ℕ)) → IsJournaled K base entries R → IsJournaled K base (entries ++ entries_from K R n lines) (fold_from K R n lines)
journaled_lines K base entries R n lines is =
    journaled_more K base entries (entries_from K R n lines) (fold_from K R n lines)
    (lines_journaled K (replayed K base entries) R n lines (record { recovers = is.recovers; valid = is.valid }))

-- ---- a front of the entries of lines
-- a line has one entry at most
abbrev HasFew : List Entry → Type 0
HasFew entries = (entries ≡ []) ⊎ ((entry : Entry) × (entries ≡ entry ∷ []))

few_entries : (K : Capacity) (R : Rows) (line : List ℕ) → HasFew (line_entries K R line)
few_entries K R line = subst HasFew (sym (line_entries-read K R line (read_line (without_cr line)) refl)) (read (read_line (without_cr line)))
  where
    kept : (entry : Entry) (b : Bool) → HasFew (if b then entry ∷ [] else [])
    kept entry true = inr (entry, refl)
    kept entry false = inl refl

    read : (r : Option (Read Command)) → HasFew (read_entries K R r)
    read None = inl refl
    read (Some (Err refusal)) = inl refl
    read (Some (Ok c)) = kept (journal_entry R c) (step K R c).lasting

-- these are all entries of a front of the lines
abbrev IsFront : Capacity → Rows → ℕ → List (List ℕ) → List Entry → Type 0
IsFront K R n lines entries = (j : ℕ) × (entries ≡ entries_from K R n (take j lines))

line_front : (K : Capacity) (R : Rows) (n place : ℕ) (line : List ℕ) (lines : List (List ℕ)) → ((at : ℕ) → IsFront K (replied K R n line).rows (n + 1) lines (take at (entries_from K (replied K R n line).rows (n + 1) lines))) → IsFront K R n (line ∷ lines) (take (suc place) (entries_from K R n (line ∷ lines)))
line_front K R n place line lines rest = let front = by (line_entries K R line) (few_entries K R line) in (suc front.0, front.1)
  where
    more : List (List ℕ) → List Entry
    more lines = entries_from K (replied K R n line).rows (n + 1) lines

    Front : List Entry → Type 0
    Front entries = (j : ℕ) × (take (suc place) (entries ++ more lines) ≡ entries ++ more (take j lines))

    by : (entries : List Entry) → HasFew entries → Front entries
    by entries (inl e) = subst Front (sym e) (rest (suc place))
    by entries (inr (entry, e)) = subst Front (sym e) ((rest place).0, ap (λ entries. entry ∷ entries) (rest place).1)

pub lines_front : (K : Capacity) (R : Rows) (n : ℕ) (lines : List (List ℕ)) (place : ℕ) → (j : ℕ) × (take place (entries_from K R n lines) ≡ entries_from K R n (take j lines))
lines_front K R n lines zero = (0, refl)
lines_front K R n [] (suc place) = (0, refl)
lines_front K R n (line ∷ lines) (suc place) =
    line_front K R n place line lines (λ at. lines_front K (replied K R n line).rows (n + 1) lines at)

-- ---- an entry that can be spelled
-- what is known of the sizes of a valid command that has an entry
has_sizes : (c : Command) (n : ℕ) → is_command c ≡ true → entry_bytes c.deed ≡ Some n → (list_all is_short_path (paths c.deed) ≡ true) × (nat_le n longest_entry ≡ true)
has_sizes c n legal is =
    let values : (is_moment c.moment ≡ true) × ((is_deed c.deed && is_short c.deed) ≡ true) = both _ _ legal in
    let own : (is_deed c.deed ≡ true) × (is_short c.deed ≡ true) = both _ _ values.1 in
    both (list_all is_short_path (paths c.deed)) (nat_le n longest_entry)
    (ap (λ (o : Option ℕ). option_map_or (λ bytes. list_all is_short_path (paths c.deed) && nat_le bytes longest_entry) o true) (sym is) ∙ own.1)

each_short : (paths : List (List (List ℕ))) → list_all is_short_path paths ≡ true → AllByRecursion (λ path. path_length path ≤ longest_path) paths
each_short [] h = tt
each_short (path ∷ paths) h =
    let parts = both (is_short_path path) (list_all is_short_path paths) h in
    (le_is (path_length path) longest_path parts.0, each_short paths parts.1)

pub paths_short : (c : Command) (n : ℕ) → is_command c ≡ true → entry_bytes c.deed ≡ Some n → AllByRecursion (λ path. path_length path ≤ longest_path) (paths c.deed)
paths_short c n legal is = each_short (paths c.deed) (has_sizes c n legal is).0

pub entry_short : (c : Command) (n : ℕ) → is_command c ≡ true → entry_bytes c.deed ≡ Some n → n ≤ longest_entry
entry_short c n legal is = le_is n longest_entry (has_sizes c n legal is).1
