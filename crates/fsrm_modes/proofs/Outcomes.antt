-- What a line comes to by what is read of it.
use Rattle.std.proofs.Common.{◌≡◌, ℕ, true, false, List, [], ◌∷◌, refl, sym, ap, ◌∙◌, subst}
use Rattle.std.specs.Prelude.{Option, Some, None, option_map, Result, Ok, Err, OnOk, OnErr, is_err}
use Rattle.fsrm_model.specs.declared.command.Command.{Command}
use Rattle.fsrm_model.specs.declared.command.Refusal.{Refusal}
use Rattle.fsrm_model.specs.declared.command.Refusal.TheVariants.{BadLine, LineTooLong, InvalidPath, InvalidName, OutOfRange, InvalidLimit, ClockBack, PathNotFound, NotFound, AlreadyExists, DuplicateName, InUse, InvalidCombination, NotEmpty, InvalidMove, NothingToScan, VolumeFull, NamesFull, TableFull, TextsFull, ScreenBlocked, QuotaExceeded}
use Rattle.fsrm_model.specs.declared.row.Capacity.{Capacity}
use Rattle.fsrm_model.specs.declared.row.Rows.{Rows}
use Rattle.fsrm_model.specs.lines.Line.{read_line, is_line_refusal}
use Rattle.fsrm_model.specs.lines.Reading.{Read}
use Rattle.fsrm_model.specs.lines.Script.{Replied, without_cr, replied, replied_to}
use Rattle.fsrm_model.specs.store.Replays.{line_entries, read_entries}
use Rattle.fsrm_model.specs.texts.Text.{is_bare}
use Rattle.fsrm_model.proofs.lines.LineRefusals.{line_refusal}
use Rattle.fsrm_model.proofs.lines.PlainMachine.{line_cost-read, replied-read}
use Rattle.fsrm_outside.specs.Members.{Members}
use Rattle.fsrm_outside.proofs.OutsideLaws.{Laws}
use Rattle.fsrm_store.specs.Amortized.{entries_bytes}
use Rattle.fsrm_session.specs.Counts.{StopCounts}
use Rattle.fsrm_session.specs.Turns.{AreAlike, IsAlike, Turn, command_turn, line_turn, refused_turn}
use Rattle.fsrm_session.specs.Underway.{Goes, Stops}
use Rattle.fsrm_session.specs.declared.session.Session.{Session}
use Rattle.fsrm_session.specs.declared.stop.Stop.{Stop}
use Rattle.fsrm_session.specs.declared.stop.Stop.TheVariants.{NoMemory}
use Rattle.fsrm_modes.proofs.Alike.{idle_goes}
use Rattle.fsrm_session.proofs.Going.{breaks_stop, calms_full, calms_nothing}
use Rattle.command_words.specs.declared.fault.LineFault.{LineFault}
use Rattle.command_words.specs.declared.fault.LineFault.TheVariants.{Refused as Reason}
use Rattle.tool_commands.specs.LineFaults.{IsFault}

pub on_ok : {T E : Type 0} {P Q : Type 0} (r : Result T E) → (P → Q) → OnOk r P → OnOk r Q
on_ok (Ok x) f p = f p
on_ok (Err e) f p = tt

pub always_ok : {T E P : Type 0} (r : Result T E) → P → OnOk r P
always_ok (Ok x) p = p
always_ok (Err e) p = tt

pub ok_gives : {T E : Type 0} {P : Type 0} (r : Result T E) → is_err r ≡ false → OnOk r P → P
ok_gives (Ok x) is p = p
ok_gives (Err e) is p = absurd cc

-- what was read of a line, and why it was not
pub was_read : (read : Option (Read Command)) (o : Option Command) (c : Command) → read ≡ option_map (λ (d : Command). Ok d) o → o ≡ Some c → read ≡ Some (Ok c)
was_read read o c e is = e ∙ ap (λ (x : Option Command). option_map (λ (d : Command). Ok d) x) is

pub was_skipped : (read : Option (Read Command)) (o : Option Command) → read ≡ option_map (λ (d : Command). Ok d) o → o ≡ None → read ≡ None
was_skipped read o e is = e ∙ ap (λ (x : Option Command). option_map (λ (d : Command). Ok d) x) is

pub was_refused : (read : Option (Read Command)) (fault : LineFault) (refusal : Refusal) → IsFault fault read → fault ≡ Reason refusal → read ≡ Some (Err refusal)
was_refused read fault refusal e is = subst (λ (f : LineFault). IsFault f read) is e

-- a line that reads as a command, and one that is refused
read_alike : (K : Capacity) (n : ℕ) (line text : List ℕ) (r : Option (Read Command)) → text ≡ without_cr line → read_line text ≡ r → (R : Rows) → replied_to K R n r ≡ replied K R n line
read_alike K n line text r cr e R = sym (replied-read K R n line r (sym (ap read_line cr) ∙ e))

-- the entries of a line go by what it reads as
line_entries-read : (K : Capacity) (R : Rows) (line : List ℕ) (r : Option (Read Command)) → read_line (without_cr line) ≡ r → line_entries K R line ≡ read_entries K R r
unfolding line_entries
line_entries-read K R line r e = ap (read_entries K R) e

pub command_alike : (K : Capacity) (n : ℕ) (line text : List ℕ) (c : Command) → text ≡ without_cr line → read_line text ≡ Some (Ok c) → AreAlike (command_turn K n c ∷ []) (line_turn K n line ∷ [])
command_alike K n line text c cr e =
    let same = read_alike K n line text (Some (Ok c)) cr e in
    let read : read_line (without_cr line) ≡ Some (Ok c) = sym (ap read_line cr) ∙ e in (
      record {
        said = λ R. ap (λ (x : Replied). x.text) (same R);
        after = λ R. ap (λ (x : Replied). x.rows) (same R);
        looks = λ R. sym (line_cost-read K R line (Some (Ok c)) read);
        bytes = λ R. ap entries_bytes (sym (line_entries-read K R line (Some (Ok c)) read));
      },
      tt,
    )

pub refusal_alike : (K : Capacity) (n : ℕ) (line text : List ℕ) (refusal : Refusal) → text ≡ without_cr line → read_line text ≡ Some (Err refusal) → AreAlike (refused_turn K n refusal ∷ []) (line_turn K n line ∷ [])
refusal_alike K n line text refusal cr e =
    let same = read_alike K n line text (Some (Err refusal)) cr e in
    let read : read_line (without_cr line) ≡ Some (Err refusal) = sym (ap read_line cr) ∙ e in (
      record {
        said = λ R. ap (λ (x : Replied). x.text) (same R);
        after = λ R. ap (λ (x : Replied). x.rows) (same R);
        looks = λ R. sym (line_cost-read K R line (Some (Err refusal)) read);
        bytes = λ R. ap entries_bytes (sym (line_entries-read K R line (Some (Err refusal)) read));
      },
      tt,
    )

-- a line that is skipped
pub skipped_goes : {O : Type 0} {M : Members O} (K : Capacity) (n : ℕ) (line text : List ℕ) (session : Session) (now : O) → Laws M → text ≡ without_cr line → read_line text ≡ None → Goes M (line_turn K n line ∷ []) session session now now
skipped_goes K n line text session now laws cr e =
    let same = read_alike K n line text None cr e in
    idle_goes (line_turn K n line) session now laws (λ R. ap (λ (x : Replied). x.text) (sym (same R))) (λ R. ap (λ (x : Replied). x.rows) (sym (same R)))

-- no memory for what was to be done
pub full_stops : {O : Type 0} {M : Members O} (turns : List Turn) (session : Session) (now : O) → Laws M → Stops M NoMemory turns session session now now
full_stops turns session now laws = breaks_stop NoMemory turns session session now now laws (calms_full session session now now (calms_nothing session now laws))

-- the refusal of a line carries no path
line_bare : (refusal : Refusal) → is_line_refusal refusal ≡ true → is_bare refusal ≡ true
line_bare (ScreenBlocked screen) h = absurd cc
line_bare (QuotaExceeded folder would limit) h = absurd cc
line_bare (BadLine column) h = refl
line_bare LineTooLong h = refl
line_bare InvalidPath h = refl
line_bare InvalidName h = refl
line_bare OutOfRange h = refl
line_bare InvalidLimit h = refl
line_bare ClockBack h = refl
line_bare PathNotFound h = refl
line_bare NotFound h = refl
line_bare AlreadyExists h = refl
line_bare DuplicateName h = refl
line_bare InUse h = refl
line_bare InvalidCombination h = refl
line_bare NotEmpty h = refl
line_bare InvalidMove h = refl
line_bare NothingToScan h = refl
line_bare VolumeFull h = refl
line_bare NamesFull h = refl
line_bare TableFull h = refl
line_bare TextsFull h = refl

pub bare_refusal : (text : List ℕ) (refusal : Refusal) → read_line text ≡ Some (Err refusal) → is_bare refusal ≡ true
bare_refusal text refusal e = line_bare refusal (line_refusal text refusal e)

-- the counts of calls that failed, after calls of which none did
pub stop_counts_after : (stop : Stop) (w u v d m e : ℕ) → u ≡ w → m ≡ d → StopCounts stop u v m e → StopCounts stop w v d e
stop_counts_after stop w u v d m e a b h = subst (λ (x : ℕ). StopCounts stop x v d e) a (subst (λ (x : ℕ). StopCounts stop u v x e) b h)
