-- A command is taken by the store, and then its reply is told.
use Rattle.std.proofs.Common.{◌≡◌, ◌⊎◌, inl, inr, ⊎_elim, ℕ, zero, suc, true, List, [], ◌∷◌, ◌++◌, refl, sym, ◌∙◌, ap, subst, arith, append_assoc}
use Rattle.std.specs.Prelude.{Result, Some, Ok, Err, MatchResult}
use Rattle.std.proofs.lemmas.List.{append-nil}
use Rattle.fsrm_model.specs.commands.Step.{step}
use Rattle.fsrm_model.specs.declared.command.Act.{Act}
use Rattle.fsrm_model.specs.declared.command.Command.{Command}
use Rattle.fsrm_model.specs.declared.command.Outcome.{Outcome}
use Rattle.fsrm_model.specs.declared.command.Outcome.TheVariants.{Refused}
use Rattle.fsrm_model.specs.declared.command.Refusal.{Refusal}
use Rattle.fsrm_model.specs.declared.command.Refusal.TheVariants.{BadLine, LineTooLong, InvalidPath, InvalidName, OutOfRange, InvalidLimit, ClockBack, PathNotFound, NotFound, AlreadyExists, DuplicateName, InUse, InvalidCombination, NotEmpty, InvalidMove, NothingToScan, VolumeFull, NamesFull, TableFull, TextsFull, ScreenBlocked, QuotaExceeded}
use Rattle.fsrm_model.specs.declared.row.Capacity.{Capacity}
use Rattle.fsrm_model.specs.declared.row.Rows.{Rows}
use Rattle.fsrm_model.specs.lines.Script.{replied_to}
use Rattle.fsrm_model.specs.meaning.Named.{IsNamed}
use Rattle.fsrm_model.specs.store.Lasting.{lasting}
use Rattle.fsrm_model.specs.texts.Text.{is_bare}
use Rattle.fsrm_outside.specs.Members.{Members}
use Rattle.fsrm_outside.specs.Moments.{EachImage}
use Rattle.fsrm_outside.proofs.OutsideLaws.{Laws}
use Rattle.fsrm_engine.specs.Machine.{Machine}
use Rattle.fsrm_store.specs.Standing.{rows_kept, now_kept, HoldsEither, KeepsJournal, Standing}
use Rattle.fsrm_store.proofs.Standings.{leaves_as, stands_kept}
use Rattle.fsrm_store.specs.declared.fault.StoreFault.{StoreFault}
use Rattle.fsrm_store.specs.declared.fault.StoreFault.TheVariants.{DiskFault as Failed, NoMemory as OutOfMemory}
use Rattle.fsrm_session.specs.Turns.{Turn, rows_after, text_of, told}
use Rattle.fsrm_session.specs.Underway.{Calms, Enters, Goes, Safe, Stops, StopsTelling, Tells, Underway}
use Rattle.reply_text.specs.declared.replies.Line.{Line}
use Rattle.fsrm_session.specs.declared.session.Session.{Session}
use Rattle.fsrm_session.specs.declared.stop.Stop.{Stop}
use Rattle.fsrm_session.specs.declared.stop.Stop.TheVariants.{DiskFault, NoMemory}
use Rattle.fsrm_session.proofs.Going.{breaks_stop, calms_full, disk_part, enters_stops, enters_tells, shown_few, shows_still, still, stopped_more}
use Rattle.fsrm_session.proofs.Texts.{front_length, front_then, rows_one, text_front}

-- ---- what is told of a command is what its turn says
pub said_told : (K size : Capacity) (R rows : Rows) (waiting : List Act) (outcome : Outcome) (number : ℕ) (c : Command) → size ≡ K → rows ≡ (step K R c).rows → waiting ≡ (step K R c).acts → outcome ≡ (step K R c).outcome
    → (replied_to K R number (Some (Ok c))).text ≡ told size rows waiting (record { number = number; moment = c.moment }) outcome
said_told K size R rows waiting outcome number c sizes same acts is =
    let s = step K R c in
    let line : Line = record { number = number; moment = c.moment } in
    sym (ap (λ (k : Capacity). told k rows waiting line outcome) sizes
    ∙ ap (λ (T : Rows). told K T waiting line outcome) same
    ∙ ap (λ (w : List Act). told K s.rows w line outcome) acts
    ∙ ap (told K s.rows s.acts line) is)

-- a refusal that carries no path names nothing
pub bare_named : (R : Rows) (refusal : Refusal) → is_bare refusal ≡ true → IsNamed R (Refused refusal)
bare_named R (ScreenBlocked screen) bare = absurd (cc)
bare_named R (QuotaExceeded folder would limit) bare = absurd (cc)
bare_named R (BadLine column) bare = tt
bare_named R LineTooLong bare = tt
bare_named R InvalidPath bare = tt
bare_named R InvalidName bare = tt
bare_named R OutOfRange bare = tt
bare_named R InvalidLimit bare = tt
bare_named R ClockBack bare = tt
bare_named R PathNotFound bare = tt
bare_named R NotFound bare = tt
bare_named R AlreadyExists bare = tt
bare_named R DuplicateName bare = tt
bare_named R InUse bare = tt
bare_named R InvalidCombination bare = tt
bare_named R NotEmpty bare = tt
bare_named R InvalidMove bare = tt
bare_named R NothingToScan bare = tt
bare_named R VolumeFull bare = tt
bare_named R NamesFull bare = tt
bare_named R TableFull bare = tt
bare_named R TextsFull bare = tt

-- ---- the store takes a command, in a turn that leaves the rows after it
-- what its call says of what a crash leaves, and of how it stands
pub record Leaves {O : Type 0} (M : Members O) (c : Command) (was : Session) (old new : O) : Type 0 where
  pub leaves : (kept : Rows) → Standing M.reads M.disk_clock M.images kept was.store old
      → EachImage M.disk_clock M.images (HoldsEither was.store.engine.size kept (lasting (step was.store.engine.size was.store.engine.rows c).rows)) old new

pub record StandsThen {O : Type 0} (M : Members O) (was next : Session) (old new : O) : Type 0 where
  pub stands : (kept : Rows) → Standing M.reads M.disk_clock M.images kept was.store old → Standing M.reads M.disk_clock M.images (now_kept kept next.store) next.store new

-- the rows after a turn that leaves what it leaves
turn_rows : {O : Type 0} {M : Members O} {was : Session} {old : O} (K : Capacity) (R : Rows) (turns : List Turn) (words before : List ℕ) (turn : Turn) (c : Command) → ((T : Rows) → turn.after T ≡ (step was.store.engine.size T c).rows) → Underway M K R turns words before was old
    → (step was.store.engine.size was.store.engine.rows c).rows ≡ rows_after R (turns ++ turn ∷ [])
turn_rows {was = was} K R turns words before turn c leaves u =
    ap (λ (T : Rows). (step was.store.engine.size T c).rows) u.rows ∙ sym (leaves (rows_after R turns)) ∙ sym (rows_one R turns turn)

command_safe : {O : Type 0} {M : Members O} {was : Session} {old : O} (K : Capacity) (R : Rows) (turns : List Turn) (words before : List ℕ) (turn : Turn) (c : Command) (new : O) → Laws M → ((T : Rows) → turn.after T ≡ (step was.store.engine.size T c).rows) → Underway M K R turns words before was old → M.by_disk old new
    → Leaves M c was old new → Safe M K R (turns ++ turn ∷ []) before old new
command_safe {was = was} K R turns words before turn c new laws leaves u ran l =
    disk_part K R turns (turn ∷ []) words before laws new u ran
    (leaves_as (lasting (rows_after R u.first)) u.size (turn_rows K R turns words before turn c leaves u) (l.leaves (lasting (rows_after R u.first)) u.standing))

-- what was kept is kept, or all of the rows is
kept_or_all : (held : ℕ) (kept R : Rows) → (rows_kept held kept R ≡ kept) ⊎ (rows_kept held kept R ≡ lasting R)
kept_or_all zero kept R = inr refl
kept_or_all (suc held) kept R = inl refl

entered : {O : Type 0} {M : Members O} (K : Capacity) (R : Rows) (turns : List Turn) (words before : List ℕ) (turn : Turn) (was next : Session) (old new : O) → Laws M → Underway M K R turns words before was old → M.by_disk old new
    → next.kept.items ≡ was.kept.items → next.store.engine.size ≡ K → next.store.engine.rows ≡ rows_after R (turns ++ turn ∷ []) → StandsThen M was next old new
    → Underway M K R (turns ++ turn ∷ []) words before next new
entered {M = M} K R turns words before turn was next old new laws u ran kept size rows s =
    let now = s.stands (lasting (rows_after R u.first)) u.standing in
    let shown = (laws.disk_keeps_sink old new ran).same_shown ∙ u.shown_is in
    let words_are = u.words_are ∙ ap (λ (l : List ℕ). u.shown ++ l) (sym kept) in
    let front = front_then words (text_of R turns) (text_of R (turns ++ turn ∷ [])) u.front (text_front R turns (turn ∷ [])) in
    ⊎_elim
    (λ same. record {
      first = u.first;
      later = u.later ++ turn ∷ [];
      split = ap (λ (l : List Turn). l ++ turn ∷ []) u.split ∙ append_assoc u.first u.later (turn ∷ []);
      shown = u.shown;
      shown_is = shown;
      words_are = words_are;
      front = front;
      few = u.few;
      size = size;
      rows = rows;
      standing = subst (λ (x : Rows). Standing M.reads M.disk_clock M.images x next.store new) same now;
    })
    (λ all. record {
      first = turns ++ turn ∷ [];
      later = [];
      split = sym (append-nil (turns ++ turn ∷ []));
      shown = u.shown;
      shown_is = shown;
      words_are = words_are;
      front = front;
      few = omega (arith, shown_few K R turns words before u, front_length (text_of R turns) (text_of R (turns ++ turn ∷ [])) (text_front R turns (turn ∷ [])));
      size = size;
      rows = rows;
      standing = subst (λ (x : Rows). Standing M.reads M.disk_clock M.images x next.store new) (all ∙ ap lasting rows) now;
    })
    (kept_or_all next.store.journal.held (lasting (rows_after R u.first)) next.store.engine.rows)

pub store_enters : {O : Type 0} {M : Members O} (turn : Turn) (c : Command) (was next : Session) (old new : O) → Laws M → M.by_disk old new → ((R : Rows) → turn.after R ≡ (step was.store.engine.size R c).rows) → next.kept.items ≡ was.kept.items
    → next.store.engine.size ≡ was.store.engine.size → next.store.engine.rows ≡ (step was.store.engine.size was.store.engine.rows c).rows → Leaves M c was old new → StandsThen M was next old new
    → Enters M turn was next old new
store_enters turn c was next old new laws ran leaves kept size rows l s = record {
  enters = λ K R turns words before u. (
    entered K R turns words before turn was next old new laws u ran kept (size ∙ u.size) (rows ∙ turn_rows K R turns words before turn c leaves u) s,
    command_safe K R turns words before turn c new laws leaves u ran l,
  );
}

-- a call of the disk failed
pub store_stops : {O : Type 0} {M : Members O} (turn : Turn) (c : Command) (was next : Session) (old new : O) → Laws M → M.by_disk old new → ((R : Rows) → turn.after R ≡ (step was.store.engine.size R c).rows) → Leaves M c was old new
    → Stops M DiskFault (turn ∷ []) was next old new
store_stops {M = M} turn c was next old new laws ran leaves l = record {
  stops = λ K R turns before u. (
    stopped_more M DiskFault K R turns (turn ∷ []) before next new (shows_still K R turns (text_of R turns) before new (laws.disk_keeps_sink old new ran).same_shown u),
    command_safe K R turns (text_of R turns) before turn c new laws leaves u ran l,
  );
}

-- there was no memory, and nothing changed
kept_calms : {O : Type 0} {M : Members O} (was next : Session) (now : O) → Laws M → KeepsJournal was.store next.store → next.store.engine ≡ was.store.engine → next.kept.items ≡ was.kept.items → Calms M was next now now
kept_calms was next now laws keeps engine kept = record {
  calms = λ K R turns words before u. (
    record {
      first = u.first;
      later = u.later;
      split = u.split;
      shown = u.shown;
      shown_is = u.shown_is;
      words_are = u.words_are ∙ ap (λ (l : List ℕ). u.shown ++ l) (sym kept);
      front = u.front;
      few = u.few;
      size = ap (λ (m : Machine). m.size) engine ∙ u.size;
      rows = ap (λ (m : Machine). m.rows) engine ∙ u.rows;
      standing = stands_kept was.store next.store keeps engine u.standing;
    },
    still K R turns words before laws u,
  );
}

-- else a call of the disk failed
pub only_disk : {T : Type 0} (r : Result T StoreFault) (fault : StoreFault) → r ≡ Err fault → (r ≡ Err OutOfMemory) ⊎ (r ≡ Err Failed) → (fault ≡ OutOfMemory → ⊥) → r ≡ Err Failed
only_disk r fault is either never = ⊎_elim (λ full. let same : fault ≡ OutOfMemory = cc (is, full) in absurd (never same)) (λ failed. failed) either

pub full_stops : {O : Type 0} {M : Members O} (turns : List Turn) (was next : Session) (old new : O) → Laws M → (next.store.engine ≡ was.store.engine) × KeepsJournal was.store next.store × (new ≡ old) → next.kept.items ≡ was.kept.items
    → Stops M NoMemory turns was next old new
full_stops {M = M} turns was next old new laws full kept =
    subst (λ d. Stops M NoMemory turns was next old d) (sym full.2)
    (breaks_stop NoMemory turns was next old old laws (calms_full was next old old (kept_calms was next old laws full.1 full.0 kept)))

-- ---- results
-- a turn is taken, and then it is told
pub entered_result : {O T : Type 0} {M : Members O} (r : Result T Stop) (turn : Turn) (text : List ℕ) (a b c : Session) (first mid last : O) → Laws M → turn.said a.store.engine.rows ≡ text → Enters M turn a b first mid
    → MatchResult r (λ x. Tells M text b c mid last) (λ e. StopsTelling M e text b c mid last) → MatchResult r (λ x. Goes M (turn ∷ []) a c first last) (λ e. Stops M e (turn ∷ []) a c first last)
entered_result (Ok x) turn text a b c first mid last laws said p h = enters_tells turn text a b c first mid last laws said p h
entered_result (Err e) turn text a b c first mid last laws said p h = enters_stops e turn text a b c first mid last laws said p h
