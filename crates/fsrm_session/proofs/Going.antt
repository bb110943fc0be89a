-- How a session goes on, call by call.
use Rattle.std.proofs.Common.{◌≡◌, ⊎_elim, ℕ, ◌+◌, ◌≤◌, ◌<◌, Some, List, [], ◌∷◌, ◌++◌, length, sym, ◌∙◌, ap, subst, arith, append_assoc, length-append}
use Rattle.std.proofs.lemmas.List.{append-nil}
use Rattle.std.specs.Prelude.{Option}
use Rattle.std.specs.Io.KnownBytes.{append_known}
use Rattle.fsrm_model.specs.declared.row.Capacity.{Capacity}
use Rattle.fsrm_model.specs.declared.row.Rows.{Rows}
use Rattle.fsrm_model.specs.store.Lasting.{lasting}
use Rattle.fsrm_outside.specs.Members.{Members}
use Rattle.fsrm_outside.specs.Moments.{EachImage}
use Rattle.fsrm_outside.specs.Parts.{Parts, part_of, other}
use Rattle.fsrm_outside.specs.declared.traits.Part.{Part}
use Rattle.fsrm_outside.specs.Runs.{CoversMore}
use Rattle.fsrm_outside.specs.Shown.{IsFront}
use Rattle.fsrm_outside.proofs.EachMoments.{disk_moments, no_moments, then_moments, weaker_moments, write_moments}
use Rattle.fsrm_outside.proofs.OutsideLaws.{Laws}
use Rattle.fsrm_outside.proofs.Shown.{append_known-nil}
use Rattle.fsrm_outside.proofs.Stages.{some_is}
use Rattle.fsrm_engine.specs.Machine.{Machine}
use Rattle.fsrm_store.specs.Keeps.{HoldsState}
use Rattle.fsrm_store.specs.Standing.{HoldsEither, Standing, StandsAlike}
use Rattle.fsrm_store.specs.declared.store.Store.{Store}
use Rattle.fsrm_store.proofs.StateLaws.{holds_told}
use Rattle.fsrm_store.proofs.Standings.{kept_settled, leaves_as, standing_now, stands_alike, stands_beside}
use Rattle.fsrm_session.specs.Covers.{Covers}
use Rattle.fsrm_session.specs.Grows.{Grows}
use Rattle.fsrm_session.specs.Turns.{Turn, rows_after, text_of}
use Rattle.fsrm_session.specs.Underway.{Breaks, Calms, CanFlush, Enters, Goes, Safe, ShowsSome, Stopped, Stops, StopsTelling, Tells, Underway}
use Rattle.fsrm_session.specs.declared.session.Session.{Session}
use Rattle.fsrm_session.specs.declared.stop.Stop.{Stop}
use Rattle.fsrm_session.specs.declared.stop.Stop.TheVariants.{WriteFault, DiskFault, NoMemory}
use Rattle.fsrm_session.proofs.Texts.{covers_on, front_length, front_same, front_taken, front_then, rows_one, text_front, text_one}

-- ---- what each image covers now, and how long it does

-- an image with what was on the disk, while no more is shown than was
pub covers_first : (K : Capacity) (R : Rows) (turns first later : List Turn) (before shown : List ℕ) (n : ℕ) (parts : Parts) → turns ≡ first ++ later → length shown ≤ length (text_of R first) → n ≤ length (before ++ shown)
    → HoldsState K (lasting (rows_after R first)) parts → CoversMore (Covers K R turns) (length before) n parts
covers_first K R turns first later before shown n parts split few le holds more is = record {
  done = first;
  rest = later;
  are = split;
  holds = holds_told K (lasting (rows_after R first)) parts holds;
  acknowledged = omega (arith, few, le, is, length-append before shown);
}

-- an image with all turns
pub covers_all : (K : Capacity) (R : Rows) (turns : List Turn) (before : List ℕ) (n : ℕ) (parts : Parts) → n ≤ length before + length (text_of R turns)
    → HoldsState K (lasting (rows_after R turns)) parts → CoversMore (Covers K R turns) (length before) n parts
covers_all K R turns before n parts le holds more is = record {
  done = turns;
  rest = [];
  are = sym (append-nil turns);
  holds = holds_told K (lasting (rows_after R turns)) parts holds;
  acknowledged = omega (arith, le, is);
}

pub shown_few : {O : Type 0} {M : Members O} {session : Session} {now : O} (K : Capacity) (R : Rows) (turns : List Turn) (words before : List ℕ) → (u : Underway M K R turns words before session now) → length u.shown ≤ length (text_of R turns)
shown_few {session = session} K R turns words before u =
    omega (arith, front_length words (text_of R turns) u.front, ap length u.words_are, length-append u.shown session.kept.items)

now_shown : {O : Type 0} {M : Members O} {now : O} → Laws M → (l : List ℕ) (t : ℕ) → M.shown now ≡ Some l → M.sink_clock now ≡ Some t → M.shown_at now t ≡ l
now_shown {now = now} laws l t told at = some_is (sym (laws.shown_now now t at) ∙ told)

-- a crash leaves what is on the disk
kept_now : {O : Type 0} {M : Members O} {session : Session} {now : O} (K : Capacity) (R : Rows) (turns : List Turn) (words before : List ℕ) → (u : Underway M K R turns words before session now)
    → (t : ℕ) (i : Parts) → M.disk_clock now ≡ Some t → M.images now t i → HoldsState K (lasting (rows_after R u.first)) i
kept_now K R turns words before u t i at left =
    let here = standing_now u.standing in
    subst (λ (K : Capacity). HoldsState K (lasting (rows_after R u.first)) i) u.size (here.now t i at left)

-- no call
pub stays_covered : {O : Type 0} {M : Members O} {session : Session} {now : O} (K : Capacity) (R : Rows) (turns : List Turn) (words before : List ℕ) → Laws M → Underway M K R turns words before session now
    → (t : ℕ) (i : Parts) → M.disk_clock now ≡ Some t → M.sink_clock now ≡ Some t → M.images now t i → CoversMore (Covers K R turns) (length before) (length (M.shown_at now t)) i
stays_covered {M = M} {now = now} K R turns words before laws u t i at sink left =
    covers_first K R turns u.first u.later before u.shown (length (M.shown_at now t)) i u.split u.few (omega (arith, ap length (now_shown laws (before ++ u.shown) t u.shown_is sink)))
    (kept_now K R turns words before u t i at left)

pub still : {O : Type 0} {M : Members O} {session : Session} {now : O} (K : Capacity) (R : Rows) (turns : List Turn) (words before : List ℕ) → Laws M → Underway M K R turns words before session now → Safe M K R turns before now now
still {now = now} K R turns words before laws u = no_moments now (CoversMore (Covers K R turns) (length before)) (stays_covered K R turns words before laws u)

-- calls of the disk, after which it holds what it held or all
pub disk_part : {O : Type 0} {M : Members O} {session : Session} {old : O} (K : Capacity) (R : Rows) (turns more : List Turn) (words before : List ℕ) → Laws M → (new : O) → (u : Underway M K R turns words before session old)
    → M.by_disk old new → EachImage M.disk_clock M.images (HoldsEither K (lasting (rows_after R u.first)) (lasting (rows_after R (turns ++ more)))) old new → Safe M K R (turns ++ more) before old new
disk_part {M = M} {old = old} K R turns more words before laws new u ran each =
    disk_moments laws new (CoversMore (Covers K R (turns ++ more)) (length before)) ran each (λ t i at one.
    let now = ap length (now_shown laws (before ++ u.shown) t u.shown_is at) in
    ⊎_elim
    (λ was. covers_first K R (turns ++ more) u.first (u.later ++ more) before u.shown (length (M.shown_at old t)) i
    (ap (λ (l : List Turn). l ++ more) u.split ∙ append_assoc u.first u.later more) u.few (omega (arith, now)) was)
    (λ all. covers_all K R (turns ++ more) before (length (M.shown_at old t)) i
    (omega (arith, now, length-append before u.shown, shown_few K R turns words before u, front_length (text_of R turns) (text_of R (turns ++ more)) (text_front R turns more))) all)
    one)

-- writes, once all turns are on the disk
pub write_part : {O : Type 0} {M : Members O} {session : Session} {old : O} (K : Capacity) (R : Rows) (turns : List Turn) (words before : List ℕ) → Laws M → (new : O) (more : List ℕ) → (u : Underway M K R turns words before session old)
    → lasting (rows_after R u.first) ≡ lasting (rows_after R turns) → M.by_write old new → M.shown new ≡ Some (before ++ more) → length more ≤ length (text_of R turns) → Safe M K R turns before old new
write_part K R turns words before laws new more u same ran told few =
    write_moments laws new (CoversMore (Covers K R turns) (length before)) (before ++ more) ran told (λ t i at left n le.
    covers_all K R turns before n i (omega (arith, le, few, length-append before more))
    (subst (λ (x : Rows). HoldsState K x i) same (kept_now K R turns words before u t i at left)))

-- nothing is held: all turns are on the disk
pub all_on_disk : {O : Type 0} {M : Members O} {session : Session} {now : O} (K : Capacity) (R : Rows) (turns : List Turn) (words before : List ℕ) → (u : Underway M K R turns words before session now)
    → session.store.journal.held ≡ 0 → lasting (rows_after R u.first) ≡ lasting (rows_after R turns)
all_on_disk K R turns words before u none = kept_settled u.standing none ∙ ap lasting u.rows

-- ---- what waits is shown

shown_all : {O : Type 0} (M : Members O) (old new : O) (before shown waiting left : List ℕ) → M.shown old ≡ Some (before ++ shown) → left ≡ [] → append_known (M.shown new) left ≡ append_known (M.shown old) waiting → M.shown new ≡ Some (before ++ (shown ++ waiting))
shown_all M old new before shown waiting left was empty told =
    sym (append_known-nil (M.shown new)) ∙ ap (append_known (M.shown new)) (sym empty) ∙ told ∙ ap (λ (o : Option (List ℕ)). append_known o waiting) was ∙ ap (λ (l : List ℕ). Some l) (append_assoc before shown waiting)

pub shown_calms : {O : Type 0} {M : Members O} (was next : Session) (old new : O) → Laws M → was.store.journal.held ≡ 0 → next.store ≡ was.store → next.kept.items ≡ []
    → M.by_write old new → append_known (M.shown new) next.kept.items ≡ append_known (M.shown old) was.kept.items → Calms M was next old new
shown_calms {M = M} was next old new laws none store empty ran told = record {
  calms = λ K R turns words before u.
      let same = all_on_disk K R turns words before u none in
      let whole : M.shown new ≡ Some (before ++ words) =
      shown_all M old new before u.shown was.kept.items next.kept.items u.shown_is empty told ∙ ap (λ (l : List ℕ). Some (before ++ l)) (sym u.words_are) in
      let few = front_length words (text_of R turns) u.front in
      let stands : Standing M.reads M.disk_clock M.images (lasting (rows_after R u.first)) was.store new = stands_beside (laws.write_keeps_disk old new ran) u.standing in (
        record {
          first = turns;
          later = [];
          split = sym (append-nil turns);
          shown = words;
          shown_is = whole;
          words_are = sym (ap (λ (l : List ℕ). words ++ l) empty ∙ append-nil words);
          front = u.front;
          few = few;
          size = ap (λ (s : Store). s.engine.size) store ∙ u.size;
          rows = ap (λ (s : Store). s.engine.rows) store ∙ u.rows;
          standing = subst (λ (s : Store). Standing M.reads M.disk_clock M.images (lasting (rows_after R turns)) s new) (sym store)
              (subst (λ (x : Rows). Standing M.reads M.disk_clock M.images x was.store new) same stands);
        },
        write_part K R turns words before laws new words u same ran whole few,
      );
}

pub shown_breaks : {O : Type 0} {M : Members O} (was next : Session) (old new : O) → Laws M → was.store.journal.held ≡ 0
    → M.by_write old new → append_known (M.shown new) next.kept.items ≡ append_known (M.shown old) was.kept.items → Grows (M.shown old) (M.shown new) → Breaks M WriteFault was next old new
shown_breaks {M = M} was next old new laws none ran told grows = record {
  breaks = λ K R turns words before u.
      let same = all_on_disk K R turns words before u none in
      let some = front_taken (before ++ u.shown) was.kept.items next.kept.items (M.shown old) (M.shown new) u.shown_is told grows in
      let more = u.shown ++ some.0 in
      let shows : M.shown new ≡ Some (before ++ more) = some.1 ∙ ap (λ (l : List ℕ). Some l) (append_assoc before u.shown some.0) in
      let is : IsFront more words = (some.2.0, u.words_are ∙ ap (λ (l : List ℕ). u.shown ++ l) some.2.1 ∙ sym (append_assoc u.shown some.0 some.2.0)) in
      let front : IsFront more (text_of R turns) = front_then more words (text_of R turns) is u.front in (
        (more, shows, front),
        write_part K R turns words before laws new more u same ran shows (front_length more (text_of R turns) front),
      );
}

-- ---- what is held is made stable

flush_safe : {O : Type 0} {M : Members O} {was : Session} {old : O} (K : Capacity) (R : Rows) (turns : List Turn) (words before : List ℕ) → Laws M → (new : O) → Underway M K R turns words before was old → M.by_disk old new
    → ((kept : Rows) → Standing M.reads M.disk_clock M.images kept was.store old → EachImage M.disk_clock M.images (HoldsEither was.store.engine.size kept (lasting was.store.engine.rows)) old new) → Safe M K R turns before old new
flush_safe {M = M} {old = old} K R turns words before laws new u ran leaves =
    subst (λ (l : List Turn). Safe M K R l before old new) (append-nil turns)
    (disk_part K R turns [] words before laws new u ran
    (leaves_as (lasting (rows_after R u.first)) u.size (u.rows ∙ ap (λ (l : List Turn). rows_after R l) (sym (append-nil turns))) (leaves (lasting (rows_after R u.first)) u.standing)))

pub flushed_calms : {O : Type 0} {M : Members O} (was next : Session) (old new : O) → Laws M → M.by_disk old new → next.kept.items ≡ was.kept.items → next.store.engine ≡ was.store.engine
    → ((kept : Rows) → Standing M.reads M.disk_clock M.images kept was.store old → EachImage M.disk_clock M.images (HoldsEither was.store.engine.size kept (lasting was.store.engine.rows)) old new)
    → ((kept : Rows) → Standing M.reads M.disk_clock M.images kept was.store old → Standing M.reads M.disk_clock M.images (lasting next.store.engine.rows) next.store new)
    → Calms M was next old new
flushed_calms {M = M} was next old new laws ran kept engine leaves stands = record {
  calms = λ K R turns words before u.
      let rows : next.store.engine.rows ≡ rows_after R turns = ap (λ (m : Machine). m.rows) engine ∙ u.rows in (
        record {
          first = turns;
          later = [];
          split = sym (append-nil turns);
          shown = u.shown;
          shown_is = (laws.disk_keeps_sink old new ran).same_shown ∙ u.shown_is;
          words_are = u.words_are ∙ ap (λ (l : List ℕ). u.shown ++ l) (sym kept);
          front = u.front;
          few = shown_few K R turns words before u;
          size = ap (λ (m : Machine). m.size) engine ∙ u.size;
          rows = rows;
          standing = subst (λ (x : Rows). Standing M.reads M.disk_clock M.images (lasting x) next.store new) rows (stands (lasting (rows_after R u.first)) u.standing);
        },
        flush_safe K R turns words before laws new u ran leaves,
      );
}

-- nothing was written
pub shows_still : {O : Type 0} {M : Members O} {session : Session} {old : O} (K : Capacity) (R : Rows) (turns : List Turn) (words before : List ℕ) (new : O) → M.shown new ≡ M.shown old → Underway M K R turns words before session old
    → ShowsSome M (text_of R turns) before new
shows_still {session = session} K R turns words before new same u =
    let is : IsFront u.shown words = (session.kept.items, u.words_are) in
    (u.shown, same ∙ u.shown_is, front_then u.shown words (text_of R turns) is u.front)

pub flushed_breaks : {O : Type 0} {M : Members O} (was next : Session) (old new : O) → Laws M → M.by_disk old new
    → ((kept : Rows) → Standing M.reads M.disk_clock M.images kept was.store old → EachImage M.disk_clock M.images (HoldsEither was.store.engine.size kept (lasting was.store.engine.rows)) old new)
    → Breaks M DiskFault was next old new
flushed_breaks was next old new laws ran leaves = record {
  breaks = λ K R turns words before u. (
    shows_still K R turns words before new (laws.disk_keeps_sink old new ran).same_shown u,
    flush_safe K R turns words before laws new u ran leaves,
  );
}

-- ---- no call

pub calms_nothing : {O : Type 0} {M : Members O} (session : Session) (now : O) → Laws M → Calms M session session now now
calms_nothing session now laws = record { calms = λ K R turns words before u. (u, still K R turns words before laws u) }

-- what stands for one store stands for the other
pub alike_calms : {O : Type 0} {M : Members O} (was next : Session) (now : O) → Laws M → StandsAlike was.store next.store → next.kept.items ≡ was.kept.items → Calms M was next now now
alike_calms was next now laws alike kept = record {
  calms = λ K R turns words before u. (
    record {
      first = u.first;
      later = u.later;
      split = u.split;
      shown = u.shown;
      shown_is = u.shown_is;
      words_are = u.words_are ∙ ap (λ (l : List ℕ). u.shown ++ l) (sym kept);
      front = u.front;
      few = u.few;
      size = alike.size ∙ u.size;
      rows = alike.rows ∙ u.rows;
      standing = stands_alike was.store next.store alike u.standing;
    },
    still K R turns words before laws u,
  );
}

-- and is ready alike
pub ready_alike : {D : Type 0} (reads : D → Option Parts) (was next : Session) (disk : D) → StandsAlike was.store next.store → next.store.sound ≡ was.store.sound → CanFlush reads was disk → CanFlush reads next disk
ready_alike reads was next disk alike sound can = record {
  sound = sound ∙ can.sound;
  young = alike.is_old ∙ can.young;
  ready = λ parts told.
      subst (λ (p : Part). (next.store.journal.end < length (part_of p parts)) × (0 < length (part_of (other p) parts))) (sym alike.ruling)
      (subst (λ (n : ℕ). (n < length (part_of was.store.journal.ruling parts)) × (0 < length (part_of (other was.store.journal.ruling) parts))) (sym alike.end) (can.ready parts told));
}

-- a turn that leaves the rows as they are
pub idle_enters : {O : Type 0} {M : Members O} (turn : Turn) (session : Session) (now : O) → Laws M → ((R : Rows) → turn.after R ≡ R) → Enters M turn session session now now
idle_enters {M = M} turn session now laws idle = record {
  enters = λ K R turns words before u.
      let v : Underway M K R (turns ++ turn ∷ []) words before session now = record {
        first = u.first;
        later = u.later ++ turn ∷ [];
        split = ap (λ (l : List Turn). l ++ turn ∷ []) u.split ∙ append_assoc u.first u.later (turn ∷ []);
        shown = u.shown;
        shown_is = u.shown_is;
        words_are = u.words_are;
        front = front_then words (text_of R turns) (text_of R (turns ++ turn ∷ [])) u.front (text_front R turns (turn ∷ []));
        few = u.few;
        size = u.size;
        rows = u.rows ∙ sym (rows_one R turns turn ∙ idle (rows_after R turns));
        standing = u.standing;
      } in
      (v, still K R (turns ++ turn ∷ []) words before laws v);
}

-- ---- calls, one after the other

pub calms_then : {O : Type 0} {M : Members O} (a b c : Session) (first mid last : O) → Laws M → Calms M a b first mid → Calms M b c mid last → Calms M a c first last
calms_then a b c first mid last laws p q = record {
  calms = λ K R turns words before u.
      let one = p.calms K R turns words before u in
      let two = q.calms K R turns words before one.0 in
      (two.0, then_moments laws one.1 two.1);
}

pub calms_break : {O : Type 0} {M : Members O} (stop : Stop) (a b c : Session) (first mid last : O) → Laws M → Calms M a b first mid → Breaks M stop b c mid last → Breaks M stop a c first last
calms_break stop a b c first mid last laws p q = record {
  breaks = λ K R turns words before u.
      let one = p.calms K R turns words before u in
      let two = q.breaks K R turns words before one.0 in
      (two.0, then_moments laws one.1 two.1);
}

-- there was no memory for what was to be done then
pub calms_full : {O : Type 0} {M : Members O} (a b : Session) (first last : O) → Calms M a b first last → Breaks M NoMemory a b first last
calms_full a b first last p = record {
  breaks = λ K R turns words before u.
      let one = p.calms K R turns words before u in
      (record { done = turns; rest = []; are = sym (append-nil turns); words = words; here = one.0 }, one.1);
}

-- ---- turns are taken

pub safe_on : {O : Type 0} {M : Members O} {old new : O} (K : Capacity) (R : Rows) (turns more : List Turn) (before : List ℕ) → Safe M K R turns before old new → Safe M K R (turns ++ more) before old new
safe_on K R turns more before e = weaker_moments (CoversMore (Covers K R (turns ++ more)) (length before)) (λ n i h. covers_on K R turns more (length before) n i h) e

pub goes_nothing : {O : Type 0} {M : Members O} (session : Session) (now : O) → Laws M → Goes M [] session session now now
goes_nothing {M = M} session now laws = record {
  goes = λ K R turns before u.
      subst (λ (l : List Turn). Underway M K R l (text_of R l) before session now × Safe M K R l before now now) (sym (append-nil turns)) (u, still K R turns (text_of R turns) before laws u);
}

pub goes_then : {O : Type 0} {M : Members O} (xs ys : List Turn) (a b c : Session) (first mid last : O) → Laws M → Goes M xs a b first mid → Goes M ys b c mid last → Goes M (xs ++ ys) a c first last
goes_then {M = M} xs ys a b c first mid last laws p q = record {
  goes = λ K R turns before u.
      let one = p.goes K R turns before u in
      let two = q.goes K R (turns ++ xs) before one.0 in
      subst (λ (l : List Turn). Underway M K R l (text_of R l) before c last × Safe M K R l before first last) (append_assoc turns xs ys)
      (two.0, then_moments laws (safe_on K R (turns ++ xs) ys before one.1) two.1);
}

pub goes_calms : {O : Type 0} {M : Members O} (xs : List Turn) (a b c : Session) (first mid last : O) → Laws M → Goes M xs a b first mid → Calms M b c mid last → Goes M xs a c first last
goes_calms xs a b c first mid last laws p q = record {
  goes = λ K R turns before u.
      let one = p.goes K R turns before u in
      let two = q.calms K R (turns ++ xs) (text_of R (turns ++ xs)) before one.0 in
      (two.0, then_moments laws one.1 two.1);
}

pub calms_goes : {O : Type 0} {M : Members O} (xs : List Turn) (a b c : Session) (first mid last : O) → Laws M → Calms M a b first mid → Goes M xs b c mid last → Goes M xs a c first last
calms_goes xs a b c first mid last laws p q = record {
  goes = λ K R turns before u.
      let one = p.calms K R turns (text_of R turns) before u in
      let two = q.goes K R turns before one.0 in
      (two.0, then_moments laws (safe_on K R turns xs before one.1) two.1);
}

-- ---- a turn is taken, and then it is told

-- its text comes after that of the turns before it
front_told : (R : Rows) (turns : List Turn) (turn : Turn) (text : List ℕ) (now : Rows) → now ≡ rows_after R turns → turn.said now ≡ text → text_of R turns ++ text ≡ text_of R (turns ++ turn ∷ [])
front_told R turns turn text now rows said =
    ap (λ (l : List ℕ). text_of R turns ++ l) (sym said ∙ ap (λ (x : Rows). turn.said x) rows) ∙ sym (text_one R turns turn)

pub enters_tells : {O : Type 0} {M : Members O} (turn : Turn) (text : List ℕ) (a b c : Session) (first mid last : O) → Laws M → turn.said a.store.engine.rows ≡ text → Enters M turn a b first mid → Tells M text b c mid last → Goes M (turn ∷ []) a c first last
enters_tells {M = M} turn text a b c first mid last laws said p q = record {
  goes = λ K R turns before u.
      let whole = text_of R (turns ++ turn ∷ []) in
      let is : text_of R turns ++ text ≡ whole = front_told R turns turn text a.store.engine.rows u.rows said in
      let one = p.enters K R turns (text_of R turns) before u in
      let two = q.tells K R (turns ++ turn ∷ []) (text_of R turns) before one.0 (front_same (text_of R turns ++ text) whole is) in
      (subst (λ (words : List ℕ). Underway M K R (turns ++ turn ∷ []) words before c last) is two.0, then_moments laws one.1 two.1);
}

pub enters_stops : {O : Type 0} {M : Members O} (stop : Stop) (turn : Turn) (text : List ℕ) (a b c : Session) (first mid last : O) → Laws M → turn.said a.store.engine.rows ≡ text → Enters M turn a b first mid
    → StopsTelling M stop text b c mid last → Stops M stop (turn ∷ []) a c first last
enters_stops {M = M} stop turn text a b c first mid last laws said p q = record {
  stops = λ K R turns before u.
      let whole = text_of R (turns ++ turn ∷ []) in
      let is : text_of R turns ++ text ≡ whole = front_told R turns turn text a.store.engine.rows u.rows said in
      let one = p.enters K R turns (text_of R turns) before u in
      let two = q.stops K R (turns ++ turn ∷ []) (text_of R turns) before one.0 (front_same (text_of R turns ++ text) whole is) in
      (two.0, then_moments laws one.1 two.1);
}

-- ---- it stops

shows_longer : {O : Type 0} (M : Members O) (a b before : List ℕ) (now : O) → IsFront a b → ShowsSome M a before now → ShowsSome M b before now
shows_longer M a b before now longer s = (s.0, s.1, front_then s.0 a b s.2 longer)

-- whatever turns would have come
pub stopped_more : {O : Type 0} (M : Members O) (stop : Stop) (K : Capacity) (R : Rows) (turns more : List Turn) (before : List ℕ) (session : Session) (now : O) → Stopped M stop K R turns before session now → Stopped M stop K R (turns ++ more) before session now
stopped_more M WriteFault K R turns more before session now s = shows_longer M (text_of R turns) (text_of R (turns ++ more)) before now (text_front R turns more) s
stopped_more M DiskFault K R turns more before session now s = shows_longer M (text_of R turns) (text_of R (turns ++ more)) before now (text_front R turns more) s
stopped_more M NoMemory K R turns more before session now s =
    record { done = s.done; rest = s.rest ++ more; are = ap (λ (l : List Turn). l ++ more) s.are ∙ append_assoc s.done s.rest more; words = s.words; here = s.here }

pub goes_break : {O : Type 0} {M : Members O} (stop : Stop) (xs : List Turn) (a b c : Session) (first mid last : O) → Laws M → Goes M xs a b first mid → Breaks M stop b c mid last → Stops M stop xs a c first last
goes_break stop xs a b c first mid last laws p q = record {
  stops = λ K R turns before u.
      let one = p.goes K R turns before u in
      let two = q.breaks K R (turns ++ xs) (text_of R (turns ++ xs)) before one.0 in
      (two.0, then_moments laws one.1 two.1);
}

pub breaks_stop : {O : Type 0} {M : Members O} (stop : Stop) (xs : List Turn) (a c : Session) (first last : O) → Laws M → Breaks M stop a c first last → Stops M stop xs a c first last
breaks_stop {M = M} stop xs a c first last laws q = record {
  stops = λ K R turns before u.
      let two = q.breaks K R turns (text_of R turns) before u in
      (stopped_more M stop K R turns xs before c last two.0, safe_on K R turns xs before two.1);
}

pub calms_stops : {O : Type 0} {M : Members O} (stop : Stop) (xs : List Turn) (a b c : Session) (first mid last : O) → Laws M → Calms M a b first mid → Stops M stop xs b c mid last → Stops M stop xs a c first last
calms_stops stop xs a b c first mid last laws p q = record {
  stops = λ K R turns before u.
      let one = p.calms K R turns (text_of R turns) before u in
      let two = q.stops K R turns before one.0 in
      (two.0, then_moments laws (safe_on K R turns xs before one.1) two.1);
}

pub goes_stops : {O : Type 0} {M : Members O} (stop : Stop) (xs ys : List Turn) (a b c : Session) (first mid last : O) → Laws M → Goes M xs a b first mid → Stops M stop ys b c mid last → Stops M stop (xs ++ ys) a c first last
goes_stops {M = M} stop xs ys a b c first mid last laws p q = record {
  stops = λ K R turns before u.
      let one = p.goes K R turns before u in
      let two = q.stops K R (turns ++ xs) before one.0 in
      subst (λ (l : List Turn). Stopped M stop K R l before c last × Safe M K R l before first last) (append_assoc turns xs ys)
      (two.0, then_moments laws (safe_on K R (turns ++ xs) ys before one.1) two.1);
}

pub stops_more : {O : Type 0} {M : Members O} (stop : Stop) (xs ys : List Turn) (a c : Session) (first last : O) → Stops M stop xs a c first last → Stops M stop (xs ++ ys) a c first last
stops_more {M = M} stop xs ys a c first last q = record {
  stops = λ K R turns before u.
      let two = q.stops K R turns before u in
      subst (λ (l : List Turn). Stopped M stop K R l before c last × Safe M K R l before first last) (append_assoc turns xs ys)
      (stopped_more M stop K R (turns ++ xs) ys before c last two.0, safe_on K R (turns ++ xs) ys before two.1);
}
