-- A store stands beside its disk from call to call.
use Rattle.std.proofs.Common.{◌≡◌, inl, inr, ℕ, zero, suc, ◌≤◌, true, false, List, [], ◌∷◌, ◌++◌, length, take, refl, sym, ◌∙◌, ap, subst}
use Rattle.std.specs.Prelude.{Ok, Option, if◌then◌else◌}
use Rattle.std.proofs.lemmas.List.{append-nil, take-append-le, take-take}
use Rattle.fsrm_model.specs.commands.Step.{step}
use Rattle.fsrm_model.specs.declared.command.Command.{Command}
use Rattle.fsrm_model.specs.declared.command.Entry.{Entry}
use Rattle.fsrm_model.specs.declared.row.Capacity.{Capacity}
use Rattle.fsrm_model.specs.declared.row.Rows.{Rows}
use Rattle.fsrm_model.specs.store.Lasting.{lasting}
use Rattle.fsrm_model.specs.store.Replays.{command_entries, journal_entry}
use Rattle.fsrm_model.specs.store.Valued.{is_command}
use Rattle.fsrm_outside.specs.Kept.{KeepsDisk}
use Rattle.fsrm_outside.specs.Moments.{EachImage, EachNow}
use Rattle.fsrm_outside.specs.Parts.{Parts}
use Rattle.fsrm_outside.proofs.Stages.{started, weaker}
use Rattle.fsrm_journal.specs.Stores.{Holding, HoldsWithOrWithout, Stands, StandsAt}
use Rattle.fsrm_journal.specs.declared.journal.Journal.{Journal}
use Rattle.fsrm_journal.proofs.Stores.{each_now, kept_on, none_here}
use Rattle.fsrm_engine.specs.Machine.{Machine}
use Rattle.record_codec.specs.Entries.{decoded}
use Rattle.fsrm_store.specs.Keeps.{HoldsState, Keeps, Spell}
use Rattle.fsrm_store.specs.Standing.{rows_kept, HoldsEither, IsReady, KeepsJournal, Leads, StandsAlike, StandsFor}
use Rattle.fsrm_store.specs.declared.store.Store.{Store}
use Rattle.fsrm_store.proofs.KeepsLaws.{command_keeps, crash_leaves, flush_keeps, keeps_settled, written_holds}

-- ---- what a crash leaves
pub standing_now : {D : Type 0} {reads : D → Option Parts} {clock : D → Option ℕ} {images : D → ℕ → Parts → Type 0} {kept R : Rows} {store : Store} {disk : D}
    → StandsFor reads clock images kept R store disk → EachNow clock images (HoldsState store.engine.size kept) disk
standing_now {kept = kept} {R = R} {store = store} s =
    let here = each_now s.stands in
    record {
      now = λ t i told left.
          subst (λ (K : Capacity). HoldsState K kept i) s.size (written_holds store.journal.ruling kept s.head s.bytes s.bodies s.held R i s.keeps (here.now t i told left));
    }

-- no call was made
pub stands_still : {D : Type 0} {reads : D → Option Parts} {clock : D → Option ℕ} {images : D → ℕ → Parts → Type 0} {kept R : Rows} {store : Store} {disk : D} (K : Capacity) (next : Rows)
    → StandsFor reads clock images kept R store disk → store.engine.size ≡ K → EachImage clock images (HoldsEither K kept next) disk disk
stands_still {kept = kept} K next s size =
    let here = standing_now s in
    started (record { now = λ t i told left. inl (subst (λ (K : Capacity). HoldsState K kept i) size (here.now t i told left)) })

-- what is held is written
pub flush_leaves : {D : Type 0} {reads : D → Option Parts} {clock : D → Option ℕ} {images : D → ℕ → Parts → Type 0} {kept R : Rows} {store : Store} {disk : D} (new : D) (s : StandsFor reads clock images kept R store disk)
    → EachImage clock images (HoldsWithOrWithout store.journal.ruling s.head s.bytes s.bodies s.held) disk new → EachImage clock images (HoldsEither store.engine.size kept (lasting R)) disk new
flush_leaves {kept = kept} {R = R} {store = store} new s each =
    weaker (HoldsEither store.engine.size kept (lasting R))
    (λ i holds. subst (λ (K : Capacity). HoldsEither K kept (lasting R) i) s.size (crash_leaves store.journal.ruling kept s.head s.bytes s.bodies s.held R i s.keeps holds))
    each

-- the same, by other names
pub leaves_as : {D : Type 0} {clock : D → Option ℕ} {images : D → ℕ → Parts → Type 0} {old new : D} {K size : Capacity} {next rows : Rows} (kept : Rows) → K ≡ size → next ≡ rows
    → EachImage clock images (HoldsEither K kept (lasting next)) old new → EachImage clock images (HoldsEither size kept (lasting rows)) old new
leaves_as {clock = clock} {images = images} {old = old} {new = new} {K = K} {rows = rows} kept sizes is each =
    subst (λ (K : Capacity). EachImage clock images (HoldsEither K kept (lasting rows)) old new) sizes
    (subst (λ (R : Rows). EachImage clock images (HoldsEither K kept (lasting R)) old new) is each)

-- a crash leaves these rows, whatever it left before
pub later_leaves : {D : Type 0} {clock : D → Option ℕ} {images : D → ℕ → Parts → Type 0} {old new : D} (K : Capacity) (kept next : Rows)
    → EachImage clock images (HoldsState K next) old new → EachImage clock images (HoldsEither K kept next) old new
later_leaves K kept next each = weaker (HoldsEither K kept next) (λ i holds. inr holds) each

-- ---- how a store stands after a call
pub stands_on : {D : Type 0} {reads : D → Option Parts} {clock : D → Option ℕ} {images : D → ℕ → Parts → Type 0} {kept R : Rows} {store : Store} {disk : D} (after : Store) → StandsFor reads clock images kept R store disk
    → after.journal ≡ store.journal → after.engine.size ≡ store.engine.size → after.image ≡ store.image → after.is_old ≡ store.is_old → StandsFor reads clock images kept R after disk
stands_on {reads = reads} {clock = clock} {images = images} {disk = disk} after s journals sizes long first = record {
  head = s.head;
  bytes = s.bytes;
  bodies = s.bodies;
  held = s.held;
  stands = subst (λ (j : Journal). Stands reads clock images s.head s.bytes s.bodies j disk) (sym journals) s.stands;
  holding = subst (λ (j : Journal). Holding s.held j) (sym journals) s.holding;
  keeps = s.keeps;
  size = s.size ∙ sym sizes;
  long = long ∙ s.long;
  version = first ∙ s.version;
}

pub stands_alike : {D : Type 0} {reads : D → Option Parts} {clock : D → Option ℕ} {images : D → ℕ → Parts → Type 0} {kept : Rows} {disk : D} (store after : Store) → StandsAlike store after
    → StandsFor reads clock images kept store.engine.rows store disk → StandsFor reads clock images kept after.engine.rows after disk
stands_alike {kept = kept} store after alike s = record {
  head = s.head;
  bytes = s.bytes;
  bodies = s.bodies;
  held = s.held;
  stands = record { parts = s.stands.parts; certain = s.stands.certain; at = alike.at s.head s.bytes s.bodies s.stands.parts s.stands.at };
  holding = alike.holding s.held s.holding;
  keeps = subst (λ (R : Rows). Keeps kept s.head s.bytes s.bodies s.held R) (sym alike.rows) s.keeps;
  size = s.size ∙ sym alike.size;
  long = alike.image ∙ s.long;
  version = alike.is_old ∙ s.version;
}

pub stands_kept : {D : Type 0} {reads : D → Option Parts} {clock : D → Option ℕ} {images : D → ℕ → Parts → Type 0} {kept : Rows} {disk : D} (store after : Store) → KeepsJournal store after → after.engine ≡ store.engine
    → StandsFor reads clock images kept store.engine.rows store disk → StandsFor reads clock images kept after.engine.rows after disk
stands_kept {reads = reads} {clock = clock} {images = images} {kept = kept} {disk = disk} store after k engine s =
    subst (λ (m : Machine). StandsFor reads clock images kept m.rows after disk) (sym engine) (stands_on after s k.journal (ap (λ (m : Machine). m.size) engine) k.image k.is_old)

-- calls of other devices were made
pub stands_beside : {D : Type 0} {reads : D → Option Parts} {clock : D → Option ℕ} {images : D → ℕ → Parts → Type 0} {faults : D → ℕ} {kept R : Rows} {store : Store} {old new : D} → KeepsDisk reads clock images faults old new
    → StandsFor reads clock images kept R store old → StandsFor reads clock images kept R store new
stands_beside keeps s = record {
  head = s.head;
  bytes = s.bytes;
  bodies = s.bodies;
  held = s.held;
  stands = kept_on keeps s.stands;
  holding = s.holding;
  keeps = s.keeps;
  size = s.size;
  long = s.long;
  version = s.version;
}

pub ready_beside : {D : Type 0} {reads : D → Option Parts} {clock : D → Option ℕ} {images : D → ℕ → Parts → Type 0} {faults : D → ℕ} {old new : D} (journal : Journal) → KeepsDisk reads clock images faults old new
    → IsReady reads journal old → IsReady reads journal new
ready_beside journal keeps ready parts told = ready parts (sym keeps.same_reads ∙ told)

pub flushed : {D : Type 0} {reads : D → Option Parts} {clock : D → Option ℕ} {images : D → ℕ → Parts → Type 0} {kept R : Rows} {store : Store} {disk : D} (after : Store) (new : D) (s : StandsFor reads clock images kept R store disk)
    → Stands reads clock images s.head s.bytes (s.bodies ++ s.held) after.journal new → Holding [] after.journal → after.engine.size ≡ store.engine.size → after.image ≡ store.image → after.is_old ≡ store.is_old → StandsFor reads clock images (lasting R) R after new
flushed {kept = kept} {R = R} after new s stands holding sizes long first = record {
  head = s.head;
  bytes = s.bytes;
  bodies = s.bodies ++ s.held;
  held = [];
  stands = stands;
  holding = holding;
  keeps = flush_keeps kept s.head s.bytes s.bodies s.held R s.keeps;
  size = s.size ∙ sym sizes;
  long = long ∙ s.long;
  version = first ∙ s.version;
}

-- the entry of a command is held
pub entry_held : {D : Type 0} {reads : D → Option Parts} {clock : D → Option ℕ} {images : D → ℕ → Parts → Type 0} {kept R : Rows} {store : Store} {disk : D} (after : Store) (body : List ℕ) (entry : Entry) (next : Rows)
    (s : StandsFor reads clock images kept R store disk) → Leads store.engine.size R entry next → decoded body ≡ Ok entry
    → StandsAt s.head s.bytes s.bodies s.stands.parts after.journal → Holding (s.held ++ body ∷ []) after.journal → after.engine.size ≡ store.engine.size → after.image ≡ store.image
    → after.is_old ≡ store.is_old → StandsFor reads clock images kept next after disk
entry_held {kept = kept} {R = R} after body entry next s l told at holding sizes long first =
    let entries : command_entries s.head.size R l.command ≡ entry ∷ [] = ap (λ (K : Capacity). command_entries K R l.command) s.size ∙ l.entries in
    let spell : Spell (body ∷ []) (command_entries s.head.size R l.command) = subst (λ (es : List Entry). Spell (body ∷ []) es) (sym entries) (told, tt) in
    record {
      head = s.head;
      bytes = s.bytes;
      bodies = s.bodies;
      held = s.held ++ body ∷ [];
      stands = record { parts = s.stands.parts; certain = s.stands.certain; at = at };
      holding = holding;
      keeps =
          subst (λ (R : Rows). Keeps kept s.head s.bytes s.bodies (s.held ++ body ∷ []) R) (ap (λ (K : Capacity). (step K R l.command).rows) s.size ∙ l.rows)
          (command_keeps kept s.head s.bytes s.bodies s.held (body ∷ []) R l.command s.keeps l.valid spell);
      size = s.size ∙ sym sizes;
      long = long ∙ s.long;
      version = first ∙ s.version;
    }

-- a command that doesn't last has no entry
pub none_held : {D : Type 0} {reads : D → Option Parts} {clock : D → Option ℕ} {images : D → ℕ → Parts → Type 0} {kept : Rows} {store : Store} {disk : D} (after : Store) (c : Command)
    → StandsFor reads clock images kept store.engine.rows store disk → is_command c ≡ true → (step store.engine.size store.engine.rows c).lasting ≡ false
    → after.journal ≡ store.journal → after.engine.size ≡ store.engine.size → after.engine.rows ≡ (step store.engine.size store.engine.rows c).rows → after.image ≡ store.image
    → after.is_old ≡ store.is_old → StandsFor reads clock images kept after.engine.rows after disk
none_held {reads = reads} {clock = clock} {images = images} {kept = kept} {store = store} {disk = disk} after c s legal passes journals sizes rows long first =
    let K = s.head.size in
    let R = store.engine.rows in
    let lasts : (step K R c).lasting ≡ false = ap (λ (K : Capacity). (step K R c).lasting) s.size ∙ passes in
    let entries : command_entries K R c ≡ [] = ap (λ b. if b then journal_entry R c ∷ [] else []) lasts in
    let spell : Spell [] (command_entries K R c) = subst (λ (es : List Entry). Spell [] es) (sym entries) tt in
    let now : (step K R c).rows ≡ after.engine.rows = ap (λ (K : Capacity). (step K R c).rows) s.size ∙ sym rows in
    let keeps : Keeps kept s.head s.bytes s.bodies (s.held ++ []) (step K R c).rows = command_keeps kept s.head s.bytes s.bodies s.held [] R c s.keeps legal spell in
    stands_on {store = store} after
    (record {
      head = s.head;
      bytes = s.bytes;
      bodies = s.bodies;
      held = s.held;
      stands = s.stands;
      holding = s.holding;
      keeps =
          subst (λ (h : List (List ℕ)). Keeps kept s.head s.bytes s.bodies h after.engine.rows) (append-nil s.held)
          (subst (λ (R : Rows). Keeps kept s.head s.bytes s.bodies (s.held ++ []) R) now keeps);
      size = s.size;
      long = s.long;
      version = s.version;
    })
    journals sizes long first

-- where no entry is held, what is kept is what is kept of the rows
pub kept_settled : {D : Type 0} {reads : D → Option Parts} {clock : D → Option ℕ} {images : D → ℕ → Parts → Type 0} {kept R : Rows} {store : Store} {disk : D} → StandsFor reads clock images kept R store disk → store.journal.held ≡ 0 → kept ≡ lasting R
kept_settled {kept = kept} {R = R} s none =
    let empty : s.held ≡ [] = none_here s.held (s.holding.count ∙ none) in
    keeps_settled kept s.head s.bytes s.bodies R (subst (λ (h : List (List ℕ)). Keeps kept s.head s.bytes s.bodies h R) empty s.keeps)

settled_at : {D : Type 0} {reads : D → Option Parts} {clock : D → Option ℕ} {images : D → ℕ → Parts → Type 0} {kept R : Rows} {store : Store} {disk : D} (n : ℕ) → store.journal.held ≡ n
    → StandsFor reads clock images kept R store disk → StandsFor reads clock images (rows_kept n kept R) R store disk
settled_at {reads = reads} {clock = clock} {images = images} {kept = kept} {R = R} {store = store} {disk = disk} zero none s =
    subst (λ (kept : Rows). StandsFor reads clock images kept R store disk) (kept_settled s none) s
settled_at (suc n) some s = s

pub settled : {D : Type 0} {reads : D → Option Parts} {clock : D → Option ℕ} {images : D → ℕ → Parts → Type 0} {kept R : Rows} {store : Store} {disk : D}
    → StandsFor reads clock images kept R store disk → StandsFor reads clock images (rows_kept store.journal.held kept R) R store disk
settled {store = store} s = settled_at store.journal.held refl s

-- once nothing is held
pub settles : {D : Type 0} {reads : D → Option Parts} {clock : D → Option ℕ} {images : D → ℕ → Parts → Type 0} {R : Rows} {store : Store} {disk : D} (kept : Rows) → store.journal.held ≡ 0
    → StandsFor reads clock images (lasting R) R store disk → StandsFor reads clock images (rows_kept store.journal.held kept R) R store disk
settles {reads = reads} {clock = clock} {images = images} {R = R} {store = store} {disk = disk} kept none s =
    subst (λ (n : ℕ). StandsFor reads clock images (rows_kept n kept R) R store disk) (sym none) s

pub none_waits : {D : Type 0} {reads : D → Option Parts} {clock : D → Option ℕ} {images : D → ℕ → Parts → Type 0} {kept R : Rows} {store : Store} {disk : D} → store.journal.held ≡ 0
    → StandsFor reads clock images kept R store disk → StandsFor reads clock images (lasting R) R store disk
none_waits none s = settled_at 0 none s

-- ---- a command that lasts
pub leads : (K size : Capacity) (R rows : Rows) (c : Command) (entry : Entry) → is_command c ≡ true → (step K R c).lasting ≡ true → entry ≡ journal_entry R c → size ≡ K → rows ≡ (step K R c).rows → Leads size R entry rows
leads K size R rows c entry legal lasts is sizes left =
    subst (λ (S : Capacity). Leads S R entry rows) (sym sizes)
    (record {
      command = c;
      valid = legal;
      entries = ap (λ b. if b then journal_entry R c ∷ [] else []) lasts ∙ ap (λ (e : Entry). e ∷ []) (sym is);
      rows = sym left;
    })

-- ---- the front of a buffer
pub front_kept : (n m : ℕ) (buffer front rest : List ℕ) → buffer ≡ take m (front ++ rest) → n ≤ m → n ≤ length front → take n buffer ≡ take n front
front_kept n m buffer front rest is few fits = ap (λ (l : List ℕ). take n l) is ∙ take-take n m (front ++ rest) few ∙ take-append-le n front rest fits
