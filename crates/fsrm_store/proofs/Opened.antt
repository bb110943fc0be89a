-- A store that is opened.
use Rattle.std.proofs.Common.{◌≡◌, ◌⊎◌, ⊎_elim, inl, inr, ℕ, ◌+◌, ◌*◌, ◌≤◌, ◌<◌, Bool, true, false, arith, List, [], length, take, drop, Some, refl, sym, ◌∙◌, ap, subst}
use Rattle.std.specs.Prelude.{◌&&◌, None, Option, Result, Ok, Err, IfErr, IfOk, IsErrOf, OnOk}
use Rattle.fsrm_base.proofs.TestLaws.{both}
use Rattle.fsrm_model.specs.declared.row.Capacity.{Capacity}
use Rattle.fsrm_model.specs.declared.row.Rows.{Rows}
use Rattle.fsrm_model.specs.store.Lasting.{lasting}
use Rattle.fsrm_model.specs.store.Replays.{none_rebuilding, replayed}
use Rattle.fsrm_model.specs.store.Valid.{is_valid, IsValid}
use Rattle.fsrm_model.proofs.journal.WholeLaws.{whole_kept}
use Rattle.fsrm_model.proofs.valid.ValidTests.{valid_by_test}
use Rattle.fsrm_outside.specs.Causes.{Rose}
use Rattle.fsrm_outside.specs.Parts.{Parts, part_of}
use Rattle.fsrm_outside.specs.declared.traits.Part.{Part}
use Rattle.fsrm_outside.proofs.Stages.{some_is}
use Rattle.fsrm_journal.specs.Opened.{IsRefused as IsRefusedHead, ReadsOn}
use Rattle.fsrm_journal.specs.Stores.{HoldsStore, Holding, Stands}
use Rattle.fsrm_journal.specs.declared.fault.JournalFault.{JournalFault}
use Rattle.fsrm_journal.specs.declared.fault.JournalFault.TheVariants.{NoStore as NoJournal, AlreadyStore as AlreadyJournal, Damaged as DamagedHalf, DiskFault as DiskFailed, NoMemory as MemoryOut}
use Rattle.fsrm_journal.specs.declared.heads.Head.{Head}
use Rattle.fsrm_journal.specs.declared.journal.Journal.{Journal}
use Rattle.fsrm_journal.proofs.Tails.{stands_after}
use Rattle.fsrm_engine.specs.Machine.{Machine}
use Rattle.fsrm_engine.specs.Restored.{is_restorable}
use Rattle.image_codec.specs.Images.{image_in}
use Rattle.image_codec.proofs.KeptImages.{read_kept}
use Rattle.fsrm_store.specs.Faults.{of_journal}
use Rattle.fsrm_store.specs.Keeps.{Keeps}
use Rattle.fsrm_store.specs.Reads.{Rules, image_bytes}
use Rattle.fsrm_store.specs.Recovery.{entries_cost, given_up, FewLooks, HasRead, IsRefused, ReadsRows, RedoneAll, RedoneLooks, Restored, TellsFaults}
use Rattle.fsrm_store.specs.States.{state_of}
use Rattle.fsrm_store.specs.States.State.{DamagedAt, Holds}
use Rattle.fsrm_store.specs.declared.fault.StoreFault.{StoreFault}
use Rattle.fsrm_store.specs.declared.fault.StoreFault.TheVariants.{AlreadyStore, Damaged, DiskFault, NoMemory}
use Rattle.fsrm_store.proofs.EntriesRead.{nothing_read}
use Rattle.fsrm_store.proofs.KeepsLaws.{opened_keeps}
use Rattle.fsrm_store.proofs.QuietCalls.{refused_memory}
use Rattle.fsrm_store.proofs.ReadLaws.{heads_damaged, heads_none, rows_damaged}
use Rattle.fsrm_store.proofs.RecordWalks.{inside}
use Rattle.fsrm_store.proofs.StateLaws.{holds_told}

-- ---- the rows of the image: an engine is made of them exactly if they are valid
by_test : (a b : Bool) → b ≡ true → (a && b) ≡ false → a ≡ false
by_test false b one none = refl
by_test true b one none = absurd (cc (one, none))

rows_there : (head : Head) (rows : Rows) (parts : Parts) (journal : Journal) → ReadsRows head rows parts journal → image_in head.image (image_bytes journal.ruling head parts) ≡ Ok rows
rows_there head rows parts journal r =
    let half = part_of journal.ruling parts in
    ap (λ (n : ℕ). image_in n (take n (drop 48 half))) r.whole ∙ (ap (image_in (length r.image)) r.read.holds ∙ r.tells)

half_there : (head : Head) (rows : Rows) (parts : Parts) (journal : Journal) → ReadsRows head rows parts journal → Rules journal.ruling head parts
half_there head rows parts journal r = record { rules = r.read.knows.rules; says = r.read.says }

rows_invalid : (head : Head) (rows : Rows) (parts : Parts) (journal : Journal) → ReadsRows head rows parts journal → is_restorable head.size rows ≡ false → state_of parts ≡ DamagedAt journal.ruling 48
rows_invalid head rows parts journal r bad =
    let none = whole_kept rows (read_kept (length r.image) r.image rows r.tells) in
    rows_damaged parts journal.ruling head rows (half_there head rows parts journal r) (rows_there head rows parts journal r) (by_test (is_valid head.size rows) (none_rebuilding rows.quotas) none bad)

pub refused_rows : (head : Head) (rows : Rows) (parts : Parts) (journal : Journal) (part : Part) (fault : StoreFault) → ReadsRows head rows parts journal → part ≡ journal.ruling
    → (fault ≡ NoMemory) ⊎ ((fault ≡ Damaged part 48) × (is_restorable head.size rows ≡ false)) → IsRefused parts fault
refused_rows head rows parts journal part fault r is (inl memory) = refused_memory parts fault memory
refused_rows head rows parts journal part fault r is (inr bad) =
    subst (IsRefused parts) (sym (bad.0)) (subst (λ (p : Part). state_of parts ≡ DamagedAt p 48) (sym is) (rows_invalid head rows parts journal r bad.1))

pub restorable_valid : (K : Capacity) (rows : Rows) → is_restorable K rows ≡ true → IsValid K rows
restorable_valid K rows may =
    let valid = both (is_valid K rows) (none_rebuilding rows.quotas) may in
    valid_by_test K rows valid.0

pub entries_begin : (head : Head) (rows : Rows) (parts : Parts) (journal : Journal) → ReadsRows head rows parts journal → is_restorable head.size rows ≡ true → HasRead head rows [] parts journal
entries_begin head rows parts journal r may =
    let valid = both (is_valid head.size rows) (none_rebuilding rows.quotas) may in
    nothing_read head rows parts journal r valid.0

-- ---- the looks
pub few_rows : (head : Head) (rows : Rows) (parts : Parts) (journal : Journal) (looks steps : ℕ) → ReadsRows head rows parts journal → steps ≤ looks + 3 * length rows.nodes → FewLooks parts looks steps
few_rows head rows parts journal looks steps r few = inr (record {
  ruling = journal.ruling;
  head = head;
  base = rows;
  bodies = [];
  entries = [];
  end = 48 + head.image;
  half = half_there head rows parts journal r;
  rows = rows_there head rows parts journal r;
  comes = refl;
  told = tt;
  few = omega (arith, few);
})

pub few_entries : (ruling : Part) (head : Head) (base : Rows) (parts : Parts) (was : Machine) (looks mid steps : ℕ) → mid ≤ looks + 3 * length base.nodes → was.size ≡ head.size → was.rows ≡ base
    → RedoneLooks ruling head base parts was mid steps → FewLooks parts looks steps
few_entries ruling head base parts was looks mid steps few size rows l = inr (record {
  ruling = ruling;
  head = head;
  base = base;
  bodies = l.comes.bodies;
  entries = l.entries;
  end = l.end;
  half = l.comes.half;
  rows = l.comes.rows;
  comes = l.comes.comes;
  told = l.comes.told;
  few = omega (arith, few, l.few, ap (λ (K : Capacity). entries_cost K was.rows l.entries) size, ap (λ (R : Rows). entries_cost head.size R l.entries) rows);
})

-- ---- the engine
pub restored_all : {D : Type 0} (reads : D → Option Parts) (clock : D → Option ℕ) (images : D → ℕ → Parts → Type 0) (head : Head) (base : Rows) (journal : Journal) (was now engine : Machine) (disk : D)
    → RedoneAll reads clock images head base journal was now disk → was.size ≡ head.size → was.rows ≡ base → engine.size ≡ now.size → engine.rows ≡ lasting now.rows → Restored reads clock images head engine journal disk
restored_all reads clock images head base journal was now engine disk r size rows same given_up = record {
  base = base;
  entries = r.entries;
  valid = r.valid;
  rows = given_up ∙ ap lasting (r.rows ∙ (ap (λ (K : Capacity). replayed K was.rows r.entries) size ∙ ap (λ (R : Rows). replayed head.size R r.entries) rows));
  size = same ∙ (r.size ∙ size);
  read = r.read;
}

pub state_held : {D : Type 0} (reads : D → Option Parts) (clock : D → Option ℕ) (images : D → ℕ → Parts → Type 0) (head : Head) (engine : Machine) (journal : Journal) (disk : D) (parts : Parts)
    → Restored reads clock images head engine journal disk → reads disk ≡ Some parts → state_of parts ≡ Holds engine.size engine.rows
state_held reads clock images head engine journal disk parts r told =
    let stands = r.read.stands in
    let same : stands.parts ≡ parts = some_is (sym stands.certain.told ∙ told) in
    holds_told engine.size engine.rows parts (record {
      ruling = journal.ruling;
      head = head;
      image = r.read.image;
      bodies = r.read.bodies;
      base = r.base;
      entries = r.entries;
      store = subst (HoldsStore journal.ruling head r.read.image r.read.bodies) same stands.at.store;
      tells = r.read.tells;
      size = sym r.size;
      recovers = sym r.rows;
    })

pub rows_kept : {D : Type 0} (reads : D → Option Parts) (clock : D → Option ℕ) (images : D → ℕ → Parts → Type 0) (head : Head) (engine : Machine) (journal : Journal) (disk : D)
    → (r : Restored reads clock images head engine journal disk) → Keeps engine.rows head r.read.image r.read.bodies [] engine.rows
rows_kept reads clock images head engine journal disk r =
    opened_keeps engine.size engine.rows r.read.stands.parts (record {
      ruling = journal.ruling;
      head = head;
      image = r.read.image;
      bodies = r.read.bodies;
      base = r.base;
      entries = r.entries;
      store = r.read.stands.at.store;
      tells = r.read.tells;
      size = sym r.size;
      recovers = sym r.rows;
    }) r.valid

-- ---- the journal
pub still_holding : (old new : Journal) → ReadsOn old new → Holding [] old → Holding [] new
still_holding old new on h = record { count = h.count ∙ sym on.held; bytes = on.bytes ∙ h.bytes; legal = h.legal }

-- the gate that is closed is there
pub gate_there : {D : Type 0} (reads : D → Option Parts) (clock : D → Option ℕ) (images : D → ℕ → Parts → Type 0) (head : Head) (image : List ℕ) (bodies : List (List ℕ)) (journal : Journal) (disk : D) (parts : Parts)
    → Stands reads clock images head image bodies journal disk → reads disk ≡ Some parts → journal.end < length (part_of journal.ruling parts)
gate_there reads clock images head image bodies journal disk parts s told =
    let same : s.parts ≡ parts = some_is (sym s.certain.told ∙ told) in
    let half = part_of journal.ruling s.parts in
    let read = s.at.store.reads in
    let within = inside half read.end None read.stops in
    let after = stands_after half (48 + length image) bodies read.end read.comes in
    subst (λ (p : Parts). journal.end < length (part_of journal.ruling p)) same (omega (arith, within, after, s.at.end))

-- ---- what follows of an answer
pub ok_then : {T E : Type 0} {A B : T → Type 0} (r : Result T E) → IfOk r A → ((x : T) → A x → B x) → IfOk r B
ok_then (Ok x) h next = next x h
ok_then (Err e) h next = tt

pub err_then : {T E : Type 0} {A B : E → Type 0} (r : Result T E) → IfErr r A → ((e : E) → A e → B e) → IfErr r B
err_then (Ok x) h next = tt
err_then (Err e) h next = next e h

-- ---- which faults rows have
rows_already : {bad : Type 0} (part : Part) (fault : StoreFault) → (fault ≡ NoMemory) ⊎ ((fault ≡ Damaged part 48) × bad) → fault ≡ AlreadyStore → ⊥
rows_already part fault (inl memory) is =
    let same : NoMemory ≡ AlreadyStore = sym memory ∙ is in
    absurd (cc same)
rows_already part fault (inr damaged) is =
    let same : Damaged part 48 ≡ AlreadyStore = sym (damaged.0) ∙ is in
    absurd (cc same)

rows_disk : {bad : Type 0} (part : Part) (fault : StoreFault) → (fault ≡ NoMemory) ⊎ ((fault ≡ Damaged part 48) × bad) → fault ≡ DiskFault → ⊥
rows_disk part fault (inl memory) is =
    let same : NoMemory ≡ DiskFault = sym memory ∙ is in
    absurd (cc same)
rows_disk part fault (inr damaged) is =
    let same : Damaged part 48 ≡ DiskFault = sym (damaged.0) ∙ is in
    absurd (cc same)

pub rows_not_already : {T : Type 0} (bad : Type 0) (part : Part) (r : Result T StoreFault) → IfErr r (λ fault. (fault ≡ NoMemory) ⊎ ((fault ≡ Damaged part 48) × bad)) → IsErrOf r AlreadyStore → ⊥
rows_not_already bad part (Ok x) h err = absurd (cc err)
rows_not_already bad part (Err fault) h err =
    let same : fault ≡ AlreadyStore = cc err in
    rows_already part fault h same

pub rows_not_disk : {T : Type 0} (bad : Type 0) (part : Part) (r : Result T StoreFault) → IfErr r (λ fault. (fault ≡ NoMemory) ⊎ ((fault ≡ Damaged part 48) × bad)) → IsErrOf r DiskFault → ⊥
rows_not_disk bad part (Ok x) h err = absurd (cc err)
rows_not_disk bad part (Err fault) h err =
    let same : fault ≡ DiskFault = cc err in
    rows_disk part fault h same

-- ---- an engine that is handed on
pub ok_given_up : {T A : Type 0} (P : Machine → Type 0) (done : Result T StoreFault) (engine : Machine) → OnOk done A → (A → P (record engine { rows = lasting engine.rows })) → IfOk (given_up done engine) P
ok_given_up P (Ok x) engine h next = next h
ok_given_up P (Err e) engine h next = tt

pub err_given_up : {T : Type 0} (Q : StoreFault → Type 0) (done : Result T StoreFault) (engine : Machine) → IfErr done Q → IfErr (given_up done engine) Q
err_given_up Q (Ok x) engine h = tt
err_given_up Q (Err e) engine h = h

pub err_back : {T : Type 0} (done : Result T StoreFault) (engine : Machine) (fault : StoreFault) → IsErrOf (given_up done engine) fault → IsErrOf done fault
err_back (Ok x) engine fault err = absurd (cc err)
err_back (Err e) engine fault err =
    let same : e ≡ fault = cc err in
    ap Err same

pub told_given_up : {T : Type 0} (before mid now : ℕ) (done : Result T StoreFault) (engine : Machine) → mid ≡ before → TellsFaults mid now done → TellsFaults before now (given_up done engine)
told_given_up {T} before mid now done engine same t = record {
  later = omega (arith, same, t.later);
  failed = λ e. subst (λ (n : ℕ). Rose n now) same (t.failed (err_back done engine DiskFault e));
  counted = ⊎_elim (λ e. inl (ap (λ (r : Result T StoreFault). given_up r engine) e)) (λ kept. inr (kept ∙ same)) t.counted;
}

-- ---- which faults heads have
pub refused_head : (parts : Parts) (fault : JournalFault) → IsRefusedHead parts fault → (fault ≡ AlreadyJournal → ⊥) → IsRefused parts (of_journal fault)
refused_head parts NoJournal is never = heads_none parts is
refused_head parts AlreadyJournal is never = absurd (never refl)
refused_head parts (DamagedHalf part place) is never = heads_damaged parts part place is
refused_head parts DiskFailed is never = tt
refused_head parts MemoryOut is never = tt

already_journal : (fault : JournalFault) → of_journal fault ≡ AlreadyStore → fault ≡ AlreadyJournal
already_journal NoJournal is = absurd (cc is)
already_journal AlreadyJournal is = refl
already_journal (DamagedHalf part place) is = absurd (cc is)
already_journal DiskFailed is = absurd (cc is)
already_journal MemoryOut is = absurd (cc is)

pub head_not_already : {T : Type 0} (fault : JournalFault) (told : StoreFault) → told ≡ of_journal fault → (fault ≡ AlreadyJournal → ⊥) → IsErrOf {T = T} (Err told) AlreadyStore → ⊥
head_not_already fault told is never err =
    let there : told ≡ AlreadyStore = cc err in
    never (already_journal fault (sym is ∙ there))
