-- Calls that only read, and how their faults are told.
use Rattle.std.proofs.Common.{◌≡◌, ◌⊎◌, ⊎_elim, inl, inr, ℕ, ◌≤◌, arith, refl, sym, ◌∙◌, ap, subst}
use Rattle.std.specs.Prelude.{Option, Result, Ok, Err, IsErrOf, OnOk}
use Rattle.fsrm_outside.specs.Causes.{Rose}
use Rattle.fsrm_outside.specs.Parts.{Parts}
use Rattle.fsrm_outside.proofs.Stages.{DiskLaws, quiet_then, some_is}
use Rattle.fsrm_outside.specs.declared.traits.Part.{Part}
use Rattle.fsrm_journal.specs.Opened.{ReadsOn}
use Rattle.fsrm_journal.specs.declared.fault.JournalFault.{JournalFault}
use Rattle.fsrm_journal.specs.declared.fault.JournalFault.TheVariants.{NoStore as NoJournal, AlreadyStore as AlreadyJournal, Damaged as DamagedHalf, DiskFault as DiskFailed, NoMemory as MemoryOut}
use Rattle.fsrm_journal.specs.declared.journal.Journal.{Journal}
use Rattle.record_codec.specs.declared.fault.CodecFault.{CodecFault}
use Rattle.record_codec.specs.declared.fault.CodecFault.TheVariants.{BadRecord, NoMemory as CodecMemory}
use Rattle.fsrm_store.specs.Faults.{of_bytes, of_journal}
use Rattle.fsrm_store.specs.Recovery.{IsRefused, OnlyReads, TellsFaults}
use Rattle.fsrm_store.specs.declared.fault.StoreFault.{StoreFault}
use Rattle.fsrm_store.specs.declared.fault.StoreFault.TheVariants.{AlreadyStore, Damaged, DiskFault, NoMemory}

-- ---- no call, and calls after one another
pub reads_none : {D : Type 0} (reads : D → Option Parts) {clock : D → Option ℕ} {images : D → ℕ → Parts → Type 0} {by : D → D → Type 0} → DiskLaws clock images by → (disk : D) → OnlyReads reads clock images by disk disk
reads_none {D} reads {clock} {images} {by} laws disk = record {
  same = refl;
  crash = λ s t m i at_old at_new from to left.
      let one : s ≡ t = some_is (sym at_old ∙ at_new) in
      let now : m ≡ s = omega (arith, one, from, to) in
      (i, subst (λ (k : ℕ). images disk k i) now left, refl);
  ran = laws.same disk;
}

pub reads_then : {D : Type 0} (reads : D → Option Parts) {clock : D → Option ℕ} {images : D → ℕ → Parts → Type 0} {by : D → D → Type 0} → DiskLaws clock images by → (old mid new : D)
    → OnlyReads reads clock images by old mid → OnlyReads reads clock images by mid new → OnlyReads reads clock images by old new
reads_then reads laws old mid new a b = record {
  same = b.same ∙ a.same;
  crash = quiet_then laws old mid new a.ran b.ran a.crash b.crash;
  ran = laws.then_by old mid new a.ran b.ran;
}

pub on_none : (j : Journal) → ReadsOn j j
on_none j = record { ruling = refl; generation = refl; beside = refl; image_end = refl; len = refl; written = refl; bytes = refl; held = refl; group = refl }

pub on_then : (a b c : Journal) → ReadsOn a b → ReadsOn b c → ReadsOn a c
on_then a b c x y = record {
  ruling = y.ruling ∙ x.ruling;
  generation = y.generation ∙ x.generation;
  beside = y.beside ∙ x.beside;
  image_end = y.image_end ∙ x.image_end;
  len = y.len ∙ x.len;
  written = y.written ∙ x.written;
  bytes = y.bytes ∙ x.bytes;
  held = y.held ∙ x.held;
  group = y.group ∙ x.group;
}

-- ---- which faults these are
bytes_disk : (part : Part) (first : ℕ) (fault : CodecFault) → of_bytes part first fault ≡ DiskFault → ⊥
bytes_disk part first (BadRecord place) is = absurd (cc is)
bytes_disk part first CodecMemory is = absurd (cc is)

bytes_already : (part : Part) (first : ℕ) (fault : CodecFault) → of_bytes part first fault ≡ AlreadyStore → ⊥
bytes_already part first (BadRecord place) is = absurd (cc is)
bytes_already part first CodecMemory is = absurd (cc is)

pub not_disk : {T : Type 0} (part : Part) (first : ℕ) (fault : CodecFault) (told : StoreFault) → told ≡ of_bytes part first fault → IsErrOf {T = T} (Err told) DiskFault → ⊥
not_disk part first fault told is err =
    let same : told ≡ DiskFault = cc err in
    bytes_disk part first fault (sym is ∙ same)

pub not_already : {T : Type 0} (part : Part) (first : ℕ) (fault : CodecFault) (told : StoreFault) → told ≡ of_bytes part first fault → IsErrOf {T = T} (Err told) AlreadyStore → ⊥
not_already part first fault told is err =
    let same : told ≡ AlreadyStore = cc err in
    bytes_already part first fault (sym is ∙ same)

pub journal_disk : {T : Type 0} (fault : JournalFault) (told : StoreFault) → told ≡ of_journal fault → IsErrOf {T = T} (Err fault) DiskFailed → told ≡ DiskFault
journal_disk fault told is only =
    let same : fault ≡ DiskFailed = cc only in
    is ∙ ap of_journal same

disk_journal : (fault : JournalFault) → of_journal fault ≡ DiskFault → fault ≡ DiskFailed
disk_journal NoJournal is = absurd (cc is)
disk_journal AlreadyJournal is = absurd (cc is)
disk_journal (DamagedHalf part place) is = absurd (cc is)
disk_journal DiskFailed is = refl
disk_journal MemoryOut is = absurd (cc is)

-- of a record that isn't found
pub record_already : {T U : Type 0} (ruling : Part) (fault : JournalFault) (told : StoreFault) → told ≡ of_journal fault → IsErrOf {T = T} (Err fault) DiskFailed ⊎ ((place : ℕ) × IsErrOf {T = T} (Err fault) (DamagedHalf ruling place))
    → IsErrOf {T = U} (Err told) AlreadyStore → ⊥
record_already ruling fault told is (inl disk) err =
    let same : fault ≡ DiskFailed = cc disk in
    let there : told ≡ DiskFault = is ∙ ap of_journal same in
    absurd (cc (there, err))
record_already ruling fault told is (inr damage) err =
    let same : fault ≡ DamagedHalf ruling damage.0 = cc (damage.1) in
    let there : told ≡ Damaged ruling damage.0 = is ∙ ap of_journal same in
    absurd (cc (there, err))

-- ---- faults
-- the count stays where no fault of the disk is told
pub told_none : {T : Type 0} (before now : ℕ) (result : Result T StoreFault) → (IsErrOf result DiskFault → ⊥) → now ≡ before → TellsFaults before now result
told_none before now result never same = record { later = omega (arith, same); failed = λ e. absurd (never e); counted = inr same }

pub told_disk : {T : Type 0} (before mid now : ℕ) (fault : StoreFault) → fault ≡ DiskFault → mid ≡ before → mid ≤ now → Rose mid now → TellsFaults {T = T} before now (Err fault)
told_disk {T} before mid now fault is same later rose = record {
  later = omega (arith, same, later);
  failed = λ e. subst (λ (n : ℕ). Rose n now) same rose;
  counted = inl (cc);
}

-- what the journal tells
pub told_journal : {T U : Type 0} (before now : ℕ) (fault : JournalFault) (told : StoreFault) → told ≡ of_journal fault → before ≤ now → (IsErrOf {T = T} (Err fault) DiskFailed → Rose before now)
    → IsErrOf {T = T} (Err fault) DiskFailed ⊎ (now ≡ before) → TellsFaults {T = U} before now (Err told)
told_journal before now fault told is later rose counted = record {
  later = later;
  failed = λ e.
      let there : told ≡ DiskFault = cc e in
      rose (ap Err (disk_journal fault (sym is ∙ there)));
  counted = ⊎_elim (λ e. inl (ap Err (journal_disk fault told is e))) (λ same. inr same) counted;
}

pub kept_ok : {T : Type 0} {before now : ℕ} (value : T) → IsErrOf {T = T} (Ok value) DiskFailed ⊎ (now ≡ before) → now ≡ before
kept_ok value counted = ⊎_elim (λ e. absurd (cc e)) (λ same. same) counted

pub told_ok : {T : Type 0} (before now : ℕ) (value : T) → TellsFaults before now (Ok value) → now ≡ before
told_ok before now value t = ⊎_elim (λ e. absurd (cc e)) (λ same. same) t.counted

-- what a further call tells, after calls that succeeded
pub told_then : {T U : Type 0} (before mid now : ℕ) (fault : StoreFault) → mid ≡ before → TellsFaults {T = T} mid now (Err fault) → TellsFaults {T = U} before now (Err fault)
told_then {T} {U} before mid now fault same t = record {
  later = omega (arith, same, t.later);
  failed = λ e. subst (λ (n : ℕ). Rose n now) same (t.failed (cc e));
  counted = ⊎_elim (λ e. inl (cc e)) (λ kept. inr (kept ∙ same)) t.counted;
}

pub refused_disk : (parts : Parts) (fault : StoreFault) → fault ≡ DiskFault → IsRefused parts fault
refused_disk parts fault is = subst (IsRefused parts) (sym is) tt

pub refused_memory : (parts : Parts) (fault : StoreFault) → fault ≡ NoMemory → IsRefused parts fault
refused_memory parts fault is = subst (IsRefused parts) (sym is) tt

-- ---- what follows of an answer
pub still_ok : {T E A B : Type 0} (r : Result T E) → OnOk r A → (A → B) → OnOk r B
still_ok (Ok x) h next = next h
still_ok (Err e) h next = tt
