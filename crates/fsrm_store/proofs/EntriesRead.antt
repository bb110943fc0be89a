-- What is read of entries, and what is told of them.
use Rattle.std.proofs.Common.{◌≡◌, ℕ, ◌+◌, ◌-◌, ◌≤◌, Bool, true, false, cond, arith, List, [], ◌∷◌, ◌++◌, length, take, drop, refl, sym, ◌∙◌, ap, subst}
use Rattle.std.specs.Prelude.{◌==◌, Option, Some, Result, Ok, Err}
use Rattle.std.specs.List.{list_all}
use Rattle.fsrm_base.proofs.TestLaws.{both, both_true}
use Rattle.fsrm_model.specs.declared.command.Entry.{Entry}
use Rattle.fsrm_model.specs.declared.command.Entry.TheVariants.{Order, Finish}
use Rattle.fsrm_model.specs.declared.row.Capacity.{Capacity}
use Rattle.fsrm_model.specs.declared.row.Rows.{Rows}
use Rattle.fsrm_model.specs.store.Lasting.{lasting}
use Rattle.fsrm_model.specs.store.Replays.{after_entry, is_valid_entry, replayed}
use Rattle.fsrm_model.specs.store.Valid.{is_valid, IsValid}
use Rattle.fsrm_model.specs.values.Limits.{longest_entry}
use Rattle.fsrm_model.proofs.journal.EntryLaws.{journaled_again}
use Rattle.fsrm_outside.specs.Parts.{Parts, part_of}
use Rattle.fsrm_outside.specs.declared.traits.Part.{Part}
use Rattle.fsrm_journal.specs.Next.{record_at, Tells as TellsFound}
use Rattle.fsrm_journal.specs.Reading.{Comes}
use Rattle.fsrm_journal.specs.Stores.{ReadUpTo}
use Rattle.fsrm_journal.specs.declared.fault.JournalFault.{JournalFault}
use Rattle.fsrm_journal.specs.declared.fault.JournalFault.TheVariants.{NoStore, AlreadyStore, Damaged, DiskFault, NoMemory}
use Rattle.fsrm_journal.specs.declared.heads.Head.{Head}
use Rattle.fsrm_journal.specs.declared.journal.Journal.{Journal}
use Rattle.fsrm_engine.specs.Machine.{Machine}
use Rattle.record_fields.specs.Formats.{Read}
use Rattle.record_fields.specs.Laws.{left_of}
use Rattle.record_codec.specs.Decoding.{Decodes}
use Rattle.record_codec.specs.Entries.{entry as entry_format, at_end, decoded}
use Rattle.record_codec.specs.Writing.{IsWritable}
use Rattle.record_codec.specs.declared.fault.CodecFault.{CodecFault}
use Rattle.record_codec.specs.declared.fault.CodecFault.TheVariants.{BadRecord, NoMemory as CodecMemory}
use Rattle.record_codec.proofs.Spelled.{spelled_writable}
use Rattle.image_codec.specs.Images.{image_in}
use Rattle.fsrm_store.specs.Faults.{of_bytes, of_journal}
use Rattle.fsrm_store.specs.Reads.{ComesTo}
use Rattle.fsrm_store.specs.Recovery.{entries_cost, entry_cost, HasRead, IsRefused, ReadsRows, Redone, RedoneLooks}
use Rattle.fsrm_store.specs.States.{state_of}
use Rattle.fsrm_store.specs.States.State.{DamagedAt}
use Rattle.fsrm_store.proofs.KeepsLaws.{spell_more}
use Rattle.fsrm_store.proofs.ReadLaws.{body_damaged, record_damaged}

-- ---- an entry that was decoded is valid, and a place that is told is no further than the bytes
writable_valid : (e : Entry) → IsWritable e → is_valid_entry e ≡ true
writable_valid (Order command) writable = writable.0
writable_valid (Finish at folder) writable = writable

pub entry_valid : (bytes : List ℕ) (e : Entry) → (entry_format.legal e ≡ true) × (bytes ≡ entry_format.spell e) → length bytes ≤ longest_entry → is_valid_entry e ≡ true
entry_valid bytes e spelled short =
    let few : length (entry_format.spell e) ≤ longest_entry = subst (λ (b : List ℕ). length b ≤ longest_entry) spelled.1 short in
    writable_valid e (spelled_writable e (spelled.0, few))

cond_short : (c : Bool) (e : Entry) (left size place : ℕ) → cond c (Ok e) (Err (size - left)) ≡ Err place → place ≤ size
cond_short true e left size place is = absurd (cc is)
cond_short false e left size place is =
    let same : size - left ≡ place = cc is in
    omega (arith, same)

err_short : (left size place : ℕ) → ◌≡◌ {A = Result Entry ℕ} (Err (size - left)) (Err place) → place ≤ size
err_short left size place is =
    let same : size - left ≡ place = cc is in
    omega (arith, same)

end_short : (size place : ℕ) (read : Read Entry) → at_end size read ≡ Err place → place ≤ size
end_short size place (Ok e) is = cond_short (length e.1 == 0) e.0 (length e.1) size place is
end_short size place (Err flaw) is = err_short (left_of flaw) size place is

pub decoded_short : (bytes : List ℕ) (fault : CodecFault) (place : ℕ) → Decodes (Err fault) (decoded bytes) → fault ≡ BadRecord place → place ≤ length bytes
decoded_short bytes fault place d is =
    end_short (length bytes) place (entry_format.read bytes) (subst (λ (f : CodecFault). Decodes (Err f) (decoded bytes)) is d)

-- ---- what is read goes on
pub nothing_read : (head : Head) (base : Rows) (parts : Parts) (journal : Journal) → ReadsRows head base parts journal → is_valid head.size base ≡ true → HasRead head base [] parts journal
nothing_read head base parts journal r valid = record {
  image = r.image;
  bodies = [];
  read = r.read;
  whole = r.whole;
  tells = record { rows = r.tells; valid = valid; told = tt };
}

pub comes_to : (head : Head) (base : Rows) (entries : List Entry) (parts : Parts) (journal : Journal) → HasRead head base entries parts journal → ComesTo journal.ruling head base entries journal.end parts
comes_to head base entries parts journal h =
    let half = part_of journal.ruling parts in
    record {
      half = record { rules = h.read.knows.rules; says = h.read.says };
      rows = ap (λ (n : ℕ). image_in n (take n (drop 48 half))) h.whole ∙ (ap (image_in (length h.image)) h.read.holds ∙ h.tells.rows);
      valid = h.tells.valid;
      bodies = h.bodies;
      comes = subst (λ (n : ℕ). Comes half (48 + n) h.bodies journal.end) (sym h.whole) h.read.comes;
      told = h.tells.told;
    }

pub entry_read : (head : Head) (base : Rows) (entries : List Entry) (parts : Parts) (old new : Journal) (body : List ℕ) (e : Entry) → (h : HasRead head base entries parts old) → ReadUpTo head h.image (h.bodies ++ body ∷ []) parts new → decoded body ≡ Ok e
    → HasRead head base (entries ++ e ∷ []) parts new
entry_read head base entries parts old new body e h read is = record {
  image = h.image;
  bodies = h.bodies ++ body ∷ [];
  read = read;
  whole = h.whole;
  tells = record { rows = h.tells.rows; valid = h.tells.valid; told = spell_more h.bodies (body ∷ []) entries (e ∷ []) h.tells.told (is, tt) };
}

-- ---- damage
pub refused_record : (head : Head) (base : Rows) (entries : List Entry) (parts : Parts) (journal : Journal) (fault : JournalFault) → HasRead head base entries parts journal
    → TellsFound {A = Option (ℕ × ℕ)} journal.ruling (record_at (part_of journal.ruling parts) journal.end) (Err fault) → IsRefused parts (of_journal fault)
refused_record head base entries parts journal NoStore h tells = absurd tells
refused_record head base entries parts journal AlreadyStore h tells = absurd tells
refused_record head base entries parts journal DiskFault h tells = tt
refused_record head base entries parts journal NoMemory h tells = absurd tells
refused_record head base entries parts journal (Damaged part place) h tells =
    subst (λ (p : Part). state_of parts ≡ DamagedAt p place) (sym tells.0) (record_damaged parts journal.ruling head base entries journal.end place (comes_to head base entries parts journal h) tells.1)

pub refused_body : (head : Head) (base : Rows) (entries : List Entry) (parts : Parts) (journal : Journal) (place long : ℕ) (body : List ℕ) (fault : CodecFault) → HasRead head base entries parts journal
    → record_at (part_of journal.ruling parts) journal.end ≡ Ok (Some (place, long)) → body ≡ take long (drop place (part_of journal.ruling parts)) → Decodes (Err fault) (decoded body) → IsRefused parts (of_bytes journal.ruling place fault)
refused_body head base entries parts journal place long body CodecMemory h there is d = tt
refused_body head base entries parts journal place long body (BadRecord wrong) h there is d =
    body_damaged parts journal.ruling head base entries journal.end place long wrong (comes_to head base entries parts journal h) there (subst (λ (b : List ℕ). decoded b ≡ Err wrong) is d)

-- ---- one more entry
pub replayed_more : (K : Capacity) (R : Rows) (entries : List Entry) (e : Entry) → replayed K R (entries ++ e ∷ []) ≡ after_entry K (replayed K R entries) e
replayed_more K R [] e = refl
replayed_more K R (first ∷ entries) e = replayed_more K (after_entry K R first) entries e

pub cost_more : (K : Capacity) (R : Rows) (entries : List Entry) (e : Entry) → entries_cost K R (entries ++ e ∷ []) ≡ entries_cost K R entries + entry_cost (replayed K R entries) e
cost_more K R [] e = omega arith
cost_more K R (first ∷ entries) e = omega (arith, cost_more K (after_entry K R first) entries e)

pub valid_more : (entries : List Entry) (e : Entry) → list_all is_valid_entry entries ≡ true → is_valid_entry e ≡ true → list_all is_valid_entry (entries ++ e ∷ []) ≡ true
valid_more [] e all valid = both_true (is_valid_entry e) true valid refl
valid_more (first ∷ entries) e all valid =
    let parts = both (is_valid_entry first) (list_all is_valid_entry entries) all in
    both_true (is_valid_entry first) (list_all is_valid_entry (entries ++ e ∷ [])) parts.0 (valid_more entries e parts.1 valid)

-- ---- what is done once more
pub redone_more : (told : Option Parts) (old mid new : Journal) (was before after : Machine) (looks steps now : ℕ) (e : Entry) → Redone told old mid was before looks steps → is_valid_entry e ≡ true
    → after.size ≡ before.size → after.rows ≡ after_entry before.size before.rows e → after.waiting ≡ [] → now ≤ steps + entry_cost before.rows e
    → ((parts : Parts) (head : Head) (base : Rows) (entries : List Entry) → told ≡ Some parts → HasRead head base entries parts mid → HasRead head base (entries ++ e ∷ []) parts new)
    → Redone told old new was after looks now
redone_more told old mid new was before after looks steps now e r valid size rows idle few read = record {
  entries = r.entries ++ e ∷ [];
  valid = valid_more r.entries e r.valid valid;
  size = size ∙ r.size;
  rows = rows ∙ (ap (λ (K : Capacity). after_entry K before.rows e) r.size ∙ (ap (λ (R : Rows). after_entry was.size R e) r.rows ∙ sym (replayed_more was.size was.rows r.entries e)));
  idle = idle;
  few = omega (arith, r.few, few, cost_more was.size was.rows r.entries e, ap (λ (R : Rows). entry_cost R e) r.rows);
  read = λ parts head base is h. read parts head base r.entries is (r.read parts head base is h);
}

pub redone_looks : (told : Option Parts) (old journal : Journal) (was now : Machine) (looks steps : ℕ) → Redone told old journal was now looks steps → journal.ruling ≡ old.ruling
    → (parts : Parts) (head : Head) (base : Rows) → told ≡ Some parts → HasRead head base [] parts old → RedoneLooks old.ruling head base parts was looks steps
redone_looks told old journal was now looks steps r ruling parts head base is h = record {
  entries = r.entries;
  end = journal.end;
  comes = subst (λ (p : Part). ComesTo p head base r.entries journal.end parts) ruling (comes_to head base r.entries parts journal (r.read parts head base is h));
  few = r.few;
}

-- of the last entry only the looks are known
pub failed_looks : (told : Option Parts) (old mid new : Journal) (was before : Machine) (looks steps now : ℕ) (e : Entry) → Redone told old mid was before looks steps → new.ruling ≡ old.ruling → now ≤ steps + entry_cost before.rows e
    → ((parts : Parts) (head : Head) (base : Rows) (entries : List Entry) → told ≡ Some parts → HasRead head base entries parts mid → HasRead head base (entries ++ e ∷ []) parts new)
    → (parts : Parts) (head : Head) (base : Rows) → told ≡ Some parts → HasRead head base [] parts old → RedoneLooks old.ruling head base parts was looks now
failed_looks told old mid new was before looks steps now e r ruling few read parts head base is h =
    let all = r.entries ++ e ∷ [] in
    record {
      entries = all;
      end = new.end;
      comes = subst (λ (p : Part). ComesTo p head base all new.end parts) ruling (comes_to head base all parts new (read parts head base r.entries is (r.read parts head base is h)));
      few = omega (arith, r.few, few, cost_more was.size was.rows r.entries e, ap (λ (R : Rows). entry_cost R e) r.rows);
    }

-- ---- valid rows stay valid
pub redone_valid : (told : Option Parts) (old journal : Journal) (was now : Machine) (looks steps : ℕ) → Redone told old journal was now looks steps → IsValid was.size was.rows → IsValid now.size (lasting now.rows)
redone_valid told old journal was now looks steps r valid =
    let whole = (journaled_again was.size was.rows r.entries valid r.valid).valid in
    subst (λ (K : Capacity). IsValid K (lasting now.rows)) (sym r.size) (subst (λ (R : Rows). IsValid was.size (lasting R)) (sym r.rows) whole)
