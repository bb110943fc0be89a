-- What is taken of an image, and what is told of it.
use Rattle.std.proofs.Common.{◌≡◌, ℕ, ◌+◌, ◌-◌, ◌≤◌, Bool, true, false, cond, arith, List, [], ◌++◌, length, take, drop, refl, sym, ◌∙◌, ap, subst, append_assoc, length-append, length-take, take-append-drop}
use Rattle.std.specs.Prelude.{◌&&◌, ◌==◌, Option, Some, Result, Ok, Err}
use Rattle.std.proofs.lemmas.List.{append-nil, take-take}
use Rattle.fsrm_model.specs.declared.row.Rows.{Rows}
use Rattle.fsrm_outside.specs.Parts.{Parts, part_of}
use Rattle.fsrm_outside.specs.declared.traits.Part.{Part}
use Rattle.fsrm_journal.specs.Stores.{ReadUpTo}
use Rattle.fsrm_journal.specs.declared.heads.Head.{Head}
use Rattle.fsrm_journal.specs.declared.journal.Journal.{Journal}
use Rattle.record_fields.specs.Formats.{Read}
use Rattle.record_fields.specs.Laws.{left_of}
use Rattle.record_codec.specs.declared.fault.CodecFault.{CodecFault}
use Rattle.record_codec.specs.declared.fault.CodecFault.TheVariants.{BadRecord, NoMemory}
use Rattle.image_codec.specs.ImageIn.{AreRead, outcome}
use Rattle.image_codec.specs.Images.{image, image_in, of_length}
use Rattle.image_codec.specs.declared.image_in.ImageIn.{ImageIn}
use Rattle.image_codec.proofs.KeptImages.{read_whole}
use Rattle.fsrm_store.specs.Faults.{of_bytes}
use Rattle.fsrm_store.specs.Reads.{image_bytes}
use Rattle.fsrm_store.specs.Recovery.{IsRefused, ReadsRows, Taken, TakenWhole}
use Rattle.fsrm_store.specs.States.{state_of}
use Rattle.fsrm_store.specs.States.State.{DamagedAt}
use Rattle.fsrm_store.proofs.ReadLaws.{image_damaged}

-- ---- a place that is told is no further than the bytes
cond_short : (c : Bool) (R : Rows) (left size place : ℕ) → cond c (Ok R) (Err (size - left)) ≡ Err place → place ≤ size
cond_short true R left size place is = absurd (cc is)
cond_short false R left size place is =
    let e : size - left ≡ place = cc is in
    omega (arith, e)

err_short : (left size place : ℕ) → ◌≡◌ {A = Result Rows ℕ} (Err (size - left)) (Err place) → place ≤ size
err_short left size place is =
    let e : size - left ≡ place = cc is in
    omega (arith, e)

of_short : (all : Bool) (size place : ℕ) (read : Read Rows) → of_length all size read ≡ Err place → place ≤ size
of_short all size place (Ok r) is = cond_short (all && (length r.1 == 0)) r.0 (length r.1) size place is
of_short all size place (Err flaw) is = err_short (left_of flaw) size place is

pub image_short : (len : ℕ) (bytes : List ℕ) (place : ℕ) → image_in len bytes ≡ Err place → place ≤ length bytes
image_short len bytes place is =
    let short = of_short (length bytes == len) (length (take len bytes)) place (image.read (take len bytes)) is in
    omega (arith, short, length-take len bytes)

-- ---- what is taken
pub taken_more : (head : Head) (told : Option Parts) (old mid new : Journal) (before after : ImageIn) (piece : List ℕ) → Taken head told old mid before → length piece + mid.end ≤ new.end
    → ((parts : Parts) (front : List ℕ) → told ≡ Some parts → ReadUpTo head front [] parts mid → ReadUpTo head (front ++ piece) [] parts new)
    → ((more : List ℕ) → outcome after more ≡ outcome before (piece ++ more))
    → Taken head told old new after
taken_more head told old mid new before after piece t long read on = record {
  bytes = t.bytes ++ piece;
  short = omega (arith, length-append t.bytes piece, t.short, long);
  so_far = λ more. on more ∙ (t.so_far (piece ++ more) ∙ ap (image_in head.image) (sym (append_assoc t.bytes piece more)));
  read = λ parts is r. read parts t.bytes is (t.read parts is r);
}

pub taken_whole : (head : Head) (told : Option Parts) (old mid new : Journal) (reader : ImageIn) (n : ℕ) (into : List ℕ) → Taken head told old mid reader → n ≡ 0 → mid.end ≤ new.end → mid.ruling ≡ old.ruling
    → ((parts : Parts) (front : List ℕ) → told ≡ Some parts → ReadUpTo head front [] parts mid → ReadUpTo head (front ++ take n into) [] parts new)
    → ((parts : Parts) (front : List ℕ) → told ≡ Some parts → ReadUpTo head front [] parts mid → front ≡ image_bytes mid.ruling head parts)
    → TakenWhole head told old new reader
taken_whole head told old mid new reader n into t none later ruling read whole =
    let same : t.bytes ++ take n into ≡ t.bytes = ap (λ (n : ℕ). t.bytes ++ take n into) none ∙ append-nil t.bytes in
    record {
      taken = record {
        bytes = t.bytes;
        short = omega (arith, t.short, later);
        so_far = t.so_far;
        read = λ parts is r. subst (λ (b : List ℕ). ReadUpTo head b [] parts new) same (read parts t.bytes is (t.read parts is r));
      };
      whole = λ parts is r. whole parts t.bytes is (t.read parts is r) ∙ ap (λ (p : Part). image_bytes p head parts) ruling;
    }

-- ---- damage
-- a longer front begins with a shorter one
front_of : (n m : ℕ) (l p : List ℕ) → n ≤ m → take n l ≡ p → take m l ≡ p ++ drop n (take m l)
front_of n m l p less is =
    let front : take n (take m l) ≡ p = take-take n m l less ∙ is in
    sym (take-append-drop n (take m l)) ∙ ap (λ (f : List ℕ). f ++ drop n (take m l)) front

image_wrong : (head : Head) (parts : Parts) (journal : Journal) (bytes : List ℕ) (wrong : ℕ) → ReadUpTo head bytes [] parts journal → ((more : List ℕ) → image_in head.image (bytes ++ more) ≡ Err wrong)
    → state_of parts ≡ DamagedAt journal.ruling (48 + wrong)
image_wrong head parts journal bytes wrong r is =
    let half = part_of journal.ruling parts in
    let rest = drop (length bytes) (take head.image (drop 48 half)) in
    image_damaged parts journal.ruling head wrong (record { rules = r.knows.rules; says = r.says })
    (ap (image_in head.image) (front_of (length bytes) head.image (drop 48 half) bytes r.within r.holds) ∙ is rest)

-- while it is taken
pub refused_image : (head : Head) (parts : Parts) (journal : Journal) (bytes : List ℕ) (fault : CodecFault) → ReadUpTo head bytes [] parts journal
    → ((wrong : ℕ) → fault ≡ BadRecord wrong → (more : List ℕ) → image_in head.image (bytes ++ more) ≡ Err wrong) → IsRefused parts (of_bytes journal.ruling 48 fault)
refused_image head parts journal bytes NoMemory r is = tt
refused_image head parts journal bytes (BadRecord wrong) r is = image_wrong head parts journal bytes wrong r (is wrong refl)

-- once all is taken
whole_outcome : (head : Head) (told : Option Parts) (old journal : Journal) (reader : ImageIn) → (w : TakenWhole head told old journal reader) → outcome reader [] ≡ image_in head.image w.taken.bytes
whole_outcome head told old journal reader w = w.taken.so_far [] ∙ ap (image_in head.image) (append-nil w.taken.bytes)

pub refused_whole : (head : Head) (told : Option Parts) (old journal : Journal) (reader : ImageIn) (parts : Parts) (fault : CodecFault) → TakenWhole head told old journal reader → told ≡ Some parts → ReadUpTo head [] [] parts old
    → AreRead (Err fault) (outcome reader []) → IsRefused parts (of_bytes old.ruling 48 fault)
refused_whole head told old journal reader parts NoMemory w is r read = tt
refused_whole head told old journal reader parts (BadRecord wrong) w is r read =
    image_damaged parts old.ruling head wrong (record { rules = r.knows.rules; says = r.says })
    (ap (image_in head.image) (sym (w.whole parts is r)) ∙ (sym (whole_outcome head told old journal reader w) ∙ read))

pub whole_short : (head : Head) (told : Option Parts) (old journal : Journal) (reader : ImageIn) (fault : CodecFault) (place : ℕ) → TakenWhole head told old journal reader → AreRead (Err fault) (outcome reader []) → fault ≡ BadRecord place → place ≤ journal.end
whole_short head told old journal reader fault place w read is =
    let there : outcome reader [] ≡ Err place = subst (λ (f : CodecFault). AreRead (Err f) (outcome reader [])) is read in
    let short = image_short head.image w.taken.bytes place (sym (whole_outcome head told old journal reader w) ∙ there) in
    omega (arith, short, w.taken.short)

pub rows_read : (head : Head) (told : Option Parts) (old journal : Journal) (reader : ImageIn) (parts : Parts) (rows : Rows) → TakenWhole head told old journal reader → told ≡ Some parts → ReadUpTo head [] [] parts old
    → outcome reader [] ≡ Ok rows → ReadsRows head rows parts journal
rows_read head told old journal reader parts rows w is r read =
    let bytes = w.taken.bytes in
    let rows_in : image_in head.image bytes ≡ Ok rows = sym (whole_outcome head told old journal reader w) ∙ read in
    let long : length bytes ≡ head.image = read_whole head.image bytes rows rows_in in
    record {
      image = bytes;
      read = w.taken.read parts is r;
      whole = sym long;
      tells = ap (λ (n : ℕ). image_in n bytes) long ∙ rows_in;
    }
