-- What the bytes of a store hold.
use Rattle.std.proofs.Common.{◌≡◌, ℕ, ◌+◌, Bool, true, false, cond, arith, List, [], ◌∷◌, length, take, drop, refl, sym, ◌∙◌, ap, subst}
use Rattle.std.specs.Prelude.{Result, Ok, Err}
use Rattle.fsrm_model.specs.declared.command.Entry.{Entry}
use Rattle.fsrm_model.specs.declared.row.Capacity.{Capacity}
use Rattle.fsrm_model.specs.declared.row.Rows.{Rows}
use Rattle.fsrm_model.specs.store.Replays.{recovered}
use Rattle.fsrm_model.specs.store.Valid.{is_valid}
use Rattle.fsrm_outside.specs.Parts.{Parts, part_of}
use Rattle.fsrm_outside.specs.declared.traits.Part.{Part}
use Rattle.fsrm_journal.specs.Heads.{head_of}
use Rattle.fsrm_journal.specs.HeadSays.{head_says}
use Rattle.fsrm_journal.specs.Opened.{judged_parts}
use Rattle.fsrm_journal.specs.Reading.{Comes, Read}
use Rattle.fsrm_journal.specs.declared.fault.JournalFault.{JournalFault}
use Rattle.fsrm_journal.specs.declared.fault.JournalFault.TheVariants.{NoStore, AlreadyStore, Damaged, DiskFault, NoMemory}
use Rattle.fsrm_journal.specs.declared.heads.Head.{Head}
use Rattle.fsrm_journal.proofs.Stores.{one_store}
use Rattle.record_codec.specs.Entries.{decoded}
use Rattle.image_codec.specs.Images.{image_in}
use Rattle.image_codec.proofs.KeptImages.{read_whole}
use Rattle.fsrm_store.specs.Keeps.{Spell, HoldsState}
use Rattle.fsrm_store.specs.States.{valid_rows, image_rows, entries_from, done_again, rows_since, with_rows, half_state, by_heads, state_of}
use Rattle.fsrm_store.specs.States.State.{Holds}
use Rattle.fsrm_store.proofs.RecordWalks.{entries_told, entries_found}

pub same_ok : {A E : Type 0} (a b : A) (r : Result A E) → r ≡ Ok a → r ≡ Ok b → a ≡ b
same_ok a b r e f = cc

-- ---- bytes hold one state
one_spelled : (bodies : List (List ℕ)) (entries others : List Entry) → Spell bodies entries → Spell bodies others → entries ≡ others
one_spelled [] [] [] a b = refl
one_spelled [] [] (e ∷ es) a b = absurd b
one_spelled [] (e ∷ es) others a b = absurd a
one_spelled (body ∷ bodies) [] others a b = absurd a
one_spelled (body ∷ bodies) (e ∷ es) [] a b = absurd b
one_spelled (body ∷ bodies) (e ∷ es) (f ∷ fs) a b =
    ap (λ (x : Entry). x ∷ es) (same_ok e f (decoded body) a.0 b.0) ∙ ap (λ (xs : List Entry). f ∷ xs) (one_spelled bodies es fs a.1 b.1)

pub one_state : (K L : Capacity) (R Q : Rows) (parts : Parts) → HoldsState K R parts → HoldsState L Q parts → (K ≡ L) × (R ≡ Q)
one_state K L R Q parts a b =
    let s = one_store parts a.ruling b.ruling a.head b.head a.image b.image a.bodies b.bodies a.store b.store in
    let size : a.head.size ≡ b.head.size = ap (λ (h : Head). h.size) s.heads in
    let base : a.base ≡ b.base = same_ok a.base b.base (image_in (length b.image) b.image) (sym (ap (λ (l : List ℕ). image_in (length l) l) s.images) ∙ a.tells.rows) b.tells.rows in
    let entries : a.entries ≡ b.entries = one_spelled b.bodies a.entries b.entries (subst (λ (l : List (List ℕ)). Spell l a.entries) s.records a.tells.told) b.tells.told in (
      sym a.size ∙ (size ∙ b.size),
      sym a.recovers ∙ (ap (λ (K : Capacity). recovered K a.base a.entries) size ∙ (ap (λ (P : Rows). recovered b.head.size P a.entries) base ∙ (ap (recovered b.head.size b.base) entries ∙ b.recovers))),
    )

-- ---- what is held is told
pub holds_told : (K : Capacity) (R : Rows) (parts : Parts) → HoldsState K R parts → state_of parts ≡ Holds K R
holds_told K R parts h =
    let half = part_of h.ruling parts in
    let size = h.head.size in
    let read : image_in h.head.image (take h.head.image (drop 48 half)) ≡ Ok h.base =
    ap (λ (n : ℕ). image_in n (take n (drop 48 half))) h.store.whole ∙ (ap (image_in (length h.image)) h.store.holds ∙ h.tells.rows) in
    let rows : image_rows h.head half ≡ Ok h.base = ap (valid_rows size) read ∙ ap (λ (b : Bool). cond b (Ok h.base) (Err 48)) h.tells.valid in
    let found : entries_from half (48 + h.head.image) ≡ Ok h.entries =
    entries_told half (length half) (48 + h.head.image) h.store.reads.end h.bodies h.entries (subst (λ (n : ℕ). Comes half (48 + n) h.bodies h.store.reads.end) (sym h.store.whole) h.store.reads.comes) h.store.reads.stops h.tells.told (omega arith) in
    ap (by_heads parts) h.store.rules
    ∙ (ap (λ (head : Head). half_state h.ruling head half) h.store.says
    ∙ (ap (λ r. with_rows h.ruling size (rows_since h.head half r)) rows
    ∙ (ap (λ r. with_rows h.ruling size (done_again size h.base r)) found
    ∙ (ap (λ (R : Rows). Holds size R) h.recovers ∙ ap (λ (K : Capacity). Holds K R) h.size))))

-- ---- what is told is held
same_state : (K L : Capacity) (R Q : Rows) → Holds K R ≡ Holds L Q → (K ≡ L) × (R ≡ Q)
same_state K L R Q e = (cc e, cc e)

-- of a half that rules
module _ (K : Capacity) (R : Rows) (parts : Parts) (part : Part) (rules : judged_parts parts ≡ Ok part) where
  abbrev half : List ℕ
  half = part_of part parts

  abbrev head : Head
  head = head_says (head_of half)

  abbrev image : List ℕ
  image = take head.image (drop 48 half)

  by_entries : (base : Rows) → image_in head.image image ≡ Ok base → is_valid head.size base ≡ true → (r : Result (List Entry) ℕ) → entries_from half (48 + head.image) ≡ r → with_rows part head.size (done_again head.size base r) ≡ Holds K R → HoldsState K R parts
  by_entries base read valid (Err place) e is = absurd (cc is)
  by_entries base read valid (Ok entries) e is =
      let found = entries_found half (length half) (48 + head.image) entries e in
      let same = same_state head.size K (recovered head.size base entries) R is in
      let long : length image ≡ head.image = read_whole head.image image base read in
      record {
        ruling = part;
        head = head;
        image = image;
        bodies = found.bodies;
        base = base;
        entries = entries;
        store = record {
          rules = rules;
          says = refl;
          holds = ap (λ (n : ℕ). take n (drop 48 half)) long;
          whole = sym long;
          reads = subst (λ (n : ℕ). Read half (48 + n) found.bodies) (sym long) found.read;
        };
        tells = record { rows = ap (λ (n : ℕ). image_in n image) long ∙ read; valid = valid; told = found.spell };
        size = same.0;
        recovers = same.1;
      }

  by_valid : (base : Rows) → image_in head.image image ≡ Ok base → (b : Bool) → is_valid head.size base ≡ b → with_rows part head.size (rows_since head half (cond b (Ok base) (Err 48))) ≡ Holds K R → HoldsState K R parts
  by_valid base read true e is = by_entries base read e (entries_from half (48 + head.image)) refl is
  by_valid base read false e is = absurd (cc is)

  pub by_image : (r : Result Rows ℕ) → image_in head.image image ≡ r → with_rows part head.size (rows_since head half (valid_rows head.size r)) ≡ Holds K R → HoldsState K R parts
  by_image (Ok base) e is = by_valid base e (is_valid head.size base) refl is
  by_image (Err wrong) e is = absurd (cc is)

pub told_holds : (K : Capacity) (R : Rows) (parts : Parts) → state_of parts ≡ Holds K R → HoldsState K R parts
told_holds K R parts is = by_judged (judged_parts parts) refl is
  where
    by_judged : (r : Result Part JournalFault) → judged_parts parts ≡ r → by_heads parts r ≡ Holds K R → HoldsState K R parts
    by_judged (Ok part) e is =
        let half = part_of part parts in
        let head = head_says (head_of half) in
        by_image K R parts part e (image_in head.image (take head.image (drop 48 half))) refl is
    by_judged (Err NoStore) e is = absurd (cc is)
    by_judged (Err AlreadyStore) e is = absurd (cc is)
    by_judged (Err (Damaged part place)) e is = absurd (cc is)
    by_judged (Err DiskFault) e is = absurd (cc is)
    by_judged (Err NoMemory) e is = absurd (cc is)
