-- What a reader of a store finds is the state of its bytes.
use Rattle.std.proofs.Common.{◌≡◌, ℕ, ◌+◌, suc, Bool, true, false, cond, arith, List, [], ◌∷◌, ◌++◌, length, take, drop, refl, ◌∙◌, ap}
use Rattle.std.specs.Prelude.{None, Some, Result, Ok, Err}
use Rattle.fsrm_model.specs.declared.command.Entry.{Entry}
use Rattle.fsrm_model.specs.declared.row.Rows.{Rows}
use Rattle.fsrm_model.specs.store.Replays.{recovered}
use Rattle.fsrm_model.specs.store.Valid.{is_valid}
use Rattle.fsrm_outside.specs.Parts.{Parts, part_of}
use Rattle.fsrm_outside.specs.declared.traits.Part.{Part}
use Rattle.fsrm_journal.specs.Next.{record_at}
use Rattle.fsrm_journal.specs.Opened.{judged_parts}
use Rattle.fsrm_journal.specs.declared.fault.JournalFault.TheVariants.{NoStore, Damaged}
use Rattle.fsrm_journal.specs.declared.heads.Head.{Head}
use Rattle.fsrm_journal.proofs.Walks.{comes_then}
use Rattle.record_codec.specs.Entries.{decoded}
use Rattle.image_codec.specs.Images.{image_in}
use Rattle.fsrm_store.specs.States.{valid_rows, image_rows, with_entry, with_record, first_entries, entries_from, done_again, rows_since, with_rows, half_state, by_heads, state_of}
use Rattle.fsrm_store.specs.States.State.{NoState, DamagedAt, Holds}
use Rattle.fsrm_store.specs.Reads.{Rules, image_bytes, ComesTo}
use Rattle.fsrm_store.proofs.KeepsLaws.{spell_more}
use Rattle.fsrm_store.proofs.RecordWalks.{comes_one, entries_told, entries_damaged}

pub heads_damaged : (parts : Parts) (part : Part) (place : ℕ) → judged_parts parts ≡ Err (Damaged part place) → state_of parts ≡ DamagedAt part place
heads_damaged parts part place is = ap (by_heads parts) is

pub heads_none : (parts : Parts) → judged_parts parts ≡ Err NoStore → state_of parts ≡ NoState
heads_none parts is = ap (by_heads parts) is

-- the state is that of the half that rules
of_half : (parts : Parts) (ruling : Part) (head : Head) → Rules ruling head parts → state_of parts ≡ half_state ruling head (part_of ruling parts)
of_half parts ruling head r = ap (by_heads parts) r.rules ∙ ap (λ (head : Head). half_state ruling head (part_of ruling parts)) r.says

pub image_damaged : (parts : Parts) (ruling : Part) (head : Head) (wrong : ℕ) → Rules ruling head parts → image_in head.image (image_bytes ruling head parts) ≡ Err wrong → state_of parts ≡ DamagedAt ruling (48 + wrong)
image_damaged parts ruling head wrong r is =
    of_half parts ruling head r ∙ ap (λ r. with_rows ruling head.size (rows_since head (part_of ruling parts) (valid_rows head.size r))) is

pub rows_damaged : (parts : Parts) (ruling : Part) (head : Head) (base : Rows) → Rules ruling head parts → image_in head.image (image_bytes ruling head parts) ≡ Ok base → is_valid head.size base ≡ false → state_of parts ≡ DamagedAt ruling 48
rows_damaged parts ruling head base r is wrong =
    of_half parts ruling head r
    ∙ (ap (λ r. with_rows ruling head.size (rows_since head (part_of ruling parts) (valid_rows head.size r))) is
    ∙ ap (λ (b : Bool). with_rows ruling head.size (rows_since head (part_of ruling parts) (cond b (Ok base) (Err 48)))) wrong)

-- ---- what a reader finds goes on
pub image_found : (parts : Parts) (ruling : Part) (head : Head) (base : Rows) → Rules ruling head parts → image_in head.image (image_bytes ruling head parts) ≡ Ok base → is_valid head.size base ≡ true → ComesTo ruling head base [] (48 + head.image) parts
image_found parts ruling head base r is valid = record { half = r; rows = is; valid = valid; bodies = []; comes = refl; told = tt }

pub record_found : (parts : Parts) (ruling : Part) (head : Head) (base : Rows) (entries : List Entry) (end place long : ℕ) (entry : Entry) → ComesTo ruling head base entries end parts
    → record_at (part_of ruling parts) end ≡ Ok (Some (place, long)) → decoded (take long (drop place (part_of ruling parts))) ≡ Ok entry → ComesTo ruling head base (entries ++ entry ∷ []) (place + long) parts
record_found parts ruling head base entries end place long entry c is spells =
    let half = part_of ruling parts in
    let body = take long (drop place half) in
    record {
      half = c.half;
      rows = c.rows;
      valid = c.valid;
      bodies = c.bodies ++ body ∷ [];
      comes = comes_then half (48 + head.image) end (place + long) c.bodies (body ∷ []) c.comes (comes_one half end place long is);
      told = spell_more c.bodies (body ∷ []) entries (entry ∷ []) c.told (spells, tt);
    }

-- ---- where it stops
stopped : (parts : Parts) (ruling : Part) (head : Head) (base : Rows) (entries : List Entry) (end : ℕ) → ComesTo ruling head base entries end parts → (found : Result (List Entry) ℕ) → entries_from (part_of ruling parts) (48 + head.image) ≡ found
    → state_of parts ≡ with_rows ruling head.size (done_again head.size base found)
stopped parts ruling head base entries end c found is =
    let half = part_of ruling parts in
    let size = head.size in
    let rows : image_rows head half ≡ Ok base = ap (valid_rows size) c.rows ∙ ap (λ (b : Bool). cond b (Ok base) (Err 48)) c.valid in
    of_half parts ruling head c.half
    ∙ (ap (λ r. with_rows ruling size (rows_since head half r)) rows
    ∙ ap (λ r. with_rows ruling size (done_again size base r)) is)

pub all_found : (parts : Parts) (ruling : Part) (head : Head) (base : Rows) (entries : List Entry) (end : ℕ) → ComesTo ruling head base entries end parts → record_at (part_of ruling parts) end ≡ Ok None
    → state_of parts ≡ Holds head.size (recovered head.size base entries)
all_found parts ruling head base entries end c is =
    let half = part_of ruling parts in
    stopped parts ruling head base entries end c (Ok entries) (entries_told half (length half) (48 + head.image) end c.bodies entries c.comes is c.told (omega arith))

damaged_there : (parts : Parts) (ruling : Part) (head : Head) (base : Rows) (entries : List Entry) (end damaged : ℕ) → ComesTo ruling head base entries end parts → ((k : ℕ) → first_entries (suc k) (part_of ruling parts) end ≡ Err damaged)
    → state_of parts ≡ DamagedAt ruling damaged
damaged_there parts ruling head base entries end damaged c stops =
    let half = part_of ruling parts in
    stopped parts ruling head base entries end c (Err damaged) (entries_damaged half damaged (length half) (48 + head.image) end c.bodies entries c.comes c.told stops (omega arith))

pub record_damaged : (parts : Parts) (ruling : Part) (head : Head) (base : Rows) (entries : List Entry) (end place : ℕ) → ComesTo ruling head base entries end parts → record_at (part_of ruling parts) end ≡ Err place → state_of parts ≡ DamagedAt ruling place
record_damaged parts ruling head base entries end place c is =
    let half = part_of ruling parts in
    damaged_there parts ruling head base entries end place c (λ k. ap (with_record (first_entries k half) half) is)

pub body_damaged : (parts : Parts) (ruling : Part) (head : Head) (base : Rows) (entries : List Entry) (end place long wrong : ℕ) → ComesTo ruling head base entries end parts
    → record_at (part_of ruling parts) end ≡ Ok (Some (place, long)) → decoded (take long (drop place (part_of ruling parts))) ≡ Err wrong → state_of parts ≡ DamagedAt ruling (place + wrong)
body_damaged parts ruling head base entries end place long wrong c is spells =
    let half = part_of ruling parts in
    damaged_there parts ruling head base entries end (place + wrong) c
    (λ k. ap (with_record (first_entries k half) half) is ∙ ap (λ r. with_entry place r (first_entries k half (place + long))) spells)
