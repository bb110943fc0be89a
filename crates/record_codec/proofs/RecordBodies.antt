-- Entries as the bodies of a journal's records.
use Rattle.std.proofs.Common.{◌≡◌, ℕ, ◌≤◌, true, List, length, Ok, subst, length-append, arith}
use Rattle.fsrm_model.specs.declared.command.Entry.{Entry}
use Rattle.fsrm_model.specs.declared.command.Entry.TheVariants.{Order, Finish}
use Rattle.fsrm_model.specs.store.Replays.{is_valid_entry}
use Rattle.fsrm_model.specs.values.Limits.{longest_entry}
use Rattle.record_fields.specs.Laws.{AreBytes}
use Rattle.record_codec.specs.Entries.{entry, entry_parts, body, decoded}
use Rattle.record_codec.specs.Fields.{moment}
use Rattle.record_codec.specs.Writing.{IsWritable, entry_typed}
use Rattle.record_codec.proofs.EntryLaws.{decoded_again, decoded_takes}
use Rattle.record_codec.proofs.Legal.{eight_bytes}
use Rattle.record_codec.proofs.Spelled.{spelled_writable, writable_spelled}

-- a spelling begins with the eight bytes of the moment
pub some_bytes : (e : Entry) → 1 ≤ length (entry.spell e)
some_bytes e =
    let parts = entry_parts e in
    omega (arith, length-append (moment.spell parts.0) (body.spell parts.1), eight_bytes parts.0)

pub written_body : (e : Entry) → entry_typed e ≡ true → IsWritable e → (decoded (entry.spell e) ≡ Ok e) × (1 ≤ length (entry.spell e)) × (length (entry.spell e) ≤ longest_entry)
written_body e typed writable =
    let spelled = writable_spelled e typed writable in
    (decoded_again e spelled.0, some_bytes e, spelled.1)

writable_valid : (e : Entry) → IsWritable e → is_valid_entry e ≡ true
writable_valid (Order command) writable = writable.0
writable_valid (Finish at folder) writable = writable

pub body_valid : (bytes : List ℕ) (e : Entry) → AreBytes bytes → length bytes ≤ longest_entry → decoded bytes ≡ Ok e → is_valid_entry e ≡ true
body_valid bytes e are short is =
    let t = decoded_takes bytes e are is in
    let few : length (entry.spell e) ≤ longest_entry = subst (λ (b : List ℕ). length b ≤ longest_entry) t.1 short in
    writable_valid e (spelled_writable e (t.0, few))
