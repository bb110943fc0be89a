-- Entries that may be written have a spelling, which has room.
use Rattle.std.proofs.Common.{◌≡◌, ℕ, ◌≤◌, true, List, [], ◌++◌, length, take, drop, Option, Some, None, refl, sym, ap, subst, ◌∙◌, arith, length-append}
use Rattle.std.specs.Prelude.{◌&&◌, is_some, option_map, false}
use Rattle.std.specs.Option.{option_map_or}
use Rattle.std.proofs.lemmas.List.{length-take, take_at, take-take}
use Rattle.fsrm_base.proofs.TestLaws.{both, both_true}
use Rattle.fsrm_model.specs.commands.Commands.{kind}
use Rattle.fsrm_model.specs.declared.command.Deed.{Deed}
use Rattle.fsrm_model.specs.declared.command.Entry.{Entry}
use Rattle.fsrm_model.specs.declared.command.Entry.TheVariants.{Order, Finish}
use Rattle.fsrm_model.specs.store.Valid.{is_moment}
use Rattle.fsrm_model.specs.store.Valued.{is_deed, is_short}
use Rattle.fsrm_model.specs.values.Limits.{latest_moment, longest_entry}
use Rattle.record_fields.specs.Formats.{number_spelled}
use Rattle.record_fields.specs.Writers.{Writes}
use Rattle.record_fields.proofs.WriterLaws.{whole}
use Rattle.record_codec.specs.declared.deeds.DeedKind.{DeedKind}
use Rattle.record_codec.specs.declared.kinds.Kind.TheVariants.{Deed as DeedKinds, Finish as FinishKind}
use Rattle.record_codec.specs.Deeds.{deed_code, deed_kind, deed_values, deed_spelled}
use Rattle.record_codec.specs.Entries.{Does, Finishes, entry_kind, values, body, entry}
use Rattle.record_codec.specs.Fields.{moment, folder}
use Rattle.record_codec.specs.Kinds.{tagged_legal, tagged_spelled}
use Rattle.record_codec.specs.Writing.{IsWritable, WritesEntry, entry_typed}
use Rattle.record_codec.proofs.DeedLaws.{deed_known, deed_numbered}
use Rattle.record_codec.proofs.DeedWriting.{short_of, deed_legal, deed_long, deed_body}
use Rattle.record_codec.proofs.Legal.{within_legal, from_zero, one_byte, eight_bytes}

moment_legal : (n : ℕ) → is_moment n ≡ true → moment.legal n ≡ true
moment_legal n is = within_legal 0 latest_moment n (omega arith) (from_zero latest_moment n is)

-- ---- deeds whose entry has a kind
mapped_there : {A B : Type 0} (g : A → B) (o : Option A) → is_some (option_map g o) ≡ is_some o
mapped_there g None = refl
mapped_there g (Some a) = refl

-- one that has a kind of the machine's has one here
has_kind : (deed : Deed) → is_some (kind deed) ≡ true → is_some (deed_kind deed) ≡ true
has_kind deed there = sym (mapped_there deed_code (deed_kind deed)) ∙ ap is_some (deed_numbered deed) ∙ there

tagged_so : (deed : Deed) (o : Option DeedKind) → is_some o ≡ true → option_map_or (λ k. (deed_values k).legal deed) o true ≡ true → option_map_or (tagged_legal entry_kind values (Does deed)) (option_map DeedKinds o) false ≡ true
tagged_so deed None there legal = absurd (cc there)
tagged_so deed (Some k) there legal = both_true _ _ (both_true _ _ refl (deed_known k).1) legal

spelled_so : (deed : Deed) (o : Option DeedKind) → option_map_or (λ k. number_spelled 1 (deed_code k) ++ (deed_values k).spell deed) o [] ≡ option_map_or (tagged_spelled entry_kind values (Does deed)) (option_map DeedKinds o) []
spelled_so deed None = refl
spelled_so deed (Some k) = refl

pub body_spelled : (deed : Deed) → deed_spelled deed ≡ body.spell (Does deed)
body_spelled deed = deed_body deed ∙ spelled_so deed (deed_kind deed)

-- ---- entries
pub writable_legal : (e : Entry) → IsWritable e → entry_typed e ≡ true → entry.legal e ≡ true
writable_legal (Order command) writable text =
    let c = both (is_moment command.moment) (is_deed command.deed && is_short command.deed) writable.0 in
    let d = both (is_deed command.deed) (is_short command.deed) c.1 in
    both_true _ _ (moment_legal command.moment c.0)
    (tagged_so command.deed (deed_kind command.deed) (has_kind command.deed writable.1) (deed_legal command.deed writable.1 d.0 d.1 text))
writable_legal (Finish at number) writable text =
    both_true _ _ (moment_legal at writable) (both_true _ _ refl (within_legal 0 4294967295 number (omega arith) (from_zero 4294967295 number text)))

pub writable_room : (e : Entry) → IsWritable e → length (entry.spell e) ≤ longest_entry
writable_room (Order command) writable =
    let deed = command.deed in
    let c = both (is_moment command.moment) (is_deed deed && is_short deed) writable.0 in
    let d = both (is_deed deed) (is_short deed) c.1 in
    let spelled = body.spell (Does deed) in
    omega (arith, length-append (moment.spell command.moment) spelled, eight_bytes command.moment, ap length (sym (body_spelled deed)), deed_long deed (has_kind deed writable.1), (short_of deed writable.1 d.1).1)
writable_room (Finish at number) writable =
    let after = body.spell (Finishes number) in
    omega (arith, length-append (moment.spell at) after, eight_bytes at, length-append (entry_kind.spell FinishKind) (folder.spell number), one_byte 99, eight_bytes number)

-- what is written into the front of a buffer with room for the longest entry
pub in_front : {bytes : List ℕ} (old new : List ℕ) (end : ℕ) → longest_entry ≤ length old → Writes (take longest_entry old) 0 new end bytes → Writes (take longest_entry old) 0 (take longest_entry (new ++ drop longest_entry old)) end bytes
in_front {bytes = bytes} old new end room w =
    let size : length new ≡ longest_entry = omega (arith, room, w.room, length-take longest_entry old) in
    subst (λ (n : List ℕ). Writes (take longest_entry old) 0 n end bytes) (sym (take_at new (drop longest_entry old) longest_entry size)) w

pub written_whole : (e : Entry) (old new : List ℕ) (end : ℕ) → IsWritable e → longest_entry ≤ length old → WritesEntry old new end e
    → (end ≡ length (entry.spell e)) × ((take end new ≡ entry.spell e) × (end ≤ longest_entry))
written_whole e old new end writable room w =
    let some = writable_room e writable in
    let front : length (take longest_entry old) ≡ longest_entry = omega (arith, room, length-take longest_entry old) in
    let all = whole (take longest_entry old) (take longest_entry new) (entry.spell e) 0 end w (omega (arith, some, front)) in
    (omega (arith, all.0), (sym (take-take end longest_entry new (omega (arith, all.0, some))) ∙ all.1, omega (arith, all.0, some)))
