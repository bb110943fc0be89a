-- Entries: a moment, the kind of the command, and the values of its words or options in their order.
use Rattle.std.specs.Prelude.{ℕ, ◌-◌, ◌==◌, true, List, length, Option, Some, None, Result, Ok, Err, option_map, if◌then◌else◌}
use Rattle.std.specs.Option.{option_or}
use Rattle.fsrm_model.specs.declared.command.Deed.{Deed}
use Rattle.fsrm_model.specs.declared.command.Entry.{Entry}
use Rattle.fsrm_model.specs.declared.command.Entry.TheVariants.{Order, Finish}
use Rattle.record_fields.specs.Formats.{Format, Read, shaped, choice, ◌⊗◌}
use Rattle.record_fields.specs.Laws.{left_of}
use Rattle.record_codec.specs.declared.kinds.Kind.{Kind}
use Rattle.record_codec.specs.declared.kinds.Kind.TheVariants.{Deed as DeedKinds, Finish as FinishKind}
use Rattle.record_codec.specs.Deeds.{deed_kind_of, deed_code, deed_kind, deed_values}
use Rattle.record_codec.specs.Fields.{moment, folder}
use Rattle.record_codec.specs.Kinds.{one_of, tagged}

-- ---- kinds, in one byte
abbrev pub kind_of : ℕ → Option Kind
kind_of n = option_or (option_map DeedKinds (deed_kind_of n)) (if n == 99 then Some FinishKind else None)

abbrev pub kind_code : Kind → ℕ
kind_code (DeedKinds k) = deed_code k
kind_code FinishKind = 99

abbrev pub entry_kind : Format Kind
entry_kind = choice kind_of kind_code (λ k. true)

-- ---- what an entry has beside its moment: a deed, or the folder of a scan that was finished
pub data Body : Type 0 where
  Does : (deed : Deed) → Body
  Finishes : (folder : ℕ) → Body

abbrev pub kind_in : Body → Option Kind
kind_in (Does deed) = option_map DeedKinds (deed_kind deed)
kind_in (Finishes number) = Some FinishKind

abbrev pub deed_in : Body → Option Deed
deed_in (Does deed) = Some deed
deed_in other = None

abbrev pub folder_in : Body → Option ℕ
folder_in (Finishes number) = Some number
folder_in other = None

abbrev pub values : Kind → Format Body
values (DeedKinds k) = one_of Does deed_in (deed_values k)
values FinishKind = one_of Finishes folder_in folder

abbrev pub body : Format Body
body = tagged entry_kind values kind_in

-- ---- whole entries
abbrev pub entry_of : ℕ × Body → Entry
entry_of (at, Does deed) = Order (record { moment = at; deed = deed })
entry_of (at, Finishes number) = Finish at number

abbrev pub entry_parts : Entry → ℕ × Body
entry_parts (Order command) = (command.moment, Does command.deed)
entry_parts (Finish at number) = (at, Finishes number)

abbrev pub entry : Format Entry
entry = shaped entry_of entry_parts (moment ⊗ body)

-- The entry that bytes spell, all of them, or the place of the first byte that is wrong: the first field's that isn't
-- there whole or isn't legal, or the first one too many
abbrev pub at_end : ℕ → Read Entry → Result Entry ℕ
at_end size (Ok e) = if length e.1 == 0 then Ok e.0 else Err (size - length e.1)
at_end size (Err flaw) = Err (size - left_of flaw)

abbrev pub decoded : List ℕ → Result Entry ℕ
decoded bytes = at_end (length bytes) (entry.read bytes)
