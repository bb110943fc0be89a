-- Entries that are written: what they stand for, and which may be.
use Rattle.std.specs.Prelude.{◌≡◌, ◌-◌, ◌≤◌, ◌^◌, nat_le, ℕ, Bool, true, List, length, take, is_some}
use Rattle.std.specs.List.{list_all}
use Rattle.fsrm_model.specs.commands.Commands.{kind, paths_of_op}
use Rattle.fsrm_model.specs.declared.command.Deed.{Deed}
use Rattle.fsrm_model.specs.declared.command.Deed.TheVariants.{File, Quota, Template, Autoquota, Filegroup, Screen, Exception, Reports}
use Rattle.fsrm_model.specs.declared.command.Entry.{Entry}
use Rattle.fsrm_model.specs.declared.command.Entry.TheVariants.{Order, Finish}
use Rattle.fsrm_model.specs.declared.command.FileOp.{FileOp}
use Rattle.fsrm_model.specs.store.Valid.{is_moment}
use Rattle.fsrm_model.specs.store.Valued.{is_command}
use Rattle.fsrm_model.specs.values.Limits.{longest_entry}
use Rattle.record_fields.specs.Writers.{Writes}
use Rattle.record_codec.specs.declared.entry.EntryRef.{EntryRef}
use Rattle.record_codec.specs.declared.entry.EntryRef.TheVariants.{Order as OrderRef, Op as OpRef, Finish as FinishRef}
use Rattle.record_codec.specs.Autoquotas.{autoquota_typed}
use Rattle.record_codec.specs.Entries.{entry}
use Rattle.record_codec.specs.Exceptions.{exception_typed}
use Rattle.record_codec.specs.Filegroups.{filegroup_typed}
use Rattle.record_codec.specs.Quotas.{quota_typed}
use Rattle.record_codec.specs.Reports.{job_typed}
use Rattle.record_codec.specs.Screens.{screen_typed}
use Rattle.record_codec.specs.Templates.{template_typed}
use Rattle.record_codec.specs.Typed.{is_path_text}

-- the entry that is lent
abbrev pub lent : EntryRef → Entry
lent (OrderRef command) = Order command.now
lent (OpRef moment op) = Order (record { moment = moment; deed = File op.now })
lent (FinishRef moment folder) = Finish moment folder

-- the command is valid, and its entry has a kind
abbrev pub IsWritable : Entry → Type 0
IsWritable (Order command) = (is_command command ≡ true) × (is_some (kind command.deed) ≡ true)
IsWritable (Finish moment folder) = is_moment moment ≡ true

-- it is written from the first byte on, as far as there is room for the longest entry
abbrev pub WritesEntry : List ℕ → List ℕ → ℕ → Entry → Type 0
WritesEntry old new end e = Writes (take longest_entry old) 0 (take longest_entry new) end (entry.spell e)

-- it has a spelling, which a journal takes
abbrev pub IsSpelled : Entry → Type 0
IsSpelled e = (entry.legal e ≡ true) × (length (entry.spell e) ≤ longest_entry)

-- ---- what the types of the values tell: that texts are UTF-8, and a number is of 32 bits
abbrev pub file_typed : FileOp → Bool
file_typed op = list_all is_path_text (paths_of_op op)

abbrev pub deed_typed : Deed → Bool
deed_typed (File op) = file_typed op
deed_typed (Quota deed) = quota_typed deed
deed_typed (Template deed) = template_typed deed
deed_typed (Autoquota deed) = autoquota_typed deed
deed_typed (Filegroup deed) = filegroup_typed deed
deed_typed (Screen deed) = screen_typed deed
deed_typed (Exception deed) = exception_typed deed
deed_typed (Reports deed) = job_typed deed
deed_typed other = true

abbrev pub entry_typed : Entry → Bool
entry_typed (Order command) = deed_typed command.deed
entry_typed (Finish moment folder) = nat_le folder (2 ^ 32 - 1)
