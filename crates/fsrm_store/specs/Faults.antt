-- What a store tells of faults below it.
use Rattle.std.specs.Prelude.{ℕ, ◌+◌}
use Rattle.fsrm_outside.specs.declared.traits.Part.{Part}
use Rattle.fsrm_journal.specs.declared.fault.JournalFault.{JournalFault}
use Rattle.fsrm_journal.specs.declared.fault.JournalFault.TheVariants.{NoStore as NoJournal, AlreadyStore as AlreadyJournal, Damaged as DamagedHalf, DiskFault as DiskFailed, NoMemory as MemoryOut}
use Rattle.record_codec.specs.declared.fault.CodecFault.{CodecFault}
use Rattle.record_codec.specs.declared.fault.CodecFault.TheVariants.{BadRecord, NoMemory as CodecMemory}
use Rattle.fsrm_store.specs.declared.fault.StoreFault.{StoreFault}
use Rattle.fsrm_store.specs.declared.fault.StoreFault.TheVariants.{NoStore, AlreadyStore, Damaged, DiskFault, NoMemory}

-- a fault of the journal
abbrev pub of_journal : JournalFault → StoreFault
of_journal NoJournal = NoStore
of_journal AlreadyJournal = AlreadyStore
of_journal (DamagedHalf part place) = Damaged part place
of_journal DiskFailed = DiskFault
of_journal MemoryOut = NoMemory

-- a fault of bytes of which the first one stands at this place of this half
abbrev pub of_bytes : Part → ℕ → CodecFault → StoreFault
of_bytes part first (BadRecord place) = Damaged part (first + place)
of_bytes part first CodecMemory = NoMemory
