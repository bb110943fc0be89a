use Rattle.std.proofs.Common.{◌≡◌, drop}
use Rattle.storage_reports.specs.Doubles.{mixed}
use Rattle.storage_reports.proofs.twins.mix_bytes.Given as goal

abbrev pub invariant-loop-byte : goal.invariant-loop-byte
invariant-loop-byte l = mixed l.mixed (drop l.byte-index l.bytes) ≡ mixed l.hash l.bytes
