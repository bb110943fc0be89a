use Rattle.std.proofs.Common.{◌≡◌, drop, map}
use Rattle.std.specs.Char.{to_ascii_lowercase}
use Rattle.storage_reports.specs.Doubles.{mixed}
use Rattle.storage_reports.proofs.twins.mix_lower.Given as goal

abbrev pub invariant-loop-byte : goal.invariant-loop-byte
invariant-loop-byte l = mixed l.mixed (map to_ascii_lowercase (drop l.byte-index l.bytes)) ≡ mixed l.hash (map to_ascii_lowercase l.bytes)
