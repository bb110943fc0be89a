-- Where a script stands between two of its pieces.
use Rattle.fsrm_modes.specs.Reading.{Place}
use Rattle.fsrm_modes.specs.declared.lines.Lines.{Lines}

abbrev pub place_of : Lines → Place
place_of lines = record { line = lines.number; held = lines.held.items }
