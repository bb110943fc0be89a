-- What a run of a made script writes.
use Rattle.std.specs.Prelude.{ℕ, List}
use Rattle.fsrm_model.specs.declared.row.Capacity.{Capacity}
use Rattle.fsrm_model.specs.declared.row.Rows.{Rows}
use Rattle.made_script.specs.Lines.{made_lines}
use Rattle.made_script.specs.Tally.{summary_line, tally_from}

-- one line, which tells what the replies to the made script come to over these rows
abbrev pub summary : Capacity → Rows → ℕ → ℕ → List ℕ
summary K R seed count = summary_line count (tally_from K R 1 (made_lines seed count))
