-- Numbers in words.
use Rattle.std.specs.Prelude.{ℕ, ◌&&◌, nat_le, List, Option, Some, None, if◌then◌else◌}
use Rattle.std.specs.Str.Parse.{digits_value}
use Rattle.fsrm_model.specs.lines.Reading.{is_number}

-- the number from low to high that 1 to 20 digits write
abbrev pub number_in : ℕ → ℕ → List ℕ → Option ℕ
number_in low high text = if is_number text && (nat_le low (digits_value 10 text) && nat_le (digits_value 10 text) high) then Some (digits_value 10 text) else None
