-- The table of the bytes that may stand in a name.
use Rattle.std.proofs.Common.{◌≡◌, ℕ, ◌<◌, Bool, false, List, get_or, refl, ap, ◌∙◌, arith}
use Rattle.std.specs.Prelude.{map}
use Rattle.std.specs.List.{range_with_len}
use Rattle.std.proofs.lemmas.List.FromFn.{get_or-map-range_with_len}
use Rattle.fsrm_model.specs.values.Name.{is_name_byte}
use Rattle.name_rules.specs.declared.name.TheConstants.{NAME_BYTES}

-- each of its bytes, one by one
table_is : NAME_BYTES ≡ map is_name_byte (range_with_len 0 256)
table_is = refl

pub told : (byte : ℕ) → byte < 256 → get_or NAME_BYTES byte false ≡ is_name_byte byte
told byte fits = ap (λ (table : List Bool). get_or table byte false) table_is ∙ get_or-map-range_with_len is_name_byte 0 256 byte byte false fits (omega arith)
