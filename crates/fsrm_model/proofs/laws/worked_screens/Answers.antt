-- Each example computes.
use Rattle.std.proofs.Common.{refl}
use Rattle.std.specs.Str.{chars, is_utf8}
use Rattle.std.specs.Str.Lossy.{utf8_valid_len}
use Rattle.std.specs.Fmt.{digits}
use Rattle.ucd_case.specs.CaseFolding.{simple_folding}
use Rattle.ucd_case.specs.SimpleFoldingRows.{simple_folding_rows}
use Rattle.ucd_table.specs.Rows.{value_in}
use Rattle.fsrm_model.specs.lines.Line.{read_line}
use Rattle.fsrm_model.specs.lines.Script.{replied}
use Rattle.fsrm_model.proofs.laws.worked_screens.Goals as goal

pub returns-clause-members : goal.returns-clause-members
unfolding replied read_line simple_folding simple_folding_rows value_in chars digits is_utf8 utf8_valid_len lib.Utf8.encode
returns-clause-members c = refl

pub returns-clause-blocked_entry : goal.returns-clause-blocked_entry
unfolding replied read_line simple_folding simple_folding_rows value_in chars digits is_utf8 utf8_valid_len lib.Utf8.encode
returns-clause-blocked_entry c = refl

pub returns-clause-exceptions : goal.returns-clause-exceptions
unfolding replied read_line simple_folding simple_folding_rows value_in chars digits is_utf8 utf8_valid_len lib.Utf8.encode
returns-clause-exceptions c = refl

pub returns-clause-exception_above : goal.returns-clause-exception_above
unfolding replied read_line simple_folding simple_folding_rows value_in chars digits is_utf8 utf8_valid_len lib.Utf8.encode
returns-clause-exception_above c = refl

pub returns-clause-beside_quotas : goal.returns-clause-beside_quotas
unfolding replied read_line simple_folding simple_folding_rows value_in chars digits is_utf8 utf8_valid_len lib.Utf8.encode
returns-clause-beside_quotas c = refl

pub returns-clause-nearest : goal.returns-clause-nearest
unfolding replied read_line simple_folding simple_folding_rows value_in chars digits is_utf8 utf8_valid_len lib.Utf8.encode
returns-clause-nearest c = refl

pub returns-clause-and_quotas : goal.returns-clause-and_quotas
unfolding replied read_line simple_folding simple_folding_rows value_in chars digits is_utf8 utf8_valid_len lib.Utf8.encode
returns-clause-and_quotas c = refl

pub returns-clause-reported_entries : goal.returns-clause-reported_entries
unfolding replied read_line simple_folding simple_folding_rows value_in chars digits is_utf8 utf8_valid_len lib.Utf8.encode
returns-clause-reported_entries c = refl

pub returns-clause-moves : goal.returns-clause-moves
unfolding replied read_line simple_folding simple_folding_rows value_in chars digits is_utf8 utf8_valid_len lib.Utf8.encode
returns-clause-moves c = refl

pub returns-clause-move_entries : goal.returns-clause-move_entries
unfolding replied read_line simple_folding simple_folding_rows value_in chars digits is_utf8 utf8_valid_len lib.Utf8.encode
returns-clause-move_entries c = refl

pub returns-clause-lists : goal.returns-clause-lists
unfolding replied read_line simple_folding simple_folding_rows value_in chars digits is_utf8 utf8_valid_len lib.Utf8.encode
returns-clause-lists c = refl

pub returns-clause-gone : goal.returns-clause-gone
unfolding replied read_line simple_folding simple_folding_rows value_in chars digits is_utf8 utf8_valid_len lib.Utf8.encode
returns-clause-gone c = refl

pub returns-clause-words : goal.returns-clause-words
unfolding replied read_line simple_folding simple_folding_rows value_in chars digits is_utf8 utf8_valid_len lib.Utf8.encode
returns-clause-words c = refl

pub returns-clause-many_patterns : goal.returns-clause-many_patterns
unfolding replied read_line simple_folding simple_folding_rows value_in chars digits is_utf8 utf8_valid_len lib.Utf8.encode
returns-clause-many_patterns c = refl

pub returns-clause-folding : goal.returns-clause-folding
unfolding replied read_line simple_folding simple_folding_rows value_in chars digits is_utf8 utf8_valid_len lib.Utf8.encode
returns-clause-folding c = refl
