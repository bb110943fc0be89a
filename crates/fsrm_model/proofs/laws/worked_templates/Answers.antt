-- Each example computes.
use Rattle.std.proofs.Common.{refl}
use Rattle.std.specs.Str.{chars, is_utf8}
use Rattle.std.specs.Str.Lossy.{utf8_valid_len}
use Rattle.std.specs.Fmt.{digits}
use Rattle.ucd_case.specs.CaseFolding.{simple_folding}
use Rattle.ucd_case.specs.SimpleFoldingRows.{simple_folding_rows}
use Rattle.ucd_table.specs.Rows.{value_in}
use Rattle.fsrm_model.specs.lines.Line.{read_line}
use Rattle.fsrm_model.specs.lines.Script.{replied}
use Rattle.fsrm_model.proofs.laws.worked_templates.Goals as goal

pub returns-clause-auto_apply : goal.returns-clause-auto_apply
unfolding replied read_line simple_folding simple_folding_rows value_in chars digits is_utf8 utf8_valid_len lib.Utf8.encode
returns-clause-auto_apply c = refl

pub returns-clause-update : goal.returns-clause-update
unfolding replied read_line simple_folding simple_folding_rows value_in chars digits is_utf8 utf8_valid_len lib.Utf8.encode
returns-clause-update c = refl

pub returns-clause-derived : goal.returns-clause-derived
unfolding replied read_line simple_folding simple_folding_rows value_in chars digits is_utf8 utf8_valid_len lib.Utf8.encode
returns-clause-derived c = refl

pub returns-clause-matching : goal.returns-clause-matching
unfolding replied read_line simple_folding simple_folding_rows value_in chars digits is_utf8 utf8_valid_len lib.Utf8.encode
returns-clause-matching c = refl

pub returns-clause-matching_again : goal.returns-clause-matching_again
unfolding replied read_line simple_folding simple_folding_rows value_in chars digits is_utf8 utf8_valid_len lib.Utf8.encode
returns-clause-matching_again c = refl

pub returns-clause-runs : goal.returns-clause-runs
unfolding replied read_line simple_folding simple_folding_rows value_in chars digits is_utf8 utf8_valid_len lib.Utf8.encode
returns-clause-runs c = refl

pub returns-clause-acts : goal.returns-clause-acts
unfolding replied read_line simple_folding simple_folding_rows value_in chars digits is_utf8 utf8_valid_len lib.Utf8.encode
returns-clause-acts c = refl

pub returns-clause-gone : goal.returns-clause-gone
unfolding replied read_line simple_folding simple_folding_rows value_in chars digits is_utf8 utf8_valid_len lib.Utf8.encode
returns-clause-gone c = refl

pub returns-clause-folders : goal.returns-clause-folders
unfolding replied read_line simple_folding simple_folding_rows value_in chars digits is_utf8 utf8_valid_len lib.Utf8.encode
returns-clause-folders c = refl

pub returns-clause-moves : goal.returns-clause-moves
unfolding replied read_line simple_folding simple_folding_rows value_in chars digits is_utf8 utf8_valid_len lib.Utf8.encode
returns-clause-moves c = refl

pub returns-clause-spelled : goal.returns-clause-spelled
unfolding replied read_line simple_folding simple_folding_rows value_in chars digits is_utf8 utf8_valid_len lib.Utf8.encode
returns-clause-spelled c = refl

pub returns-clause-and_quotas : goal.returns-clause-and_quotas
unfolding replied read_line simple_folding simple_folding_rows value_in chars digits is_utf8 utf8_valid_len lib.Utf8.encode
returns-clause-and_quotas c = refl

pub returns-clause-scans : goal.returns-clause-scans
unfolding replied read_line simple_folding simple_folding_rows value_in chars digits is_utf8 utf8_valid_len lib.Utf8.encode
returns-clause-scans c = refl

pub returns-clause-lists : goal.returns-clause-lists
unfolding replied read_line simple_folding simple_folding_rows value_in chars digits is_utf8 utf8_valid_len lib.Utf8.encode
returns-clause-lists c = refl

pub returns-clause-crowded : goal.returns-clause-crowded
unfolding replied read_line simple_folding simple_folding_rows value_in chars digits is_utf8 utf8_valid_len lib.Utf8.encode
returns-clause-crowded c = refl

pub returns-clause-words : goal.returns-clause-words
unfolding replied read_line simple_folding simple_folding_rows value_in chars digits is_utf8 utf8_valid_len lib.Utf8.encode
returns-clause-words c = refl
