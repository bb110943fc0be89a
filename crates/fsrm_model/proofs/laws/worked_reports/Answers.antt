-- Each example computes.
use Rattle.std.proofs.Common.{refl}
use Rattle.std.specs.Str.{chars, is_utf8}
use Rattle.std.specs.Str.Lossy.{utf8_valid_len}
use Rattle.std.specs.Fmt.{digits}
use Rattle.ucd_case.specs.CaseFolding.{simple_folding}
use Rattle.ucd_case.specs.SimpleFoldingRows.{simple_folding_rows}
use Rattle.ucd_table.specs.Rows.{value_in}
use Rattle.fsrm_model.specs.lines.Line.{read_line}
use Rattle.fsrm_model.specs.lines.Script.{replied}
use Rattle.fsrm_model.proofs.laws.worked_reports.Goals as goal

pub returns-clause-reports : goal.returns-clause-reports
unfolding replied read_line simple_folding simple_folding_rows value_in chars digits is_utf8 utf8_valid_len lib.Utf8.encode
returns-clause-reports c = refl

pub returns-clause-audit : goal.returns-clause-audit
unfolding replied read_line simple_folding simple_folding_rows value_in chars digits is_utf8 utf8_valid_len lib.Utf8.encode
returns-clause-audit c = refl

pub returns-clause-life : goal.returns-clause-life
unfolding replied read_line simple_folding simple_folding_rows value_in chars digits is_utf8 utf8_valid_len lib.Utf8.encode
returns-clause-life c = refl

pub returns-clause-refusals : goal.returns-clause-refusals
unfolding replied read_line simple_folding simple_folding_rows value_in chars digits is_utf8 utf8_valid_len lib.Utf8.encode
returns-clause-refusals c = refl

pub returns-clause-lasting : goal.returns-clause-lasting
unfolding replied read_line simple_folding simple_folding_rows value_in chars digits is_utf8 utf8_valid_len lib.Utf8.encode
returns-clause-lasting c = refl

pub returns-clause-gone : goal.returns-clause-gone
unfolding replied read_line simple_folding simple_folding_rows value_in chars digits is_utf8 utf8_valid_len lib.Utf8.encode
returns-clause-gone c = refl

pub returns-clause-words : goal.returns-clause-words
unfolding replied read_line simple_folding simple_folding_rows value_in chars digits is_utf8 utf8_valid_len lib.Utf8.encode
returns-clause-words c = refl

pub returns-clause-values : goal.returns-clause-values
unfolding replied read_line simple_folding simple_folding_rows value_in chars digits is_utf8 utf8_valid_len lib.Utf8.encode
returns-clause-values c = refl

pub returns-clause-schedules : goal.returns-clause-schedules
unfolding replied read_line simple_folding simple_folding_rows value_in chars digits is_utf8 utf8_valid_len lib.Utf8.encode
returns-clause-schedules c = refl

pub returns-clause-rows : goal.returns-clause-rows
unfolding replied read_line simple_folding simple_folding_rows value_in chars digits is_utf8 utf8_valid_len lib.Utf8.encode
returns-clause-rows c = refl
