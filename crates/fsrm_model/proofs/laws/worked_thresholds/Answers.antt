-- Each example computes.
use Rattle.std.proofs.Common.{refl}
use Rattle.std.specs.Str.{chars, is_utf8}
use Rattle.std.specs.Str.Lossy.{utf8_valid_len}
use Rattle.std.specs.Fmt.{digits}
use Rattle.ucd_case.specs.CaseFolding.{simple_folding}
use Rattle.ucd_case.specs.SimpleFoldingRows.{simple_folding_rows}
use Rattle.ucd_table.specs.Rows.{value_in}
use Rattle.fsrm_model.specs.lines.Line.{read_line}
use Rattle.fsrm_model.specs.lines.Script.{replied}
use Rattle.fsrm_model.proofs.laws.worked_thresholds.Goals as goal

pub returns-clause-run_limit : goal.returns-clause-run_limit
unfolding replied read_line simple_folding simple_folding_rows value_in chars digits is_utf8 utf8_valid_len lib.Utf8.encode
returns-clause-run_limit c = refl

pub returns-clause-scan_ends_above : goal.returns-clause-scan_ends_above
unfolding replied read_line simple_folding simple_folding_rows value_in chars digits is_utf8 utf8_valid_len lib.Utf8.encode
returns-clause-scan_ends_above c = refl

pub returns-clause-refused_writes : goal.returns-clause-refused_writes
unfolding replied read_line simple_folding simple_folding_rows value_in chars digits is_utf8 utf8_valid_len lib.Utf8.encode
returns-clause-refused_writes c = refl

pub returns-clause-refused_below : goal.returns-clause-refused_below
unfolding replied read_line simple_folding simple_folding_rows value_in chars digits is_utf8 utf8_valid_len lib.Utf8.encode
returns-clause-refused_below c = refl

pub returns-clause-acts_in_order : goal.returns-clause-acts_in_order
unfolding replied read_line simple_folding simple_folding_rows value_in chars digits is_utf8 utf8_valid_len lib.Utf8.encode
returns-clause-acts_in_order c = refl

pub returns-clause-changed_quotas : goal.returns-clause-changed_quotas
unfolding replied read_line simple_folding simple_folding_rows value_in chars digits is_utf8 utf8_valid_len lib.Utf8.encode
returns-clause-changed_quotas c = refl

pub returns-clause-run_limit_setting : goal.returns-clause-run_limit_setting
unfolding replied read_line simple_folding simple_folding_rows value_in chars digits is_utf8 utf8_valid_len lib.Utf8.encode
returns-clause-run_limit_setting c = refl

pub returns-clause-threshold_options : goal.returns-clause-threshold_options
unfolding replied read_line simple_folding simple_folding_rows value_in chars digits is_utf8 utf8_valid_len lib.Utf8.encode
returns-clause-threshold_options c = refl

pub returns-clause-threshold_values : goal.returns-clause-threshold_values
unfolding replied read_line simple_folding simple_folding_rows value_in chars digits is_utf8 utf8_valid_len lib.Utf8.encode
returns-clause-threshold_values c = refl

pub returns-clause-long_lists : goal.returns-clause-long_lists
unfolding replied read_line simple_folding simple_folding_rows value_in chars digits is_utf8 utf8_valid_len lib.Utf8.encode
returns-clause-long_lists c = refl

pub returns-clause-refused_then : goal.returns-clause-refused_then
unfolding replied read_line simple_folding simple_folding_rows value_in chars digits is_utf8 utf8_valid_len lib.Utf8.encode
returns-clause-refused_then c = refl

pub returns-clause-refused_above : goal.returns-clause-refused_above
unfolding replied read_line simple_folding simple_folding_rows value_in chars digits is_utf8 utf8_valid_len lib.Utf8.encode
returns-clause-refused_above c = refl

pub returns-clause-refused_move : goal.returns-clause-refused_move
unfolding replied read_line simple_folding simple_folding_rows value_in chars digits is_utf8 utf8_valid_len lib.Utf8.encode
returns-clause-refused_move c = refl
