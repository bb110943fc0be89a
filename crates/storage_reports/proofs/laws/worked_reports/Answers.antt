-- Each example computes.
use Rattle.std.proofs.Common.{refl}
use Rattle.std.specs.Str.{chars, is_utf8}
use Rattle.std.specs.Str.Lossy.{utf8_valid_len}
use Rattle.std.specs.Fmt.{digits}
use Rattle.ucd_case.specs.CaseFolding.{simple_folding}
use Rattle.ucd_case.specs.SimpleFoldingRows.{simple_folding_rows}
use Rattle.ucd_table.specs.Rows.{value_in}
use Rattle.fsrm_model.specs.lines.Line.{read_line}
use Rattle.fsrm_model.specs.lines.Script.{replied}
use Rattle.storage_reports.proofs.laws.worked_reports.Goals as goal

pub returns-clause-by_type : goal.returns-clause-by_type
unfolding replied read_line simple_folding simple_folding_rows value_in chars digits is_utf8 utf8_valid_len lib.Utf8.encode
returns-clause-by_type c = refl

pub returns-clause-apart_types : goal.returns-clause-apart_types
unfolding replied read_line simple_folding simple_folding_rows value_in chars digits is_utf8 utf8_valid_len lib.Utf8.encode
returns-clause-apart_types c = refl

pub returns-clause-unused_filters : goal.returns-clause-unused_filters
unfolding replied read_line simple_folding simple_folding_rows value_in chars digits is_utf8 utf8_valid_len lib.Utf8.encode
returns-clause-unused_filters c = refl

pub returns-clause-by_owner : goal.returns-clause-by_owner
unfolding replied read_line simple_folding simple_folding_rows value_in chars digits is_utf8 utf8_valid_len lib.Utf8.encode
returns-clause-by_owner c = refl

pub returns-clause-large_files : goal.returns-clause-large_files
unfolding replied read_line simple_folding simple_folding_rows value_in chars digits is_utf8 utf8_valid_len lib.Utf8.encode
returns-clause-large_files c = refl

pub returns-clause-duplicates : goal.returns-clause-duplicates
unfolding replied read_line simple_folding simple_folding_rows value_in chars digits is_utf8 utf8_valid_len lib.Utf8.encode
returns-clause-duplicates c = refl

pub returns-clause-below_folder : goal.returns-clause-below_folder
unfolding replied read_line simple_folding simple_folding_rows value_in chars digits is_utf8 utf8_valid_len lib.Utf8.encode
returns-clause-below_folder c = refl

pub returns-clause-of_owner : goal.returns-clause-of_owner
unfolding replied read_line simple_folding simple_folding_rows value_in chars digits is_utf8 utf8_valid_len lib.Utf8.encode
returns-clause-of_owner c = refl

pub returns-clause-of_pattern : goal.returns-clause-of_pattern
unfolding replied read_line simple_folding simple_folding_rows value_in chars digits is_utf8 utf8_valid_len lib.Utf8.encode
returns-clause-of_pattern c = refl

pub returns-clause-late_folder : goal.returns-clause-late_folder
unfolding replied read_line simple_folding simple_folding_rows value_in chars digits is_utf8 utf8_valid_len lib.Utf8.encode
returns-clause-late_folder c = refl

pub returns-clause-unused_files : goal.returns-clause-unused_files
unfolding replied read_line simple_folding simple_folding_rows value_in chars digits is_utf8 utf8_valid_len lib.Utf8.encode
returns-clause-unused_files c = refl

pub returns-clause-used_files : goal.returns-clause-used_files
unfolding replied read_line simple_folding simple_folding_rows value_in chars digits is_utf8 utf8_valid_len lib.Utf8.encode
returns-clause-used_files c = refl

pub returns-clause-grouped_duplicates : goal.returns-clause-grouped_duplicates
unfolding replied read_line simple_folding simple_folding_rows value_in chars digits is_utf8 utf8_valid_len lib.Utf8.encode
returns-clause-grouped_duplicates c = refl

pub returns-clause-quota_usage : goal.returns-clause-quota_usage
unfolding replied read_line simple_folding simple_folding_rows value_in chars digits is_utf8 utf8_valid_len lib.Utf8.encode
returns-clause-quota_usage c = refl

pub returns-clause-used_quotas : goal.returns-clause-used_quotas
unfolding replied read_line simple_folding simple_folding_rows value_in chars digits is_utf8 utf8_valid_len lib.Utf8.encode
returns-clause-used_quotas c = refl

pub returns-clause-audit : goal.returns-clause-audit
unfolding replied read_line simple_folding simple_folding_rows value_in chars digits is_utf8 utf8_valid_len lib.Utf8.encode
returns-clause-audit c = refl

pub returns-clause-last_audit : goal.returns-clause-last_audit
unfolding replied read_line simple_folding simple_folding_rows value_in chars digits is_utf8 utf8_valid_len lib.Utf8.encode
returns-clause-last_audit c = refl
