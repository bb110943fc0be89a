-- Each example computes.
use Rattle.std.proofs.Common.{refl}
use Rattle.std.specs.Str.{chars, is_utf8}
use Rattle.std.specs.Str.Lossy.{utf8_valid_len}
use Rattle.std.specs.Fmt.{digits}
use Rattle.ucd_case.specs.CaseFolding.{simple_folding}
use Rattle.ucd_case.specs.SimpleFoldingRows.{simple_folding_rows}
use Rattle.ucd_table.specs.Rows.{value_in}
use Rattle.fsrm_model.specs.lines.Line.{read_line}
use Rattle.fsrm_model.specs.lines.Script.{replied}
use Rattle.fsrm_model.proofs.laws.worked_rows.Goals as goal

pub returns-clause-files : goal.returns-clause-files
unfolding replied read_line simple_folding simple_folding_rows value_in chars digits is_utf8 utf8_valid_len lib.Utf8.encode
returns-clause-files c = refl

pub returns-clause-clock : goal.returns-clause-clock
unfolding replied read_line simple_folding simple_folding_rows value_in chars digits is_utf8 utf8_valid_len lib.Utf8.encode
returns-clause-clock c = refl

pub returns-clause-moves : goal.returns-clause-moves
unfolding replied read_line simple_folding simple_folding_rows value_in chars digits is_utf8 utf8_valid_len lib.Utf8.encode
returns-clause-moves c = refl

pub returns-clause-bad_lines : goal.returns-clause-bad_lines
unfolding replied read_line simple_folding simple_folding_rows value_in chars digits is_utf8 utf8_valid_len lib.Utf8.encode
returns-clause-bad_lines c = refl

pub returns-clause-words : goal.returns-clause-words
unfolding replied read_line simple_folding simple_folding_rows value_in chars digits is_utf8 utf8_valid_len lib.Utf8.encode
returns-clause-words c = refl

pub returns-clause-places : goal.returns-clause-places
unfolding replied read_line simple_folding simple_folding_rows value_in chars digits is_utf8 utf8_valid_len lib.Utf8.encode
returns-clause-places c = refl

pub returns-clause-few_nodes : goal.returns-clause-few_nodes
unfolding replied read_line simple_folding simple_folding_rows value_in chars digits is_utf8 utf8_valid_len lib.Utf8.encode
returns-clause-few_nodes c = refl

pub returns-clause-few_name_bytes : goal.returns-clause-few_name_bytes
unfolding replied read_line simple_folding simple_folding_rows value_in chars digits is_utf8 utf8_valid_len lib.Utf8.encode
returns-clause-few_name_bytes c = refl

pub returns-clause-folding : goal.returns-clause-folding
unfolding replied read_line simple_folding simple_folding_rows value_in chars digits is_utf8 utf8_valid_len lib.Utf8.encode
returns-clause-folding c = refl

pub returns-clause-rounded_usage : goal.returns-clause-rounded_usage
unfolding replied read_line simple_folding simple_folding_rows value_in chars digits is_utf8 utf8_valid_len lib.Utf8.encode
returns-clause-rounded_usage c = refl

pub returns-clause-large_clusters : goal.returns-clause-large_clusters
unfolding replied read_line simple_folding simple_folding_rows value_in chars digits is_utf8 utf8_valid_len lib.Utf8.encode
returns-clause-large_clusters c = refl

pub returns-clause-small_clusters : goal.returns-clause-small_clusters
unfolding replied read_line simple_folding simple_folding_rows value_in chars digits is_utf8 utf8_valid_len lib.Utf8.encode
returns-clause-small_clusters c = refl

pub returns-clause-nested_quotas : goal.returns-clause-nested_quotas
unfolding replied read_line simple_folding simple_folding_rows value_in chars digits is_utf8 utf8_valid_len lib.Utf8.encode
returns-clause-nested_quotas c = refl

pub returns-clause-up_to_the_limit : goal.returns-clause-up_to_the_limit
unfolding replied read_line simple_folding simple_folding_rows value_in chars digits is_utf8 utf8_valid_len lib.Utf8.encode
returns-clause-up_to_the_limit c = refl

pub returns-clause-above_the_limit : goal.returns-clause-above_the_limit
unfolding replied read_line simple_folding simple_folding_rows value_in chars digits is_utf8 utf8_valid_len lib.Utf8.encode
returns-clause-above_the_limit c = refl

pub returns-clause-move_below_a_quota : goal.returns-clause-move_below_a_quota
unfolding replied read_line simple_folding simple_folding_rows value_in chars digits is_utf8 utf8_valid_len lib.Utf8.encode
returns-clause-move_below_a_quota c = refl

pub returns-clause-scan_in_steps : goal.returns-clause-scan_in_steps
unfolding replied read_line simple_folding simple_folding_rows value_in chars digits is_utf8 utf8_valid_len lib.Utf8.encode
returns-clause-scan_in_steps c = refl

pub returns-clause-visited_again : goal.returns-clause-visited_again
unfolding replied read_line simple_folding simple_folding_rows value_in chars digits is_utf8 utf8_valid_len lib.Utf8.encode
returns-clause-visited_again c = refl

pub returns-clause-out_and_back : goal.returns-clause-out_and_back
unfolding replied read_line simple_folding simple_folding_rows value_in chars digits is_utf8 utf8_valid_len lib.Utf8.encode
returns-clause-out_and_back c = refl

pub returns-clause-out_for_good : goal.returns-clause-out_for_good
unfolding replied read_line simple_folding simple_folding_rows value_in chars digits is_utf8 utf8_valid_len lib.Utf8.encode
returns-clause-out_for_good c = refl

pub returns-clause-scan_refusals : goal.returns-clause-scan_refusals
unfolding replied read_line simple_folding simple_folding_rows value_in chars digits is_utf8 utf8_valid_len lib.Utf8.encode
returns-clause-scan_refusals c = refl

pub returns-clause-scans_in_turn : goal.returns-clause-scans_in_turn
unfolding replied read_line simple_folding simple_folding_rows value_in chars digits is_utf8 utf8_valid_len lib.Utf8.encode
returns-clause-scans_in_turn c = refl

pub returns-clause-quota_options : goal.returns-clause-quota_options
unfolding replied read_line simple_folding simple_folding_rows value_in chars digits is_utf8 utf8_valid_len lib.Utf8.encode
returns-clause-quota_options c = refl

pub returns-clause-quota_limits : goal.returns-clause-quota_limits
unfolding replied read_line simple_folding simple_folding_rows value_in chars digits is_utf8 utf8_valid_len lib.Utf8.encode
returns-clause-quota_limits c = refl

pub returns-clause-quota_peaks : goal.returns-clause-quota_peaks
unfolding replied read_line simple_folding simple_folding_rows value_in chars digits is_utf8 utf8_valid_len lib.Utf8.encode
returns-clause-quota_peaks c = refl

pub returns-clause-quotas_gone : goal.returns-clause-quotas_gone
unfolding replied read_line simple_folding simple_folding_rows value_in chars digits is_utf8 utf8_valid_len lib.Utf8.encode
returns-clause-quotas_gone c = refl
