-- Each example computes.
use Rattle.std.proofs.Common.{refl}
use Rattle.std.specs.Str.{chars, is_utf8}
use Rattle.std.specs.Str.Lossy.{utf8_valid_len}
use Rattle.ucd_case.specs.CaseFolding.{simple_folding}
use Rattle.ucd_case.specs.SimpleFoldingRows.{simple_folding_rows}
use Rattle.ucd_table.specs.Rows.{value_in}
use Rattle.fsrm_model.proofs.laws.valid_rows.Goals as goal

pub returns-clause-valid : goal.returns-clause-valid
unfolding simple_folding simple_folding_rows value_in chars is_utf8 utf8_valid_len lib.Utf8.encode
returns-clause-valid c = refl

pub returns-clause-nodes : goal.returns-clause-nodes
unfolding simple_folding simple_folding_rows value_in chars is_utf8 utf8_valid_len lib.Utf8.encode
returns-clause-nodes c = refl

pub returns-clause-quotas : goal.returns-clause-quotas
unfolding simple_folding simple_folding_rows value_in chars is_utf8 utf8_valid_len lib.Utf8.encode
returns-clause-quotas c = refl

pub returns-clause-tables : goal.returns-clause-tables
unfolding simple_folding simple_folding_rows value_in chars is_utf8 utf8_valid_len lib.Utf8.encode
returns-clause-tables c = refl

pub returns-clause-queues : goal.returns-clause-queues
unfolding simple_folding simple_folding_rows value_in chars is_utf8 utf8_valid_len lib.Utf8.encode
returns-clause-queues c = refl

pub returns-clause-unvisited : goal.returns-clause-unvisited
unfolding simple_folding simple_folding_rows value_in chars is_utf8 utf8_valid_len lib.Utf8.encode
returns-clause-unvisited c = refl

pub returns-clause-thresholds : goal.returns-clause-thresholds
unfolding simple_folding simple_folding_rows value_in chars is_utf8 utf8_valid_len lib.Utf8.encode
returns-clause-thresholds c = refl

pub returns-clause-wrong_thresholds : goal.returns-clause-wrong_thresholds
unfolding simple_folding simple_folding_rows value_in chars is_utf8 utf8_valid_len lib.Utf8.encode
returns-clause-wrong_thresholds c = refl

pub returns-clause-screens : goal.returns-clause-screens
unfolding simple_folding simple_folding_rows value_in chars is_utf8 utf8_valid_len lib.Utf8.encode
returns-clause-screens c = refl

pub returns-clause-wrong_screens : goal.returns-clause-wrong_screens
unfolding simple_folding simple_folding_rows value_in chars is_utf8 utf8_valid_len lib.Utf8.encode
returns-clause-wrong_screens c = refl

pub returns-clause-templates : goal.returns-clause-templates
unfolding simple_folding simple_folding_rows value_in chars is_utf8 utf8_valid_len lib.Utf8.encode
returns-clause-templates c = refl

pub returns-clause-wrong_templates : goal.returns-clause-wrong_templates
unfolding simple_folding simple_folding_rows value_in chars is_utf8 utf8_valid_len lib.Utf8.encode
returns-clause-wrong_templates c = refl

pub returns-clause-jobs : goal.returns-clause-jobs
unfolding simple_folding simple_folding_rows value_in chars is_utf8 utf8_valid_len lib.Utf8.encode
returns-clause-jobs c = refl

pub returns-clause-wrong_jobs : goal.returns-clause-wrong_jobs
unfolding simple_folding simple_folding_rows value_in chars is_utf8 utf8_valid_len lib.Utf8.encode
returns-clause-wrong_jobs c = refl
