-- Each example computes.
use Rattle.std.proofs.Common.{refl}
use Rattle.std.specs.Str.{chars, is_utf8}
use Rattle.std.specs.Str.Lossy.{utf8_valid_len}
use Rattle.std.specs.Fmt.{digits}
use Rattle.ucd_case.specs.CaseFolding.{simple_folding}
use Rattle.ucd_case.specs.SimpleFoldingRows.{simple_folding_rows}
use Rattle.ucd_table.specs.Rows.{value_in}
use Rattle.fsrm_model.specs.lines.Line.{read_line}
use Rattle.fsrm_model.specs.lines.Script.{replied}
use Rattle.fsrm_model.specs.store.Replays.{line_entries}
use Rattle.fsrm_model.proofs.laws.worked_replays.Goals as goal

pub returns-clause-unfinished : goal.returns-clause-unfinished
unfolding replied line_entries read_line simple_folding simple_folding_rows value_in chars digits is_utf8 utf8_valid_len lib.Utf8.encode
returns-clause-unfinished c = refl

pub returns-clause-finished : goal.returns-clause-finished
unfolding replied line_entries read_line simple_folding simple_folding_rows value_in chars digits is_utf8 utf8_valid_len lib.Utf8.encode
returns-clause-finished c = refl

pub returns-clause-action : goal.returns-clause-action
unfolding replied line_entries read_line simple_folding simple_folding_rows value_in chars digits is_utf8 utf8_valid_len lib.Utf8.encode
returns-clause-action c = refl

pub returns-clause-refused : goal.returns-clause-refused
unfolding replied line_entries read_line simple_folding simple_folding_rows value_in chars digits is_utf8 utf8_valid_len lib.Utf8.encode
returns-clause-refused c = refl
