-- Each example computes.
use Rattle.std.proofs.Common.{refl}
use Rattle.std.specs.Str.{chars, is_utf8}
use Rattle.std.specs.Str.Lossy.{utf8_valid_len}
use Rattle.std.specs.Fmt.{digits}
use Rattle.ucd_case.specs.CaseFolding.{simple_folding}
use Rattle.ucd_case.specs.SimpleFoldingRows.{simple_folding_rows}
use Rattle.ucd_table.specs.Rows.{value_in}
use Rattle.fsrm_model.specs.lines.Line.{read_line}
use Rattle.fsrm_model.specs.lines.Script.{replied}
use Rattle.line_parts.specs.Moments.{moment_text}
use Rattle.notice_text.specs.Expand.{expand}
use Rattle.notice_text.specs.Notices.{notices}
use Rattle.notice_text.specs.NoticeText.{expanded_line, head_line}
use Rattle.notice_text.proofs.laws.worked_notices.Goals as goal

pub returns-clause-expanded : goal.returns-clause-expanded
unfolding replied read_line simple_folding simple_folding_rows value_in chars digits is_utf8 utf8_valid_len moment_text expand notices expanded_line head_line lib.Utf8.encode
returns-clause-expanded c = refl

pub returns-clause-before : goal.returns-clause-before
unfolding replied read_line simple_folding simple_folding_rows value_in chars digits is_utf8 utf8_valid_len moment_text expand notices expanded_line head_line lib.Utf8.encode
returns-clause-before c = refl

pub returns-clause-ordered : goal.returns-clause-ordered
unfolding replied read_line simple_folding simple_folding_rows value_in chars digits is_utf8 utf8_valid_len moment_text expand notices expanded_line head_line lib.Utf8.encode
returns-clause-ordered c = refl
