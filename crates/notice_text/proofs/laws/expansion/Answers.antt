use Rattle.std.proofs.Common.{refl}
use Rattle.notice_text.proofs.ExpandLaws.{bytes_next, empty, value_next}
use Rattle.notice_text.proofs.laws.expansion.Goals as goal

pub returns-clause-nothing : goal.returns-clause-nothing
returns-clause-nothing c = empty

pub returns-clause-macros : goal.returns-clause-macros
returns-clause-macros c = value_next

pub returns-clause-others : goal.returns-clause-others
returns-clause-others c = bytes_next

pub returns-clause-apart : goal.returns-clause-apart
returns-clause-apart c = refl
