-- The template of the tests.
use Rattle.std.specs.Prelude.{◌≡◌, [], codes}
use Rattle.fsrm_model.specs.declared.row.TemplateRow.{TemplateRow}

-- one named "text", without thresholds
pub record IsPlain (row : TemplateRow) : Type 0 where
  pub name : row.name ≡ codes "text"
  pub thresholds : row.thresholds ≡ []
