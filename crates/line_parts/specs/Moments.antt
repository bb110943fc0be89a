-- The text of a moment. It is opaque, so that goals that carry it stay small.
use Rattle.std.specs.Prelude.{ℕ, List}
use Rattle.fsrm_model.specs.values.Date.{date_text}

unfoldable pub moment_text : ℕ → List ℕ
moment_text moment = date_text moment
