use Rattle.std.proofs.Common.{◌≡◌, ℕ, List, Ok, Err, IfOk, IfErr, is_ok, sym, ◌∙◌}
use Rattle.std.specs.declared.result.Result.{Result}
use Rattle.fsrm_base.specs.Keyed.{has_row}
use Rattle.fsrm_base.specs.Places.{IsAt, IsGap}
use Rattle.fsrm_base.proofs.SortedRows.{row_found}
use Rattle.row_rules.proofs.keys.has.Goals as goal

searched : {X : Type 0} (key : X → ℕ) (n : ℕ) (rows : List X) (r : Result ℕ ℕ) → IfOk r (IsAt key n rows) → IfErr r (IsGap key n rows) → is_ok r ≡ has_row key n rows
searched key n rows (Ok place) at gap = sym (row_found key n rows place at).has
searched key n rows (Err place) at gap = sym gap.absent

pub returns : goal.returns
returns g c = c.is_ok.ensures.value ∙ searched g.K.Key.key c.args.number c.args.rows.now c.search.result c.search.ensures.found c.search.ensures.free
