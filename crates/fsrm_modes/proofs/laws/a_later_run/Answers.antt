use Rattle.std.proofs.Common.{◌≡◌, sym, ◌∙◌}
use Rattle.fsrm_model.specs.declared.row.Capacity.{Capacity}
use Rattle.fsrm_model.specs.declared.row.Rows.{Rows}
use Rattle.fsrm_store.specs.States.State.{Holds}
use Rattle.fsrm_modes.proofs.laws.a_later_run.Goals as goal

same_size : (K L : Capacity) (R Q : Rows) → Holds K R ≡ Holds L Q → K ≡ L
same_size K L R Q e = cc

same_rows : (K L : Capacity) (R Q : Rows) → Holds K R ≡ Holds L Q → R ≡ Q
same_rows K L R Q e = cc

pub returns-clause-found : goal.returns-clause-found
returns-clause-found g c K R turns shown parts v = (v.done, v.rest, v.are, v.holds, v.acknowledged)

pub returns-clause-begins : goal.returns-clause-begins
returns-clause-begins g c K L R Q turns shown before old b v =
    let is = sym b.holds ∙ v.holds in
    (same_size L K Q _ is, (v.done, v.rest, v.are, same_rows L K Q _ is, v.acknowledged))
