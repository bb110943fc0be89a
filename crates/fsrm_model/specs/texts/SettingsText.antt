-- The lines of `dirquota admin list`: the run limit, how many scans wait, and how full the volume is.
use Rattle.std.specs.Prelude.{ℕ, List, [], ◌∷◌, ◌++◌, length, decimal, codes}
use Rattle.fsrm_model.specs.declared.row.Capacity.{Capacity}
use Rattle.fsrm_model.specs.declared.row.Rows.{Rows}
use Rattle.fsrm_model.specs.texts.Printed.{body_line}
use Rattle.fsrm_model.specs.nodes.Tree.{name_bytes}

-- the active scan is one of those that wait
abbrev pub settings_lines : Capacity → Rows → List ℕ
settings_lines K R =
    body_line (codes "runlimit" ∷ decimal R.run_limit ∷ [])
    ++ body_line (codes "scans" ∷ decimal (length R.queue) ∷ [])
    ++ body_line (codes "nodes" ∷ decimal (length R.nodes) ∷ decimal K.nodes ∷ [])
    ++ body_line (codes "names" ∷ decimal (name_bytes R.nodes) ∷ decimal K.names ∷ [])
