-- The space that a file takes on the disk.
use Rattle.std.specs.Prelude.{ℕ, ◌+◌, ◌-◌, ◌*◌, ◌/◌, if◌then◌else◌}
use Rattle.fsrm_model.specs.declared.row.Capacity.{Capacity}
use Rattle.fsrm_model.specs.declared.row.NodeRow.{NodeRow}

-- a length, rounded up to whole clusters of so many bytes
abbrev pub rounded : ℕ → ℕ → ℕ
rounded cluster n = (n + (cluster - 1)) / cluster * cluster

-- what a length takes in a store of this capacity
abbrev pub alloc : Capacity → ℕ → ℕ
alloc K n = rounded K.cluster n

-- what a node takes: a folder takes nothing
abbrev pub space : Capacity → NodeRow → ℕ
space K node = if node.folder then 0 else alloc K node.length
