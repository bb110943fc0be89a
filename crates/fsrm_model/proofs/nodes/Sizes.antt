-- How many nodes there are, and how many bytes their names have, when one is new, moved or gone.
use Rattle.std.proofs.Common.{◌≡◌, ℕ, ◌+◌, true, List, length, ap, arith}
use Rattle.fsrm_model.specs.declared.row.NodeRow.{NodeRow}
use Rattle.fsrm_model.specs.nodes.FileOps.{placed}
use Rattle.fsrm_base.specs.Keyed.{is_ascending, has_row, with_row, with_change, without_row}
use Rattle.fsrm_model.specs.nodes.Tree.{number, name_of, name_bytes}
use Rattle.fsrm_base.proofs.EditedRows.{sum_by-with_row, sum_by-with_change, sum_by-without_row}
use Rattle.fsrm_base.proofs.Sums.{sum_by-ones}
use Rattle.fsrm_base.proofs.Look.{has_found}
use Rattle.fsrm_model.proofs.nodes.Walks.{found_name}

abbrev pub name_length : NodeRow → ℕ
name_length node = length node.name

pub name_bytes-new : (nodes : List NodeRow) (node : NodeRow) → name_bytes (with_row number node nodes) ≡ name_bytes nodes + length node.name
name_bytes-new nodes node = omega (arith, sum_by-with_row number name_length node nodes)

pub name_bytes-placed : (nodes : List NodeRow) (n d : ℕ) (name : List ℕ) → is_ascending number nodes ≡ true → has_row number n nodes ≡ true → name_bytes (with_change number n (placed d name) nodes) + length (name_of nodes n) ≡ name_bytes nodes + length name
name_bytes-placed nodes n d name a h =
    let f = has_found number n nodes h in
    omega (arith, sum_by-with_change number name_length n (placed d name) f.row nodes a f.is, ap length (found_name nodes n f.row f.is))

pub name_bytes-removed : (nodes : List NodeRow) (n : ℕ) → is_ascending number nodes ≡ true → has_row number n nodes ≡ true → name_bytes (without_row number n nodes) + length (name_of nodes n) ≡ name_bytes nodes
name_bytes-removed nodes n a h =
    let f = has_found number n nodes h in
    omega (arith, sum_by-without_row number name_length n f.row nodes a f.is, ap length (found_name nodes n f.row f.is))

pub length-removed : {X : Type 0} (key : X → ℕ) (n : ℕ) (rows : List X) → is_ascending key rows ≡ true → has_row key n rows ≡ true → length (without_row key n rows) + 1 ≡ length rows
length-removed {X} key n rows a h =
    let f = has_found key n rows h in
    omega (arith, sum_by-without_row key (λ (x : X). 1) n f.row rows a f.is, sum_by-ones rows, sum_by-ones (without_row key n rows))
