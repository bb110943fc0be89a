-- How large a store may be.
use Rattle.std.specs.Prelude.{ℕ, ◌&&◌, nat_le, Bool, List, [], ◌∷◌}
use Rattle.fsrm_model.specs.declared.row.Capacity.{Capacity}
use Rattle.fsrm_model.specs.values.Limits.{most_nodes, most_names}
use Rattle.fsrm_base.specs.Numbers.{is_in}

-- how many bytes a cluster may have
abbrev pub cluster_sizes : List ℕ
cluster_sizes = 512 ∷ 1024 ∷ 2048 ∷ 4096 ∷ 8192 ∷ 16384 ∷ 32768 ∷ 65536 ∷ []

abbrev pub is_cluster : ℕ → Bool
is_cluster bytes = is_in cluster_sizes bytes

-- 2 to 1,048,576 nodes, the root among them, 256 to 268,435,456 bytes of names, and clusters of a legal size
abbrev pub is_capacity : Capacity → Bool
is_capacity K =
    (nat_le 2 K.nodes && nat_le K.nodes most_nodes)
    && ((nat_le 256 K.names && nat_le K.names most_names) && is_cluster K.cluster)
