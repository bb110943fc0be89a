-- What a file operation does to the nodes, and nothing else: nothing is refused here.
use Rattle.std.specs.Prelude.{ℕ, Bool, true, false, List, unwrap_or}
use Rattle.fsrm_model.specs.declared.row.NodeRow.{NodeRow}
use Rattle.fsrm_model.specs.declared.command.FileOp.{FileOp}
use Rattle.fsrm_model.specs.declared.command.FileOp.TheVariants.{Mkdir, Create, Resize, Touch, Move, Remove}
use Rattle.fsrm_base.specs.Keyed.{with_row, with_change, without_row}
use Rattle.fsrm_model.specs.nodes.Tree.{number, fresh, resolve, folder_part, last_name}

-- the node that a path leads to; 0 if it leads to none
abbrev pub target : List NodeRow → List (List ℕ) → ℕ
target nodes path = unwrap_or (resolve nodes path) 0

-- the folder that a path's last name is given in
abbrev pub target_folder : List NodeRow → List (List ℕ) → ℕ
target_folder nodes path = target nodes (folder_part path)

-- a new node, with the least number that is free and one moment for all three
abbrev pub made_node : List NodeRow → ℕ → List ℕ → Bool → ℕ → ℕ → ℕ → NodeRow
made_node nodes parent name folder length owner moment =
    record {
      number = fresh nodes;
      parent = parent;
      name = name;
      folder = folder;
      length = length;
      owner = owner;
      created = moment;
      modified = moment;
      accessed = moment;
    }

-- the new node of a path
abbrev pub new_node : List NodeRow → List (List ℕ) → Bool → ℕ → ℕ → ℕ → NodeRow
new_node nodes path folder length owner moment =
    made_node nodes (target_folder nodes path) (last_name path) folder length owner moment

-- a file of another length, a node that was read, and a node with another place
abbrev pub resized : ℕ → ℕ → NodeRow → NodeRow
resized length moment node = record node { length = length; modified = moment }

abbrev pub touched : ℕ → NodeRow → NodeRow
touched moment node = record node { accessed = moment }

abbrev pub placed : ℕ → List ℕ → NodeRow → NodeRow
placed folder name node = record node { parent = folder; name = name }

-- the nodes as a file operation of this moment leaves them. A move changes neither number nor moments
abbrev pub plain : List NodeRow → FileOp → ℕ → List NodeRow
plain nodes (Mkdir path owner) m = with_row number (new_node nodes path true 0 owner m) nodes
plain nodes (Create path length owner) m = with_row number (new_node nodes path false length owner m) nodes
plain nodes (Resize path length) m = with_change number (target nodes path) (resized length m) nodes
plain nodes (Touch path) m = with_change number (target nodes path) (touched m) nodes
plain nodes (Move from to) m =
    with_change number (target nodes from) (placed (target_folder nodes to) (last_name to)) nodes
plain nodes (Remove path) m = without_row number (target nodes path) nodes
