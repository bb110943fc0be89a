-- Rows of which an engine is made, and what is told on the way.
use Rattle.std.specs.Prelude.{◌&&◌, Bool, []}
use Rattle.fsrm_model.specs.declared.row.Capacity.{Capacity}
use Rattle.fsrm_model.specs.declared.row.Rows.{Rows}
use Rattle.fsrm_model.specs.store.Replays.{none_rebuilding}
use Rattle.fsrm_model.specs.store.Valid.{is_valid}
use Rattle.rescan.specs.Courses.{Course}
use Rattle.rescan.specs.Frontiers.{idle}
use Rattle.volume_tree.specs.Volume.{Volume}
use Rattle.fsrm_engine.specs.declared.parts.Parts.{Parts}
use Rattle.fsrm_engine.specs.Machine.{bare}
use Rattle.fsrm_parts.specs.Sums.{sums_of}

-- the rows of a store of this size in which no scan waits
abbrev pub is_restorable : Capacity → Rows → Bool
is_restorable K R = is_valid K R && none_rebuilding R.quotas

-- parts with the objects of these rows
abbrev pub with_objects : Parts → Rows → Parts
with_objects parts R =
    record parts {
      groups = R.groups;
      templates = record { templates = R.templates; autos = R.autos };
      objects = record { quotas = R.quotas; screens = R.screens; excepts = R.excepts; jobs = R.jobs; room = 0 };
    }

-- parts with the logs of these rows, and what they say of the engine itself
abbrev pub with_rest : Parts → Rows → Parts
with_rest parts R =
    record parts {
      marks = record parts.marks { log = R.acts };
      audit = R.audits;
      run_limit = R.run_limit;
      last_moment = R.last_moment;
    }

-- no scan waits
abbrev pub idle_scans : Capacity → Course
idle_scans K = record { queue = []; front = idle (record { nodes = K.nodes; cluster = K.cluster }) }

-- parts over a tree with all other rows, in which no act waits: the counters of the quotas are the sums over the tree
abbrev pub restored : Volume → Rows → Parts
restored tree R =
    let filled = with_objects (bare tree (idle_scans tree.size)) R in
    with_rest (record filled { usage = sums_of tree.size tree.nodes R.quotas }) R
