-- A node that moves, and what is known of it before it does.
use Rattle.std.specs.Prelude.{◌≡◌, ℕ, ◌==◌, false, List, Option, Some, None, option_map, if◌then◌else◌}
use Rattle.fsrm_model.specs.objects.Screens.{judging}
use Rattle.fsrm_model.specs.nodes.Tree.{is_folder, owner_of, parent_of, resolve}
use Rattle.volume_tree.specs.Volume.{Volume, move_fault}
use Rattle.file_screens.specs.declared.answer.Blocked.{Blocked}
use Rattle.file_screens.specs.Blocked.{told}
use Rattle.file_screens.specs.Way.{is_active}
use Rattle.quota_usage.specs.declared.change.Change.{Change}
use Rattle.quota_usage.specs.Charge.{exceeded_by}
use Rattle.fsrm_parts.specs.declared.moves.Moving.{Moving}
use Rattle.fsrm_engine.specs.declared.parts.Parts.{Parts}
use Rattle.fsrm_engine.specs.Machine.{rows_of}
use Rattle.fsrm_parts.specs.Places.{IsPlace}
use Rattle.fsrm_engine.specs.Arrivals.{source_fault}
use Rattle.fsrm_parts.specs.Moves.{AreMoved, IsSourceOfMove}

-- paths name what moves and where it goes, and the tree has nothing against it
pub record IsMove (v : Volume) (from to : List (List ℕ)) (m : Moving) : Type 0 where
  pub resolved : resolve v.nodes from ≡ Some m.node
  pub inner : (m.node == 0) ≡ false
  pub at : IsPlace v.nodes to m.place.folder m.place.name.now
  pub may : move_fault v m.node m.place.folder m.place.name.now ≡ None
  pub parent : parent_of v.nodes m.node ≡ m.parent
  pub owner : owner_of v.nodes m.node ≡ m.owner
  pub kind : is_folder v.nodes m.node ≡ m.folder

-- the screen that judges its new name
abbrev pub judged_move : Parts → Moving → Option Blocked
judged_move parts m =
    if m.folder then None else option_map told (judging (rows_of parts) m.place.folder m.place.name.now)

-- what is taken from the folders above the old place, and given to those above the new one
abbrev pub change_of : Moving → ℕ → Change
change_of m bytes = record { from = Some m.parent; to = Some m.place.folder; minus = bytes; plus = bytes }

-- nothing refuses the move
pub record MayMove (parts : Parts) (from to : List (List ℕ)) (m : Moving) (source : Option ℕ) (judged : Option Blocked) (bytes : ℕ) : Type 0 where
  pub is : IsMove parts.tree from to m
  pub source_is : IsSourceOfMove parts.objects.quotas parts.templates m source
  pub may_come : source_fault parts source ≡ None
  pub judged_is : judged ≡ judged_move parts m
  pub passive : is_active judged ≡ false
  pub moved : AreMoved parts.tree.size parts.tree.nodes parts.objects.quotas m.node source bytes
  pub admitted : exceeded_by parts.tree.nodes parts.objects.quotas parts.usage (change_of m bytes) ≡ None
