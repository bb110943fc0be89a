-- A node that moves: what comes with it, and of which template it gets a quota.
use Rattle.std.specs.Prelude.{◌≡◌, ℕ, ◌≤◌, ◌||◌, nat_lt, true, length, List, IfSome, Option, is_some, Bool, None, if◌then◌else◌}
use Rattle.fsrm_base.specs.Keyed.{has_row, row_of}
use Rattle.fsrm_model.specs.declared.row.Capacity.{Capacity}
use Rattle.fsrm_model.specs.declared.row.NodeRow.{NodeRow}
use Rattle.fsrm_model.specs.declared.row.QuotaRow.{QuotaRow}
use Rattle.fsrm_model.specs.objects.Templates.{template_number}
use Rattle.fsrm_model.specs.nodes.Tree.{usage}
use Rattle.templates.specs.Held.{Held}
use Rattle.fsrm_parts.specs.declared.moves.Moving.{Moving}
use Rattle.fsrm_model.specs.declared.row.AutoRow.{AutoRow}
use Rattle.fsrm_model.specs.objects.AutoApply.{template_for}
use Rattle.fsrm_model.specs.objects.Quota.{folder_of}

-- The template of which a node gets a quota that moves to a place. A file gets none, and a folder that has one no other
abbrev pub moved_source : List QuotaRow → List AutoRow → ℕ → Bool → ℕ → List ℕ → Option ℕ
moved_source quotas autos node moves_folder folder name =
    if moves_folder then (if is_some (row_of folder_of node quotas) then None else template_for autos folder name) else None

-- the template of which it gets a quota, which is there
pub record IsSourceOfMove (quotas : List QuotaRow) (held : Held) (m : Moving) (source : Option ℕ) : Type 0 where
  pub is : source ≡ moved_source quotas held.autos m.node m.folder m.place.folder m.place.name.now
  pub there : IfSome source (λ template. has_row template_number template held.templates ≡ true)

-- the bytes that move. If there is no quota, and none comes, they may be any number up to the node's usage
pub record AreMoved (size : Capacity) (nodes : List NodeRow) (quotas : List QuotaRow) (node : ℕ) (source : Option ℕ) (bytes : ℕ) : Type 0 where
  pub few : bytes ≤ usage size nodes node
  pub all : (is_some source || nat_lt 0 (length quotas)) ≡ true → bytes ≡ usage size nodes node
