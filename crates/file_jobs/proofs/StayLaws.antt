-- After a move each file is a file still, and each folder a folder, whatever became of the move.
use Rattle.std.proofs.Common.{◌≡◌, ◌⊎◌, inl, inr, ℕ, Bool, true, false, cond, not, List, [], ◌∷◌, Option, Some, None, refl, sym, ◌∙◌, ap, subst}
use Rattle.std.specs.Prelude.{◌==◌, if◌then◌else◌, nat_lt, option_map}
use Rattle.std.specs.Option.{option_map_or}
use Rattle.fsrm_base.specs.Keyed.{with_change}
use Rattle.fsrm_base.proofs.Look.{row_of-change}
use Rattle.fsrm_model.specs.commands.Check.{◌when◌, first}
use Rattle.fsrm_model.specs.commands.Step.{decided, step, work}
use Rattle.fsrm_model.specs.commands.Work.{Work}
use Rattle.fsrm_model.specs.declared.command.Deed.TheVariants.{File}
use Rattle.fsrm_model.specs.declared.command.FileOp.TheVariants.{Move}
use Rattle.fsrm_model.specs.declared.command.Refusal.{Refusal}
use Rattle.fsrm_model.specs.declared.command.Refusal.TheVariants.{ClockBack}
use Rattle.fsrm_model.specs.declared.row.Capacity.{Capacity}
use Rattle.fsrm_model.specs.declared.row.NodeRow.{NodeRow}
use Rattle.fsrm_model.specs.declared.row.Rows.{Rows}
use Rattle.fsrm_model.specs.nodes.FileOps.{placed, plain, target, target_folder}
use Rattle.fsrm_model.specs.nodes.Tree.{number, is_folder, last_name, node_of}
use Rattle.fsrm_model.proofs.commands.Ends.{effect_nodes, nodes_kept, refused_cases}
use Rattle.file_jobs.specs.Moves.{AreFiles, is_file}

-- the nodes after a move are those before it, or those with the node at its new place
pub moved_nodes : (K : Capacity) (R : Rows) (moment : ℕ) (from to : List (List ℕ)) → ((step K R (record { moment = moment; deed = File (Move from to) })).rows.nodes ≡ R.nodes) ⊎ ((step K R (record { moment = moment; deed = File (Move from to) })).rows.nodes ≡ plain R.nodes (Move from to) moment)
moved_nodes K R moment from to = at (first ((ClockBack when nat_lt moment R.last_moment) ∷ w.checks))
  where
    w : Work
    w = work K R moment (File (Move from to))

    at : (o : Option Refusal) → ((decided K R moment w o).rows.nodes ≡ R.nodes) ⊎ ((decided K R moment w o).rows.nodes ≡ plain R.nodes (Move from to) moment)
    at (Some refusal) = inl (refused_cases K R moment w refusal (λ s. s.rows.nodes ≡ R.nodes) refl (λ acts. refl) (λ screen j is judged. refl))
    at None = inr (nodes_kept K R moment w ∙ effect_nodes R (Move from to) moment)

-- a test of a node that a new place doesn't change
changed_test : (f : NodeRow → Bool) (x : ℕ) (c : NodeRow → NodeRow) → ((row : NodeRow) → f (c row) ≡ f row) → ((row : NodeRow) → number (c row) ≡ number row) → (nodes : List NodeRow) (n : ℕ)
    → option_map_or f (node_of (with_change number x c nodes) n) false ≡ option_map_or f (node_of nodes n) false
changed_test f x c same keeps nodes n = ap (λ (o : Option NodeRow). option_map_or f o false) (row_of-change number x c keeps n nodes) ∙ at (node_of nodes n)
  where
    one : (b : Bool) (row : NodeRow) → f (cond b (c row) row) ≡ f row
    one true row = same row
    one false row = refl

    at : (o : Option NodeRow) → option_map_or f (option_map (λ (row : NodeRow). if number row == x then c row else row) o) false ≡ option_map_or f o false
    at None = refl
    at (Some row) = one (number row == x) row

-- so the nodes after it have the same kinds
pub record SameKinds (old new : List NodeRow) : Type 0 where
  pub files : (n : ℕ) → is_file new n ≡ is_file old n
  pub folders : (n : ℕ) → is_folder new n ≡ is_folder old n

pub stay_kinds : (nodes : List NodeRow) → SameKinds nodes nodes
stay_kinds nodes = record { files = λ n. refl; folders = λ n. refl }

place_kinds : (nodes : List NodeRow) (moment : ℕ) (from to : List (List ℕ)) → SameKinds nodes (plain nodes (Move from to) moment)
place_kinds nodes moment from to =
    let x = target nodes from in
    let c : NodeRow → NodeRow = placed (target_folder nodes to) (last_name to) in
    record {
      files = λ n. changed_test (λ row. not row.folder) x c (λ row. refl) (λ row. refl) nodes n;
      folders = λ n. changed_test (λ row. row.folder) x c (λ row. refl) (λ row. refl) nodes n;
    }

pub same_kinds : (K : Capacity) (R : Rows) (moment : ℕ) (from to : List (List ℕ)) → SameKinds R.nodes (step K R (record { moment = moment; deed = File (Move from to) })).rows.nodes
same_kinds K R moment from to = elim (moved_nodes K R moment from to) [
  | inl same ↦ subst (SameKinds R.nodes) (sym same) (stay_kinds R.nodes)
  | inr moved ↦ subst (SameKinds R.nodes) (sym moved) (place_kinds R.nodes moment from to)
]

pub files_stay : (old new : List NodeRow) (files : List ℕ) → SameKinds old new → AreFiles old files → AreFiles new files
files_stay old new [] s h = tt
files_stay old new (n ∷ files) s h = (s.files n ∙ h.0, files_stay old new files s h.1)
