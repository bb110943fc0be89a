-- What a move that a tree has nothing against says.
use Rattle.std.proofs.Common.{◌≡◌, ℕ, ◌+◌, ◌≤◌, ◌==◌, Bool, true, false, length, List, refl, sym, ◌∙◌, ap, None, Some, Option, Ok, Err, Result}
use Rattle.std.specs.Prelude.{[], ◌∷◌, IfOk, OnErr}
use Rattle.std.specs.Result.{result_ok}
use Rattle.block_list.specs.declared.place.Place.{Place}
use Rattle.fsrm_base.specs.Causes.{◌when◌, first}
use Rattle.fsrm_model.specs.declared.row.NodeRow.{NodeRow}
use Rattle.fsrm_model.specs.nodes.FileOps.{placed}
use Rattle.fsrm_base.specs.Keyed.{has_row, with_change}
use Rattle.fsrm_model.specs.values.Name.{is_name}
use Rattle.fsrm_model.specs.nodes.Tree.{number, name_of, is_folder, is_under, child_number, name_bytes}
use Rattle.fsrm_model.specs.store.Valid.{IsVolume}
use Rattle.volume_tree.specs.declared.answer.TreeFault.TheVariants.{AlreadyExists, InvalidMove, NamesFull}
use Rattle.volume_tree.specs.Volume.{Volume, is_other, move_fault}
use Rattle.volume_tree.proofs.kept.KeptLaws.{volume_placed}
use Rattle.fsrm_base.proofs.TestLaws.{ge_is}

-- the folder isn't the node or below it, no other child has the name, and there is room for it
pub record MayMove (v : Volume) (x d : ℕ) (name : List ℕ) : Type 0 where
  pub apart : is_under v.nodes x d ≡ false
  pub alone : is_other (child_number v.nodes d name) x ≡ false
  pub room : name_bytes v.nodes + length name ≤ v.size.names + length (name_of v.nodes x)

record AreFalse (a b c : Bool) : Type 0 where
  pub first : a ≡ false
  pub second : b ≡ false
  pub third : c ≡ false

none_due : (a b c : Bool) → first ((InvalidMove when a) ∷ (AlreadyExists when b) ∷ (NamesFull when c) ∷ []) ≡ None → AreFalse a b c
none_due true b c h = cc
none_due false true c h = cc
none_due false false true h = cc
none_due false false false h = record { first = refl; second = refl; third = refl }

pub may_move : (v : Volume) (x d : ℕ) (name : List ℕ) → move_fault v x d name ≡ None → MayMove v x d name
may_move v x d name h =
    let n = none_due _ _ _ h in
    record { apart = n.first; alone = n.second; room = ge_is _ _ n.third }

-- and then the nodes are those of a volume
pub volume_moved : (v : Volume) (x d : ℕ) (name : List ℕ) → IsVolume v.size v.nodes → has_row number x v.nodes ≡ true → (x == 0) ≡ false → is_folder v.nodes d ≡ true → is_name name ≡ true → move_fault v x d name ≡ None → IsVolume v.size (with_change number x (placed d name) v.nodes)
volume_moved v x d name volume has inner folder named h =
    let may = may_move v x d name h in
    volume_placed v.size v.nodes x d name volume has inner folder named may.apart may.alone may.room

-- nobody but the node itself has the name, if what was found is no other one
pub found_alone : (nodes : List NodeRow) (x d : ℕ) (name : List ℕ) (found : Result ℕ Place) (number : Option ℕ) → IfOk found (λ n. child_number nodes d name ≡ Some n) → OnErr found (child_number nodes d name ≡ None) → number ≡ result_ok found → is_other number x ≡ false → is_other (child_number nodes d name) x ≡ false
found_alone nodes x d name (Ok n) number ok err is apart = ap (λ o. is_other o x) (ok ∙ sym is) ∙ apart
found_alone nodes x d name (Err place) number ok err is apart = ap (λ o. is_other o x) (err ∙ sym is) ∙ apart
