-- What a new node that a tree has nothing against says.
use Rattle.std.proofs.Common.{◌≡◌, ℕ, ◌+◌, ◌<◌, ◌≤◌, Bool, true, false, length, List, refl, ap, None, Option, arith, nat_le, nat_lt}
use Rattle.std.proofs.lemmas.Bool.Decides.{nat_tests}
use Rattle.std.specs.Prelude.{[], ◌∷◌, is_some, Some}
use Rattle.fsrm_base.specs.Causes.{◌when◌, first}
use Rattle.fsrm_model.specs.nodes.Tree.{child_number, name_bytes}
use Rattle.volume_tree.specs.declared.answer.TreeFault.TheVariants.{AlreadyExists, VolumeFull, NamesFull}
use Rattle.volume_tree.specs.Volume.{Volume, new_fault}
use Rattle.fsrm_base.proofs.TestLaws.{ge_is}

-- no child has the name, and there is room for one more node and its name
pub record MayMake (v : Volume) (folder : ℕ) (name : List ℕ) : Type 0 where
  pub alone : child_number v.nodes folder name ≡ None
  pub room : length v.nodes < v.size.nodes
  pub names : name_bytes v.nodes + length name ≤ v.size.names

record AreFalse (a b c : Bool) : Type 0 where
  pub first : a ≡ false
  pub second : b ≡ false
  pub third : c ≡ false

none_due : (a b c : Bool) → first ((AlreadyExists when a) ∷ (VolumeFull when b) ∷ (NamesFull when c) ∷ []) ≡ None → AreFalse a b c
none_due true b c h = cc
none_due false true c h = cc
none_due false false true h = cc
none_due false false false h = record { first = refl; second = refl; third = refl }

no_number : (o : Option ℕ) → is_some o ≡ false → o ≡ None
no_number None h = refl
no_number (Some n) h = cc

not_le : (m n : ℕ) → nat_le m n ≡ false → n < m
not_le m n h = grind (arith, nat_tests)

pub may_make : (v : Volume) (folder : ℕ) (name : List ℕ) → new_fault v folder name ≡ None → MayMake v folder name
may_make v folder name h =
    let n = none_due _ _ _ h in
    record { alone = no_number _ n.first; room = not_le _ _ n.second; names = ge_is _ _ n.third }

-- a name that a child has is refused before all else
pub taken_first : (v : Volume) (folder : ℕ) (name : List ℕ) (n : ℕ) → child_number v.nodes folder name ≡ Some n → new_fault v folder name ≡ Some AlreadyExists
taken_first v folder name n h =
    ap (λ (o : Option ℕ). first ((AlreadyExists when is_some o) ∷ (VolumeFull when nat_le v.size.nodes (length v.nodes)) ∷ (NamesFull when nat_lt v.size.names (name_bytes v.nodes + length name)) ∷ [])) h
