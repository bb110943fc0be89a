-- One name of a path after another.
use Rattle.std.proofs.Common.{◌≡◌, ℕ, zero, suc, ◌+◌, ◌<◌, ◌≤◌, List, [], ◌∷◌, length, take, drop, Option, Some, refl, ap, sym, ◌∙◌, subst, arith}
use Rattle.std.proofs.lemmas.List.{drop-drop, length-drop}
use Rattle.std.proofs.lemmas.Option.{same_Some}
use Rattle.std.specs.Prelude.{slice_get}
use Rattle.std.specs.Option.{option_and_then}
use Rattle.fsrm_model.specs.declared.row.Capacity.{Capacity}
use Rattle.fsrm_model.specs.declared.row.NodeRow.{NodeRow}
use Rattle.fsrm_model.specs.nodes.Tree.{resolve, child_number}
use Rattle.fsrm_model.specs.store.Valid.{IsVolume}
use Rattle.fsrm_model.proofs.nodes.Walks.{walk, resolve_is}
use Rattle.volume_tree.specs.Volume.{Volume}

-- a name among the first ones
pub get_take : (path : List (List ℕ)) (names k : ℕ) (name : List ℕ) → k < names → slice_get path k ≡ Some name → slice_get (take names path) k ≡ Some name
get_take path zero k name l h = absurd (omega arith)
get_take [] (suc names) k name l h = h
get_take (first ∷ path) (suc names) zero name l h = h
get_take (first ∷ path) (suc names) (suc k) name l h = get_take path names k name (omega arith) h

-- the next name, if so many were taken before
pub name_at : (path : List (List ℕ)) (k : ℕ) (name : List ℕ) (more : List (List ℕ)) → drop k path ≡ name ∷ more → slice_get path k ≡ Some name
name_at [] zero name more h = ap (λ names. slice_get names 0) h
name_at [] (suc k) name more h = ap (λ names. slice_get names 0) h
name_at (first ∷ path) zero name more h = ap (λ names. slice_get names 0) h
name_at (first ∷ path) (suc k) name more h = name_at path k name more h

pub more_at : (path : List (List ℕ)) (k : ℕ) (name : List ℕ) (more : List (List ℕ)) → drop k path ≡ name ∷ more → more ≡ drop (k + 1) path
more_at path k name more h = sym (ap (drop 1) h) ∙ drop-drop 1 k path

pub some_at : (path : List (List ℕ)) (k names : ℕ) → k < names → names ≤ length path → 0 < length (drop k path)
some_at path k names less most = omega (arith, length-drop k path, less, most)

next_name : (path : List (List ℕ)) (k : ℕ) (name : List ℕ) → slice_get path k ≡ Some name → drop k path ≡ name ∷ drop (suc k) path
next_name [] zero name h = cc
next_name [] (suc k) name h = cc
next_name (first ∷ path) zero name h = ap (λ n. n ∷ path) (same_Some first name h)
next_name (first ∷ path) (suc k) name h = next_name path k name h

-- a walk goes on by a child
pub walk_next : (nodes : List NodeRow) (at k : ℕ) (path : List (List ℕ)) (name : List ℕ) (found : Option ℕ) → slice_get path k ≡ Some name → child_number nodes at name ≡ found → walk nodes at (drop k path) ≡ option_and_then (λ c. walk nodes c (drop (k + 1) path)) found
walk_next nodes at k path name found h e =
    let i : suc k ≡ k + 1 = omega arith in
    ap (walk nodes at) (next_name path k name h)
    ∙ (ap (λ j. option_and_then (λ c. walk nodes c (drop j path)) (child_number nodes at name)) i
    ∙ ap (option_and_then (λ c. walk nodes c (drop (k + 1) path))) e)

drop_all : (path : List (List ℕ)) (k : ℕ) → length path ≤ k → drop k path ≡ []
drop_all [] zero h = refl
drop_all [] (suc k) h = refl
drop_all (name ∷ path) zero h = absurd (omega arith)
drop_all (name ∷ path) (suc k) h = drop_all path k (omega arith)

take_fit : (path : List (List ℕ)) (names : ℕ) → length (take names path) ≤ names
take_fit path zero = omega arith
take_fit [] (suc names) = omega arith
take_fit (name ∷ path) (suc names) = let l = take_fit path names in omega (arith, l)

-- and ends after the last name
pub walk_end : (nodes : List NodeRow) (at k names : ℕ) (path : List (List ℕ)) → names ≤ k → walk nodes at (drop k (take names path)) ≡ Some at
walk_end nodes at k names path h = let l = take_fit path names in ap (walk nodes at) (drop_all (take names path) k (omega (arith, l)))

-- where a walk from the root comes to is what a path resolves to
pub resolves : (K : Capacity) (nodes : List NodeRow) (v : Volume) (path : List (List ℕ)) (o : Option ℕ) → IsVolume K nodes → record { size = K; nodes = nodes } ≡ v → walk v.nodes 0 path ≡ o → o ≡ resolve v.nodes path
resolves K nodes v path o k view h =
    sym (subst (λ (v : Volume). walk v.nodes 0 path ≡ o → resolve v.nodes path ≡ o) view (λ g. resolve_is K nodes k path ∙ g) h)
