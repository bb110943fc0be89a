-- The order in runs.
use Rattle.std.proofs.Common.{◌≡◌, ℕ, zero, suc, ◌+◌, ◌≤◌, true, List, [], ◌∷◌, length, take, slice_get, Some, None, Result, Ok, Err, refl, subst, arith, length-append}
use Rattle.std.specs.Prelude.{IfOk, IfErr}
use Rattle.fsrm_model.specs.declared.row.NodeRow.{NodeRow}
use Rattle.fsrm_model.specs.nodes.Tree.{node_of}
use Rattle.block_list.specs.Runs.{entries_of, start_of}
use Rattle.node_order.specs.Order.{IsListed, IsFloor, is_before}
use Rattle.node_order.proofs.Spans.{floor_past}

-- after a run whose first entry comes before a name there is a floor
pub run_past : (nodes : List NodeRow) (runs : List (List ℕ)) (folder : ℕ) (name : List ℕ) (middle n : ℕ) (row : NodeRow) → IsListed nodes (entries_of runs) → slice_get (entries_of runs) (start_of runs middle) ≡ Some n → node_of nodes n ≡ Some row → is_before row folder name ≡ true → (run : ℕ) → run + 1 ≡ middle + 1 → IsFloor nodes (entries_of runs) folder name (start_of runs run + 1)
run_past nodes runs folder name middle n row h e f t run is =
    let same : middle ≡ run = omega arith in
    subst (λ i. IsFloor nodes (entries_of runs) folder name (start_of runs i + 1)) same (floor_past nodes (entries_of runs) folder name (start_of runs middle) n row h e f t)

-- runs begin one after the other
pub starts_rise : (runs : List (List ℕ)) (i j : ℕ) → i ≤ j → start_of runs i ≤ start_of runs j
starts_rise runs zero j l = omega arith
starts_rise runs (suc i) zero l = absurd (omega arith)
starts_rise [] (suc i) (suc j) l = omega arith
starts_rise (run ∷ runs) (suc i) (suc j) l =
    let rest = starts_rise runs i j (omega arith) in
    omega (arith, rest, length-append run (entries_of (take i runs)), length-append run (entries_of (take j runs)))

-- nothing stands from the end on
pub get_past : (xs : List ℕ) (k : ℕ) → length xs ≤ k → slice_get xs k ≡ None
get_past [] zero l = refl
get_past [] (suc k) l = refl
get_past (x ∷ xs) zero l = absurd (omega arith)
get_past (x ∷ xs) (suc k) l = get_past xs k (omega arith)

-- what each place of a result has
pub ok_map : {A E : Type 0} {P Q : A → Type 0} (r : Result A E) → ((x : A) → P x → Q x) → IfOk r P → IfOk r Q
ok_map (Ok x) f p = f x p
ok_map (Err e) f p = tt

pub err_map : {A E : Type 0} {P Q : E → Type 0} (r : Result A E) → ((e : E) → P e → Q e) → IfErr r P → IfErr r Q
err_map (Ok x) f p = tt
err_map (Err e) f p = f e p

pub err_both : {A E : Type 0} {P Q S : E → Type 0} (r : Result A E) → ((e : E) → P e → Q e → S e) → IfErr r P → IfErr r Q → IfErr r S
err_both (Ok x) f p q = tt
err_both (Err e) f p q = f e p q

-- what is at the end
pub past_end : (xs : List ℕ) (k : ℕ) → k ≤ length xs → slice_get xs k ≡ None → k ≡ length xs
past_end [] k l e = omega arith
past_end (x ∷ xs) zero l e = cc
past_end (x ∷ xs) (suc k) l e = let rest = past_end xs k (omega arith) e in omega (arith, rest)
