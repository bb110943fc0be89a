-- What file operations change: of the usage of folders, and of the ways up.
use Rattle.std.proofs.Common.{◌≡◌, ℕ, ◌+◌, ◌-◌, ◌≤◌, ◌==◌, Bool, true, false, cond, inl, inr, List, [], ◌∷◌, length, Option, Some, None, refl, ap, sym, ◌∙◌, subst, arith}
use Rattle.std.proofs.lemmas.List.Sums.{sum_by-cons}
use Rattle.std.proofs.lemmas.Option.{same_Some}
use Rattle.std.specs.Prelude.{sum_by}
use Rattle.fsrm_model.specs.declared.row.Capacity.{Capacity}
use Rattle.fsrm_model.specs.declared.row.NodeRow.{NodeRow}
use Rattle.fsrm_model.specs.declared.row.QuotaRow.{QuotaRow}
use Rattle.fsrm_model.specs.nodes.FileOps.{made_node, placed}
use Rattle.fsrm_base.specs.Keyed.{has_row, row_of, with_row, with_change, without_row}
use Rattle.fsrm_model.specs.objects.Quota.{folder_of}
use Rattle.fsrm_model.specs.values.Space.{space}
use Rattle.fsrm_model.specs.nodes.Tree.{number, node_of, parent_of, fresh, is_folder, is_under, usage, chain}
use Rattle.fsrm_model.specs.store.Valid.{IsVolume, AreQuotas}
use Rattle.fsrm_model.proofs.nodes.ChainLaws.{IsTree, Has, share, usage_is, usage-new, chain-new_other}
use Rattle.fsrm_base.specs.Numbers.{is_in}
use Rattle.fsrm_base.proofs.EditedRows.{all_rows}
use Rattle.fsrm_model.proofs.nodes.ChangeLaws.{KeepsPlace, usage-change, chain-change}
use Rattle.fsrm_model.proofs.nodes.MoveLaws.{Moves, Outside, KeepsSpace, usage-moved, under_other}
use Rattle.fsrm_model.proofs.nodes.RemoveLaws.{usage-removed, removed_chain}
use Rattle.fsrm_base.proofs.Look.{found_key, found_has}
use Rattle.fsrm_base.proofs.Order.{least_free_is}
use Rattle.fsrm_model.proofs.nodes.Keeps.{tree_of, MayGo, removes_of, as_suc, moves_at}
use Rattle.fsrm_model.proofs.valid.ValidLaws.{folder_has}
use Rattle.fsrm_model.proofs.nodes.Below.{above_all, each_above, usage-moved_below}
use Rattle.fsrm_model.proofs.nodes.Climbs.{shorter, under_up, under_own}
use Rattle.fsrm_base.proofs.TestLaws.{eq_is, eq_same, is_or_not, clash, not_true}
use Rattle.quota_usage.specs.declared.change.Change.{Change}
use Rattle.quota_usage.specs.Charge.{is_above, charged}
use Rattle.fsrm_base.proofs.Sums.{sum_by_most}

-- what a change of nodes makes of the usage of the quotas' folders, and of the ways up from the folders of the change
pub record Changes (K : Capacity) (nodes new : List NodeRow) (quotas : List QuotaRow) (change : Change) : Type 0 where
  pub after : (f : ℕ) (q : QuotaRow) → row_of folder_of f quotas ≡ Some q → usage K new f ≡ charged nodes change f (usage K nodes f)
  pub held : (f : ℕ) (q : QuotaRow) → row_of folder_of f quotas ≡ Some q → is_above nodes change.from f ≡ true → change.minus ≤ usage K nodes f
  pub from_same : (f : ℕ) → is_above new change.from f ≡ is_above nodes change.from f
  pub to_same : (f : ℕ) → is_above new change.to f ≡ is_above nodes change.to f
  pub up_same : (f g : ℕ) → Has nodes g → is_above nodes change.to g ≡ true → is_under new f g ≡ is_under nodes f g

-- a file is made
pub changes_made : (K : Capacity) (nodes : List NodeRow) (quotas : List QuotaRow) (d : ℕ) (name : List ℕ) (bytes owner m : ℕ) → IsVolume K nodes → AreQuotas nodes quotas → is_folder nodes d ≡ true →
    Changes K nodes (with_row number (made_node nodes d name false bytes owner m) nodes) quotas (record { from = None; to = Some d; minus = 0; plus = space K (made_node nodes d name false bytes owner m) })
changes_made K nodes quotas d name bytes owner m v qs folder =
    let node = made_node nodes d name false bytes owner m in
    let t = tree_of K nodes v in
    let free : has_row number (fresh nodes) nodes ≡ false = (least_free_is number nodes v.ascending).free in
    let inner : (fresh nodes == 0) ≡ false = not_true _ (λ e. clash _ (subst (Has nodes) (sym (eq_is _ _ e)) v.has_root) free) in
    let s = as_suc (fresh nodes) inner in
    let hd : Has nodes d = folder_has nodes d folder in
    record {
      after = λ f q found.
          let sum : usage K (with_row number node nodes) f ≡ usage K nodes f + cond (is_under nodes f d) (space K node) 0 = usage-new K nodes t node s.0 s.1 free hd f (folder_has nodes f (qs.folders f q found)) in
          omega (arith, sum);
      held = λ f q found on. cc on;
      from_same = λ f. refl;
      to_same = λ f. ap (λ ns. is_in ns f) (chain-new_other nodes t node free d hd);
      up_same = λ f g h on. ap (λ ns. is_in ns f) (chain-new_other nodes t node free g h);
    }

member_at : {X : Type 0} (f : X → ℕ) (x r : X) (xs : List X) (o : Option X) (b : Bool) → cond b (Some x) o ≡ Some r → (o ≡ Some r → f r ≤ sum_by f xs) → f r ≤ sum_by f (x ∷ xs)
member_at f x r xs o true h g = let e = ap f (same_Some x r h) in omega (arith, sum_by-cons f x xs, e)
member_at f x r xs o false h g = let l = g h in omega (arith, sum_by-cons f x xs, l)

member_le : {X : Type 0} (key f : X → ℕ) (n : ℕ) (rows : List X) (r : X) → row_of key n rows ≡ Some r → f r ≤ sum_by f rows
member_le key f n [] r h = cc
member_le key f n (x ∷ xs) r h = member_at f x r xs (row_of key n xs) (key x == n) h (member_le key f n xs r)

-- a folder has at least the space of each node below it
pub space-above : (K : Capacity) (nodes : List NodeRow) (f n : ℕ) (r : NodeRow) → node_of nodes n ≡ Some r → is_under nodes f n ≡ true → space K r ≤ usage K nodes f
space-above K nodes f n r found above =
    let l = member_le number (share K nodes f) n nodes r found in
    let own : share K nodes f r ≡ space K r = ap (λ b. cond b (space K r) 0) (ap (is_under nodes f) (found_key number n nodes r found) ∙ above) in
    omega (arith, usage_is K nodes f, l, own)

after_resize : (n new s s' : ℕ) (on : Bool) → (on ≡ true → s ≤ n) → new + cond on s 0 ≡ n + cond on s' 0 → new ≡ n - cond on s 0 + cond on s' 0
after_resize n new s s' true h e = let l = h refl in omega arith
after_resize n new s s' false h e = omega arith

-- the way up from a file is that from its folder, but for the file
file_up : (K : Capacity) (nodes : List NodeRow) (x f : ℕ) → IsVolume K nodes → Has nodes x → is_folder nodes x ≡ false → is_folder nodes f ≡ true → (x ≡ 0 → ⊥) → is_under nodes f x ≡ is_under nodes f (parent_of nodes x)
file_up K nodes x f v hx file folder inner =
    under_up nodes (tree_of K nodes v) f x hx inner (λ s. clash (is_folder nodes x) (subst (λ j. is_folder nodes j ≡ true) (sym s) folder) file)

-- a file gets another length
pub changes_resized : (K : Capacity) (nodes : List NodeRow) (quotas : List QuotaRow) (x : ℕ) (c : NodeRow → NodeRow) (row : NodeRow) → IsVolume K nodes → AreQuotas nodes quotas → KeepsPlace c → node_of nodes x ≡ Some row → is_folder nodes x ≡ false → (x ≡ 0 → ⊥) →
    Changes K nodes (with_change number x c nodes) quotas (record { from = Some (parent_of nodes x); to = Some (parent_of nodes x); minus = space K row; plus = space K (c row) })
changes_resized K nodes quotas x c row v qs k found file inner =
    let new = with_change number x c nodes in
    let p = parent_of nodes x in
    let hx : Has nodes x = found_has number x nodes row found in
    let same_up : (f g : ℕ) → is_under new f g ≡ is_under nodes f g = λ f g. ap (λ ns. is_in ns f) (chain-change x c k nodes g) in
    record {
      after = λ f q g.
          let up : is_under nodes f x ≡ is_under nodes f p = file_up K nodes x f v hx file (qs.folders f q g) inner in
          let same : is_under nodes f row.number ≡ is_under nodes f p = ap (is_under nodes f) (found_key number x nodes row found) ∙ up in
          let eq : usage K new f + cond (is_under nodes f p) (space K row) 0 ≡ usage K nodes f + cond (is_under nodes f p) (space K (c row)) 0 =
          subst (λ b. usage K new f + cond b (space K row) 0 ≡ usage K nodes f + cond b (space K (c row)) 0) same (usage-change K nodes x c k v.ascending row found f) in
          after_resize (usage K nodes f) (usage K new f) (space K row) (space K (c row)) (is_under nodes f p) (λ a. space-above K nodes f x row found (up ∙ a)) eq;
      held = λ f q g on. space-above K nodes f x row found (file_up K nodes x f v hx file (qs.folders f q g) inner ∙ on);
      from_same = λ f. same_up f p;
      to_same = λ f. same_up f p;
      up_same = λ f g h on. same_up f g;
    }

-- a folder above a node has at least its usage

share_at : (s : ℕ) (b c : Bool) → (b ≡ true → c ≡ true) → cond b s 0 ≤ cond c s 0
share_at s true c h = let e = ap (λ c. cond c s 0) (h refl) in omega (arith, e)
share_at s false c h = omega arith

above_each : (nodes : List NodeRow) → IsTree nodes → (f x n : ℕ) → Has nodes x → Has nodes n → is_under nodes x n ≡ true → is_under nodes f x ≡ true → is_under nodes f n ≡ true
above_each nodes t f x n hx hn below above =
    elim (is_or_not (f == 0)) [
      | inl z ↦ subst (λ j. is_under nodes j n ≡ true) (sym (eq_is f 0 z)) (t.rooted n hn)
      | inr z ↦ above_all nodes t f x n z hx hn below above
    ]

pub usage-above : (K : Capacity) (nodes : List NodeRow) → IsTree nodes → (f x : ℕ) → Has nodes x → is_under nodes f x ≡ true → usage K nodes x ≤ usage K nodes f
usage-above K nodes t f x hx above =
    let l = sum_by_most (share K nodes x) (share K nodes f) nodes (all_rows number (λ r. share K nodes x r ≤ share K nodes f r) nodes
    (λ r h. share_at (space K r) (is_under nodes x r.number) (is_under nodes f r.number) (λ b. above_each nodes t f x r.number hx h b above))) in
    omega (arith, usage_is K nodes x, usage_is K nodes f, l)

pub not_zero : (x : ℕ) → (x == 0) ≡ false → x ≡ 0 → ⊥
not_zero x i e = clash (x == 0) (ap (λ n. n == 0) e) i

-- a node isn't on the way up from its folder
not_above : (nodes : List NodeRow) → IsTree nodes → (x : ℕ) → Has nodes x → (x == 0) ≡ false → is_under nodes x (parent_of nodes x) ≡ false
not_above nodes t x h i = not_true _ (λ m.
    let p = parent_of nodes x in
    let s = shorter nodes t x h (not_zero x i) in
    let up : is_under nodes p x ≡ true = elim (is_or_not (x == p)) [
      | inl e ↦ subst (λ j. is_under nodes j x ≡ true) (eq_is x p e) (under_own nodes x)
      | inr e ↦ under_up nodes t p x h (not_zero x i) (λ q. clash (x == p) (ap (λ j. x == j) (sym q) ∙ eq_same x) e) ∙ under_own nodes p
    ] in
    let same : x ≡ p = eq_is x p (each_above nodes t x p i h (t.closed x h) m up) in
    let l : length (chain nodes x) ≡ length (chain nodes p) = ap (λ n. length (chain nodes n)) same in
    absurd (omega arith))

after_outside : (n new u : ℕ) (on off : Bool) → (off ≡ true → u ≤ n) → new + cond off u 0 ≡ n + cond on u 0 → new ≡ n - cond off u 0 + cond on u 0
after_outside n new u on true h e = let l = h refl in omega arith
after_outside n new u on false h e = omega arith

-- a node and a folder that isn't at or below it
pub record MovesTo (nodes : List NodeRow) (x d : ℕ) : Type 0 where
  pub inner : (x == 0) ≡ false
  pub row : NodeRow
  pub found : node_of nodes x ≡ Some row
  pub folder : is_folder nodes d ≡ true
  pub apart : is_in (chain nodes d) x ≡ false

moves_there : (K : Capacity) (nodes : List NodeRow) (x d : ℕ) (name : List ℕ) → IsVolume K nodes → MovesTo nodes x d → Moves nodes (with_change number x (placed d name) nodes) x d
moves_there K nodes x d name v m = moves_at nodes x d name m.row (tree_of K nodes v) m.found m.inner m.folder m.apart

-- the usage of a folder after a node moved
moved_usage : (K : Capacity) (nodes : List NodeRow) (x d : ℕ) (name : List ℕ) → IsVolume K nodes → MovesTo nodes x d → (f : ℕ) → Has nodes f →
    usage K (with_change number x (placed d name) nodes) f ≡ usage K nodes f - cond (is_under nodes f (parent_of nodes x)) (usage K nodes x) 0 + cond (is_under nodes f d) (usage K nodes x) 0
moved_usage K nodes x d name v m f hf =
    let t = tree_of K nodes v in
    let new = with_change number x (placed d name) nodes in
    let moves = moves_there K nodes x d name v m in
    let keeps : KeepsSpace K (placed d name) = record { same_number = λ r. refl; same_space = λ r. refl } in
    let u = usage K nodes x in
    let p = parent_of nodes x in
    let hx = moves.has_moved in
    let hd = folder_has nodes d m.folder in
    elim (is_or_not (is_under nodes x f)) [
      | inl below ↦
          let off_d : is_under nodes f d ≡ false = not_true _ (λ a. clash _ (above_all nodes t x f d m.inner hf hd a below) m.apart) in
          let off_p : is_under nodes f p ≡ false = not_true _ (λ a. clash _ (above_all nodes t x f p m.inner hf (t.closed x hx) a below) (not_above nodes t x hx m.inner)) in
          let stays : usage K new f ≡ usage K nodes f = usage-moved_below K nodes x d (placed d name) keeps moves f hf below in
          let a = ap (λ b. cond b u 0) off_d in
          let b = ap (λ b. cond b u 0) off_p in
          omega (arith, stays, a, b)
      | inr apart ↦
          let other : (x ≡ f → ⊥) = λ s. clash (is_under nodes x f) (subst (λ j. is_under nodes x j ≡ true) s (under_own nodes x)) apart in
          let up : is_under nodes f x ≡ is_under nodes f p = under_up nodes t f x hx (not_zero x m.inner) other in
          let out : Outside nodes x f = record { has = hf; lacks = apart } in
          let eq : usage K new f + cond (is_under nodes f x) u 0 ≡ usage K nodes f + cond (is_under nodes f d) u 0 = usage-moved K nodes x d (placed d name) keeps moves f out in
          let eq' : usage K new f + cond (is_under nodes f p) u 0 ≡ usage K nodes f + cond (is_under nodes f d) u 0 = subst (λ b. usage K new f + cond b u 0 ≡ usage K nodes f + cond (is_under nodes f d) u 0) up eq in
          after_outside (usage K nodes f) (usage K new f) u (is_under nodes f d) (is_under nodes f p) (λ a. usage-above K nodes t f x hx (up ∙ a)) eq'
    ]

-- a folder above that of a node, and not at or below the node, has at least the node's usage
moved_held : (K : Capacity) (nodes : List NodeRow) (x f : ℕ) → IsTree nodes → (x == 0) ≡ false → Has nodes x → Has nodes f → is_under nodes f (parent_of nodes x) ≡ true → usage K nodes x ≤ usage K nodes f
moved_held K nodes x f t inner hx hf on =
    let apart : is_under nodes x f ≡ false = not_true _ (λ below. clash _ (above_all nodes t x f (parent_of nodes x) inner hf (t.closed x hx) on below) (not_above nodes t x hx inner)) in
    let other : (x ≡ f → ⊥) = λ s. clash (is_under nodes x f) (subst (λ j. is_under nodes x j ≡ true) s (under_own nodes x)) apart in
    usage-above K nodes t f x hx (under_up nodes t f x hx (not_zero x inner) other ∙ on)

-- the bytes that move with a node; if there is no quota, they may be any number up to that
pub record IsMoved (K : Capacity) (nodes : List NodeRow) (quotas : List QuotaRow) (n bytes : ℕ) : Type 0 where
  pub few : bytes ≤ usage K nodes n
  pub all : (folder : ℕ) (quota : QuotaRow) → row_of folder_of folder quotas ≡ Some quota → bytes ≡ usage K nodes n

-- a node moves
pub changes_moved : (K : Capacity) (nodes : List NodeRow) (quotas : List QuotaRow) (x d : ℕ) (name : List ℕ) (bytes : ℕ) → IsVolume K nodes → AreQuotas nodes quotas → MovesTo nodes x d → IsMoved K nodes quotas x bytes →
    Changes K nodes (with_change number x (placed d name) nodes) quotas (record { from = Some (parent_of nodes x); to = Some d; minus = bytes; plus = bytes })
changes_moved K nodes quotas x d name bytes v qs m moved =
    let t = tree_of K nodes v in
    let new = with_change number x (placed d name) nodes in
    let moves = moves_there K nodes x d name v m in
    let p = parent_of nodes x in
    let hx = moves.has_moved in
    let hd = folder_has nodes d m.folder in
    let other : (g : ℕ) → is_in (chain nodes g) x ≡ false → (f : ℕ) → is_under new f g ≡ is_under nodes f g = λ g lacks f. ap (λ ns. is_in ns f) (under_other nodes new x d moves g lacks) in
    record {
      after = λ f q found.
          subst (λ u. usage K new f ≡ usage K nodes f - cond (is_under nodes f p) u 0 + cond (is_under nodes f d) u 0) (sym (moved.all f q found))
          (moved_usage K nodes x d name v m f (folder_has nodes f (qs.folders f q found)));
      held = λ f q found on. subst (λ u. u ≤ usage K nodes f) (sym (moved.all f q found)) (moved_held K nodes x f t m.inner hx (folder_has nodes f (qs.folders f q found)) on);
      from_same = λ f. other p (not_above nodes t x hx m.inner) f;
      to_same = λ f. other d m.apart f;
      up_same = λ f g h on. other g (not_true _ (λ a. clash _ (above_all nodes t x g d m.inner h hd on a) m.apart)) f;
    }

-- the ways up from the two folders stay
pub moved_chain_to : (K : Capacity) (nodes : List NodeRow) (x d : ℕ) (name : List ℕ) → IsVolume K nodes → MovesTo nodes x d → chain (with_change number x (placed d name) nodes) d ≡ chain nodes d
moved_chain_to K nodes x d name v m = under_other nodes (with_change number x (placed d name) nodes) x d (moves_there K nodes x d name v m) d m.apart

pub moved_chain_from : (K : Capacity) (nodes : List NodeRow) (x d : ℕ) (name : List ℕ) → IsVolume K nodes → MovesTo nodes x d → chain (with_change number x (placed d name) nodes) (parent_of nodes x) ≡ chain nodes (parent_of nodes x)
moved_chain_from K nodes x d name v m =
    under_other nodes (with_change number x (placed d name) nodes) x d (moves_there K nodes x d name v m) (parent_of nodes x)
    (not_above nodes (tree_of K nodes v) x (found_has number x nodes m.row m.found) m.inner)

-- a file goes
after_removal : (n new s : ℕ) (on : Bool) → new + cond on s 0 ≡ n → new ≡ n - cond on s 0 + 0
after_removal n new s true e = omega arith
after_removal n new s false e = omega arith

pub changes_removed : (K : Capacity) (nodes : List NodeRow) (quotas : List QuotaRow) (x : ℕ) (row : NodeRow) → IsVolume K nodes → AreQuotas nodes quotas → MayGo nodes x → node_of nodes x ≡ Some row → is_folder nodes x ≡ false →
    Changes K nodes (without_row number x nodes) quotas (record { from = Some (parent_of nodes x); to = None; minus = space K row; plus = 0 })
changes_removed K nodes quotas x row v qs m found file =
    let t = tree_of K nodes v in
    let r = removes_of K nodes x v m in
    let new = without_row number x nodes in
    let p = parent_of nodes x in
    let hx : Has nodes x = found_has number x nodes row found in
    let apart : (p == x) ≡ false = not_true _ (λ e. clash _ (subst (λ k. is_under nodes x k ≡ true) (sym (eq_is p x e)) (under_own nodes x)) (not_above nodes t x hx m.inner)) in
    let hp : Has new p = r.numbers p apart ∙ t.closed x hx in
    record {
      after = λ f q g.
          let up : is_under nodes f x ≡ is_under nodes f p = file_up K nodes x f v hx file (qs.folders f q g) (not_zero x m.inner) in
          let own : share K nodes f row ≡ cond (is_under nodes f p) (space K row) 0 = ap (λ b. cond b (space K row) 0) (ap (is_under nodes f) (found_key number x nodes row found) ∙ up) in
          let eq : usage K new f + cond (is_under nodes f p) (space K row) 0 ≡ usage K nodes f = subst (λ s. usage K new f + s ≡ usage K nodes f) own (usage-removed K nodes x r v.ascending row found f) in
          after_removal (usage K nodes f) (usage K new f) (space K row) (is_under nodes f p) eq;
      held = λ f q g on. space-above K nodes f x row found (file_up K nodes x f v hx file (qs.folders f q g) (not_zero x m.inner) ∙ on);
      from_same = λ f. ap (λ ns. is_in ns f) (removed_chain nodes new x r p hp);
      to_same = λ f. refl;
      up_same = λ f g h on. absurd cc;
    }
