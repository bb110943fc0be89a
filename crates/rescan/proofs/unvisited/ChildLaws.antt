-- The children of a folder, taken up one by one.
use Rattle.std.proofs.Common.{◌≡◌, ℕ, ◌+◌, ◌<◌, ◌≤◌, ◌==◌, Bool, true, false, cond, not, ◌||◌, ◌&&◌, List, [], ◌∷◌, ◌++◌, length, take, Option, Some, None, refl, sym, ◌∙◌, ap, arith}
use Rattle.std.proofs.lemmas.List.{take_more, take_all}
use Rattle.std.proofs.lemmas.List.Sorted.{sum_by-IsPermutation, list_any-IsPermutation}
use Rattle.std.proofs.lemmas.List.Sums.{sum_by-cons}
use Rattle.std.proofs.lemmas.Option.{slice_get_within, get_or_from_slice_get, same_Some}
use Rattle.std.specs.Prelude.{map, filter, sum_by}
use Rattle.std.specs.Option.{option_map_or}
use Rattle.std.specs.List.{list_any}
use Rattle.fsrm_model.specs.declared.row.Capacity.{Capacity}
use Rattle.fsrm_model.specs.declared.row.NodeRow.{NodeRow}
use Rattle.fsrm_base.specs.Keyed.{is_ascending}
use Rattle.fsrm_model.specs.values.Name.{name_before}
use Rattle.fsrm_base.specs.Numbers.{is_in, with_number, with_numbers}
use Rattle.fsrm_model.specs.values.Space.{space}
use Rattle.fsrm_model.specs.nodes.Tree.{number, node_of, parent_of, is_folder, is_child, children, children_in_order}
use Rattle.fsrm_base.proofs.TestLaws.{both, eq_is, is_false}
use Rattle.fsrm_model.proofs.nodes.Keeps.{folder_found, found_folder, is_child_test}
use Rattle.fsrm_base.proofs.Look.{found_key}
use Rattle.node_table.specs.declared.view.NodeView.{NodeView}
use Rattle.volume_tree.specs.Volume.{IsChildAt, Shows}
use Rattle.node_order.proofs.Children.{children_many}
use Rattle.node_order.proofs.Items.{in_order_moves}
use Rattle.number_set.specs.Numbers.{Numbers}
use Rattle.rescan.specs.Visits.{folders_in}
use Rattle.fsrm_model.proofs.nodes.Numbered.{has_row-filter}
use Rattle.fsrm_model.proofs.valid.ValidLaws.{found_parent}

abbrev pub before : NodeRow → NodeRow → Bool
before a b = name_before a.name b.name

-- the children in order are the children
pub sum-children : (f : NodeRow → ℕ) (nodes : List NodeRow) (folder : ℕ) → sum_by f (children_in_order nodes folder) ≡ sum_by f (children nodes folder)
sum-children f nodes folder = sum_by-IsPermutation f (children nodes folder) (children_in_order nodes folder) (in_order_moves before (children nodes folder))

-- what is taken up of the first children
abbrev pub folders_of : List NodeRow → List ℕ
folders_of rows = map number (filter (λ node. node.folder) rows)

taken_more : (nodes : List NodeRow) (folder place n : ℕ) (at : IsChildAt nodes folder place n) → take (place + 1) (children_in_order nodes folder) ≡ take place (children_in_order nodes folder) ++ at.row ∷ []
taken_more nodes folder place n at =
    let rows = children_in_order nodes folder in
    let within : place < length rows = slice_get_within rows place at.row at.at in
    take_more rows place at.row within ∙ ap (λ (row : NodeRow). take place rows ++ row ∷ []) (get_or_from_slice_get rows place at.row at.row at.at)

pub with_one_more : (ms ns : List ℕ) (n : ℕ) → with_numbers (ms ++ n ∷ []) ns ≡ with_number n (with_numbers ms ns)
with_one_more [] ns n = refl
with_one_more (m ∷ ms) ns n = with_one_more ms (with_number m ns) n

-- the first children, so many of them, taken up: their folders are in the set, and the space of their files is summed
pub record TakenUp (K : Capacity) (nodes : List NodeRow) (folder place : ℕ) (old new : Numbers) (sum : ℕ) : Type 0 where
  pub set : new ≡ record old { members = with_numbers (folders_of (take place (children_in_order nodes folder))) old.members }
  pub bytes : sum ≡ sum_by (space K) (take place (children_in_order nodes folder))

same_row : (nodes : List NodeRow) (folder place n : ℕ) (view : NodeView) (at : IsChildAt nodes folder place n) (s : Shows view nodes n) → s.row ≡ at.row
same_row nodes folder place n view at s = same_Some s.row at.row (sym s.found ∙ at.found)

pub none_taken : (K : Capacity) (nodes : List NodeRow) (folder : ℕ) (old : Numbers) → TakenUp K nodes folder 0 old old 0
none_taken K nodes folder old = record { set = refl; bytes = refl }

-- at the end all of them are
pub all_taken : (K : Capacity) (nodes : List NodeRow) (folder count : ℕ) (old new : Numbers) (bytes : ℕ) → length (children nodes folder) ≤ count → TakenUp K nodes folder count old new bytes → (new ≡ record old { members = with_numbers (folders_in nodes folder) old.members }) × (bytes ≡ sum_by (space K) (children nodes folder))
all_taken K nodes folder count old new bytes h t =
    let rows = children_in_order nodes folder in
    let all : take count rows ≡ rows = take_all count rows (omega (arith, children_many nodes folder)) in (
      t.set ∙ ap (λ rs. record old { members = with_numbers (folders_of rs) old.members }) all,
      t.bytes ∙ (ap (sum_by (space K)) all ∙ sum-children (space K) nodes folder),
    )

-- which folders stand in a folder
any_filter : {X : Type 0} (p q : X → Bool) (xs : List X) → list_any p (filter q xs) ≡ list_any (λ x. q x && p x) xs
any_filter p q [] = refl
any_filter {X} p q (x ∷ xs) = at (q x) (any_filter p q xs)
  where
    at : (b : Bool) → list_any p (filter q xs) ≡ list_any (λ x. q x && p x) xs → list_any p (cond b (x ∷ filter q xs) (filter q xs)) ≡ ((b && p x) || list_any (λ x. q x && p x) xs)
    at true e = ap (λ c. p x || c) e
    at false e = e

any_numbers : (rows : List NodeRow) (n : ℕ) → is_in (map number rows) n ≡ list_any (λ r. number r == n) rows
any_numbers [] n = refl
any_numbers (r ∷ rows) n = ap (λ b. (number r == n) || b) (any_numbers rows n)

pub filter_filter : {X : Type 0} (p q : X → Bool) (xs : List X) → filter p (filter q xs) ≡ filter (λ x. q x && p x) xs
filter_filter p q [] = refl
filter_filter {X} p q (x ∷ xs) = at (q x) (filter_filter p q xs)
  where
    at : (b : Bool) → filter p (filter q xs) ≡ filter (λ x. q x && p x) xs → filter p (cond b (x ∷ filter q xs) (filter q xs)) ≡ cond (b && p x) (x ∷ filter (λ x. q x && p x) xs) (filter (λ x. q x && p x) xs)
    at true e = ap (λ ys. cond (p x) (x ∷ ys) ys) e
    at false e = e

in_folders : (nodes : List NodeRow) → is_ascending number nodes ≡ true → (folder n : ℕ) → is_in (folders_in nodes folder) n ≡ option_map_or (λ row. is_child folder row && row.folder) (node_of nodes n) false
in_folders nodes a folder n =
    let kind : NodeRow → Bool = λ node. node.folder in
    let named : NodeRow → Bool = λ node. number node == n in
    any_numbers (filter kind (children_in_order nodes folder)) n
    ∙ (any_filter named kind (children_in_order nodes folder)
    ∙ (sym (list_any-IsPermutation (λ x. kind x && named x) (children nodes folder) (children_in_order nodes folder) (in_order_moves before (children nodes folder)))
    ∙ (sym (any_filter named kind (children nodes folder))
    ∙ (ap (list_any named) (filter_filter kind (is_child folder) nodes)
    ∙ has_row-filter number (λ row. is_child folder row && row.folder) nodes a n))))

pub record ChildFolder (nodes : List NodeRow) (folder n : ℕ) : Type 0 where
  pub folder_is : is_folder nodes n ≡ true
  pub inner : (n == 0) ≡ false
  pub parent_is : parent_of nodes n ≡ folder

pub child_folder_of : (nodes : List NodeRow) → is_ascending number nodes ≡ true → (folder n : ℕ) → is_in (folders_in nodes folder) n ≡ true → ChildFolder nodes folder n
child_folder_of nodes a folder n h = at (node_of nodes n) refl (sym (in_folders nodes a folder n) ∙ h)
  where
    at : (o : Option NodeRow) → node_of nodes n ≡ o → option_map_or (λ row. is_child folder row && row.folder) o false ≡ true → ChildFolder nodes folder n
    at None e g = cc
    at (Some row) e g =
        let p = both (is_child folder row) row.folder g in
        let c = both (not (row.number == 0)) (row.parent == folder) p.0 in
        record {
          folder_is = found_folder nodes n row e ∙ p.1;
          inner = ap (λ k. k == 0) (sym (found_key number n nodes row e)) ∙ is_false (row.number == 0) c.0;
          parent_is = found_parent nodes n row e ∙ eq_is row.parent folder c.1;
        }

pub child_folder_by : (nodes : List NodeRow) → is_ascending number nodes ≡ true → (folder n : ℕ) → ChildFolder nodes folder n → is_in (folders_in nodes folder) n ≡ true
child_folder_by nodes a folder n c =
    let f = folder_found nodes n c.folder_is in
    let child : is_child folder f.row ≡ true = is_child_test folder n f.row (found_key number n nodes f.row f.found) c.inner (sym (found_parent nodes n f.row f.found) ∙ c.parent_is) in
    in_folders nodes a folder n
    ∙ (ap (λ o. option_map_or (λ row. is_child folder row && row.folder) o false) f.found
    ∙ (ap (λ b. b && f.row.folder) child ∙ f.folder))

-- what is summed so far is no more than the space of all files
pub filter_least : {X : Type 0} (f : X → ℕ) (p : X → Bool) (xs : List X) → sum_by f (filter p xs) ≤ sum_by f xs
filter_least f p [] = omega arith
filter_least {X} f p (x ∷ xs) = at (p x) (filter_least f p xs)
  where
    at : (b : Bool) → sum_by f (filter p xs) ≤ sum_by f xs → sum_by f (cond b (x ∷ filter p xs) (filter p xs)) ≤ sum_by f (x ∷ xs)
    at true h = omega (arith, sum_by-cons f x (filter p xs), sum_by-cons f x xs, h)
    at false h = omega (arith, sum_by-cons f x xs, h)
