-- What a node has by itself, part by part, and what keeps it.
use Rattle.std.proofs.Common.{◌≡◌, ℕ, ◌≤◌, ◌==◌, Bool, true, false, ◌&&◌, List, refl, sym, ◌∙◌, ap, arith, nat_lt, nat_le}
use Rattle.std.specs.Prelude.{if◌then◌else◌}
use Rattle.fsrm_model.specs.declared.row.Capacity.{Capacity}
use Rattle.fsrm_model.specs.declared.row.NodeRow.{NodeRow}
use Rattle.fsrm_model.specs.values.Limits.{latest_moment, longest_file}
use Rattle.fsrm_model.specs.values.Name.{is_name}
use Rattle.fsrm_model.specs.nodes.Tree.{number, is_folder}
use Rattle.fsrm_model.specs.store.Valid.{IsVolume, is_own}
use Rattle.fsrm_model.proofs.nodes.Keeps.{found_folder}
use Rattle.fsrm_base.proofs.Look.{has_found}
use Rattle.fsrm_base.proofs.TestLaws.{both, clash, is_inner, le_test, lt_test}

-- a file is no root
pub file_inner : (K : Capacity) (nodes : List NodeRow) (n : ℕ) → IsVolume K nodes → is_folder nodes n ≡ false → (n == 0) ≡ false
file_inner K nodes n v h = is_inner n (λ is.
    let f = has_found number 0 nodes v.has_root in
    let folder : f.row.folder ≡ true = (both _ _ (both _ _ (both _ _ (v.root f.row f.is)).0).0).0 in
    let at : is_folder nodes 0 ≡ true = found_folder nodes 0 f.row f.is ∙ folder in
    clash (is_folder nodes 0) at (sym (ap (is_folder nodes) is) ∙ h))

-- the parts of what a node has
pub record OwnParts (r : NodeRow) : Type 0 where
  pub named : (is_name r.name && nat_lt 0 r.owner) ≡ true
  pub short : nat_le r.length (if r.folder then 0 else longest_file) ≡ true
  pub made : nat_le r.created latest_moment ≡ true
  pub changed : nat_le r.modified latest_moment ≡ true
  pub seen : nat_le r.accessed latest_moment ≡ true

pub own_parts : (r : NodeRow) → is_own r ≡ true → OwnParts r
own_parts r h =
    let first : ((is_name r.name && nat_lt 0 r.owner) ≡ true) × ((nat_le r.length (if r.folder then 0 else longest_file) && (nat_le r.created latest_moment && (nat_le r.modified latest_moment && nat_le r.accessed latest_moment))) ≡ true) = both _ _ h in
    let second : (nat_le r.length (if r.folder then 0 else longest_file) ≡ true) × ((nat_le r.created latest_moment && (nat_le r.modified latest_moment && nat_le r.accessed latest_moment)) ≡ true) = both _ _ first.1 in
    let third : (nat_le r.created latest_moment ≡ true) × ((nat_le r.modified latest_moment && nat_le r.accessed latest_moment) ≡ true) = both _ _ second.1 in
    let last : (nat_le r.modified latest_moment ≡ true) × (nat_le r.accessed latest_moment ≡ true) = both _ _ third.1 in
    record { named = first.0; short = second.0; made = third.0; changed = last.0; seen = last.1 }

own_again : (a short made changed seen : Bool) → a ≡ true → short ≡ true → made ≡ true → changed ≡ true → seen ≡ true → (a && (short && (made && (changed && seen)))) ≡ true
own_again a short made changed seen h i j k l = rw (h, i, j, k, l) refl

pub own_joined : (r : NodeRow) → OwnParts r → is_own r ≡ true
own_joined r p = own_again _ _ _ _ _ p.named p.short p.made p.changed p.seen

pub file_short : (f : Bool) (bytes : ℕ) → f ≡ false → bytes ≤ longest_file → nat_le bytes (if f then 0 else longest_file) ≡ true
file_short true bytes h l = cc
file_short false bytes h l = le_test bytes longest_file l

-- what a new node has
pub own_new : (n parent : ℕ) (name : List ℕ) (f : Bool) (bytes owner moment : ℕ) → is_name name ≡ true → bytes ≤ (if f then 0 else longest_file) → 1 ≤ owner → moment ≤ latest_moment → is_own (record { number = n; parent = parent; name = name; folder = f; length = bytes; owner = owner; created = moment; modified = moment; accessed = moment }) ≡ true
own_new n parent name f bytes owner moment named short owns m =
    let first : (is_name name && nat_lt 0 owner) ≡ true = rw (named, lt_test 0 owner (omega (arith, owns))) refl in
    let moments = le_test moment latest_moment m in
    own_again _ _ _ _ _ first (le_test bytes (if f then 0 else longest_file) short) moments moments moments

-- another name
pub own_named : (name old : List ℕ) (owner : ℕ) → is_name name ≡ true → (is_name old && nat_lt 0 owner) ≡ true → (is_name name && nat_lt 0 owner) ≡ true
own_named name old owner h g =
    let owned : nat_lt 0 owner ≡ true = (both (is_name old) (nat_lt 0 owner) g).1 in
    rw (h, owned) refl
