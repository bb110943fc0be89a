-- A search in the order that halves.
use Rattle.std.proofs.Common.{◌≡◌, ℕ, zero, suc, ◌+◌, ◌-◌, ◌/◌, ◌^◌, ◌<◌, ◌≤◌, ◌==◌, ◌&&◌, ◌||◌, nat_lt, Bool, true, false, List, [], length, refl, sym, ◌∙◌, ap, subst, arith, pow-suc}
use Rattle.std.proofs.lemmas.Bool.Decides.{nat_tests}
use Rattle.fsrm_model.specs.declared.row.NodeRow.{NodeRow}
use Rattle.fsrm_model.specs.nodes.Fresh.{root_node}
use Rattle.node_order.specs.Order.{IsListed, is_before}
use Rattle.node_order.proofs.ListLaws.{at}
use Rattle.node_order.proofs.Names.{comes_then, name_before_empty}

-- an entry in front of one that comes before a place does too
pub earlier : (nodes : List NodeRow) (order : List ℕ) (folder : ℕ) (name : List ℕ) (h : IsListed nodes order) (i j : ℕ) → i < j → j < length h.entries → is_before (at h.entries j) folder name ≡ true → is_before (at h.entries i) folder name ≡ true
earlier nodes order folder name h i j l m t =
    let a = at h.entries i in
    let b = at h.entries j in
    comes_then a.parent a.name b.parent b.name folder name (h.ascending i j root_node l m) t

-- one look more halves what is left, and there may be so many
pub record IsFew (most size looks : ℕ) : Type 0 where
  pub few : looks ≤ most
  pub left : size < 2 ^ (most - looks)

-- before the first look
pub few_first : (begun most size : ℕ) → size < 2 ^ most → IsFew (begun + most) size begun
few_first begun most size l = let is : most ≡ begun + most - begun = omega arith in record { few = omega arith; left = subst (λ n. size < 2 ^ n) is l }

less_left : (size more room : ℕ) → 0 < size → more + more ≤ size → size < 2 ^ room → (0 < room) × (more < 2 ^ (room - 1))
less_left size more zero s m l = absurd (omega arith)
less_left size more (suc room) s m l =
    let e : room ≡ suc room - 1 = omega arith in
    let less : more < 2 ^ room = omega (arith, pow-suc 2 room) in
    (omega arith, subst (λ n. more < 2 ^ n) e less)

few_more : (most size more looks : ℕ) → IsFew most size looks → 0 < size → more + more ≤ size → IsFew most more (looks + 1)
few_more most size more looks h s m =
    let less = less_left size more (most - looks) s m h.left in
    let few = h.few in
    let e : most - looks - 1 ≡ most - (looks + 1) = omega arith in
    record { few = omega (arith, less.0); left = subst (λ n. more < 2 ^ n) e less.1 }

pub few_halved : (most size looks : ℕ) → IsFew most size looks → 0 < size → IsFew most (size / 2) (looks + 1)
few_halved most size looks h s = few_more most size (size / 2) looks h s (omega arith)

-- and where something is left there may be one more
pub few_one : (most size looks : ℕ) → IsFew most size looks → 0 < size → looks + 1 ≤ most
few_one most size looks h s = (few_more most size 0 looks h s (omega arith)).few

-- a node comes before the empty name of a folder if its own folder's number is less
pub before_empty : (row : NodeRow) (folder : ℕ) → is_before row folder [] ≡ nat_lt row.parent folder
before_empty row folder =
    ap (λ b. nat_lt row.parent folder || ((row.parent == folder) && b)) (name_before_empty row.name)
    ∙ left_alone (nat_lt row.parent folder) (row.parent == folder)
  where
    left_alone : (b c : Bool) → (b || (c && false)) ≡ b
    left_alone true c = refl
    left_alone false true = refl
    left_alone false false = refl

pub lower_before : (row : NodeRow) (folder : ℕ) → row.parent < folder → true ≡ is_before row folder []
lower_before row folder l = let t : nat_lt row.parent folder ≡ true = grind (arith, nat_tests) in sym (before_empty row folder ∙ t)

pub upper_stays : (row : NodeRow) (folder : ℕ) → folder ≤ row.parent → false ≡ is_before row folder []
upper_stays row folder l = let t : nat_lt row.parent folder ≡ false = grind (arith, nat_tests) in sym (before_empty row folder ∙ t)
