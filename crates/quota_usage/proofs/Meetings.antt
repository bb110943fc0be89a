-- Two ways up, and where they meet.
use Rattle.std.proofs.Common.{◌≡◌, ℕ, ◌+◌, ◌-◌, ◌<◌, ◌≤◌, ◌^◌, ◌==◌, Bool, true, false, cond, inl, inr, List, length, Option, Some, None, refl, sym, ◌∙◌, ap, subst, arith}
use Rattle.fsrm_model.specs.declared.row.NodeRow.{NodeRow}
use Rattle.fsrm_model.specs.declared.row.QuotaRow.{QuotaRow}
use Rattle.fsrm_model.specs.nodes.Tree.{parent_of, chain, is_under}
use Rattle.fsrm_base.proofs.TestLaws.{is_or_not, eq_is, eq_same, or_later, clash, not_true, is_apart}
use Rattle.fsrm_model.proofs.nodes.ChainLaws.{IsTree, Has, chain_in_has}
use Rattle.fsrm_base.specs.Numbers.{is_in}
use Rattle.fsrm_model.proofs.nodes.Below.{above_all, above_shorter}
use Rattle.fsrm_model.proofs.nodes.Climbs.{climb, under_up, under_own}
use Rattle.quota_usage.specs.Charge.{is_above}
use Rattle.quota_usage.specs.Climb.{refusal_of, moved_refusal, refusal_at, IsNearest, IsMeeting, FitsAbove}
use Rattle.quota_usage.specs.Counters.{used_in}
use Rattle.quota_usage.specs.declared.change.Change.{Change}
use Rattle.quota_usage.specs.declared.change.Counter.{Counter}
use Rattle.quota_usage.specs.declared.change.Exceeded.{Exceeded}
use Rattle.quota_usage.proofs.ChargeLaws.{FitsBy}
use Rattle.quota_usage.proofs.ClimbLaws.{height_root, height_some, height_up}

-- a number above one that is above
pub has_above : (nodes : List NodeRow) → IsTree nodes → (f n : ℕ) → Has nodes n → is_under nodes f n ≡ true → Has nodes f
has_above nodes t f n h on = chain_in_has nodes t (length nodes) n f h on

pub over : (nodes : List NodeRow) → IsTree nodes → (x f n : ℕ) → Has nodes n → is_under nodes f n ≡ true → is_under nodes x f ≡ true → is_under nodes x n ≡ true
over nodes t x f n h on above =
    elim (is_or_not (x == 0)) [
      | inl e ↦ subst (λ j. is_under nodes j n ≡ true) (sym (eq_is x 0 e)) (t.rooted n h)
      | inr e ↦ above_all nodes t x f n e (has_above nodes t f n h on) h on above
    ]

apart_is : (n m : ℕ) → (n == m) ≡ false → n ≡ m → ⊥
apart_is n m h e = clash _ (subst (λ j. (n == j) ≡ true) e (eq_same n)) h

-- heights
lone_height : (nodes : List NodeRow) → IsTree nodes → (n : ℕ) → Has nodes n → length (chain nodes n) ≤ 1 → n ≡ 0
lone_height nodes t n h l =
    elim (is_or_not (n == 0)) [
      | inl e ↦ eq_is n 0 e
      | inr e ↦ absurd (omega (arith, l, height_up nodes t n h (apart_is n 0 e), height_some nodes (parent_of nodes n)))
    ]

apart_heights : (nodes : List NodeRow) → IsTree nodes → (f x : ℕ) → Has nodes f → Has nodes x → is_under nodes f x ≡ true → (x ≡ f → ⊥) → length (chain nodes f) < length (chain nodes x)
apart_heights nodes t f x hf hx on i =
    elim (is_or_not (f == 0)) [
      | inl e ↦
          let root : length (chain nodes f) ≡ 1 = subst (λ j. length (chain nodes j) ≡ 1) (sym (eq_is f 0 e)) (height_root nodes) in
          omega (arith, root, height_up nodes t x hx (λ z. i (z ∙ sym (eq_is f 0 e))), height_some nodes (parent_of nodes x))
      | inr e ↦ above_shorter nodes t f x e hf hx on (is_apart x f i)
    ]

-- what is above both starts and above the node on one way is above that on the other
abbrev pub Common : List NodeRow → ℕ → ℕ → ℕ → Type 0
Common nodes from at_from at_to = (f : ℕ) → is_under nodes f from ≡ true → is_under nodes f at_to ≡ true → is_under nodes f at_from ≡ true

pub from_inner : (nodes : List NodeRow) (at_from at_to : ℕ) → length (chain nodes at_to) < length (chain nodes at_from) → at_from ≡ 0 → ⊥
from_inner nodes at_from at_to l z =
    let root : length (chain nodes at_from) ≡ 1 = subst (λ j. length (chain nodes j) ≡ 1) (sym z) (height_root nodes) in
    absurd (omega (arith, l, root, height_some nodes at_to))

pub to_inner : (nodes : List NodeRow) → IsTree nodes → (at_from at_to : ℕ) → Has nodes at_from → (at_from ≡ at_to → ⊥) → length (chain nodes at_from) ≤ length (chain nodes at_to) → at_to ≡ 0 → ⊥
to_inner nodes t at_from at_to hf i l z =
    let root : length (chain nodes at_to) ≡ 1 = subst (λ j. length (chain nodes j) ≡ 1) (sym z) (height_root nodes) in
    i (lone_height nodes t at_from hf (omega (arith, l, root)) ∙ sym z)

pub not_from : (nodes : List NodeRow) → IsTree nodes → (from at_from at_to : ℕ) → Has nodes at_from → Has nodes at_to → (at_from ≡ at_to → ⊥) → length (chain nodes at_from) ≤ length (chain nodes at_to) → Common nodes from at_from at_to → is_under nodes at_to from ≡ false
not_from nodes t from at_from at_to hf ht i l common =
    not_true _ (λ on. absurd (omega (arith, l, apart_heights nodes t at_to at_from ht hf (common at_to on (under_own nodes at_to)) i)))

pub common_from : (nodes : List NodeRow) → IsTree nodes → (from at_from at_to up : ℕ) → Has nodes at_from → Has nodes at_to → (at_from ≡ at_to → ⊥) → length (chain nodes at_to) < length (chain nodes at_from) → up ≡ parent_of nodes at_from → Common nodes from at_from at_to → Common nodes from up at_to
common_from nodes t from at_from at_to up hf ht i l u common f on above =
    elim (is_or_not (at_from == f)) [
      | inl e ↦
          let high : length (chain nodes at_from) < length (chain nodes at_to) =
          apart_heights nodes t at_from at_to hf ht (subst (λ j. is_under nodes j at_to ≡ true) (sym (eq_is at_from f e)) above) (λ s. i (sym s)) in
          absurd (omega (arith, l, high))
      | inr e ↦
          ap (is_under nodes f) u
          ∙ (sym (under_up nodes t f at_from hf (from_inner nodes at_from at_to l) (apart_is at_from f e))
          ∙ common f on above)
    ]

pub common_to : (nodes : List NodeRow) → IsTree nodes → (from at_from at_to up : ℕ) → Has nodes at_to → (at_to ≡ 0 → ⊥) → up ≡ parent_of nodes at_to → Common nodes from at_from at_to → Common nodes from at_from up
common_to nodes t from at_from at_to up ht i u common f on above =
    common f on (ap (λ ns. is_in ns f) (climb nodes t at_to ht i) ∙ or_later (at_to == f) _ (ap (is_under nodes f) (sym u) ∙ above))

-- what is judged if the quota is on one way, or on both
pub moved_at : (nodes : List NodeRow) (quotas : List QuotaRow) (counters : List Counter) (from to minus plus f : ℕ) → is_under nodes f from ≡ false → is_under nodes f to ≡ true → moved_refusal nodes quotas counters from to minus plus f ≡ refusal_of quotas counters 0 plus f
moved_at nodes quotas counters from to minus plus f off on =
    ap (λ b. refusal_of quotas counters (cond b minus 0) (cond (is_under nodes f to) plus 0) f) off
    ∙ ap (λ b. refusal_of quotas counters 0 (cond b plus 0) f) on

pub given_at : (nodes : List NodeRow) (quotas : List QuotaRow) (counters : List Counter) (change : Change) (d f : ℕ) → change.from ≡ None → change.to ≡ Some d → is_under nodes f d ≡ true → refusal_at nodes quotas counters change f ≡ refusal_of quotas counters 0 change.plus f
given_at nodes quotas counters change d f e g on =
    ap (λ o. refusal_of quotas counters (cond (is_above nodes o f) change.minus 0) (cond (is_above nodes change.to f) change.plus 0) f) e
    ∙ (ap (λ o. refusal_of quotas counters 0 (cond (is_above nodes o f) change.plus 0) f) g
    ∙ ap (λ b. refusal_of quotas counters 0 (cond b change.plus 0) f) on)

pub changed_at : (nodes : List NodeRow) (quotas : List QuotaRow) (counters : List Counter) (change : Change) (s d f : ℕ) → change.from ≡ Some s → change.to ≡ Some d → refusal_at nodes quotas counters change f ≡ moved_refusal nodes quotas counters s d change.minus change.plus f
changed_at nodes quotas counters change s d f e g =
    ap (λ o. refusal_of quotas counters (cond (is_above nodes o f) change.minus 0) (cond (is_above nodes change.to f) change.plus 0) f) e
    ∙ ap (λ o. refusal_of quotas counters (cond (is_under nodes f s) change.minus 0) (cond (is_above nodes o f) change.plus 0) f) g

pub both_at : (nodes : List NodeRow) (quotas : List QuotaRow) (counters : List Counter) (change : Change) (s d f : ℕ) → change.from ≡ Some s → change.to ≡ Some d → is_under nodes f s ≡ true → is_under nodes f d ≡ true → refusal_at nodes quotas counters change f ≡ refusal_of quotas counters change.minus change.plus f
both_at nodes quotas counters change s d f e g a b =
    changed_at nodes quotas counters change s d f e g
    ∙ (ap (λ b. refusal_of quotas counters (cond b change.minus 0) (cond (is_under nodes f d) change.plus 0) f) a
    ∙ ap (λ b. refusal_of quotas counters change.minus (cond b change.plus 0) f) b)

-- the first that refuses, by judgements that are the same on the way
pub nearest_same : (nodes : List NodeRow) (was is : ℕ → Option Exceeded) (start : ℕ) (o : Option Exceeded) → ((f : ℕ) → is_under nodes f start ≡ true → is f ≡ was f) → IsNearest nodes was start o → IsNearest nodes is start o
nearest_same nodes was is start None same n = λ f on. same f on ∙ n f on
nearest_same nodes was is start (Some e) same n = record {
  place = n.place;
  on = n.on;
  refused = same n.place n.on ∙ n.refused;
  below = λ f on off. same f on ∙ n.below f on off;
}

-- the first after the meeting is the first of the whole way
met_at : (nodes : List NodeRow) (was is : ℕ → Option Exceeded) (to node f : ℕ) (b : Bool) → is_under nodes f node ≡ b → ((f : ℕ) → is_under nodes f node ≡ true → is f ≡ was f) → (is_under nodes f node ≡ true → was f ≡ None) → (is_under nodes f node ≡ false → is f ≡ None) → is f ≡ None
met_at nodes was is to node f true e same above below = same f e ∙ above e
met_at nodes was is to node f false e same above below = below e

pub nearest_met : (nodes : List NodeRow) → IsTree nodes → (was is : ℕ → Option Exceeded) (from to node : ℕ) (o : Option Exceeded) → Has nodes to → IsMeeting nodes is from to node → ((f : ℕ) → is_under nodes f node ≡ true → is f ≡ was f) → IsNearest nodes was node o → IsNearest nodes is to o
nearest_met nodes t was is from to node None ht m same n = λ f on.
    met_at nodes was is to node f (is_under nodes f node) refl same (n f) (m.below f on)
nearest_met nodes t was is from to node (Some e) ht m same n = record {
  place = n.place;
  on = over nodes t n.place node to ht m.on_to n.on;
  refused = same n.place n.on ∙ n.refused;
  below = λ f on off. met_at nodes was is to node f (is_under nodes f node) refl same (λ under. n.below f under off) (m.below f on);
}

pub meeting_same : (nodes : List NodeRow) (was is : ℕ → Option Exceeded) (from to node : ℕ) → ((f : ℕ) → is f ≡ was f) → IsMeeting nodes was from to node → IsMeeting nodes is from to node
meeting_same nodes was is from to node same m = record { on_from = m.on_from; on_to = m.on_to; below = λ f on off. same f ∙ m.below f on off }

-- what fits the change fits its judgements
off_fits : (n minus plus : ℕ) (a b : Bool) → a ≡ false → b ≡ true → n - cond a minus 0 + cond b plus 0 < 2 ^ 64 → n - 0 + plus < 2 ^ 64
off_fits n minus plus false true g h f = f
off_fits n minus plus true b g h f = cc
off_fits n minus plus false false g h f = cc

pub below_fits : (nodes : List NodeRow) (counters : List Counter) (from to : Option ℕ) (s d minus plus : ℕ) → from ≡ Some s → to ≡ Some d → FitsBy nodes counters from to minus plus → (folder bytes : ℕ) → is_under nodes folder d ≡ true → is_under nodes folder s ≡ false → used_in counters folder ≡ Some bytes → bytes - 0 + plus < 2 ^ 64
below_fits nodes counters from to s d minus plus e g fits folder bytes on off used =
    off_fits bytes minus plus (is_under nodes folder s) (is_under nodes folder d) off on
    (subst (λ o. bytes - cond (is_under nodes folder s) minus 0 + cond (is_above nodes o folder) plus 0 < 2 ^ 64) g
    (subst (λ o. bytes - cond (is_above nodes o folder) minus 0 + cond (is_above nodes to folder) plus 0 < 2 ^ 64) e (fits folder bytes used)))

two_fit : (n minus plus : ℕ) (a b : Bool) → a ≡ true → b ≡ true → n - cond a minus 0 + cond b plus 0 < 2 ^ 64 → n - minus + plus < 2 ^ 64
two_fit n minus plus true true g h f = f
two_fit n minus plus false b g h f = cc
two_fit n minus plus true false g h f = cc

pub met_fits : (nodes : List NodeRow) → IsTree nodes → (counters : List Counter) (from to : Option ℕ) (s d node minus plus : ℕ) → from ≡ Some s → to ≡ Some d → Has nodes s → Has nodes d → is_under nodes node s ≡ true → is_under nodes node d ≡ true → FitsBy nodes counters from to minus plus → FitsAbove nodes counters node minus plus
met_fits nodes t counters from to s d node minus plus e g hs hd a b fits = record {
  fits = λ folder bytes on used.
      two_fit bytes minus plus (is_under nodes folder s) (is_under nodes folder d) (over nodes t folder node s hs a on) (over nodes t folder node d hd b on)
      (subst (λ o. bytes - cond (is_under nodes folder s) minus 0 + cond (is_above nodes o folder) plus 0 < 2 ^ 64) g
      (subst (λ o. bytes - cond (is_above nodes o folder) minus 0 + cond (is_above nodes to folder) plus 0 < 2 ^ 64) e (fits folder bytes used)));
}
