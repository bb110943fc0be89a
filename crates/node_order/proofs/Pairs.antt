-- How two rows stand to each other, by their folders and the first characters of their names.
use Rattle.std.proofs.Common.{◌≡◌, ℕ, ◌<◌, ◌^◌, ◌==◌, ◌&&◌, ◌||◌, nat_lt, nat_cmp, is_lt, Bool, true, false, List, Some, inl, inr, refl, sym, ◌∙◌, ap, arith}
use Rattle.std.proofs.lemmas.Bool.{cases_order}
use Rattle.fsrm_model.specs.declared.row.NodeRow.{NodeRow}
use Rattle.std.proofs.lemmas.Option.{same_Some}
use Rattle.fsrm_model.proofs.nodes.Walks.{found_name}
use Rattle.fsrm_model.specs.nodes.Tree.{name_of, node_of}
use Rattle.fsrm_model.specs.values.Name.{folded, name_before, name_cmp}
use Rattle.fsrm_base.proofs.TestLaws.{both, eq_is, lt_test, not_lt}
use Rattle.name_rules.specs.Prefix.{prefix}
use Rattle.name_rules.proofs.PrefixLaws.{number_small, prefix_less, prefix_more}
use Rattle.node_order.specs.Entries.{IsOwn, place_key}
use Rattle.node_order.specs.declared.entries.Entry.{Entry}
use Rattle.node_order.specs.Order.{is_before}
use Rattle.node_order.proofs.Compared.{lt_cmp}
use Rattle.node_order.proofs.Keys.{key_less, keys_same}
use Rattle.node_order.proofs.Names.{comes_equal}

-- the number of a row's place
abbrev pub key_of : NodeRow → ℕ
key_of row = place_key row.parent (prefix row.name)

prefix_small : (name : List ℕ) → prefix name < 2 ^ 64
prefix_small name = omega (arith, number_small 8 (folded name))

-- the names decide if the numbers are the same
pub named_before : (a b : NodeRow) → key_of a ≡ key_of b → is_lt (name_cmp a.name b.name) ≡ is_before a b.parent b.name
named_before a b same =
    let parts = both _ _ (keys_same a.parent (prefix a.name) b.parent (prefix b.name) (prefix_small a.name) (prefix_small b.name) same) in
    sym (comes_equal a.parent a.name b.parent b.name (eq_is _ _ parts.0))

-- else they do
prefix_before : (a b : List ℕ) → (prefix a ≡ prefix b → ⊥) → nat_lt (prefix a) (prefix b) ≡ name_before a b
prefix_before a b other =
    elim (cases_order (prefix a) (prefix b)) [
      | inl same ↦ absurd (other same)
      | inr (inl less) ↦ lt_test _ _ less ∙ sym (ap is_lt (prefix_less a b less))
      | inr (inr more) ↦ not_lt _ _ (omega (arith, more)) ∙ sym (ap is_lt (prefix_more a b more))
    ]

within : (less same x y : Bool) → (same ≡ true → x ≡ y) → (less || (same && x)) ≡ (less || (same && y))
within less true x y h = ap (λ t. less || t) (h refl)
within less false x y h = refl

pub key_before : (a b : NodeRow) → (key_of a ≡ key_of b → ⊥) → is_lt (nat_cmp (key_of a) (key_of b)) ≡ is_before a b.parent b.name
key_before a b other =
    lt_cmp (key_of a) (key_of b)
    ∙ (key_less a.parent (prefix a.name) b.parent (prefix b.name) (prefix_small a.name) (prefix_small b.name)
    ∙ within (nat_lt a.parent b.parent) (a.parent == b.parent) _ _
    (λ same. prefix_before a.name b.name (λ front. other (ap (λ (p : ℕ). place_key p (prefix a.name)) (eq_is _ _ same) ∙ ap (place_key b.parent) front))))

-- the same of entries and their nodes
pub own_key : (nodes : List NodeRow) (e : Entry) (own : IsOwn nodes e) → place_key e.parent e.prefix ≡ key_of own.row
own_key nodes e own = ap (λ (p : ℕ). place_key p e.prefix) own.parent_is ∙ ap (place_key own.row.parent) own.prefix_is

pub own_before : (nodes : List NodeRow) (e o : Entry) (b : Bool) (row : NodeRow) (own : IsOwn nodes e) (other : IsOwn nodes o) → b ≡ is_before own.row other.row.parent other.row.name → node_of nodes e.node ≡ Some row → b ≡ is_before row o.parent (name_of nodes o.node)
own_before nodes e o b row own other is found =
    is
    ∙ (ap (λ (r : NodeRow). is_before r other.row.parent other.row.name) (same_Some _ _ (sym own.found ∙ found))
    ∙ (ap (λ (p : ℕ). is_before row p other.row.name) (sym other.parent_is)
    ∙ ap (is_before row o.parent) (sym (found_name nodes o.node other.row other.found))))

-- an entry of a greater number doesn't stand before the other one
pub past_before : (nodes : List NodeRow) (e o : Entry) (own : IsOwn nodes e) → IsOwn nodes o → place_key o.parent o.prefix < place_key e.parent e.prefix → is_before own.row o.parent (name_of nodes o.node) ≡ false
past_before nodes e o own other less =
    let ours = own_key nodes e own in
    let theirs = own_key nodes o other in
    let more : key_of other.row < key_of own.row = omega (arith, less, ours, theirs) in
    let none : nat_lt (key_of own.row) (key_of other.row) ≡ false = not_lt (key_of own.row) (key_of other.row) (omega (arith, more)) in
    sym (own_before nodes e o false own.row own other (sym none ∙ (sym (lt_cmp (key_of own.row) (key_of other.row)) ∙ key_before own.row other.row (λ same. omega (arith, more, same)))) own.found)
