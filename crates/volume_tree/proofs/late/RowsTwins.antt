-- Whether a node that was entered has the name of one that is absent.
use Rattle.std.proofs.Common.{◌≡◌, ◌≢◌, ℕ, ◌==◌, ◌&&◌, ◌||◌, not, Bool, true, false, inl, inr, List, [], ◌∷◌, ◌++◌, map, slice_get, Option, Some, None, refl, sym, ◌∙◌, ap, subst}
use Rattle.std.proofs.lemmas.Option.{same_Some}
use Rattle.fsrm_model.specs.declared.row.NodeRow.{NodeRow}
use Rattle.fsrm_base.specs.Keyed.{is_ascending}
use Rattle.fsrm_base.specs.Numbers.{is_in}
use Rattle.fsrm_model.specs.values.Name.{same_name}
use Rattle.fsrm_model.specs.nodes.Tree.{name_of, number, node_of}
use Rattle.fsrm_base.proofs.Look.{found_key}
use Rattle.fsrm_base.proofs.TestLaws.{both, both_true, clash, eq_is, eq_same, eq_test, eq_turned, is_false, is_or, is_or_not, neither, not_true}
use Rattle.fsrm_model.proofs.nodes.Walks.{found_name}
use Rattle.name_rules.specs.Prefix.{prefix}
use Rattle.block_list.specs.Runs.{entries_of}
use Rattle.name_index.specs.Hash.{name_hash}
use Rattle.name_index.specs.Index.{Holds, has_lost}
use Rattle.node_order.specs.declared.entries.Entry.{Entry}
use Rattle.node_order.specs.Entries.{number_in}
use Rattle.node_order.specs.Order.{IsListed, IsPlace, LacksName, has_name, inner}
use Rattle.node_order.proofs.Found.{named_node, node_named}
use Rattle.node_order.proofs.Items.{pairs_rest}
use Rattle.node_order.proofs.ListLaws.{at, in_place, place_divides, there}
use Rattle.node_order.proofs.Names.{name_turned, same_folded}
use Rattle.node_order.proofs.Places.{only_place}
use Rattle.node_table.specs.Views.{seen}
use Rattle.node_table.specs.declared.view.NodeView.{NodeView}
use Rattle.volume_tree.specs.Late.{AreApart, IsRegister}
use Rattle.volume_tree.specs.Sound.{HasTwins}
use Rattle.volume_tree.specs.Twins.{AreApartBut, IsFree, IsTwin}
use Rattle.volume_tree.specs.declared.register.Register.{Register}
use Rattle.volume_tree.proofs.late.Numbers.{Once, first_once, in_append, in_permuted, inner_once, node_in, once_permuted}

-- nobody that is listed has a name if what stands at its place doesn't
pub place_lacks : (nodes : List NodeRow) (order : List ℕ) (folder : ℕ) (name : List ℕ) (place : ℕ) → IsListed nodes order → IsPlace nodes order folder name place → ((n : ℕ) → slice_get order place ≡ Some n → has_name nodes n folder name ≡ false) → LacksName nodes order folder name
place_lacks nodes order folder name place h p free n listed =
    not_true _ (λ t.
    let s = named_node nodes n folder name t in
    let stands = in_place order n listed in
    let k = there nodes order stands.place n h stands.is in
    let same : at h.entries stands.place ≡ s.row = same_Some _ _ (sym k.found ∙ s.found) in
    let is : stands.place ≡ place =
    only_place nodes order folder name place stands.place h (place_divides nodes order folder name place h p) k.below
    (ap (λ (r : NodeRow). r.parent) same ∙ s.folder_is)
    (ap (λ (r : NodeRow). same_name r.name name) same ∙ s.named) in
    clash _ t (free n (sym (ap (slice_get order) is) ∙ stands.is)))

-- a twin is one of two children of one name
pub twins_of : (nodes : List NodeRow) (row : NodeView) → node_of nodes row.number ≡ Some (seen row) → (row.number == 0) ≡ false → IsTwin nodes row → HasTwins nodes
twins_of nodes row found inside t =
    let s = named_node nodes t.number row.parent row.name.now t.named in
    let is : s.row.number ≡ t.number = number_of nodes t.number s.row s.found in
    record {
      one = s.row;
      other = seen row;
      one_found = ap (node_of nodes) is ∙ s.found;
      other_found = found;
      one_inner = ap (λ n. n == 0) is ∙ s.inner;
      other_inner = inside;
      apart = λ e. clash _ (eq_test t.number row.number (sym is ∙ e)) t.other;
      folder = s.folder_is;
      name = s.named;
    }
  where
    number_of : (nodes : List NodeRow) (n : ℕ) (r : NodeRow) → node_of nodes n ≡ Some r → r.number ≡ n
    number_of nodes n r f = found_key number n nodes r f

-- one hash for all spellings of a name
pub hash_same : (folder : ℕ) (a b : List ℕ) → same_name a b ≡ true → name_hash folder a ≡ name_hash folder b
unfolding name_hash
hash_same folder a b h = rw (same_folded a b h) refl

-- a node that isn't absent stands in the order or is late
pub listed_or_late : (nodes : List NodeRow) (absent : List ℕ) (register : Register) (n : ℕ) (row : NodeRow) → IsRegister nodes absent register → node_of nodes n ≡ Some row → (n == 0) ≡ false → is_in absent n ≡ false → (is_in (entries_of register.order.runs) n || is_in (map number_in register.late.items) n) ≡ true
listed_or_late nodes absent register n row k found inside present =
    let order = entries_of register.order.runs in
    let late = map number_in register.late.items in
    let all : is_in (absent ++ (order ++ late)) n ≡ true =
    sym (in_permuted (map number (inner nodes)) (absent ++ (order ++ late)) n k.entered.members) ∙ node_in nodes n row found inside in
    let parts : (is_in absent n || is_in (order ++ late) n) ≡ true = sym (in_append absent (order ++ late) n) ∙ all in
    let rest : is_in (order ++ late) n ≡ true = sym (ap (λ b. b || is_in (order ++ late) n) present) ∙ parts in
    sym (in_append order late n) ∙ rest

-- a name is free that neither the index leads to nor, if it has lost some, the order has
pub name_free : (nodes : List NodeRow) (absent : List ℕ) (register : Register) (folder : ℕ) (name : List ℕ) (hash : ℕ) → IsRegister nodes absent register → hash ≡ name_hash folder name → ((n : ℕ) → Holds register.index hash n → is_in absent n ≡ false → has_name nodes n folder name ≡ false) → (has_lost register.index hash ≡ true → LacksName nodes (entries_of register.order.runs) folder name) → IsFree nodes absent folder name
name_free nodes absent register folder name hash k is held lost n present =
    not_true _ (λ t.
    let s = named_node nodes n folder name t in
    let same : name_hash s.row.parent s.row.name ≡ hash = ap (λ f. name_hash f s.row.name) s.folder_is ∙ (hash_same folder s.row.name name s.named ∙ sym is) in
    let f = k.found.each n s.row s.found s.inner present in
    let holds : Holds register.index hash n → ⊥ = λ x. clash _ t (held n x present) in
    elim (is_or_not (has_lost register.index hash)) [
      | inl l ↦ elim (is_or _ _ (listed_or_late nodes absent register n s.row k s.found s.inner present)) [
        | inl i ↦ clash _ t (lost l n i)
        | inr i ↦ holds (subst (λ x. Holds register.index x n) same (f.waits i))
      ]
      | inr l ↦ holds (subst (λ x. Holds register.index x n) same (f.held (ap (has_lost register.index) same ∙ l)))
    ])

-- a number of one part isn't in the other one
once_apart : (ns ms : List ℕ) (n : ℕ) → Once (ns ++ ms) → is_in ns n ≡ true → is_in ms n ≡ true → ⊥
once_apart [] ms n o h g = cc
once_apart (k ∷ ns) ms n o h g =
    elim (is_or (k == n) (is_in ns n) h) [
      | inl e ↦ clash (is_in (ns ++ ms) n) (in_append ns ms n ∙ (ap (λ b. is_in ns n || b) g ∙ or_true (is_in ns n))) (subst (λ i. is_in (ns ++ ms) i ≡ false) (eq_is k n e) (first_once k (ns ++ ms) o))
      | inr d ↦ once_apart ns ms n (pairs_rest (λ (a b : ℕ). a ≢ b) k (ns ++ ms) o) d g
    ]
  where
    or_true : (b : Bool) → (b || true) ≡ true
    or_true true = refl
    or_true false = refl

-- a node that stands in the order isn't absent
pub listed_present : (nodes : List NodeRow) (absent : List ℕ) (register : Register) (n : ℕ) → is_ascending number nodes ≡ true → IsRegister nodes absent register → is_in (entries_of register.order.runs) n ≡ true → is_in absent n ≡ false
listed_present nodes absent register n a k t =
    let order = entries_of register.order.runs in
    let late = map number_in register.late.items in
    let once = once_permuted (map number (inner nodes)) (absent ++ (order ++ late)) k.entered.members (inner_once nodes a) in
    not_true _ (λ h. once_apart absent (order ++ late) n once h (in_append order late n ∙ ap (λ b. b || is_in late n) t))

pub absent_unlisted : (nodes : List NodeRow) (n : ℕ) (rest : List ℕ) (register : Register) → is_ascending number nodes ≡ true → IsRegister nodes (n ∷ rest) register → is_in (entries_of register.order.runs) n ≡ false
absent_unlisted nodes n rest register a k =
    not_true _ (λ t. clash _ (ap (λ b. b || is_in rest n) (eq_same n)) (listed_present nodes (n ∷ rest) register n a k t))

-- the place of a lent node
pub entry_place : (nodes : List NodeRow) (order : List ℕ) (row : NodeView) (entry : Entry) (place : ℕ) → node_of nodes row.number ≡ Some (seen row) → entry ≡ record { prefix = prefix row.name.now; parent = row.parent; node = row.number } → IsPlace nodes order entry.parent (name_of nodes entry.node) place → IsPlace nodes order row.parent row.name.now place
entry_place nodes order row entry place found is p =
    subst (λ name. IsPlace nodes order row.parent name place) (found_name nodes row.number (seen row) found)
    (subst (λ (e : Entry). IsPlace nodes order e.parent (name_of nodes e.node) place) is p)

-- what is no twin doesn't have the name
pub not_twin : (nodes : List NodeRow) (row : NodeView) (m n : ℕ) (b : Bool) → b ≡ (not (m == row.number) && has_name nodes m row.parent row.name.now) → b ≡ false → m ≡ n → (n == row.number) ≡ false → has_name nodes n row.parent row.name.now ≡ false
not_twin nodes row m n b is e same other =
    not_true _ (λ t.
    clash b (is ∙ both_true _ _ (ap (λ i. not (i == row.number)) same ∙ ap not other) (ap (λ i. has_name nodes i row.parent row.name.now) same ∙ t)) e)

pub is_twin : (nodes : List NodeRow) (row : NodeView) (m : ℕ) (b : Bool) → b ≡ (not (m == row.number) && has_name nodes m row.parent row.name.now) → b ≡ true → IsTwin nodes row
is_twin nodes row m b is e =
    let p = both _ _ (sym is ∙ e) in
    record { number = m; other = is_false _ p.0; named = p.1 }

pub none_some : (o : Option ℕ) (n : ℕ) → o ≡ None → o ≡ Some n → ⊥
none_some o n e f = cc

pub unlike : (ns : List ℕ) (n m : ℕ) → is_in ns n ≡ true → is_in ns m ≡ false → (n == m) ≡ false
unlike ns n m h g = not_true _ (λ t. clash _ (subst (λ i. is_in ns i ≡ true) (eq_is n m t) h) g)

pub none_absent : (n m : ℕ) (rest : List ℕ) → is_in (n ∷ rest) m ≡ false → (m == n) ≡ false
none_absent n m rest h = eq_turned n m (neither (n == m) (is_in rest m) h).0

-- the entered nodes stay apart if a new one has a name that is free
pub apart_more : (nodes : List NodeRow) (n : ℕ) (rest : List ℕ) (row : NodeRow) → node_of nodes n ≡ Some row → IsFree nodes (n ∷ rest) row.parent row.name → AreApartBut nodes (n ∷ rest) → AreApartBut nodes rest
apart_more nodes n rest row found free old = record {
  alone = λ a b r s f g i j p q folder name.
      elim (is_or_not (n == a)) [
        | inl e ↦ elim (is_or_not (n == b)) [
          | inl d ↦ sym (eq_is n b d) ∙ eq_is n a e
          | inr d ↦ absurd (clash _ (named b s r g j folder name (same_Some _ _ (sym f ∙ (ap (node_of nodes) (sym (eq_is n a e)) ∙ found)))) (free b (ap (λ t. t || is_in rest b) d ∙ q)))
        ]
        | inr e ↦ elim (is_or_not (n == b)) [
          | inl d ↦ absurd (clash _ (named a r s f i (sym folder) (name_turned s.name r.name name) (same_Some _ _ (sym g ∙ (ap (node_of nodes) (sym (eq_is n b d)) ∙ found)))) (free a (ap (λ t. t || is_in rest a) e ∙ p)))
          | inr d ↦ old.alone a b r s f g i j (ap (λ t. t || is_in rest a) e ∙ p) (ap (λ t. t || is_in rest b) d ∙ q) folder name
        ]
      ];
}
  where
    named : (b : ℕ) (s r : NodeRow) → node_of nodes b ≡ Some s → (b == 0) ≡ false → s.parent ≡ r.parent → same_name s.name r.name ≡ true → r ≡ row → has_name nodes b row.parent row.name ≡ true
    named b s r g j folder name is =
        node_named nodes b row.parent row.name (record {
          row = s;
          found = g;
          inner = j;
          folder_is = folder ∙ ap (λ (x : NodeRow). x.parent) is;
          named = sym (ap (λ (x : NodeRow). same_name s.name x.name) is) ∙ name;
        })

-- at first nobody is entered, and at last everybody is
pub apart_first : (nodes : List NodeRow) → AreApartBut nodes (map number (inner nodes))
apart_first nodes = record { alone = λ n m r s f g i j p q folder name. absurd (clash _ (node_in nodes n r f i) p) }

pub apart_last : (nodes : List NodeRow) → AreApartBut nodes [] → AreApart nodes
apart_last nodes h = record { alone = λ n m r s f g i j folder name. h.alone n m r s f g i j refl refl folder name }
