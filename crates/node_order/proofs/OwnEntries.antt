-- Entries of nodes after the nodes have changed.
use Rattle.std.proofs.Common.{◌≡◌, ◌≢◌, ℕ, ◌<◌, ◌≤◌, ◌==◌, Bool, true, false, cond, All, AllPairs, inl, inr, List, [], ◌∷◌, zero, suc, length, get_or, insert, remove, map, slice_get, Some, refl, sym, ◌∙◌, ap, subst, arith}
use Rattle.std.specs.Prelude.{if◌then◌else◌, option_map}
use Rattle.std.proofs.lemmas.List.{get_or-map, length-map}
use Rattle.std.proofs.lemmas.List.Edits.{length-remove}
use Rattle.std.proofs.lemmas.Option.{slice_get_within, get_or_from_slice_get}
use Rattle.fsrm_model.specs.declared.row.NodeRow.{NodeRow}
use Rattle.fsrm_model.specs.nodes.FileOps.{placed}
use Rattle.fsrm_base.specs.Keyed.{has_row, row_of, with_row, with_change, without_row}
use Rattle.fsrm_model.specs.values.Name.{same_name}
use Rattle.fsrm_model.specs.nodes.Tree.{number, node_of}
use Rattle.fsrm_base.proofs.EditedRows.{find-with_row_same}
use Rattle.fsrm_base.proofs.Look.{found_has, found_key, row_of-change, row_of-new_other, row_of-without}
use Rattle.fsrm_base.proofs.TestLaws.{clash, eq_is, eq_same, not_true}
use Rattle.block_list.specs.Runs.{entries_of}
use Rattle.name_rules.specs.Prefix.{number_of, prefix}
use Rattle.node_order.specs.Entries.{AreOwn, IsOwn, Sequence, entry_of, number_in}
use Rattle.node_order.specs.Order.{IsListed}
use Rattle.node_order.specs.declared.entries.Entry.{Entry}
use Rattle.node_order.proofs.Edits.{map-insert, map-remove, removed, all_insert}
use Rattle.node_order.proofs.Places.{numbers_apart}
use Rattle.node_order.proofs.Names.{same_folded}

-- names that are one have one prefix
pub same_prefix : (a b : List ℕ) → same_name a b ≡ true → prefix a ≡ prefix b
same_prefix a b same = ap (number_of 8) (same_folded a b same)

-- there are as many entries as numbers
pub own_length : (nodes : List NodeRow) (order : Sequence) → AreOwn nodes order → length (entries_of order.runs) ≡ length order.entries
own_length nodes order own = ap length own.numbers_are ∙ length-map order.entries number_in

pub place_fits : (nodes : List NodeRow) (order : Sequence) (place : ℕ) → AreOwn nodes order → place ≤ length (entries_of order.runs) → place ≤ length order.entries
place_fits nodes order place own l = omega (arith, l, own_length nodes order own)

-- a new row is found
pub new_there : (key : NodeRow → ℕ) (row : NodeRow) (rows : List NodeRow) → has_row key (key row) rows ≡ false → row_of key (key row) (with_row key row rows) ≡ Some row
new_there key row rows free = find-with_row_same key (λ r. key r == key row) row rows (eq_same (key row)) free

-- the entries of a list after an edit, and their numbers
own_parts : (nodes : List NodeRow) (order : Sequence) (numbers : List ℕ) (entries : List Entry) → entries_of order.runs ≡ numbers → order.entries ≡ entries → numbers ≡ map number_in entries → All (IsOwn nodes) entries → AreOwn nodes order
own_parts nodes order numbers entries are is same each =
    record {
      numbers_are = are ∙ (same ∙ ap (map number_in) (sym is));
      each = subst (All (IsOwn nodes)) (sym is) each;
    }

-- one more node
pub made_stays : (nodes : List NodeRow) (row : NodeRow) (e : Entry) → has_row number row.number nodes ≡ false → IsOwn nodes e → IsOwn (with_row number row nodes) e
made_stays nodes row e free own =
    let other : (e.node == row.number) ≡ false = not_true _ (λ t. clash _ (ap (λ (n : ℕ). has_row number n nodes) (sym (eq_is _ _ t)) ∙ found_has number e.node nodes own.row own.found) free) in
    record {
      row = own.row;
      found = row_of-new_other number row e.node nodes other ∙ own.found;
      parent_is = own.parent_is;
      prefix_is = own.prefix_is;
    }

pub own_made : (nodes : List NodeRow) (row : NodeRow) (order more : Sequence) (place : ℕ) → has_row number row.number nodes ≡ false → node_of (with_row number row nodes) row.number ≡ Some row → AreOwn nodes order → place ≤ length order.entries → entries_of more.runs ≡ insert (entries_of order.runs) place row.number → more.entries ≡ insert order.entries place (entry_of row) → AreOwn (with_row number row nodes) more
own_made nodes row order more place free found own within numbers entries =
    own_parts (with_row number row nodes) more (insert (entries_of order.runs) place row.number) (insert order.entries place (entry_of row)) numbers entries
    (ap (λ (ns : List ℕ). insert ns place row.number) own.numbers_are ∙ sym (map-insert number_in order.entries place (entry_of row)))
    (all_insert (IsOwn (with_row number row nodes)) order.entries place (entry_of row) within
    (record { row = row; found = found; parent_is = refl; prefix_is = refl })
    (λ k d l. made_stays nodes row (get_or order.entries k d) free (own.each k d l)))

-- a change that keeps the places of nodes
abbrev pub KeepsEntry : List NodeRow → ℕ → (NodeRow → NodeRow) → Type 0
KeepsEntry nodes n c = (r : NodeRow) → node_of nodes n ≡ Some r → ((c r).parent ≡ r.parent) × (prefix (c r).name ≡ prefix r.name)

changed_at : (nodes : List NodeRow) (n : ℕ) (c : NodeRow → NodeRow) (e : Entry) (row : NodeRow) (b : Bool) → (number row == n) ≡ b → ((r : NodeRow) → (c r).number ≡ r.number) → KeepsEntry nodes n c → node_of nodes e.node ≡ Some row → e.parent ≡ row.parent → e.prefix ≡ prefix row.name → node_of (with_change number n c nodes) e.node ≡ Some (cond b (c row) row) → IsOwn (with_change number n c nodes) e
changed_at nodes n c e row true t keeps same found parent front made =
    let own : node_of nodes n ≡ Some row = ap (node_of nodes) (sym (eq_is _ _ t) ∙ found_key number e.node nodes row found) ∙ found in
    let s = same row own in
    record { row = c row; found = made; parent_is = parent ∙ sym s.0; prefix_is = front ∙ sym s.1 }
changed_at nodes n c e row false t keeps same found parent front made = record { row = row; found = made; parent_is = parent; prefix_is = front }

pub changed_stays : (nodes : List NodeRow) (n : ℕ) (c : NodeRow → NodeRow) (e : Entry) → ((r : NodeRow) → (c r).number ≡ r.number) → KeepsEntry nodes n c → IsOwn nodes e → IsOwn (with_change number n c nodes) e
changed_stays nodes n c e keeps same own =
    changed_at nodes n c e own.row (number own.row == n) refl keeps same own.found own.parent_is own.prefix_is
    (row_of-change number n c keeps e.node nodes ∙ ap (option_map (λ (r : NodeRow). if number r == n then c r else r)) own.found)

pub own_changed : (nodes : List NodeRow) (n : ℕ) (c : NodeRow → NodeRow) (order : Sequence) → ((r : NodeRow) → (c r).number ≡ r.number) → KeepsEntry nodes n c → AreOwn nodes order → AreOwn (with_change number n c nodes) order
own_changed nodes n c order keeps same own =
    record {
      numbers_are = own.numbers_are;
      each = λ k d l. changed_stays nodes n c (get_or order.entries k d) keeps same (own.each k d l);
    }

-- no other entry has the number of one
pub others_apart : (nodes : List NodeRow) (order : Sequence) (place n : ℕ) → IsListed nodes (entries_of order.runs) → AreOwn nodes order → slice_get (entries_of order.runs) place ≡ Some n → (k : ℕ) (d : Entry) → k < length (remove order.entries place) → ((get_or (remove order.entries place) k d).node == n) ≡ false
others_apart nodes order place n h own at k d l =
    let entries = order.entries in
    let numbers = map number_in entries in
    let pairs : AllPairs (λ (m n : ℕ). m ≢ n) numbers = subst (AllPairs (λ (m n : ℕ). m ≢ n)) own.numbers_are (numbers_apart nodes (entries_of order.runs) h) in
    let at' : slice_get numbers place ≡ Some n = ap (λ (ns : List ℕ). slice_get ns place) (sym own.numbers_are) ∙ at in
    let size : length numbers ≡ length entries = length-map entries number_in in
    let below = slice_get_within numbers place n at' in
    let there : place < length entries = omega (arith, below, size) in
    let less = length-remove entries place there in
    let r = removed entries place d k there in
    let inside : r.place < length entries = elim r.cases [ inl u ↦ omega (arith, u.1, l, less, u.0) | inr u ↦ omega (arith, u.1, l, less) ] in
    let own_at : get_or numbers place 0 ≡ n = get_or_from_slice_get numbers place n 0 at' in
    let read : get_or numbers r.place 0 ≡ (get_or (remove entries place) k d).node = get_or-map number_in entries r.place d 0 inside ∙ ap number_in (sym r.is) in
    not_true _ (λ t.
    let same : get_or numbers r.place 0 ≡ get_or numbers place 0 = read ∙ (eq_is _ _ t ∙ sym own_at) in
    elim r.cases [
      | inl u ↦ pairs r.place place 0 (omega (arith, u.0, u.1)) (omega (arith, below)) same
      | inr u ↦ pairs place r.place 0 (omega (arith, u.0, u.1)) (omega (arith, inside, size)) (sym same)
    ])

-- a node less
pub gone_stays : (nodes : List NodeRow) (n : ℕ) (e : Entry) → (e.node == n) ≡ false → IsOwn nodes e → IsOwn (without_row number n nodes) e
gone_stays nodes n e other own =
    record {
      row = own.row;
      found = row_of-without number n e.node nodes other ∙ own.found;
      parent_is = own.parent_is;
      prefix_is = own.prefix_is;
    }

-- what all entries have, those have that are left
pub all_removed : {X : Type 0} (P : X → Type 0) (xs : List X) (place : ℕ) → place < length xs → All P xs → All P (remove xs place)
all_removed P xs place within all k d l =
    let less = length-remove xs place within in
    let r = removed xs place d k within in
    let inside : r.place < length xs = elim r.cases [ inl u ↦ omega (arith, u.1, l, less, u.0) | inr u ↦ omega (arith, u.1, l, less) ] in
    subst P (sym r.is) (all r.place d inside)

place_there : (nodes : List NodeRow) (order : Sequence) (place n : ℕ) → AreOwn nodes order → slice_get (entries_of order.runs) place ≡ Some n → place < length order.entries
place_there nodes order place n own at = omega (arith, slice_get_within (entries_of order.runs) place n at, own_length nodes order own)

pub own_gone : (nodes : List NodeRow) (order less : Sequence) (place n : ℕ) → IsListed nodes (entries_of order.runs) → AreOwn nodes order → slice_get (entries_of order.runs) place ≡ Some n → entries_of less.runs ≡ remove (entries_of order.runs) place → less.entries ≡ remove order.entries place → AreOwn (without_row number n nodes) less
own_gone nodes order less place n h own at numbers entries =
    let apart = others_apart nodes order place n h own at in
    let rest = all_removed (IsOwn nodes) order.entries place (place_there nodes order place n own at) own.each in
    own_parts (without_row number n nodes) less (remove (entries_of order.runs) place) (remove order.entries place) numbers entries
    (ap (λ (ns : List ℕ). remove ns place) own.numbers_are ∙ sym (map-remove number_in order.entries place))
    (λ k d l. gone_stays nodes n (get_or (remove order.entries place) k d) (apart k d l) (rest k d l))

-- a node at another place
pub other_stays : (nodes : List NodeRow) (n : ℕ) (c : NodeRow → NodeRow) (e : Entry) → ((r : NodeRow) → (c r).number ≡ r.number) → (e.node == n) ≡ false → IsOwn nodes e → IsOwn (with_change number n c nodes) e
other_stays nodes n c e keeps other own =
    let apart : (number own.row == n) ≡ false = ap (λ (m : ℕ). m == n) (found_key number e.node nodes own.row own.found) ∙ other in
    record {
      row = own.row;
      found = row_of-change number n c keeps e.node nodes
          ∙ (ap (option_map (λ (r : NodeRow). if number r == n then c r else r)) own.found ∙ ap (λ b. Some (cond b (c own.row) own.row)) apart);
      parent_is = own.parent_is;
      prefix_is = own.prefix_is;
    }

moved_found : (nodes : List NodeRow) (n : ℕ) (c : NodeRow → NodeRow) (row : NodeRow) → ((r : NodeRow) → (c r).number ≡ r.number) → node_of nodes n ≡ Some row → node_of (with_change number n c nodes) n ≡ Some (c row)
moved_found nodes n c row keeps found =
    let own : (number row == n) ≡ true = ap (λ (m : ℕ). m == n) (found_key number n nodes row found) ∙ eq_same n in
    row_of-change number n c keeps n nodes
    ∙ (ap (option_map (λ (r : NodeRow). if number r == n then c r else r)) found ∙ ap (λ b. Some (cond b (c row) row)) own)

pub own_moved : (nodes : List NodeRow) (order moved : Sequence) (from to n d : ℕ) (name : List ℕ) (e : Entry) (row : NodeRow) → IsListed nodes (entries_of order.runs) → AreOwn nodes order → slice_get (entries_of order.runs) from ≡ Some n → node_of nodes n ≡ Some row → e.node ≡ n → e.parent ≡ d → e.prefix ≡ prefix name → to < length order.entries → entries_of moved.runs ≡ insert (remove (entries_of order.runs) from) to e.node → moved.entries ≡ insert (remove order.entries from) to e → AreOwn (with_change number n (placed d name) nodes) moved
own_moved nodes order moved from to n d name e row h own at found node parent front within numbers entries =
    let c = placed d name in
    let apart = others_apart nodes order from n h own at in
    let there = place_there nodes order from n own at in
    let less = remove order.entries from in
    let size = length-remove order.entries from there in
    let rest = all_removed (IsOwn nodes) order.entries from there own.each in
    let mine : IsOwn (with_change number n c nodes) e = record {
      row = c row;
      found = ap (node_of (with_change number n c nodes)) node ∙ moved_found nodes n c row (λ r. refl) found;
      parent_is = parent;
      prefix_is = front;
    } in
    own_parts (with_change number n c nodes) moved (insert (remove (entries_of order.runs) from) to e.node) (insert less to e) numbers entries
    (ap (λ (ns : List ℕ). insert (remove ns from) to e.node) own.numbers_are
    ∙ (ap (λ (ns : List ℕ). insert ns to e.node) (sym (map-remove number_in order.entries from)) ∙ sym (map-insert number_in less to e)))
    (all_insert (IsOwn (with_change number n c nodes)) less to e (omega (arith, within, size)) mine
    (λ k x l. other_stays nodes n c (get_or less k x) (λ r. refl) (apart k x l) (rest k x l)))

-- an entry put in, or taken out; the nodes stay
pub own_put : (nodes : List NodeRow) (order more : Sequence) (place : ℕ) (e : Entry) → AreOwn nodes order → IsOwn nodes e → place ≤ length order.entries → entries_of more.runs ≡ insert (entries_of order.runs) place e.node → more.entries ≡ insert order.entries place e → AreOwn nodes more
own_put nodes order more place e own mine within numbers entries =
    own_parts nodes more (insert (entries_of order.runs) place e.node) (insert order.entries place e) numbers entries
    (ap (λ (ns : List ℕ). insert ns place e.node) own.numbers_are ∙ sym (map-insert number_in order.entries place e))
    (all_insert (IsOwn nodes) order.entries place e within mine own.each)

pub own_out : (nodes : List NodeRow) (order less : Sequence) (place : ℕ) → AreOwn nodes order → place < length (entries_of order.runs) → entries_of less.runs ≡ remove (entries_of order.runs) place → less.entries ≡ remove order.entries place → AreOwn nodes less
own_out nodes order less place own within numbers entries =
    own_parts nodes less (remove (entries_of order.runs) place) (remove order.entries place) numbers entries
    (ap (λ (ns : List ℕ). remove ns place) own.numbers_are ∙ sym (map-remove number_in order.entries place))
    (all_removed (IsOwn nodes) order.entries place (omega (arith, within, own_length nodes order own)) own.each)

-- entries of all inner rows
pub own_listed : (nodes rows : List NodeRow) (order : Sequence) → All (λ (r : NodeRow). node_of nodes r.number ≡ Some r) rows → entries_of order.runs ≡ map number rows → order.entries ≡ map entry_of rows → AreOwn nodes order
own_listed nodes rows order found numbers entries =
    own_parts nodes order (map number rows) (map entry_of rows) numbers entries (map_twice rows)
    (λ k d l. each_at rows k d (omega (arith, l, length-map rows entry_of)) found)
  where
    map_twice : (rows : List NodeRow) → map number rows ≡ map number_in (map entry_of rows)
    map_twice [] = refl
    map_twice (r ∷ rs) = ap (λ (ns : List ℕ). r.number ∷ ns) (map_twice rs)

    each_at : (rows : List NodeRow) (k : ℕ) (d : Entry) → k < length rows → All (λ (r : NodeRow). node_of nodes r.number ≡ Some r) rows → IsOwn nodes (get_or (map entry_of rows) k d)
    each_at [] k d l all = absurd (omega arith)
    each_at (r ∷ rs) zero d l all = record { row = r; found = all 0 r (omega arith); parent_is = refl; prefix_is = refl }
    each_at (r ∷ rs) (suc k) d l all = each_at rs k d (omega arith) (λ i x m. all (suc i) x (omega arith))
