-- The pieces of an engine's rows, one after the other.
use Rattle.std.proofs.Common.{◌≡◌, ◌≢◌, ℕ, zero, suc, ◌+◌, ◌≤◌, ◌<◌, ◌==◌, Bool, true, false, cond, List, [], ◌∷◌, length, drop, Option, Some, None, refl, sym, ap, subst, ◌∙◌, arith, add-one, eq-eqb}
use Rattle.std.specs.Prelude.{◌++◌, map, nat_le, slice_get, option_map}
use Rattle.std.proofs.lemmas.List.{drop_all, length-map}
use Rattle.std.proofs.lemmas.Option.{same_Some, slice_get-map}
use Rattle.fsrm_base.specs.Keyed.{row_of, has_row, is_ascending}
use Rattle.fsrm_base.proofs.EditedRows.{absent_later, ascending_tail}
use Rattle.fsrm_base.proofs.Look.{found_has, found_key}
use Rattle.fsrm_base.proofs.Members.{filter_none, none_passes}
use Rattle.fsrm_base.proofs.TestLaws.{clash, eq_is, gt_is, le_is, le_test, lt_is, neither, not_le}
use Rattle.fsrm_model.specs.declared.row.NodeRow.{NodeRow}
use Rattle.fsrm_model.specs.declared.row.Capacity.{Capacity}
use Rattle.fsrm_model.specs.declared.row.Rows.{Rows}
use Rattle.fsrm_model.specs.nodes.Tree.{number}
use Rattle.fsrm_model.specs.store.Valid.{IsVolume}
use Rattle.image_codec.specs.Pieces.{Piece, CountPiece, NodePiece}
use Rattle.image_codec.specs.PiecesLeft.{row_count, row_pieces, sections_pieces}
use Rattle.image_codec.specs.Sections.{following}
use Rattle.image_codec.specs.declared.section.Section.{Section}
use Rattle.image_codec.specs.declared.section.Section.TheVariants.{Start, Nodes, Quotas, Templates, Autos, Groups, Screens, Excepts, Jobs, Acts, Audits}
use Rattle.image_codec.proofs.LeftLaws.{counted}
use Rattle.volume_tree.specs.Volume.{Shows}
use Rattle.node_table.specs.declared.view.NodeView.{NodeView}
use Rattle.fsrm_engine.specs.Machine.{Machine}
use Rattle.fsrm_store.specs.EnginePieces.{engine_pieces_left, is_from, nodes_from, nodes_to_come, rows_from, rows_left}
use Rattle.fsrm_store.specs.declared.pieces.EnginePieces.{EnginePieces}

-- ---- a row at a place
pub mapped_at : {X Y : Type 0} (make : X → Y) (xs : List X) (place : ℕ) (x : X) → slice_get xs place ≡ Some x → slice_get (map make xs) place ≡ Some (make x)
mapped_at make xs place x at = slice_get-map make xs place ∙ ap (option_map make) at

none_at : {X : Type 0} (x : X) → ◌≡◌ {A = Option X} None (Some x) → ⊥
none_at x e = cc

pub next_at : {X : Type 0} (xs : List X) (place : ℕ) (x : X) → slice_get xs place ≡ Some x → drop place xs ≡ x ∷ drop (suc place) xs
next_at [] place x at = absurd (none_at x at)
next_at (y ∷ ys) zero x at = ap (λ z. z ∷ ys) (same_Some y x at)
next_at (y ∷ ys) (suc place) x at = next_at ys place x at

-- ---- the nodes from a number on
pub all_from : (nodes : List NodeRow) → nodes_from 0 nodes ≡ nodes
all_from [] = refl
all_from (node ∷ nodes) = ap (λ b. cond b (node ∷ nodes_from 0 nodes) (nodes_from 0 nodes)) (le_test 0 node.number (omega arith)) ∙ ap (λ (ns : List NodeRow). node ∷ ns) (all_from nodes)

apart : (m n : ℕ) → (m == n) ≡ false → nat_le n m ≡ nat_le (n + 1) m
apart m n e = go (nat_le n m) refl
  where
    ne : m ≢ n
    ne is = absurd (clash (m == n) (ap (λ k. k == n) is ∙ same n) e)
      where
        same : (n : ℕ) → (n == n) ≡ true
        same n = eq-eqb n n refl

    go : (b : Bool) → nat_le n m ≡ b → nat_le n m ≡ nat_le (n + 1) m
    go true is = is ∙ sym (le_test (n + 1) m (omega (arith, le_is n m is, ne)))
    go false is = is ∙ sym (not_le (n + 1) m (omega (arith, gt_is n m is)))

-- no node has this number: those from it on are those after it
pub none_there : (n : ℕ) (nodes : List NodeRow) → has_row number n nodes ≡ false → nodes_from n nodes ≡ nodes_from (n + 1) nodes
none_there n [] lacks = refl
none_there n (node ∷ nodes) lacks =
    let l = neither (node.number == n) (has_row number n nodes) lacks in
    ap (λ b. cond b (node ∷ nodes_from n nodes) (nodes_from n nodes)) (apart node.number n l.0)
    ∙ ap (λ (ns : List NodeRow). cond (nat_le (n + 1) node.number) (node ∷ ns) ns) (none_there n nodes l.1)

-- one has it: it is the first of them
earlier : (n : ℕ) (node row : NodeRow) (nodes : List NodeRow) → is_ascending number (node ∷ nodes) ≡ true → row_of number n nodes ≡ Some row → (b : Bool) → nat_le n node.number ≡ b → node.number < n
earlier n node row nodes asc found true e = absurd (clash (has_row number n nodes) (found_has number n nodes row found) (absent_later number n node nodes (le_is n node.number e) asc))
earlier n node row nodes asc found false e = gt_is n node.number e

first_or_later : (n : ℕ) (node row : NodeRow) (nodes : List NodeRow) → is_ascending number (node ∷ nodes) ≡ true → (row_of number n nodes ≡ Some row → nodes_from n nodes ≡ row ∷ nodes_from (n + 1) nodes)
    → (b : Bool) → (node.number == n) ≡ b → cond b (Some node) (row_of number n nodes) ≡ Some row → nodes_from n (node ∷ nodes) ≡ row ∷ nodes_from (n + 1) (node ∷ nodes)
first_or_later n node row nodes asc more true is some =
    let same : node.number ≡ n = eq_is node.number n is in
    let dropped : nodes_from (n + 1) nodes ≡ nodes_from (n + 1) (node ∷ nodes) = ap (λ b. cond b (node ∷ nodes_from (n + 1) nodes) (nodes_from (n + 1) nodes)) (sym (not_le (n + 1) node.number (omega (arith, same)))) in
    ap (λ b. cond b (node ∷ nodes_from n nodes) (nodes_from n nodes)) (le_test n node.number (omega (arith, same)))
    ∙ ap (λ (x : NodeRow). x ∷ nodes_from n nodes) (same_Some node row some)
    ∙ ap (λ (ns : List NodeRow). row ∷ ns) (none_there n nodes (absent_later number n node nodes (omega (arith, same)) asc) ∙ dropped)
first_or_later n node row nodes asc more false is some =
    let below : node.number < n = earlier n node row nodes asc some (nat_le n node.number) refl in
    let dropped : nodes_from (n + 1) nodes ≡ nodes_from (n + 1) (node ∷ nodes) = ap (λ b. cond b (node ∷ nodes_from (n + 1) nodes) (nodes_from (n + 1) nodes)) (sym (not_le (n + 1) node.number (omega (arith, below)))) in
    ap (λ b. cond b (node ∷ nodes_from n nodes) (nodes_from n nodes)) (not_le n node.number below) ∙ more some ∙ ap (λ (ns : List NodeRow). row ∷ ns) dropped

pub one_there : (n : ℕ) (nodes : List NodeRow) (row : NodeRow) → is_ascending number nodes ≡ true → row_of number n nodes ≡ Some row → nodes_from n nodes ≡ row ∷ nodes_from (n + 1) nodes
one_there n [] row asc found = absurd (none_at row found)
one_there n (node ∷ nodes) row asc found =
    first_or_later n node row nodes asc (λ later. one_there n nodes row (ascending_tail number node nodes asc) later) (node.number == n) refl found

-- a number that no node may have: there is none from it on
pub past_all : (K : Capacity) (nodes : List NodeRow) (n : ℕ) → IsVolume K nodes → K.nodes ≤ n → nodes_from n nodes ≡ []
past_all K nodes n volume le =
    filter_none (is_from n) nodes (none_passes number (is_from n) nodes volume.ascending (λ r own. not_le n r.number (omega (arith, le, lt_is r.number K.nodes (volume.below r.number r own)))))

-- ---- the rows of a section from one on
pub rows_other : (s : Section) (n : ℕ) (R : Rows) → s ≢ Nodes → rows_from s n R ≡ drop n (row_pieces s R)
rows_other Start n R ne = refl
rows_other Nodes n R ne = absurd (ne refl)
rows_other Quotas n R ne = refl
rows_other Templates n R ne = refl
rows_other Autos n R ne = refl
rows_other Groups n R ne = refl
rows_other Screens n R ne = refl
rows_other Excepts n R ne = refl
rows_other Jobs n R ne = refl
rows_other Acts n R ne = refl
rows_other Audits n R ne = refl

pub rows_all : (s : Section) (R : Rows) → rows_from s 0 R ≡ row_pieces s R
rows_all Start R = refl
rows_all Nodes R = ap (map NodePiece) (all_from R.nodes)
rows_all Quotas R = refl
rows_all Templates R = refl
rows_all Autos R = refl
rows_all Groups R = refl
rows_all Screens R = refl
rows_all Excepts R = refl
rows_all Jobs R = refl
rows_all Acts R = refl
rows_all Audits R = refl

pub no_more : (s : Section) (n : ℕ) (R : Rows) → s ≢ Nodes → row_count s R ≤ n → rows_from s n R ≡ []
no_more s n R ne le = rows_other s n R ne ∙ drop_all n (row_pieces s R) (omega (arith, le, counted s R))

pub one_more : (s : Section) (n : ℕ) (R : Rows) (piece : Piece) → s ≢ Nodes → slice_get (row_pieces s R) n ≡ Some piece → rows_from s n R ≡ piece ∷ rows_from s (n + 1) R
one_more s n R piece ne at =
    rows_other s n R ne ∙ next_at (row_pieces s R) n piece at ∙ ap (λ (ps : List Piece). piece ∷ ps) (ap (λ k. drop k (row_pieces s R)) (sym (add-one n)) ∙ sym (rows_other s (n + 1) R ne))

-- ---- the nodes to come
pub same_to_come : (s : Section) (m n : ℕ) (nodes : List NodeRow) → s ≢ Nodes → nodes_to_come s m nodes ≡ nodes_to_come s n nodes
same_to_come Start m n nodes ne = refl
same_to_come Nodes m n nodes ne = absurd (ne refl)
same_to_come Quotas m n nodes ne = refl
same_to_come Templates m n nodes ne = refl
same_to_come Autos m n nodes ne = refl
same_to_come Groups m n nodes ne = refl
same_to_come Screens m n nodes ne = refl
same_to_come Excepts m n nodes ne = refl
same_to_come Jobs m n nodes ne = refl
same_to_come Acts m n nodes ne = refl
same_to_come Audits m n nodes ne = refl

first_same : (s t : Section) (ss ts : List Section) → ◌≡◌ {A = List Section} (s ∷ ss) (t ∷ ts) → s ≡ t
first_same s t ss ts e = cc

nothing_next : (t : Section) (ts : List Section) → ◌≡◌ {A = List Section} [] (t ∷ ts) → ⊥
nothing_next t ts e = cc

-- at the end of a section as many are to come as at the start of the next one
pub section_to_come : (s t : Section) (ts : List Section) (n : ℕ) (R : Rows) → following s ≡ t ∷ ts → rows_from s n R ≡ [] → nodes_to_come s n R.nodes ≡ nodes_to_come t 0 R.nodes
section_to_come Start t ts n R f none = subst (λ (u : Section). length R.nodes ≡ nodes_to_come u 0 R.nodes) (first_same Nodes t _ ts f) (sym (ap length (all_from R.nodes)))
section_to_come Nodes t ts n R f none =
    subst (λ (u : Section). length (nodes_from n R.nodes) ≡ nodes_to_come u 0 R.nodes) (first_same Quotas t _ ts f) (sym (length-map (nodes_from n R.nodes) NodePiece) ∙ ap length none)
section_to_come Quotas t ts n R f none = subst (λ (u : Section). 0 ≡ nodes_to_come u 0 R.nodes) (first_same Templates t _ ts f) refl
section_to_come Templates t ts n R f none = subst (λ (u : Section). 0 ≡ nodes_to_come u 0 R.nodes) (first_same Autos t _ ts f) refl
section_to_come Autos t ts n R f none = subst (λ (u : Section). 0 ≡ nodes_to_come u 0 R.nodes) (first_same Groups t _ ts f) refl
section_to_come Groups t ts n R f none = subst (λ (u : Section). 0 ≡ nodes_to_come u 0 R.nodes) (first_same Screens t _ ts f) refl
section_to_come Screens t ts n R f none = subst (λ (u : Section). 0 ≡ nodes_to_come u 0 R.nodes) (first_same Excepts t _ ts f) refl
section_to_come Excepts t ts n R f none = subst (λ (u : Section). 0 ≡ nodes_to_come u 0 R.nodes) (first_same Jobs t _ ts f) refl
section_to_come Jobs t ts n R f none = subst (λ (u : Section). 0 ≡ nodes_to_come u 0 R.nodes) (first_same Acts t _ ts f) refl
section_to_come Acts t ts n R f none = subst (λ (u : Section). 0 ≡ nodes_to_come u 0 R.nodes) (first_same Audits t _ ts f) refl
section_to_come Audits t ts n R f none = absurd (nothing_next t ts f)

-- ---- a node that is lent
view_row : (view : NodeView) (nodes : List NodeRow) (n : ℕ) (s : Shows view nodes n)
    → s.row ≡ record { number = n; parent = view.parent; name = view.name.now; folder = view.folder; length = view.length; owner = view.owner; created = view.created; modified = view.modified; accessed = view.accessed }
view_row view nodes n s =
    let r = s.row in
    ap (λ k. record r { number = k }) (found_key number n nodes r s.found)
    ∙ ap (λ k. record r { number = n; parent = k }) (sym s.is.parent)
    ∙ ap (λ (k : List ℕ). record r { number = n; parent = view.parent; name = k }) (sym s.is.name)
    ∙ ap (λ k. record r { number = n; parent = view.parent; name = view.name.now; folder = k }) (sym s.is.folder)
    ∙ ap (λ k. record r { number = n; parent = view.parent; name = view.name.now; folder = view.folder; length = k }) (sym s.is.bytes)
    ∙ ap (λ k. record r { number = n; parent = view.parent; name = view.name.now; folder = view.folder; length = view.length; owner = k }) (sym s.is.owner)
    ∙ ap (λ k. record r { number = n; parent = view.parent; name = view.name.now; folder = view.folder; length = view.length; owner = view.owner; created = k }) (sym s.is.created)
    ∙ ap (λ k. record r { number = n; parent = view.parent; name = view.name.now; folder = view.folder; length = view.length; owner = view.owner; created = view.created; modified = k }) (sym s.is.modified)
    ∙ ap (λ k. record r { number = n; parent = view.parent; name = view.name.now; folder = view.folder; length = view.length; owner = view.owner; created = view.created; modified = view.modified; accessed = k }) (sym s.is.accessed)

pub view_lent : (view : NodeView) (nodes : List NodeRow) (n : ℕ) → Shows view nodes n
    → option_map NodePiece (row_of number n nodes) ≡ Some (NodePiece (record { number = n; parent = view.parent; name = view.name.now; folder = view.folder; length = view.length; owner = view.owner; created = view.created; modified = view.modified; accessed = view.accessed }))
view_lent view nodes n s = ap (option_map NodePiece) s.found ∙ ap (λ (r : NodeRow). Some (NodePiece r)) (view_row view nodes n s)

record NodeOf (o : Option NodeRow) (piece : Piece) : Type 0 where
  row : NodeRow
  found : o ≡ Some row
  is : NodePiece row ≡ piece

node_of : (o : Option NodeRow) (piece : Piece) → option_map NodePiece o ≡ Some piece → NodeOf o piece
node_of None piece e = absurd (none_at piece e)
node_of (Some row) piece e = record { row = row; found = refl; is = same_Some (NodePiece row) piece e }

nodes_more : (nodes : List NodeRow) (from n : ℕ) (piece : Piece) → is_ascending number nodes ≡ true → nodes_from from nodes ≡ nodes_from n nodes → option_map NodePiece (row_of number n nodes) ≡ Some piece
    → map NodePiece (nodes_from from nodes) ≡ piece ∷ map NodePiece (nodes_from (n + 1) nodes)
nodes_more nodes from n piece asc first lent =
    let o = node_of (row_of number n nodes) piece lent in
    ap (map NodePiece) (first ∙ one_there n nodes o.row asc o.found) ∙ ap (λ (p : Piece). p ∷ map NodePiece (nodes_from (n + 1) nodes)) o.is

pub node_more : (s : Section) (R : Rows) (nodes : List NodeRow) (from n : ℕ) (piece : Piece) → s ≡ Nodes → nodes ≡ R.nodes → is_ascending number nodes ≡ true → nodes_from from nodes ≡ nodes_from n nodes → option_map NodePiece (row_of number n nodes) ≡ Some piece
    → rows_from s from R ≡ piece ∷ rows_from s (n + 1) R
node_more s R nodes from n piece is same asc first lent =
    subst (λ (s : Section). rows_from s from R ≡ piece ∷ rows_from s (n + 1) R) (sym is)
    (subst (λ (ns : List NodeRow). map NodePiece (nodes_from from ns) ≡ piece ∷ map NodePiece (nodes_from (n + 1) ns)) same (nodes_more nodes from n piece asc first lent))

pub node_none : (s : Section) (R : Rows) (nodes : List NodeRow) (from : ℕ) → s ≡ Nodes → nodes ≡ R.nodes → nodes_from from nodes ≡ [] → rows_from s from R ≡ []
node_none s R nodes from is same none =
    subst (λ (s : Section). rows_from s from R ≡ []) (sym is) (subst (λ (ns : List NodeRow). map NodePiece (nodes_from from ns) ≡ []) same (ap (map NodePiece) none))

-- it is one of those to come
pub node_looks : (s : Section) (R : Rows) (from n : ℕ) (piece : Piece) → s ≡ Nodes → rows_from s from R ≡ piece ∷ rows_from s (n + 1) R → nodes_to_come s from R.nodes ≡ nodes_to_come s (n + 1) R.nodes + 1
node_looks s R from n piece is more =
    let at : map NodePiece (nodes_from from R.nodes) ≡ piece ∷ map NodePiece (nodes_from (n + 1) R.nodes) = subst (λ (s : Section). rows_from s from R ≡ piece ∷ rows_from s (n + 1) R) is more in
    subst (λ (s : Section). nodes_to_come s from R.nodes ≡ nodes_to_come s (n + 1) R.nodes + 1) (sym is)
    (omega (arith, ap length at, length-map (nodes_from from R.nodes) NodePiece, length-map (nodes_from (n + 1) R.nodes) NodePiece))

-- ---- the next piece is a row, or a count, or there is none
pub row_first : (old new : EnginePieces) (piece : Piece) → rows_left old ≡ piece ∷ rows_left new → new.section ≡ old.section → new.engine.now ≡ old.engine.now → engine_pieces_left old ≡ piece ∷ engine_pieces_left new
row_first old new piece row section engine =
    ap (λ (ps : List Piece). ps ++ sections_pieces (following old.section) old.engine.now.rows) row
    ∙ ap (λ (s : Section). piece ∷ (rows_left new ++ sections_pieces (following s) old.engine.now.rows)) (sym section)
    ∙ ap (λ (R : Rows). piece ∷ (rows_left new ++ sections_pieces (following new.section) R)) (ap (λ (m : Machine). m.rows) (sym engine))

pub count_first : (p : EnginePieces) (t : Section) → rows_left p ≡ [] → following p.section ≡ t ∷ following t
    → engine_pieces_left p ≡ CountPiece (row_count t p.engine.now.rows) ∷ engine_pieces_left (record p { section = t; next = 0 })
count_first p t none next =
    let R = p.engine.now.rows in
    ap (λ (ps : List Piece). ps ++ sections_pieces (following p.section) R) none
    ∙ ap (λ (ss : List Section). sections_pieces ss R) next
    ∙ ap (λ (ps : List Piece). CountPiece (row_count t R) ∷ (ps ++ sections_pieces (following t) R)) (sym (rows_all t R))

pub all_given : (p : EnginePieces) → rows_left p ≡ [] → following p.section ≡ [] → engine_pieces_left p ≡ []
all_given p none last =
    ap (λ (ps : List Piece). ps ++ sections_pieces (following p.section) p.engine.now.rows) none ∙ ap (λ (ss : List Section). sections_pieces ss p.engine.now.rows) last
