-- Visits, one after the other: what is left, and what they cost.
use Rattle.std.proofs.Common.{◌≡◌, ℕ, zero, suc, ◌+◌, ◌*◌, ◌≤◌, ◌==◌, Bool, true, false, cond, not, ◌||◌, ◌&&◌, List, [], ◌∷◌, length, Option, Some, None, refl, sym, ◌∙◌, ap, subst, arith, add-one}
use Rattle.std.proofs.lemmas.List.Sums.{sum_by-cons}
use Rattle.std.specs.Prelude.{filter, sum_by}
use Rattle.std.specs.Option.{option_map_or}
use Rattle.fsrm_model.specs.declared.row.NodeRow.{NodeRow}
use Rattle.fsrm_model.specs.commands.Cost.{visit_cost}
use Rattle.fsrm_base.specs.Numbers.{itself, is_in, is_set, without_number, without_numbers}
use Rattle.fsrm_model.specs.objects.Scan.{is_topmost, next_visit, visit, visits}
use Rattle.fsrm_model.specs.nodes.Tree.{children}
use Rattle.fsrm_base.proofs.TestLaws.{eq_same, or_later}
use Rattle.fsrm_base.proofs.Look.{found_own}
use Rattle.fsrm_base.proofs.EditedRows.{sum_by-without_row}
use Rattle.fsrm_base.proofs.Sums.{sum_by-ones}
use Rattle.volume_tree.specs.Volume.{Volume}
use Rattle.rescan.specs.Frontiers.{Front, Follows, unvisited, visit_looks}
use Rattle.fsrm_base.proofs.NumberLaws.{in_filter}

-- one visit more, and visits if nothing is left
pub visits_more : (k : ℕ) (nodes : List NodeRow) (left : List ℕ) → visits (suc k) nodes left ≡ visit nodes (visits k nodes left)
visits_more zero nodes left = refl
visits_more (suc k) nodes left = visits_more k nodes (visit nodes left)

visit_none : (nodes : List NodeRow) (left : List ℕ) → next_visit nodes left ≡ None → visit nodes left ≡ left
visit_none nodes left h = ap (λ (o : Option ℕ). option_map_or (λ n. without_number n left) o left) h

visits_none : (k : ℕ) (nodes : List NodeRow) (left : List ℕ) → next_visit nodes left ≡ None → visits k nodes left ≡ left
visits_none zero nodes left h = refl
visits_none (suc k) nodes left h =
    let same : visit nodes left ≡ left = visit_none nodes left h in
    ap (visits k nodes) same ∙ visits_none k nodes left h

pub visits_done : (k most : ℕ) (nodes : List NodeRow) (left : List ℕ) → k ≤ most → next_visit nodes (visits k nodes left) ≡ None → visits most nodes left ≡ visits k nodes left
visits_done zero most nodes left h e = visits_none most nodes left e
visits_done (suc k) zero nodes left h e = absurd (omega arith)
visits_done (suc k) (suc most) nodes left h e = visits_done k most nodes (visit nodes left) (omega arith) e

-- what is visited was left
pub record Visited (nodes : List NodeRow) (left : List ℕ) (n : ℕ) : Type 0 where
  pub is : visit nodes left ≡ without_number n left
  pub fewer : length (visit nodes left) + 1 ≡ length left
  pub cost : sum_by (visit_cost nodes) (visit nodes left) + visit_cost nodes n ≡ sum_by (visit_cost nodes) left

pub visited : (nodes : List NodeRow) (left : List ℕ) (n : ℕ) → is_set left ≡ true → next_visit nodes left ≡ Some n → Visited nodes left n
visited nodes left n set h =
    let is : visit nodes left ≡ without_number n left = ap (λ (o : Option ℕ). option_map_or (λ k. without_number k left) o left) h in
    let found = found_own itself (is_topmost nodes left) left n set h in
    let ones = sum_by-without_row itself (λ (k : ℕ). 1) n n left set found in
    record {
      is = is;
      fewer = omega (arith, ap length is, ones, sum_by-ones left, sum_by-ones (without_number n left));
      cost = ap (λ ns. sum_by (visit_cost nodes) ns + visit_cost nodes n) is ∙ sum_by-without_row itself (visit_cost nodes) n n left set found;
    }

-- what is left is a part of what was left before
pub record Part (whole part : List ℕ) : Type 0 where
  pub keep : ℕ → Bool
  pub is : part ≡ filter keep whole

filter_all : (ns : List ℕ) → filter (λ (n : ℕ). true) ns ≡ ns
filter_all [] = refl
filter_all (n ∷ ns) = ap (λ ks. n ∷ ks) (filter_all ns)

filter_twice : (p q : ℕ → Bool) (ns : List ℕ) → filter q (filter p ns) ≡ filter (λ n. p n && q n) ns
filter_twice p q [] = refl
filter_twice p q (n ∷ ns) = at p q n ns (p n) (filter_twice p q ns)
  where
    at : (p q : ℕ → Bool) (n : ℕ) (ns : List ℕ) (b : Bool) → filter q (filter p ns) ≡ filter (λ n. p n && q n) ns → filter q (cond b (n ∷ filter p ns) (filter p ns)) ≡ cond (b && q n) (n ∷ filter (λ n. p n && q n) ns) (filter (λ n. p n && q n) ns)
    at p q n ns true h = ap (λ ks. cond (q n) (n ∷ ks) ks) h
    at p q n ns false h = h

visit_part : (nodes : List NodeRow) (left : List ℕ) (next : Option ℕ) → Part left (option_map_or (λ n. without_number n left) next left)
visit_part nodes left None = record { keep = λ n. true; is = sym (filter_all left) }
visit_part nodes left (Some n) = record { keep = λ k. not (k == n); is = refl }

pub visits_part : (k : ℕ) (nodes : List NodeRow) (left : List ℕ) → Part left (visits k nodes left)
visits_part zero nodes left = record { keep = λ n. true; is = sym (filter_all left) }
visits_part (suc k) nodes left =
    let first = visit_part nodes left (next_visit nodes left) in
    let rest = visits_part k nodes (visit nodes left) in
    record {
      keep = λ n. first.keep n && rest.keep n;
      is = rest.is ∙ (ap (filter rest.keep) first.is ∙ filter_twice first.keep rest.keep left);
    }

-- what a whole costs is what a part costs and what the rest does
none_of : (b : Bool) → false ≡ (b && false)
none_of true = refl
none_of false = refl

filter_members : (p q : ℕ → Bool) (ns : List ℕ) → ((k : ℕ) → is_in ns k ≡ true → p k ≡ q k) → filter p ns ≡ filter q ns
filter_members p q [] h = refl
filter_members p q (n ∷ ns) h =
    ap (λ b. cond b (n ∷ filter p ns) (filter p ns)) (h n (ap (λ b. b || is_in ns n) (eq_same n)))
    ∙ ap (λ ks. cond (q n) (n ∷ ks) ks) (filter_members p q ns (λ k m. h k (or_later (n == k) (is_in ns k) m)))

kept_is : (p m : Bool) → m ≡ true → not (p && m) ≡ not p
kept_is true m h = ap not h
kept_is false m h = refl

split_at : (f : ℕ → ℕ) (n : ℕ) (ms ks : List ℕ) (whole : ℕ) (b : Bool) → sum_by f ms + sum_by f ks ≡ whole → sum_by f (cond (not b) (n ∷ ms) ms) + sum_by f (cond b (n ∷ ks) ks) ≡ f n + whole
split_at f n ms ks whole true h = omega (arith, sum_by-cons f n ks, h)
split_at f n ms ks whole false h = omega (arith, sum_by-cons f n ms, h)

sum_split : (f : ℕ → ℕ) (p : ℕ → Bool) (ns : List ℕ) → sum_by f (filter (λ n. not (p n)) ns) + sum_by f (filter p ns) ≡ sum_by f ns
sum_split f p [] = refl
sum_split f p (n ∷ ns) =
    split_at f n (filter (λ k. not (p k)) ns) (filter p ns) (sum_by f ns) (p n) (sum_split f p ns) ∙ sym (sum_by-cons f n ns)

pub part_cost : (f : ℕ → ℕ) (whole part : List ℕ) → Part whole part → sum_by f (without_numbers part whole) + sum_by f part ≡ sum_by f whole
part_cost f whole part p =
    let rest : without_numbers part whole ≡ filter (λ n. not (p.keep n)) whole =
    ap (λ ns. without_numbers ns whole) p.is
    ∙ filter_members (λ k. not (is_in (filter p.keep whole) k)) (λ n. not (p.keep n)) whole (λ k m. ap not (in_filter p.keep whole k) ∙ kept_is (p.keep k) (is_in whole k) m) in
    ap (λ ns. sum_by f ns + sum_by f part) rest ∙ (ap (λ ns. sum_by f (filter (λ n. not (p.keep n)) whole) + sum_by f ns) p.is ∙ sum_split f p.keep whole)

-- so many visits have been made
pub record Made (v : Volume) (old new : Front) (made before now : ℕ) : Type 0 where
  pub follows : Follows old new v (visits made v.nodes (unvisited v.nodes old))
  pub fewer : made + length (unvisited v.nodes new) ≡ length (unvisited v.nodes old)
  pub cost : now + sum_by (visit_cost v.nodes) (unvisited v.nodes new) ≤ before + sum_by (visit_cost v.nodes) (unvisited v.nodes old)

pub made_more : (v : Volume) (old mid new : Front) (made before then now n : ℕ) → Made v old mid made before then → next_visit v.nodes (unvisited v.nodes mid) ≡ Some n → Follows mid new v (visit v.nodes (unvisited v.nodes mid)) → now ≤ then + visit_looks v.nodes (Some n) → Made v old new (made + 1) before now
made_more v old mid new made before then now n m h f looks =
    let one = visited v.nodes (unvisited v.nodes mid) n m.follows.stands.are.ascending h in
    let left : unvisited v.nodes new ≡ visit v.nodes (unvisited v.nodes mid) = f.unvisited_are in
    let most : visit_looks v.nodes (Some n) ≤ visit_cost v.nodes n = dear (length (children v.nodes n)) in
    record {
      follows = record {
        stands = f.stands;
        unvisited_are =
            f.unvisited_are
            ∙ (ap (visit v.nodes) m.follows.unvisited_are
            ∙ (sym (visits_more made v.nodes (unvisited v.nodes old)) ∙ ap (λ (k : ℕ). visits k v.nodes (unvisited v.nodes old)) (sym (add-one made))));
        folder = f.folder ∙ m.follows.folder;
        room = f.room ∙ m.follows.room;
      };
      fewer = omega (arith, one.fewer, m.fewer, ap length left);
      cost = omega (arith, one.cost, m.cost, looks, most, ap (sum_by (visit_cost v.nodes)) left);
    }
  where
    dear : (k : ℕ) → 2 + 2 * k ≤ 3 * (1 + k)
    dear k = omega arith

-- and nothing was left to visit
pub made_last : (v : Volume) (old mid new : Front) (made before then now most : ℕ) → Made v old mid made before then → made ≤ most → next_visit v.nodes (unvisited v.nodes mid) ≡ None → Follows mid new v (visit v.nodes (unvisited v.nodes mid)) → now ≤ then → Follows old new v (visits most v.nodes (unvisited v.nodes old)) × Made v old new made before now
made_last v old mid new made before then now most m le h f looks =
    let still : visit v.nodes (unvisited v.nodes mid) ≡ unvisited v.nodes mid = visit_none v.nodes (unvisited v.nodes mid) h in
    let left : unvisited v.nodes new ≡ unvisited v.nodes mid = f.unvisited_are ∙ still in
    let done : visits most v.nodes (unvisited v.nodes old) ≡ visits made v.nodes (unvisited v.nodes old) =
    visits_done made most v.nodes (unvisited v.nodes old) le (ap (next_visit v.nodes) (sym m.follows.unvisited_are) ∙ h) in
    let go : Follows old new v (visits made v.nodes (unvisited v.nodes old)) =
    record { stands = f.stands; unvisited_are = left ∙ m.follows.unvisited_are; folder = f.folder ∙ m.follows.folder; room = f.room ∙ m.follows.room } in (
      subst (Follows old new v) (sym done) go,
      record { follows = go; fewer = omega (arith, m.fewer, ap length left); cost = omega (arith, m.cost, looks, ap (sum_by (visit_cost v.nodes)) left) },
    )

-- what all of them took
pub made_looks : (v : Volume) (old new : Front) (made before now : ℕ) → Made v old new made before now → now ≤ before + sum_by (visit_cost v.nodes) (without_numbers (unvisited v.nodes new) (unvisited v.nodes old))
made_looks v old new made before now m =
    let whole = unvisited v.nodes old in
    let part : Part whole (unvisited v.nodes new) = subst (Part whole) (sym m.follows.unvisited_are) (visits_part made v.nodes whole) in
    omega (arith, m.cost, part_cost (visit_cost v.nodes) whole (unvisited v.nodes new) part)
