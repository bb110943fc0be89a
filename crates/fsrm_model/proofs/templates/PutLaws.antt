-- Rows that are put back one by one, changed: those that pass a test are changed, and the others stay.
use Rattle.std.proofs.Common.{◌≡◌, ℕ, ◌==◌, Bool, true, false, cond, not, List, [], ◌∷◌, refl, ◌∙◌, ap, arith}
use Rattle.std.specs.Prelude.{filter, fold, map, if◌then◌else◌}
use Rattle.std.specs.List.{list_all}
use Rattle.fsrm_base.specs.Keyed.{has_row, is_ascending, with_change}
use Rattle.fsrm_base.proofs.EditedRows.{absent_later, ascending_tail, change_absent}
use Rattle.fsrm_base.proofs.TestLaws.{both, both_true, eq_same, eq_turned, is_false, neither}

-- a row in the place of the one that has its number
abbrev pub put : {X : Type 0} → (X → ℕ) → List X → X → List X
put key rows row = with_change key (key row) (λ old. row) rows

head_stays : {X : Type 0} (key : X → ℕ) (first : X) (rows puts : List X) → list_all (λ x. not (key first == key x)) puts ≡ true → fold (put key) (first ∷ rows) puts ≡ first ∷ fold (put key) rows puts
head_stays key first rows [] h = refl
head_stays key first rows (x ∷ puts) h =
    let parts = both (not (key first == key x)) (list_all (λ x. not (key first == key x)) puts) h in
    ap (λ b. fold (put key) (cond b x first ∷ put key rows x) puts) (is_false (key first == key x) parts.0)
    ∙ head_stays key first (put key rows x) puts parts.1

later_apart : {X : Type 0} (key : X → ℕ) (c : X → X) (p : X → Bool) → ((x : X) → key (c x) ≡ key x) → (n : ℕ) (rows : List X) → has_row key n rows ≡ false → list_all (λ x. not (n == key x)) (map c (filter p rows)) ≡ true
later_apart key c p keeps n [] h = refl
later_apart {X} key c p keeps n (x ∷ rows) h =
    let no = neither (key x == n) (has_row key n rows) h in
    at (p x) no.0 (later_apart key c p keeps n rows no.1)
  where
    at : (b : Bool) → (key x == n) ≡ false → list_all (λ y. not (n == key y)) (map c (filter p rows)) ≡ true → list_all (λ y. not (n == key y)) (map c (cond b (x ∷ filter p rows) (filter p rows))) ≡ true
    at true other rest =
        both_true (not (n == key (c x))) (list_all (λ y. not (n == key y)) (map c (filter p rows)))
        (ap (λ k. not (n == k)) (keeps x) ∙ ap not (eq_turned (key x) n other)) rest
    at false other rest = rest

pub put_each : {X : Type 0} (key : X → ℕ) (c : X → X) (p : X → Bool) → ((x : X) → key (c x) ≡ key x) → (rows : List X) → is_ascending key rows ≡ true → fold (put key) rows (map c (filter p rows)) ≡ map (λ x. if p x then c x else x) rows
put_each key c p keeps [] a = refl
put_each {X} key c p keeps (r ∷ rows) a =
    at (p r) (put_each key c p keeps rows (ascending_tail key r rows a)) (absent_later key (key r) r rows (omega arith) a)
  where
    puts : List X
    puts = map c (filter p rows)

    done : List X
    done = map (λ x. if p x then c x else x) rows

    at : (b : Bool) → fold (put key) rows puts ≡ done → has_row key (key r) rows ≡ false → fold (put key) (r ∷ rows) (map c (cond b (r ∷ filter p rows) (filter p rows))) ≡ cond b (c r) r ∷ done
    at true rest absent =
        let own : (key r == key (c r)) ≡ true = ap (λ n. key r == n) (keeps r) ∙ eq_same (key r) in
        let none : has_row key (key (c r)) rows ≡ false = ap (λ n. has_row key n rows) (keeps r) ∙ absent in
        ap (λ b. fold (put key) (cond b (c r) r ∷ put key rows (c r)) puts) own
        ∙ (ap (λ xs. fold (put key) (c r ∷ xs) puts) (change_absent key (key (c r)) (λ old. c r) rows none)
        ∙ (head_stays key (c r) rows puts (later_apart key c p keeps (key (c r)) rows none) ∙ ap (λ xs. c r ∷ xs) rest))
    at false rest absent = head_stays key r rows puts (later_apart key c p keeps (key r) rows absent) ∙ ap (λ xs. r ∷ xs) rest
