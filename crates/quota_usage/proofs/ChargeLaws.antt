-- What the climbs of a change make of the counters.
use Rattle.std.proofs.Common.{◌≡◌, ℕ, ◌+◌, ◌-◌, ◌<◌, ◌^◌, ◌==◌, Bool, true, false, cond, List, [], ◌∷◌, Option, Some, None, refl, sym, ◌∙◌, ap, subst, arith}
use Rattle.std.proofs.lemmas.Option.{same_Some}
use Rattle.std.specs.Prelude.{map, option_map, if◌then◌else◌}
use Rattle.std.specs.Option.{option_map_or}
use Rattle.fsrm_base.proofs.TestLaws.{eq_is, eq_same, not_true}
use Rattle.fsrm_model.specs.declared.row.NodeRow.{NodeRow}
use Rattle.fsrm_base.specs.Keyed.{row_of}
use Rattle.fsrm_model.specs.nodes.Tree.{is_under}
use Rattle.fsrm_model.proofs.nodes.ChainLaws.{Has}
use Rattle.fsrm_base.proofs.Look.{found_key, find-map}
use Rattle.quota_usage.specs.Charge.{is_above, lost_by, IsThere}
use Rattle.quota_usage.specs.Climb.{amended, amended_counter, climbed, climbed_from, FitsAbove}
use Rattle.quota_usage.specs.Counters.{counted, used_in}
use Rattle.quota_usage.specs.declared.change.Change.{Change}
use Rattle.quota_usage.specs.declared.change.Counter.{Counter}
use Rattle.quota_usage.proofs.ClimbLaws.{own_key}

-- lists of which each member comes to the same
same_map : {X Y : Type 0} (f g : X → Y) → ((x : X) → f x ≡ g x) → (xs : List X) → map f xs ≡ map g xs
same_map f g h [] = refl
same_map f g h (x ∷ xs) = ap (λ y. y ∷ map f xs) (h x) ∙ ap (λ ys. g x ∷ ys) (same_map f g h xs)

two_maps : {X : Type 0} (f g h : X → X) → ((x : X) → f (g x) ≡ h x) → (xs : List X) → map f (map g xs) ≡ map h xs
two_maps f g h e [] = refl
two_maps f g h e (x ∷ xs) = ap (λ y. y ∷ map f (map g xs)) (e x) ∙ ap (λ ys. h x ∷ ys) (two_maps f g h e xs)

own_map : {X : Type 0} (f : X → X) → ((x : X) → f x ≡ x) → (xs : List X) → map f xs ≡ xs
own_map f h [] = refl
own_map f h (x ∷ xs) = ap (λ y. y ∷ map f xs) (h x) ∙ ap (λ ys. x ∷ ys) (own_map f h xs)

-- a counter that a change of these parts touches
abbrev pub charged_by : List NodeRow → Option ℕ → Option ℕ → ℕ → ℕ → Counter → Counter
charged_by nodes from to minus plus counter =
    record counter { bytes = counter.bytes - (if is_above nodes from counter.folder then minus else 0) + (if is_above nodes to counter.folder then plus else 0) }

-- one counter
none_at : (c : Counter) → c ≡ record c { bytes = c.bytes - 0 + 0 }
none_at c = let e : c.bytes ≡ c.bytes - 0 + 0 = omega arith in ap (λ n. record c { bytes = n }) e

given_at : (b : Bool) (plus : ℕ) (c : Counter) → cond b (amended_counter 0 plus c) c ≡ record c { bytes = c.bytes - 0 + cond b plus 0 }
given_at true plus c = refl
given_at false plus c = none_at c

taken_at : (b : Bool) (minus : ℕ) (c : Counter) → cond b (amended_counter minus 0 c) c ≡ record c { bytes = c.bytes - cond b minus 0 + 0 }
taken_at true minus c = refl
taken_at false minus c = none_at c

both_at : (b : Bool) (minus plus : ℕ) (c : Counter) → cond b (amended_counter minus plus c) c ≡ record c { bytes = c.bytes - cond b minus 0 + cond b plus 0 }
both_at true minus plus c = refl
both_at false minus plus c = none_at c

two_at : (a b : Bool) (minus plus : ℕ) (c : Counter) → cond b (amended_counter 0 plus (cond a (amended_counter minus 0 c) c)) (cond a (amended_counter minus 0 c) c) ≡ record c { bytes = c.bytes - cond a minus 0 + cond b plus 0 }
two_at true true minus plus c = let e : c.bytes - minus + 0 - 0 + plus ≡ c.bytes - minus + plus = omega arith in ap (λ n. record c { bytes = n }) e
two_at true false minus plus c = refl
two_at false true minus plus c = refl
two_at false false minus plus c = none_at c

-- all of them
pub charged_none : (nodes : List NodeRow) (from to : Option ℕ) (minus plus : ℕ) (old : List Counter) → from ≡ None → to ≡ None → old ≡ map (charged_by nodes from to minus plus) old
charged_none nodes from to minus plus old f t =
    sym (ap (λ o. map (charged_by nodes o to minus plus) old) f
    ∙ (ap (λ o. map (charged_by nodes None o minus plus) old) t
    ∙ own_map (charged_by nodes None None minus plus) (λ c. sym (none_at c)) old))

pub charged_given : (nodes : List NodeRow) (from to : Option ℕ) (d minus plus : ℕ) (old : List Counter) → from ≡ None → to ≡ Some d → climbed nodes d 0 plus old ≡ map (charged_by nodes from to minus plus) old
charged_given nodes from to d minus plus old f t =
    same_map (λ (c : Counter). if is_under nodes c.folder d then amended_counter 0 plus c else c) (charged_by nodes None (Some d) minus plus) (λ c. given_at (is_under nodes c.folder d) plus c) old
    ∙ sym (ap (λ o. map (charged_by nodes o to minus plus) old) f ∙ ap (λ o. map (charged_by nodes None o minus plus) old) t)

pub charged_taken : (nodes : List NodeRow) (from to : Option ℕ) (s minus plus : ℕ) (old : List Counter) → from ≡ Some s → to ≡ None → climbed nodes s minus 0 old ≡ map (charged_by nodes from to minus plus) old
charged_taken nodes from to s minus plus old f t =
    same_map (λ (c : Counter). if is_under nodes c.folder s then amended_counter minus 0 c else c) (charged_by nodes (Some s) None minus plus) (λ c. taken_at (is_under nodes c.folder s) minus c) old
    ∙ sym (ap (λ o. map (charged_by nodes o to minus plus) old) f ∙ ap (λ o. map (charged_by nodes (Some s) o minus plus) old) t)

pub charged_both : (nodes : List NodeRow) (from to : Option ℕ) (s d minus plus : ℕ) (old : List Counter) → from ≡ Some s → to ≡ Some d → s ≡ d → climbed nodes d minus plus old ≡ map (charged_by nodes from to minus plus) old
charged_both nodes from to s d minus plus old f t e =
    same_map (λ (c : Counter). if is_under nodes c.folder d then amended_counter minus plus c else c) (charged_by nodes (Some d) (Some d) minus plus) (λ c. both_at (is_under nodes c.folder d) minus plus c) old
    ∙ sym (ap (λ o. map (charged_by nodes o to minus plus) old) (f ∙ ap Some e) ∙ ap (λ o. map (charged_by nodes (Some d) o minus plus) old) t)

pub charged_two : (nodes : List NodeRow) (from to : Option ℕ) (s d minus plus : ℕ) (old middle new : List Counter) → from ≡ Some s → to ≡ Some d → middle ≡ climbed nodes s minus 0 old → new ≡ climbed nodes d 0 plus middle → new ≡ map (charged_by nodes from to minus plus) old
charged_two nodes from to s d minus plus old middle new f t m n =
    n
    ∙ (ap (climbed nodes d 0 plus) m
    ∙ (two_maps (λ (c : Counter). if is_under nodes c.folder d then amended_counter 0 plus c else c) (λ (c : Counter). if is_under nodes c.folder s then amended_counter minus 0 c else c) (charged_by nodes (Some s) (Some d) minus plus) row old
    ∙ sym (ap (λ o. map (charged_by nodes o to minus plus) old) f ∙ ap (λ o. map (charged_by nodes (Some s) o minus plus) old) t)))
  where
    row : (c : Counter) → (if is_under nodes (cond (is_under nodes c.folder s) (amended_counter minus 0 c) c).folder d then amended_counter 0 plus (cond (is_under nodes c.folder s) (amended_counter minus 0 c) c) else cond (is_under nodes c.folder s) (amended_counter minus 0 c) c) ≡ charged_by nodes (Some s) (Some d) minus plus c
    row c =
        let x = cond (is_under nodes c.folder s) (amended_counter minus 0 c) c in
        ap (λ f. cond (is_under nodes f d) (amended_counter 0 plus x) x) (own_key minus 0 (is_under nodes c.folder s) c)
        ∙ two_at (is_under nodes c.folder s) (is_under nodes c.folder d) minus plus c

-- what a climb leaves of the change to another, if there is one
pub left_given : (nodes : List NodeRow) (from to : Option ℕ) (minus plus : ℕ) (old : List Counter) → from ≡ None → climbed_from nodes to 0 plus old ≡ map (charged_by nodes from to minus plus) old
left_given nodes from None minus plus old f = charged_none nodes from None minus plus old f refl
left_given nodes from (Some d) minus plus old f = charged_given nodes from (Some d) d minus plus old f refl

pub left_both : (nodes : List NodeRow) (from to : Option ℕ) (s minus plus : ℕ) (old : List Counter) → from ≡ Some s → to ≡ Some s → climbed_from nodes to minus plus old ≡ map (charged_by nodes from to minus plus) old
left_both nodes from to s minus plus old f t = ap (λ o. climbed_from nodes o minus plus old) t ∙ charged_both nodes from to s s minus plus old f t refl

pub left_taken : (nodes : List NodeRow) (from to : Option ℕ) (s minus plus : ℕ) (old new : List Counter) → from ≡ Some s → new ≡ climbed nodes s minus 0 old → climbed_from nodes to 0 plus new ≡ map (charged_by nodes from to minus plus) old
left_taken nodes from None s minus plus old new f made = made ∙ charged_taken nodes from None s minus plus old f refl
left_taken nodes from (Some d) s minus plus old new f made = charged_two nodes from (Some d) s d minus plus old new (climbed nodes d 0 plus new) f refl made refl

pub left_from : (nodes : List NodeRow) (change : Change) (to : Option ℕ) (minus : ℕ) (taken all : List Counter) → change.to ≡ to → climbed_from nodes change.to minus change.plus taken ≡ all → climbed_from nodes to minus change.plus taken ≡ all
left_from nodes change to minus taken all is left = sym (ap (λ o. climbed_from nodes o minus change.plus taken) is) ∙ left

-- how many bytes the other one takes
pub lost_none : (change : Change) (to : ℕ) → change.from ≡ None → 0 ≡ lost_by change to
lost_none change to f = sym (ap (λ o. option_map_or (λ from. if from == to then change.minus else 0) o 0) f)

lost_at : (change : Change) (to s : ℕ) (b : Bool) → change.from ≡ Some s → (s == to) ≡ b → cond b change.minus 0 ≡ lost_by change to
lost_at change to s b f e = sym (ap (λ o. option_map_or (λ from. if from == to then change.minus else 0) o 0) f ∙ ap (λ b. cond b change.minus 0) e)

pub lost_own : (change : Change) (to s : ℕ) → change.from ≡ Some s → change.to ≡ Some s → change.to ≡ Some to → change.minus ≡ lost_by change to
lost_own change to s f own gives = lost_at change to s true f (ap (λ n. n == to) (same_Some s to (sym own ∙ gives)) ∙ eq_same to)

pub lost_other : (change : Change) (to s : ℕ) → change.from ≡ Some s → (change.to ≡ Some s → ⊥) → change.to ≡ Some to → 0 ≡ lost_by change to
lost_other change to s f other gives = lost_at change to s false f (not_true (s == to) (λ e. other (gives ∙ ap Some (sym (eq_is s to e)))))

-- what fits the change fits its climbs
abbrev pub FitsBy : List NodeRow → List Counter → Option ℕ → Option ℕ → ℕ → ℕ → Type 0
FitsBy nodes counters from to minus plus =
    (folder bytes : ℕ) → used_in counters folder ≡ Some bytes → bytes - (if is_above nodes from folder then minus else 0) + (if is_above nodes to folder then plus else 0) < 2 ^ 64

less_fits : (n x : ℕ) (b : Bool) → b ≡ true → (minus : ℕ) → n - cond b minus 0 + x < 2 ^ 64 → n - minus + 0 < 2 ^ 64
less_fits n x true h minus g = omega arith
less_fits n x false h minus g = cc

more_fits : (n plus : ℕ) (b : Bool) → b ≡ true → n - 0 + cond b plus 0 < 2 ^ 64 → n - 0 + plus < 2 ^ 64
more_fits n plus true h g = g
more_fits n plus false h g = cc

both_fit : (n minus plus : ℕ) (b : Bool) → b ≡ true → n - cond b minus 0 + cond b plus 0 < 2 ^ 64 → n - minus + plus < 2 ^ 64
both_fit n minus plus true h g = g
both_fit n minus plus false h g = cc

pub given_fits : (nodes : List NodeRow) (counters : List Counter) (from to : Option ℕ) (d minus plus : ℕ) → from ≡ None → to ≡ Some d → FitsBy nodes counters from to minus plus → FitsAbove nodes counters d 0 plus
given_fits nodes counters from to d minus plus f t fits = record {
  fits = λ folder bytes on used.
      more_fits bytes plus (is_under nodes folder d) on
      (subst (λ o. bytes - 0 + cond (is_above nodes o folder) plus 0 < 2 ^ 64) t
      (subst (λ o. bytes - cond (is_above nodes o folder) minus 0 + cond (is_above nodes to folder) plus 0 < 2 ^ 64) f (fits folder bytes used)));
}

pub taken_fits : (nodes : List NodeRow) (counters : List Counter) (from to : Option ℕ) (s minus plus : ℕ) → from ≡ Some s → FitsBy nodes counters from to minus plus → FitsAbove nodes counters s minus 0
taken_fits nodes counters from to s minus plus f fits = record {
  fits = λ folder bytes on used.
      less_fits bytes (cond (is_above nodes to folder) plus 0) (is_under nodes folder s) on minus
      (subst (λ o. bytes - cond (is_above nodes o folder) minus 0 + cond (is_above nodes to folder) plus 0 < 2 ^ 64) f (fits folder bytes used));
}

pub both_fits : (nodes : List NodeRow) (counters : List Counter) (from to : Option ℕ) (s d minus plus : ℕ) → from ≡ Some s → to ≡ Some d → s ≡ d → FitsBy nodes counters from to minus plus → FitsAbove nodes counters d minus plus
both_fits nodes counters from to s d minus plus f t e fits = record {
  fits = λ folder bytes on used.
      both_fit bytes minus plus (is_under nodes folder d) on
      (subst (λ o. bytes - cond (is_under nodes folder d) minus 0 + cond (is_above nodes o folder) plus 0 < 2 ^ 64) t
      (subst (λ o. bytes - cond (is_above nodes o folder) minus 0 + cond (is_above nodes to folder) plus 0 < 2 ^ 64) (f ∙ ap Some e) (fits folder bytes used)));
}

-- what a counter stands at after a climb
abbrev pub bytes_after : List NodeRow → ℕ → ℕ → ℕ → ℕ → ℕ → ℕ
bytes_after nodes start minus plus folder n = if is_under nodes folder start then amended minus plus n else n

after_at : (b : Bool) (minus plus : ℕ) (r : Counter) → (cond b (amended_counter minus plus r) r).bytes ≡ cond b (amended minus plus r.bytes) r.bytes
after_at true minus plus r = refl
after_at false minus plus r = refl

used_climbed : (nodes : List NodeRow) (start minus plus folder : ℕ) (old : List Counter) → used_in (climbed nodes start minus plus old) folder ≡ option_map (bytes_after nodes start minus plus folder) (used_in old folder)
used_climbed nodes start minus plus folder old =
    ap (option_map (λ (counter : Counter). counter.bytes)) (find-map (λ (r : Counter). counted r == folder) g (λ r. ap (λ j. j == folder) (own_key minus plus (is_under nodes r.folder start) r)) old)
    ∙ same (row_of counted folder old) refl
  where
    g : Counter → Counter
    g r = if is_under nodes r.folder start then amended_counter minus plus r else r

    same : (o : Option Counter) → row_of counted folder old ≡ o → option_map (λ (counter : Counter). counter.bytes) (option_map g o) ≡ option_map (bytes_after nodes start minus plus folder) (option_map (λ (counter : Counter). counter.bytes) o)
    same None e = refl
    same (Some r) e =
        ap Some (after_at (is_under nodes r.folder start) minus plus r)
        ∙ ap (λ f. Some (cond (is_under nodes f start) (amended minus plus r.bytes) r.bytes)) (found_key counted folder old r e)

mapped_fits : (P : ℕ → Type 0) (h : ℕ → ℕ) (o : Option ℕ) → ((n : ℕ) → o ≡ Some n → P (h n)) → (m : ℕ) → option_map h o ≡ Some m → P m
mapped_fits P h None f m e = cc
mapped_fits P h (Some n) f m e = subst P (same_Some (h n) m e) (f n refl)

second_at : (a b : Bool) (n minus plus : ℕ) → b ≡ true → n - cond a minus 0 + cond b plus 0 < 2 ^ 64 → cond a (n - minus + 0) n - 0 + plus < 2 ^ 64
second_at true true n minus plus h g = omega arith
second_at false true n minus plus h g = g
second_at a false n minus plus h g = cc

pub second_fits : (nodes : List NodeRow) (old middle : List Counter) (from to : Option ℕ) (s d minus plus : ℕ) → from ≡ Some s → to ≡ Some d → middle ≡ climbed nodes s minus 0 old → FitsBy nodes old from to minus plus → FitsAbove nodes middle d 0 plus
second_fits nodes old middle from to s d minus plus f t m fits = record {
  fits = λ folder bytes on used.
      mapped_fits (λ n. n - 0 + plus < 2 ^ 64) (bytes_after nodes s minus 0 folder) (used_in old folder)
      (λ n h.
      second_at (is_under nodes folder s) (is_under nodes folder d) n minus plus on
      (subst (λ o. n - cond (is_under nodes folder s) minus 0 + cond (is_above nodes o folder) plus 0 < 2 ^ 64) t
      (subst (λ o. n - cond (is_above nodes o folder) minus 0 + cond (is_above nodes to folder) plus 0 < 2 ^ 64) f (fits folder n h))))
      bytes
      (sym (ap (λ (counters : List Counter). used_in counters folder) m ∙ used_climbed nodes s minus 0 folder old) ∙ used);
}

-- the folders of a change
pub there : (nodes : List NodeRow) (o : Option ℕ) (n : ℕ) → o ≡ Some n → IsThere nodes o → Has nodes n
there nodes o n e h = subst (IsThere nodes) e h
