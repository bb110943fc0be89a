-- Rows of which those under some numbers are changed, one number after another.
use Rattle.std.proofs.Common.{◌≡◌, ℕ, ◌==◌, Bool, true, false, cond, ◌||◌, List, [], ◌∷◌, refl, sym, ◌∙◌, ap, subst}
use Rattle.std.specs.Prelude.{map, if◌then◌else◌}
use Rattle.std.specs.Cmp.{nat_eq_equiv}
use Rattle.fsrm_base.specs.Keyed.{with_change}
use Rattle.fsrm_base.specs.Numbers.{is_in}
use Rattle.fsrm_base.proofs.TestLaws.{eq_is}
use Rattle.fsrm_base.proofs.Look.{changed_key}

-- rows of which those under these numbers are changed
abbrev pub changed_rows : {X : Type 0} → (X → ℕ) → (X → X) → List ℕ → List X → List X
changed_rows key c ns rows = map (λ r. if is_in ns (key r) then c r else r) rows

pub changed_none : {X : Type 0} (key : X → ℕ) (c : X → X) (rows : List X) → changed_rows key c [] rows ≡ rows
changed_none key c [] = refl
changed_none key c (r ∷ rows) = ap (λ rs. r ∷ rs) (changed_none key c rows)

-- one row, which is that of the first number or of none of the others
at : {X : Type 0} (c : X → X) (r : X) (first later : Bool) → (first ≡ true → later ≡ false) → cond later (c (cond first (c r) r)) (cond first (c r) r) ≡ cond (first || later) (c r) r
at c r true later f = ap (λ l. cond l (c (c r)) (c r)) (f refl)
at c r false later f = refl

-- the first number, and then the others
pub changed_first : {X : Type 0} (key : X → ℕ) (c : X → X) → ((r : X) → key (c r) ≡ key r) → (n : ℕ) (ns : List ℕ) → is_in ns n ≡ false → (rows : List X) → changed_rows key c ns (with_change key n c rows) ≡ changed_rows key c (n ∷ ns) rows
changed_first key c k n ns lacks [] = refl
changed_first {X} key c k n ns lacks (r ∷ rows) =
    ap (λ x. x ∷ changed_rows key c ns (with_change key n c rows)) here ∙ ap (λ rs. whole ∷ rs) (changed_first key c k n ns lacks rows)
  where
    new : X
    new = if key r == n then c r else r

    whole : X
    whole = if is_in (n ∷ ns) (key r) then c r else r

    here : (if is_in ns (key new) then c new else new) ≡ whole
    here =
        ap (λ j. cond (is_in ns j) (c new) new) (changed_key key n c k (key r == n) r)
        ∙ (at c r (key r == n) (is_in ns (key r)) (λ e. subst (λ j. is_in ns j ≡ false) (sym (eq_is _ _ e)) lacks)
        ∙ ap (λ b. cond (b || is_in ns (key r)) (c r) r) (nat_eq_equiv.symm (key r) n))
