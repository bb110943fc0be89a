-- Which half rules while the other is written, and after it was opened.
use Rattle.std.proofs.Common.{◌≡◌, ◌≢◌, ◌⊎◌, inl, inr, ⊎_elim, ℕ, ◌+◌, ◌-◌, ◌^◌, ◌≤◌, ◌<◌, Bool, true, false, cond, List, [], ◌∷◌, ◌++◌, length, get_or, take, drop, refl, sym, ◌∙◌, ap, subst, arith, length-append}
use Rattle.std.specs.Prelude.{Option, None, Some, Result, Ok, Err, not, ◌||◌, nat_eq, nat_lt}
use Rattle.std.proofs.lemmas.Bool.{cases_eq, cases_lt, eqb-true, eqb-false, ltb-true, ltb-false, lt-ltb, le-ltb, ne_eqb}
use Rattle.std.proofs.lemmas.List.{take_at, take-take}
use Rattle.fsrm_outside.specs.Changes.{Torn}
use Rattle.fsrm_outside.specs.Parts.{Parts, part_of, other}
use Rattle.fsrm_outside.specs.declared.traits.Part.{Part}
use Rattle.fsrm_outside.specs.declared.traits.Part.TheVariants.{Zero, One}
use Rattle.fsrm_journal.specs.Heads.{head_of, head_fault, half_fault, is_open, generation_at, judged, unless_damaged}
use Rattle.fsrm_journal.specs.HeadSays.{head_says}
use Rattle.fsrm_journal.specs.Halves.{head_tail, AllButGate, Stays, Fresh, StaysOrFresh, Shut, Follows, OpenBeside}
use Rattle.fsrm_journal.specs.Legal.{IsLegal}
use Rattle.fsrm_journal.specs.Next.{record_at}
use Rattle.fsrm_journal.specs.Opened.{judged_parts}
use Rattle.fsrm_journal.specs.declared.fault.JournalFault.{JournalFault}
use Rattle.fsrm_journal.specs.declared.fault.JournalFault.TheVariants.{NoStore, Damaged}
use Rattle.fsrm_journal.specs.declared.heads.Head.{Head}
use Rattle.fsrm_journal.proofs.HeadBytes.{spelled, spelled_sound, spelled_says, generation_back}
use Rattle.fsrm_journal.proofs.NextLaws.{closed_there}

pub back : (r : Part) (p : Parts) → part_of (other (other r)) p ≡ part_of r p
back Zero p = refl
back One p = refl

-- what both heads say, by the tests that are made of them
abbrev judge : (a b : Bool) (f g : Option ℕ) (same less : Bool) → Result Part JournalFault
judge a b f g same less =
    cond (a || b)
    (unless_damaged Zero f (unless_damaged One g (cond (not b) (Ok Zero) (cond (not a) (Ok One) (cond same (Err (Damaged One 16)) (cond less (Ok One) (Ok Zero)))))))
    (Err NoStore)

-- the half r rules by its head and that of the other one
pub record Wins (r : Part) (parts : Parts) : Type 0 where
  pub sound : half_fault (head_of (part_of r parts)) ≡ None
  pub beside : half_fault (head_of (part_of (other r) parts)) ≡ None
  pub opened : is_open (head_of (part_of r parts)) ≡ true
  pub lesser : (is_open (head_of (part_of (other r) parts)) ≡ false) ⊎ (generation_at (head_of (part_of (other r) parts)) < generation_at (head_of (part_of r parts)))

zero_alone : (a b : Bool) (f g : Option ℕ) (same less : Bool) → a ≡ true → b ≡ false → f ≡ None → g ≡ None → judge a b f g same less ≡ Ok Zero
zero_alone a b f g same less p q s t = rw (p, q, s, t) refl

one_alone : (a b : Bool) (f g : Option ℕ) (same less : Bool) → a ≡ false → b ≡ true → f ≡ None → g ≡ None → judge a b f g same less ≡ Ok One
one_alone a b f g same less p q s t = rw (p, q, s, t) refl

zero_greater : (a b : Bool) (f g : Option ℕ) (same less : Bool) → a ≡ true → b ≡ true → f ≡ None → g ≡ None → same ≡ false → less ≡ false → judge a b f g same less ≡ Ok Zero
zero_greater a b f g same less p q s t u v = rw (p, q, s, t, u, v) refl

one_greater : (a b : Bool) (f g : Option ℕ) (same less : Bool) → a ≡ true → b ≡ true → f ≡ None → g ≡ None → same ≡ false → less ≡ true → judge a b f g same less ≡ Ok One
one_greater a b f g same less p q s t u v = rw (p, q, s, t, u, v) refl

not_equal : (m n : ℕ) → (m < n) ⊎ (n < m) → nat_eq m n ≡ false
not_equal m n apart = go (nat_eq m n) refl
  where
    go : (e : Bool) → nat_eq m n ≡ e → nat_eq m n ≡ false
    go false is = is
    go true is = let same = eqb-true m n is in absurd (⊎_elim (λ less. omega (arith, less, same)) (λ more. omega (arith, more, same)) apart)

-- so it rules
pub wins_rules : (r : Part) (parts : Parts) → Wins r parts → judged_parts parts ≡ Ok r
wins_rules Zero parts w = go (is_open (head_of parts.one)) refl w.lesser
  where
    go : (b : Bool) → is_open (head_of parts.one) ≡ b → (is_open (head_of parts.one) ≡ false) ⊎ (generation_at (head_of parts.one) < generation_at (head_of parts.zero)) → judged_parts parts ≡ Ok Zero
    go false is lesser = zero_alone (is_open (head_of parts.zero)) (is_open (head_of parts.one)) (half_fault (head_of parts.zero)) (half_fault (head_of parts.one))
        (nat_eq (generation_at (head_of parts.zero)) (generation_at (head_of parts.one))) (nat_lt (generation_at (head_of parts.zero)) (generation_at (head_of parts.one))) w.opened is w.sound w.beside
    go true is (inl shut) = absurd (cc (is, shut))
    go true is (inr less) = zero_greater (is_open (head_of parts.zero)) (is_open (head_of parts.one)) (half_fault (head_of parts.zero)) (half_fault (head_of parts.one))
        (nat_eq (generation_at (head_of parts.zero)) (generation_at (head_of parts.one))) (nat_lt (generation_at (head_of parts.zero)) (generation_at (head_of parts.one))) w.opened is w.sound w.beside
        (not_equal (generation_at (head_of parts.zero)) (generation_at (head_of parts.one)) (inr less)) (le-ltb (generation_at (head_of parts.zero)) (generation_at (head_of parts.one)) (omega (arith, less)))
wins_rules One parts w = go (is_open (head_of parts.zero)) refl w.lesser
  where
    go : (a : Bool) → is_open (head_of parts.zero) ≡ a → (is_open (head_of parts.zero) ≡ false) ⊎ (generation_at (head_of parts.zero) < generation_at (head_of parts.one)) → judged_parts parts ≡ Ok One
    go false is lesser = one_alone (is_open (head_of parts.zero)) (is_open (head_of parts.one)) (half_fault (head_of parts.zero)) (half_fault (head_of parts.one))
        (nat_eq (generation_at (head_of parts.zero)) (generation_at (head_of parts.one))) (nat_lt (generation_at (head_of parts.zero)) (generation_at (head_of parts.one))) is w.opened w.beside w.sound
    go true is (inl shut) = absurd (cc (is, shut))
    go true is (inr less) = one_greater (is_open (head_of parts.zero)) (is_open (head_of parts.one)) (half_fault (head_of parts.zero)) (half_fault (head_of parts.one))
        (nat_eq (generation_at (head_of parts.zero)) (generation_at (head_of parts.one))) (nat_lt (generation_at (head_of parts.zero)) (generation_at (head_of parts.one))) is w.opened w.beside w.sound
        (not_equal (generation_at (head_of parts.zero)) (generation_at (head_of parts.one)) (inl less)) (lt-ltb (generation_at (head_of parts.zero)) (generation_at (head_of parts.one)) less)

-- the tests by which a half rules
judge_zero : (a b : Bool) (f g : Option ℕ) (same less : Bool) → judge a b f g same less ≡ Ok Zero → (f ≡ None) × (g ≡ None) × (a ≡ true) × ((b ≡ false) ⊎ ((same ≡ false) × (less ≡ false)))
judge_zero false false f g same less is = absurd (cc)
judge_zero true b (Some p) g same less is = absurd (cc)
judge_zero false true (Some p) g same less is = absurd (cc)
judge_zero true b None (Some q) same less is = absurd (cc)
judge_zero false true None (Some q) same less is = absurd (cc)
judge_zero false true None None same less is = absurd (cc)
judge_zero true false None None same less is = (refl, refl, refl, inl refl)
judge_zero true true None None true less is = absurd (cc)
judge_zero true true None None false true is = absurd (cc)
judge_zero true true None None false false is = (refl, refl, refl, inr (refl, refl))

judge_one : (a b : Bool) (f g : Option ℕ) (same less : Bool) → judge a b f g same less ≡ Ok One → (f ≡ None) × (g ≡ None) × (b ≡ true) × ((a ≡ false) ⊎ (less ≡ true))
judge_one false false f g same less is = absurd (cc)
judge_one true b (Some p) g same less is = absurd (cc)
judge_one false true (Some p) g same less is = absurd (cc)
judge_one true b None (Some q) same less is = absurd (cc)
judge_one false true None (Some q) same less is = absurd (cc)
judge_one false true None None same less is = (refl, refl, refl, inl refl)
judge_one true false None None same less is = absurd (cc)
judge_one true true None None true less is = absurd (cc)
judge_one true true None None false true is = (refl, refl, refl, inr refl)
judge_one true true None None false false is = absurd (cc)

-- the gate of the half that rules is open, and its head is as it should be
pub zero_judged : (zero one : List ℕ) → judged zero one ≡ Ok Zero → (half_fault zero ≡ None) × (is_open zero ≡ true)
zero_judged zero one is =
    let t = judge_zero (is_open zero) (is_open one) (half_fault zero) (half_fault one) (nat_eq (generation_at zero) (generation_at one)) (nat_lt (generation_at zero) (generation_at one)) is in
    (t.0, t.2)

pub one_judged : (zero one : List ℕ) → judged zero one ≡ Ok One → (half_fault one ≡ None) × (is_open one ≡ true)
one_judged zero one is =
    let t = judge_one (is_open zero) (is_open one) (half_fault zero) (half_fault one) (nat_eq (generation_at zero) (generation_at one)) (nat_lt (generation_at zero) (generation_at one)) is in
    (t.1, t.2)

below : (m n : ℕ) → nat_eq m n ≡ false → nat_lt m n ≡ false → n < m
below m n differ no_less = ⊎_elim (λ less. less) (λ more. absurd (eqb-false m n differ (omega (arith, more, ltb-false m n no_less)))) (cases_lt n m)

pub rules_wins : (r : Part) (parts : Parts) → judged_parts parts ≡ Ok r → Wins r parts
rules_wins Zero parts is =
    let t = judge_zero (is_open (head_of parts.zero)) (is_open (head_of parts.one)) (half_fault (head_of parts.zero)) (half_fault (head_of parts.one))
    (nat_eq (generation_at (head_of parts.zero)) (generation_at (head_of parts.one))) (nat_lt (generation_at (head_of parts.zero)) (generation_at (head_of parts.one))) is in
    record { sound = t.0; beside = t.1; opened = t.2; lesser = ⊎_elim (λ shut. inl shut) (λ both. inr (below (generation_at (head_of parts.zero)) (generation_at (head_of parts.one)) both.0 both.1)) t.3 }
rules_wins One parts is =
    let t = judge_one (is_open (head_of parts.zero)) (is_open (head_of parts.one)) (half_fault (head_of parts.zero)) (half_fault (head_of parts.one))
    (nat_eq (generation_at (head_of parts.zero)) (generation_at (head_of parts.one))) (nat_lt (generation_at (head_of parts.zero)) (generation_at (head_of parts.one))) is in
    record { sound = t.1; beside = t.0; opened = t.2; lesser = ⊎_elim (λ shut. inl shut) (λ less. inr (ltb-true (generation_at (head_of parts.zero)) (generation_at (head_of parts.one)) less)) t.3 }

-- the same heads, the same ruling half
pub judged_same : (r : Part) (old new : Parts) → head_of (part_of r new) ≡ head_of (part_of r old) → head_of (part_of (other r) new) ≡ head_of (part_of (other r) old) → judged_parts new ≡ judged_parts old
judged_same Zero old new here there = ap (λ (l : List ℕ). judged l (head_of new.one)) here ∙ ap (λ (l : List ℕ). judged (head_of old.zero) l) there
judged_same One old new here there = ap (λ (l : List ℕ). judged l (head_of new.one)) there ∙ ap (λ (l : List ℕ). judged (head_of old.zero) l) here

no_some : (n : ℕ) → Some n ≡ None → ⊥
no_some n is = cc

-- a half without a fault has its gate
pub has_gate : (half : List ℕ) → half_fault (head_of half) ≡ None → (gate : ℕ) × (rest : List ℕ) × (half ≡ gate ∷ rest)
has_gate [] none = absurd (no_some 0 none)
has_gate (gate ∷ rest) none = (gate, rest, refl)

pub gate_open : (gate : ℕ) (rest : List ℕ) → is_open (head_of (gate ∷ rest)) ≡ true → gate ≡ 1
gate_open gate rest is = eqb-true gate 1 is

pub gate_shut : (gate : ℕ) (rest : List ℕ) → is_open (head_of (gate ∷ rest)) ≡ false → gate ≢ 1
gate_shut gate rest is = eqb-false gate 1 is

pub shut_gate : (gate : ℕ) (rest : List ℕ) → gate ≢ 1 → is_open (head_of (gate ∷ rest)) ≡ false
shut_gate gate rest closed = go (nat_eq gate 1) refl
  where
    go : (e : Bool) → nat_eq gate 1 ≡ e → nat_eq gate 1 ≡ false
    go false is = is
    go true is = absurd (closed (eqb-true gate 1 is))

-- a closed half has no fault
shut_sound : (gate : ℕ) (rest : List ℕ) → gate ≢ 1 → half_fault (head_of (gate ∷ rest)) ≡ None
shut_sound gate rest closed =
    let head = head_of (gate ∷ rest) in
    let some : nat_eq (length head) 0 ≡ false = ne_eqb (length head) 0 (λ none. absurd (omega (arith, none))) in
    ap (λ (b : Bool). cond b (Some 0) (cond (is_open head) (head_fault head) None)) some ∙ ap (λ (b : Bool). cond b (head_fault head) None) (shut_gate gate rest closed)

-- beside a closed gate a half rules
pub shut_wins : (r : Part) (half : List ℕ) (parts : Parts) → is_open (head_of half) ≡ true → half_fault (head_of half) ≡ None → Shut r half parts → Wins r parts
shut_wins r half parts opened sound s = record {
  sound = ap (λ (l : List ℕ). half_fault (head_of l)) s.same ∙ sound;
  beside = ap (λ (l : List ℕ). half_fault (head_of l)) s.split ∙ shut_sound s.gate s.rest s.closed;
  opened = ap (λ (l : List ℕ). is_open (head_of l)) s.same ∙ opened;
  lesser = inl (ap (λ (l : List ℕ). is_open (head_of l)) s.split ∙ shut_gate s.gate s.rest s.closed);
}

pub shut_stays : (r : Part) (half : List ℕ) (parts : Parts) → is_open (head_of half) ≡ true → half_fault (head_of half) ≡ None → Shut r half parts → Stays r half parts
shut_stays r half parts opened sound s = record { rules = wins_rules r parts (shut_wins r half parts opened sound s); same = s.same }

-- the first byte stays if a later one is written
first_same : (l : List ℕ) (gate : ℕ) (rest : List ℕ) → take 1 l ≡ take 1 (gate ∷ rest) → (more : List ℕ) × (l ≡ gate ∷ more)
first_same [] gate rest same = absurd (cc)
first_same (x ∷ l) gate rest same = (l, ap (λ (y : ℕ). y ∷ l) (ap (λ (ys : List ℕ). get_or ys 0 0) same))

pub shut_torn : (r o : Part) (half : List ℕ) (place n : ℕ) (old new : Parts) → o ≡ other r → 1 ≤ place → Shut r half old → Torn o place n old new → Shut r half new
shut_torn r o half place n old new is after s torn =
    let t = subst (λ (x : Part). Torn x place n old new) is torn in
    let first : take 1 (part_of (other r) new) ≡ take 1 (s.gate ∷ s.rest) =
    sym (take-take 1 place (part_of (other r) new) after) ∙ ap (take 1) t.before ∙ take-take 1 place (part_of (other r) old) after ∙ ap (take 1) s.split in
    let f = first_same (part_of (other r) new) s.gate s.rest first in
    record { same = sym (back r new) ∙ t.other_part ∙ back r old ∙ s.same; gate = s.gate; rest = f.0; split = f.1; closed = s.closed }

-- the first byte was written, or cut short
pub first_torn : (o : Part) (old new : Parts) (gate : ℕ) (rest : List ℕ) → part_of o old ≡ gate ∷ rest → Torn o 0 1 old new → (left : ℕ) × (part_of o new ≡ left ∷ rest)
first_torn o old new gate rest is torn = go (part_of o new) (omega (arith, ap length is, torn.no_shorter)) (torn.after ∙ ap (drop (0 + 1)) is)
  where
    go : (l : List ℕ) → 1 ≤ length l → drop (0 + 1) l ≡ drop (0 + 1) (gate ∷ rest) → (left : ℕ) × (l ≡ left ∷ rest)
    go [] some same = absurd (omega arith)
    go (x ∷ l) some same = (x, ap (λ (ys : List ℕ). x ∷ ys) same)

-- the gate of the half that doesn't rule is closed
pub closing : (r o : Part) (old new : Parts) → o ≡ other r → judged_parts old ≡ Ok r → is_open (head_of (part_of (other r) old)) ≡ true → Torn o 0 1 old new → Stays r (part_of r old) new
closing r o old new is rules opened torn =
    let t = subst (λ (x : Part). Torn x 0 1 old new) is torn in
    let w = rules_wins r old rules in
    let g = has_gate (part_of (other r) old) w.beside in
    let one : g.0 ≡ 1 = gate_open g.0 g.1 (ap (λ (l : List ℕ). is_open (head_of l)) (sym g.2) ∙ opened) in
    let at = first_torn (other r) old new g.0 g.1 g.2 t in
    let same : part_of r new ≡ part_of r old = sym (back r new) ∙ t.other_part ∙ back r old in
    elim (cases_eq at.0 1) [
      | inl left ↦ record {
        rules = judged_same r old new (ap head_of same) (ap head_of (at.1 ∙ ap (λ (n : ℕ). n ∷ g.1) (left ∙ sym one) ∙ sym g.2)) ∙ rules;
        same = same;
      }
      | inr shut ↦ shut_stays r (part_of r old) new w.opened w.sound (record { same = same; gate = at.0; rest = g.1; split = at.1; closed = shut })
    ]

-- the half that was written is there whole
pub fresh_is : (o : Part) (head : Head) (image rest : List ℕ) (parts : Parts) → IsLegal head → head.image ≡ length image → part_of o parts ≡ 1 ∷ (head_tail head ++ (image ++ 0 ∷ rest)) → judged_parts parts ≡ Ok o → Fresh o head image parts
fresh_is o head image rest parts legal whole split rules =
    let front = spelled head ++ image in
    let size : length (spelled head) ≡ 48 = refl in
    let long : length front ≡ 48 + length image = omega (arith, size, length-append (spelled head) image) in
    record {
      rules = rules;
      says = ap (λ (l : List ℕ). head_says (head_of l)) split ∙ spelled_says head legal;
      holds = ap (λ (l : List ℕ). take (length image) (drop 48 l)) split ∙ take_at image (0 ∷ rest) (length image) refl;
      whole = whole;
      none = ap (λ (l : List ℕ). record_at l (48 + length image)) split ∙ ap (record_at (front ++ 0 ∷ rest)) (sym long) ∙ closed_there front rest 0 (λ is. absurd (omega arith));
    }

-- two open halves, of which the first one's generation is the greatest or not
pub new_rules : (r : Part) (half : List ℕ) (head : Head) (rest : List ℕ) (parts : Parts) → Follows half head → generation_at (head_of half) < 2 ^ 64 - 1 → part_of r parts ≡ half → part_of (other r) parts ≡ 1 ∷ (head_tail head ++ rest)
    → judged_parts parts ≡ Ok (other r)
new_rules r half head rest parts f small same split =
    let more : head.generation ≡ generation_at (head_of half) + 1 = ⊎_elim (λ m. m.1) (λ last. absurd (omega (arith, last.0, small))) f.next in
    let here : generation_at (head_of (part_of (other r) parts)) ≡ head.generation = ap (λ (l : List ℕ). generation_at (head_of l)) split ∙ generation_back head f.legal in
    let there : generation_at (head_of (part_of (other (other r)) parts)) ≡ generation_at (head_of half) = ap (λ (l : List ℕ). generation_at (head_of l)) (back r parts ∙ same) in
    wins_rules (other r) parts (record {
      sound = ap (λ (l : List ℕ). half_fault (head_of l)) split ∙ spelled_sound head f.legal;
      beside = ap (λ (l : List ℕ). half_fault (head_of l)) (back r parts ∙ same) ∙ f.sound;
      opened = ap (λ (l : List ℕ). is_open (head_of l)) split;
      lesser = inr (omega (arith, more, here, there));
    })

old_rules : (r : Part) (half : List ℕ) (head : Head) (rest : List ℕ) (parts : Parts) → Follows half head → generation_at (head_of half) ≡ 2 ^ 64 - 1 → part_of r parts ≡ half → part_of (other r) parts ≡ 1 ∷ (head_tail head ++ rest)
    → judged_parts parts ≡ Ok r
old_rules r half head rest parts f greatest same split =
    let first : head.generation ≡ 1 = ⊎_elim (λ m. absurd (omega (arith, m.0, greatest))) (λ last. last.1) f.next in
    let there : generation_at (head_of (part_of (other r) parts)) ≡ head.generation = ap (λ (l : List ℕ). generation_at (head_of l)) split ∙ generation_back head f.legal in
    let here : generation_at (head_of (part_of r parts)) ≡ generation_at (head_of half) = ap (λ (l : List ℕ). generation_at (head_of l)) same in
    wins_rules r parts (record {
      sound = ap (λ (l : List ℕ). half_fault (head_of l)) same ∙ f.sound;
      beside = ap (λ (l : List ℕ). half_fault (head_of l)) split ∙ spelled_sound head f.legal;
      opened = ap (λ (l : List ℕ). is_open (head_of l)) same ∙ f.opened;
      lesser = inr (omega (arith, first, here, there, greatest));
    })

-- while both are open
pub both_open : (r : Part) (half : List ℕ) (head : Head) (image : List ℕ) (parts : Parts) → Follows half head → head.image ≡ length image → OpenBeside r half head image parts → StaysOrFresh r half head image parts
both_open r half head image parts f whole o =
    ⊎_elim
    (λ more. inr (fresh_is (other r) head image o.rest parts f.legal whole o.split (new_rules r half head (image ++ 0 ∷ o.rest) parts f more.0 o.same o.split)))
    (λ last. inl (record { rules = old_rules r half head (image ++ 0 ∷ o.rest) parts f last.0 o.same o.split; same = o.same }))
    f.next

-- before the other half's gate is opened, or after it
abbrev pub ShutOrOpen : Part → List ℕ → Head → List ℕ → Parts → Type 0
ShutOrOpen ruling half head image parts = Shut ruling half parts ⊎ OpenBeside ruling half head image parts

-- the gate of the new half is opened, and all else is there
pub opening_whole : (r o : Part) (half : List ℕ) (head : Head) (image : List ℕ) (gate : ℕ) (rest : List ℕ) (old new : Parts) → o ≡ other r
    → part_of r old ≡ half → part_of (other r) old ≡ gate ∷ (head_tail head ++ (image ++ 0 ∷ rest)) → Torn o 0 1 old new → AllButGate r half head image rest new
opening_whole r o half head image gate rest old new is same split torn =
    let t = subst (λ (x : Part). Torn x 0 1 old new) is torn in
    let at = first_torn (other r) old new gate (head_tail head ++ (image ++ 0 ∷ rest)) split t in
    record { same = sym (back r new) ∙ t.other_part ∙ back r old ∙ same; gate = at.0; split = at.1 }

-- the gate is open or not
pub shut_or_open : (r : Part) (half : List ℕ) (head : Head) (image rest : List ℕ) (parts : Parts) → AllButGate r half head image rest parts → ShutOrOpen r half head image parts
shut_or_open r half head image rest parts a = elim (cases_eq a.gate 1) [
  | inl one ↦ inr (record { same = a.same; rest = rest; split = a.split ∙ ap (λ (n : ℕ). n ∷ (head_tail head ++ (image ++ 0 ∷ rest))) one })
  | inr shut ↦ inl (record { same = a.same; gate = a.gate; rest = head_tail head ++ (image ++ 0 ∷ rest); split = a.split; closed = shut })
]

-- of both the old half rules, or the new one
pub either_rules : (r : Part) (half : List ℕ) (head : Head) (image : List ℕ) (parts : Parts) → Follows half head → head.image ≡ length image → ShutOrOpen r half head image parts → StaysOrFresh r half head image parts
either_rules r half head image parts f whole (inl shut) = inl (shut_stays r half parts f.opened f.sound shut)
either_rules r half head image parts f whole (inr o) = both_open r half head image parts f whole o

-- beside a closed gate the new half rules
pub alone : (r : Part) (head : Head) (image rest : List ℕ) (gate : ℕ) (tail : List ℕ) (parts : Parts) → IsLegal head → part_of (other r) parts ≡ 1 ∷ (head_tail head ++ (image ++ 0 ∷ rest)) → part_of r parts ≡ gate ∷ tail → gate ≢ 1
    → judged_parts parts ≡ Ok (other r)
alone r head image rest gate tail parts legal split is shut =
    wins_rules (other r) parts (shut_wins (other r) (1 ∷ (head_tail head ++ (image ++ 0 ∷ rest))) parts refl (spelled_sound head legal) (record { same = split; gate = gate; rest = tail; split = back r parts ∙ is; closed = shut }))

-- the gate of the half that ruled is closed, after the greatest generation
pub retiring : (r : Part) (half : List ℕ) (head : Head) (image : List ℕ) (old new : Parts) → Follows half head → head.image ≡ length image → OpenBeside r half head image old → Torn r 0 1 old new → StaysOrFresh r half head image new
retiring r half head image old new f whole o torn =
    let g = has_gate half f.sound in
    let one : g.0 ≡ 1 = gate_open g.0 g.1 (ap (λ (l : List ℕ). is_open (head_of l)) (sym g.2) ∙ f.opened) in
    let at = first_torn r old new g.0 g.1 (o.same ∙ g.2) torn in
    let split = torn.other_part ∙ o.split in
    elim (cases_eq at.0 1) [
      | inl left ↦ both_open r half head image new f whole (record { same = at.1 ∙ ap (λ (n : ℕ). n ∷ g.1) (left ∙ sym one) ∙ sym g.2; rest = o.rest; split = split })
      | inr shut ↦ inr (fresh_is (other r) head image o.rest new f.legal whole split (alone r head image o.rest at.0 g.1 new f.legal split at.1 shut))
    ]
