-- A reader comes to the same records in halves that begin alike, and to no others.
use Rattle.std.proofs.Common.{◌≡◌, ◌≢◌, ℕ, suc, ◌+◌, ◌-◌, ◌≤◌, ◌<◌, Bool, true, false, cond, List, [], ◌∷◌, ◌++◌, length, get_or, take, drop, refl, sym, ◌∙◌, ap, subst, arith, append_assoc, length-append, length-take, take-append-drop}
use Rattle.std.specs.Prelude.{All, not, ◌&&◌, nat_eq, nat_le, nat_lt, Option, None, Some, Result, Ok, Err}
use Rattle.std.proofs.lemmas.Bool.{le-leb, lt-ltb, eq-eqb, leb-true, ltb-true, eqb-true}
use Rattle.std.proofs.lemmas.List.{append-nil, take_at, drop_at, take-take, drop-take, drop_more, get_or-take}
use Rattle.byteorder.specs.Endian.{little_number, little_bytes}
use Rattle.byteorder.specs.Numbers.{little_from-take}
use Rattle.fsrm_model.specs.values.Limits.{longest_entry}
use Rattle.fsrm_journal.specs.Next.{length_at, has_length, next_length, with_body, record_at}
use Rattle.fsrm_outside.specs.Parts.{Parts, part_of}
use Rattle.fsrm_outside.specs.declared.traits.Part.{Part}
use Rattle.fsrm_journal.specs.Reading.{IsBody, Comes, Read, log_at}
use Rattle.fsrm_outside.specs.Settling.{Stable}
use Rattle.fsrm_journal.specs.Records.{counted, records, Log, Holds, Settled}
use Rattle.fsrm_journal.proofs.Files.{records-append}
use Rattle.fsrm_base.proofs.TestLaws.{both, both_true}
use Rattle.fsrm_journal.proofs.NextLaws.{fourth, held_there, ended_there}
use Rattle.fsrm_journal.proofs.Numbers.{tells_some}

-- a record that stands at a place
pub record Stands (half : List ℕ) (place n : ℕ) : Type 0 where
  pub gate : get_or half place 0 ≡ 1
  pub says : length_at half place ≡ n
  pub some : 1 ≤ n
  pub most : n ≤ longest_entry
  pub whole : place + 5 + n ≤ length half

next_inv : (half : List ℕ) (place : ℕ) (a b c : Bool) (len p n : ℕ) → with_body half place (cond (not a) (Err place) (cond (not b) (Ok None) (cond (not c) (Err (place + 1)) (Ok (Some len))))) ≡ Ok (Some (p, n))
    → (a ≡ true) × (b ≡ true) × (c ≡ true) × (with_body half place (Ok (Some len)) ≡ Ok (Some (p, n)))
next_inv half place true true true len p n is = (refl, refl, refl, is)
next_inv half place true true false len p n is = absurd (cc)
next_inv half place true false c len p n is = absurd (cc)
next_inv half place false b c len p n is = absurd (cc)

-- what was found there
place_found : Result (Option (ℕ × ℕ)) ℕ → ℕ
place_found (Ok (Some found)) = found.0
place_found (Ok None) = 0
place_found (Err place) = 0

size_found : Result (Option (ℕ × ℕ)) ℕ → ℕ
size_found (Ok (Some found)) = found.1
size_found (Ok None) = 0
size_found (Err place) = 0

some_found : (p q n m : ℕ) → (r : Result (Option (ℕ × ℕ)) ℕ) → r ≡ Ok (Some (p, n)) → r ≡ Ok (Some (q, m)) → (p ≡ q) × (n ≡ m)
unfolding place_found size_found
some_found p q n m r a b = (ap place_found (sym a ∙ b), ap size_found (sym a ∙ b))

body_inv : (half : List ℕ) (place len p n : ℕ) (d : Bool) → (r : Result (Option (ℕ × ℕ)) ℕ) → r ≡ cond d (Ok (Some (place + 5, len))) (Err (place + 5)) → r ≡ Ok (Some (p, n)) → (d ≡ true) × (place + 5 ≡ p) × (len ≡ n)
body_inv half place len p n true r a b = (refl, (some_found (place + 5) p len n r a b).0, (some_found (place + 5) p len n r a b).1)
body_inv half place len p n false r a b = absurd (cc)

-- what a reader comes to stands there
pub stands : (half : List ℕ) (place p n : ℕ) → record_at half place ≡ Ok (Some (p, n)) → Stands half place n × (place + 5 ≡ p)
stands half place p n is =
    let i = next_inv half place (nat_lt place (length half)) (nat_eq (get_or half place 0) 1) (has_length half place) (length_at half place) p n is in
    let b = body_inv half place (length_at half place) p n (nat_le (place + 5 + length_at half place) (length half)) (with_body half place (Ok (Some (length_at half place)))) refl i.3 in
    let h = both (nat_le (place + 5) (length half)) (nat_le 1 (length_at half place) && nat_le (length_at half place) longest_entry) i.2 in
    let l = both (nat_le 1 (length_at half place)) (nat_le (length_at half place) longest_entry) h.1 in
    let some = leb-true 1 (length_at half place) l.0 in
    let most = leb-true (length_at half place) longest_entry l.1 in
    let whole = leb-true (place + 5 + length_at half place) (length half) b.0 in (
      record { gate = eqb-true (get_or half place 0) 1 i.1; says = b.2; some = omega (arith, some, b.2); most = omega (arith, most, b.2); whole = omega (arith, whole, b.2) },
      b.1,
    )

-- and what stands there is come to
pub there_stands : (half : List ℕ) (place n : ℕ) → Stands half place n → record_at half place ≡ Ok (Some (place + 5, n))
there_stands half place n s =
    let has : has_length half place ≡ true =
    both_true (nat_le (place + 5) (length half)) (nat_le 1 (length_at half place) && nat_le (length_at half place) longest_entry)
    (le-leb (place + 5) (length half) (omega (arith, s.whole)))
    (both_true (nat_le 1 (length_at half place)) (nat_le (length_at half place) longest_entry) (le-leb 1 (length_at half place) (omega (arith, s.says, s.some))) (le-leb (length_at half place) longest_entry (omega (arith, s.says, s.most)))) in
    let next : next_length half place ≡ Ok (Some n) =
    fourth (nat_lt place (length half)) (nat_eq (get_or half place 0) 1) (has_length half place) (Err place) (Ok None) (Err (place + 1)) (Ok (Some (length_at half place)))
    (lt-ltb place (length half) (omega (arith, s.whole))) (eq-eqb (get_or half place 0) 1 s.gate) has
    ∙ ap (λ (k : ℕ). Ok (Some k)) s.says in
    tells_some half place n next s.whole

-- a number is decided by its bytes
number_within : (half : List ℕ) (m place : ℕ) → place + 5 ≤ m → little_number 4 (drop (place + 1) (take m half)) ≡ little_number 4 (drop (place + 1) half)
number_within half m place within =
    let rest = m - (place + 1) in
    let is : place + 1 + rest ≡ m = omega arith in
    ap (λ (k : ℕ). little_number 4 (drop (place + 1) (take k half))) (sym is) ∙ ap (little_number 4) (drop-take (place + 1) rest half) ∙ little_from-take 0 4 rest (drop (place + 1) half) (omega (arith, is, within))

body_within : (half : List ℕ) (m place n : ℕ) → place + n ≤ m → take n (drop place (take m half)) ≡ take n (drop place half)
body_within half m place n within =
    let rest = m - place in
    let is : place + rest ≡ m = omega arith in
    ap (λ (k : ℕ). take n (drop place (take k half))) (sym is) ∙ ap (take n) (drop-take place rest half) ∙ take-take n rest (drop place half) (omega (arith, is, within))

same_record : (a b : List ℕ) (m place n : ℕ) → take m a ≡ take m b → place + 5 + n ≤ m → m ≤ length b → Stands a place n → Stands b place n
same_record a b m place n same within long s = record {
  gate = sym (get_or-take m b place 0 (omega arith)) ∙ ap (λ (l : List ℕ). get_or l place 0) (sym same) ∙ get_or-take m a place 0 (omega arith) ∙ s.gate;
  says = sym (number_within b m place (omega arith)) ∙ ap (λ (l : List ℕ). little_number 4 (drop (place + 1) l)) (sym same) ∙ number_within a m place (omega arith) ∙ s.says;
  some = s.some;
  most = s.most;
  whole = omega (arith, within, long);
}

same_body : (a b : List ℕ) (m place n : ℕ) → take m a ≡ take m b → place + n ≤ m → take n (drop place b) ≡ take n (drop place a)
same_body a b m place n same within = sym (body_within b m place n within) ∙ ap (λ (l : List ℕ). take n (drop place l)) (sym same) ∙ body_within a m place n within

-- a reader goes on
pub comes_on : (half : List ℕ) (place : ℕ) (bodies : List (List ℕ)) (end : ℕ) → Comes half place bodies end → place ≤ end
comes_on half place [] end comes = omega (arith, comes)
comes_on half place (body ∷ bodies) end comes = omega (arith, comes_on half (place + 5 + length body) bodies end comes.2)

-- a reader comes to the same in a half that begins alike
pub comes_alike : (a b : List ℕ) (m place : ℕ) (bodies : List (List ℕ)) (end : ℕ) → take m a ≡ take m b → end ≤ m → m ≤ length b → Comes a place bodies end → Comes b place bodies end
comes_alike a b m place [] end same within long comes = comes
comes_alike a b m place (body ∷ bodies) end same within long comes =
    let s = (stands a place (place + 5) (length body) comes.0).0 in
    let after = comes_on a (place + 5 + length body) bodies end comes.2 in (
      there_stands b place (length body) (same_record a b m place (length body) same (omega (arith, after, within)) long s),
      same_body a b m (place + 5) (length body) same (omega (arith, after, within)) ∙ comes.1,
      comes_alike a b m (place + 5 + length body) bodies end same within long comes.2,
    )

-- one run of records after another
pub comes_then : (half : List ℕ) (place mid end : ℕ) (a b : List (List ℕ)) → Comes half place a mid → Comes half mid b end → Comes half place (a ++ b) end
comes_then half place mid end [] b first second = subst (λ (k : ℕ). Comes half k b end) (sym first) second
comes_then half place mid end (body ∷ a) b first second = (first.0, first.1, comes_then half (place + 5 + length body) mid end a b first.2 second)

none_some : (r : Result (Option (ℕ × ℕ)) ℕ) (p n : ℕ) → r ≡ Ok None → r ≡ Ok (Some (p, n)) → ⊥
none_some r p n a b = absurd (cc)

-- what a reader comes to is one list
pub one_way : (half : List ℕ) (place : ℕ) (a b : List (List ℕ)) (end stop : ℕ) → Comes half place a end → Comes half place b stop → record_at half end ≡ Ok None → record_at half stop ≡ Ok None → a ≡ b
one_way half place [] [] end stop first second done over = refl
one_way half place [] (body ∷ b) end stop first second done over = absurd (none_some (record_at half place) (place + 5) (length body) (ap (record_at half) first ∙ done) second.0)
one_way half place (body ∷ a) [] end stop first second done over = absurd (none_some (record_at half place) (place + 5) (length body) (ap (record_at half) second ∙ over) first.0)
one_way half place (x ∷ a) (y ∷ b) end stop first second done over =
    let len : length x ≡ length y = (some_found (place + 5) (place + 5) (length x) (length y) (record_at half place) first.0 second.0).1 in
    let same : x ≡ y = sym first.1 ∙ ap (λ (k : ℕ). take k (drop (place + 5) half)) len ∙ second.1 in
    let rest = one_way half (place + 5 + length x) a b end stop first.2 (subst (λ (k : ℕ). Comes half (place + 5 + k) b stop) (sym len) second.2) done over in
    ap (λ (z : List ℕ). z ∷ a) same ∙ ap (λ (l : List (List ℕ)). y ∷ l) rest

pub read_once : (half : List ℕ) (place : ℕ) (a b : List (List ℕ)) → Read half place a → Read half place b → a ≡ b
read_once half place a b first second = one_way half place a b first.end second.end first.comes second.comes first.stops second.stops

all_rest : (body : List ℕ) (bodies : List (List ℕ)) → All IsBody (body ∷ bodies) → All IsBody bodies
all_rest body bodies all k d few = all (suc k) d (omega (arith, few))

-- the body after its length
body_there : (front body rest : List ℕ) → take (length body) (drop (length front + 5) (front ++ 1 ∷ (counted body ++ rest))) ≡ body
body_there front body rest =
    let head = front ++ 1 ∷ little_bytes 4 (length body) in
    let long : length head ≡ length front + 5 = omega (arith, length-append front (1 ∷ little_bytes 4 (length body))) in
    ap (λ (l : List ℕ). take (length body) (drop (length front + 5) l)) (regroup front (little_bytes 4 (length body)) body rest)
    ∙ ap (take (length body)) (drop_at head (body ++ rest) (length front + 5) long) ∙ take_at body rest (length body) refl
  where
    regroup : (f four b r : List ℕ) → f ++ 1 ∷ ((four ++ b) ++ r) ≡ (f ++ 1 ∷ four) ++ (b ++ r)
    regroup f four b r = simp append_assoc

held_body : (log : Log) (before after : List (List ℕ)) (body : List ℕ) (parts : Parts) → Holds log (before ++ body ∷ after) parts
    → take (length body) (drop (length (log.lead ++ records before) + 5) (part_of log.ruling parts)) ≡ body
held_body log before after body parts h =
    let front = log.lead ++ records before in
    let rest = records after ++ h.gate ∷ h.rest in
    let split : part_of log.ruling parts ≡ front ++ 1 ∷ (counted body ++ rest) =
    h.split ∙ ap (λ (l : List ℕ). log.lead ++ l ++ h.gate ∷ h.rest) (records-append before (body ∷ after)) ∙ regroup log.lead (records before) (counted body) (records after) h.gate h.rest in
    ap (λ (half : List ℕ). take (length body) (drop (length front + 5) half)) split ∙ body_there front body rest
  where
    regroup : (lead old one more : List ℕ) (gate : ℕ) (rest : List ℕ) → lead ++ (old ++ (1 ∷ one ++ more)) ++ gate ∷ rest ≡ (lead ++ old) ++ 1 ∷ (one ++ (more ++ gate ∷ rest))
    regroup lead old one more gate rest = simp append_assoc

after_one : (lead : List ℕ) (before : List (List ℕ)) (body : List ℕ) → length (lead ++ records (before ++ body ∷ [])) ≡ length (lead ++ records before) + 5 + length body
after_one lead before body = omega (
  arith,
  ap (λ (l : List ℕ). length (lead ++ l)) (records-append before (body ∷ [])),
  length-append lead (records before ++ records (body ∷ [])),
  length-append (records before) (records (body ∷ [])),
  ap length (append-nil (1 ∷ counted body)),
  length-append lead (records before),
)

-- a reader comes to all that the parts hold
pub all_there : (log : Log) (before after : List (List ℕ)) (parts : Parts) → Holds log (before ++ after) parts → All IsBody after
    → Comes (part_of log.ruling parts) (length (log.lead ++ records before)) after (length (log.lead ++ records (before ++ after)))
all_there log before [] parts h legal = ap (λ (l : List (List ℕ)). length (log.lead ++ records l)) (sym (append-nil before))
all_there log before (body ∷ after) parts h legal =
    let one = legal 0 body (omega arith) in
    let half = part_of log.ruling parts in
    let on : (before ++ body ∷ []) ++ after ≡ before ++ body ∷ after = append_assoc before (body ∷ []) after in
    let rest = all_there log (before ++ body ∷ []) after parts (subst (λ (l : List (List ℕ)). Holds log l parts) (sym on) h) (all_rest body after legal) in (
      held_there log before after body parts h one.some one.most,
      held_body log before after body parts h,
      subst (λ (k : ℕ). Comes half k after (length (log.lead ++ records (before ++ body ∷ after)))) (after_one log.lead before body)
          (subst (λ (l : List (List ℕ)). Comes half (length (log.lead ++ records (before ++ body ∷ []))) after (length (log.lead ++ records l))) on rest),
    )

-- what stood before the place from which records are added is read as before, and then come these
pub reads_all : (log : Log) (place : ℕ) (before bodies : List (List ℕ)) (old parts : Parts) → Holds log [] old → Comes (part_of log.ruling old) place before (length log.lead)
    → Holds log bodies parts → All IsBody bodies → Read (part_of log.ruling parts) place (before ++ bodies)
reads_all log place before bodies old parts was comes h legal =
    let m = length log.lead in
    let a = part_of log.ruling old in
    let b = part_of log.ruling parts in
    let begins : take m a ≡ log.lead = ap (take m) (was.split ∙ append_assoc log.lead [] (was.gate ∷ was.rest)) ∙ take_at log.lead (was.gate ∷ was.rest) m refl in
    let alike : take m b ≡ log.lead = ap (take m) (h.split ∙ append_assoc log.lead (records bodies) (h.gate ∷ h.rest)) ∙ take_at log.lead (records bodies ++ h.gate ∷ h.rest) m refl in
    let long : m ≤ length b = omega (arith, ap length h.split, length-append (log.lead ++ records bodies) (h.gate ∷ h.rest), length-append log.lead (records bodies)) in
    let first = comes_alike a b m place before m (begins ∙ sym alike) (omega arith) long comes in
    let second = all_there log [] bodies parts h legal in
    let second' = subst (λ (k : ℕ). Comes b k bodies (length (log.lead ++ records bodies))) (ap length (append-nil log.lead)) second in
    record { end = length (log.lead ++ records bodies); comes = comes_then b place m (length (log.lead ++ records bodies)) before bodies first second'; stops = ended_there log bodies parts h }

-- at a closed gate
closed_inv : (half : List ℕ) (place : ℕ) (a b c : Bool) (len : ℕ) → (r : Result (Option ℕ) ℕ) → r ≡ cond (not a) (Err place) (cond (not b) (Ok None) (cond (not c) (Err (place + 1)) (Ok (Some len)))) → r ≡ Ok None → (a ≡ true) × (b ≡ false)
closed_inv half place true true true len r e is = absurd (cc)
closed_inv half place true true false len r e is = absurd (cc)
closed_inv half place true false c len r e is = (refl, refl)
closed_inv half place false b c len r e is = absurd (cc)

pub record ClosedAt (half : List ℕ) (place : ℕ) : Type 0 where
  pub within : place < length half
  pub closed : get_or half place 0 ≢ 1

pub closed_at : (half : List ℕ) (place : ℕ) → next_length half place ≡ Ok None → ClosedAt half place
closed_at half place is =
    let i = closed_inv half place (nat_lt place (length half)) (nat_eq (get_or half place 0) 1) (has_length half place) (length_at half place) (next_length half place) refl is in
    record {
      within = ltb-true place (length half) i.0;
      closed = λ one. absurd (cc (i.1, eq-eqb (get_or half place 0) 1 one));
    }

-- where reading stops, records may be added
pub settled_at : {D : Type 0} (reads : D → Option Parts) (clock : D → Option ℕ) (images : D → ℕ → Parts → Type 0) (disk : D) (ruling : Part) (place : ℕ) (parts : Parts) → reads disk ≡ Some parts → Stable reads clock images disk
    → next_length (part_of ruling parts) place ≡ Ok None → Settled reads clock images (log_at ruling place parts) [] ruling place disk
settled_at reads clock images disk ruling place parts told stable none =
    let half = part_of ruling parts in
    let c = closed_at half place none in
    let lead = take place half in
    record {
      parts = parts;
      told = told;
      holds = record {
        gate = get_or half place 0;
        rest = drop (place + 1) half;
        closed = c.closed;
        split = sym (take-append-drop place half) ∙ ap (λ (l : List ℕ). lead ++ l) (drop_more half place 0 c.within) ∙ ap (λ (l : List ℕ). l ++ get_or half place 0 ∷ drop (place + 1) half) (sym (append-nil lead));
        same = refl;
      };
      rules = refl;
      ends = omega (arith, length-take place half, ap length (append-nil lead), c.within);
      only = λ t image at left. some_back image parts (sym (stable t image at left) ∙ told);
    }
  where
    some_back : (a b : Parts) → Some a ≡ Some b → a ≡ b
    some_back a b is = cc
