-- A reader comes to each record in its order, and stops at the closed gate after them.
use Rattle.std.proofs.Common.{◌≡◌, ◌≢◌, ℕ, ◌+◌, ◌-◌, ◌^◌, ◌≤◌, ◌<◌, ⊎_elim, Bool, true, false, cond, List, [], ◌∷◌, ◌++◌, length, get_or, drop, refl, sym, ◌∙◌, ap, arith, append_assoc, length-append}
use Rattle.std.specs.Prelude.{not, ◌&&◌, nat_eq, nat_le, nat_lt, None, Some, Ok, Err}
use Rattle.std.proofs.lemmas.Bool.{le-leb, lt-ltb, eq-eqb}
use Rattle.std.proofs.lemmas.Bool.Decides.{eqb_tells}
use Rattle.std.proofs.lemmas.List.{drop_at, get_or-append_right}
use Rattle.byteorder.specs.Endian.{little_number, little_bytes}
use Rattle.byteorder.specs.Numbers.{little_number-reads_back}
use Rattle.fsrm_base.proofs.TestLaws.{both_true}
use Rattle.fsrm_model.specs.values.Limits.{longest_entry}
use Rattle.fsrm_journal.specs.Next.{length_at, has_length, next_length, with_body, record_at}
use Rattle.fsrm_outside.specs.Parts.{Parts, part_of}
use Rattle.fsrm_journal.specs.Records.{counted, records, Log, Holds}
use Rattle.fsrm_journal.proofs.Files.{records-append}
use Rattle.fsrm_journal.proofs.Numbers.{tells_some}

pub second : {A : Type 0} (a b : Bool) (x y z : A) → a ≡ true → b ≡ false → cond (not a) x (cond (not b) y z) ≡ y
second true false x y z p q = refl
second true true x y z p q = absurd (cc)
second false b x y z p q = absurd (cc)

pub fourth : {A : Type 0} (a b c : Bool) (w x y z : A) → a ≡ true → b ≡ true → c ≡ true → cond (not a) w (cond (not b) x (cond (not c) y z)) ≡ z
fourth true true true w x y z p q r = refl
fourth true true false w x y z p q r = absurd (cc)
fourth true false c w x y z p q r = absurd (cc)
fourth false b c w x y z p q r = absurd (cc)

pub gate_at : (front rest : List ℕ) (gate : ℕ) → get_or (front ++ gate ∷ rest) (length front) 0 ≡ gate
gate_at front rest gate =
    let none : length front - length front ≡ 0 = omega arith in
    get_or-append_right front (gate ∷ rest) (length front) (length front) 0 refl (omega arith) ∙ ap (λ (k : ℕ). get_or (gate ∷ rest) k 0) none

there : (front rest : List ℕ) (gate : ℕ) → nat_lt (length front) (length (front ++ gate ∷ rest)) ≡ true
there front rest gate = lt-ltb (length front) (length (front ++ gate ∷ rest)) (omega (arith, length-append front (gate ∷ rest)))

-- at a closed gate there is no record
pub closed_there : (front rest : List ℕ) (gate : ℕ) → gate ≢ 1 → record_at (front ++ gate ∷ rest) (length front) ≡ Ok None
closed_there front rest gate closed =
    let half = front ++ gate ∷ rest in
    let shut : nat_eq (get_or half (length front) 0) 1 ≡ false = ⊎_elim (λ yes. absurd (closed (sym (gate_at front rest gate) ∙ yes.1))) (λ other. other.0) (eqb_tells (get_or half (length front) 0) 1) in
    ap (with_body half (length front)) (second (nat_lt (length front) (length half)) (nat_eq (get_or half (length front) 0) 1) (Err (length front)) (Ok None)
    (cond (not (has_length half (length front))) (Err (length front + 1)) (Ok (Some (length_at half (length front))))) (there front rest gate) shut)

-- after an open one there is the record that stands there
pub record_there : (front body rest : List ℕ) → 1 ≤ length body → length body ≤ longest_entry
    → record_at (front ++ 1 ∷ (counted body ++ rest)) (length front) ≡ Ok (Some (length front + 5, length body))
record_there front body rest some most =
    let place = length front in
    let tail = counted body ++ rest in
    let half = front ++ 1 ∷ tail in
    let after : drop (place + 1) half ≡ tail =
    ap (drop (place + 1)) (sym (append_assoc front (1 ∷ []) tail)) ∙ drop_at (front ++ 1 ∷ []) tail (place + 1) (omega (arith, length-append front (1 ∷ []))) in
    let few : length body < 256 ^ 4 = omega (arith, most) in
    let n : length_at half place ≡ length body =
    ap (little_number 4) (after ∙ append_assoc (little_bytes 4 (length body)) body rest) ∙ little_number-reads_back 4 (length body) (body ++ rest) few in
    let size : length half ≡ place + 5 + length body + length rest = omega (arith, length-append front (1 ∷ tail), length-append (counted body) rest) in
    let has : has_length half place ≡ true =
    both_true (nat_le (place + 5) (length half)) (nat_le 1 (length_at half place) && nat_le (length_at half place) longest_entry)
    (le-leb (place + 5) (length half) (omega (arith, size)))
    (both_true (nat_le 1 (length_at half place)) (nat_le (length_at half place) longest_entry) (le-leb 1 (length_at half place) (omega (arith, n, some))) (le-leb (length_at half place) longest_entry (omega (arith, n, most)))) in
    let next : next_length half place ≡ Ok (Some (length body)) =
    fourth (nat_lt place (length half)) (nat_eq (get_or half place 0) 1) (has_length half place) (Err place) (Ok None) (Err (place + 1)) (Ok (Some (length_at half place)))
    (there front tail 1) (eq-eqb (get_or half place 0) 1 (gate_at front tail 1)) has
    ∙ ap (λ (k : ℕ). Ok (Some k)) n in
    tells_some half place (length body) next (omega (arith, size))

pub held_there : (log : Log) (before after : List (List ℕ)) (body : List ℕ) (parts : Parts) → Holds log (before ++ body ∷ after) parts → 1 ≤ length body → length body ≤ longest_entry
    → record_at (part_of log.ruling parts) (length (log.lead ++ records before)) ≡ Ok (Some (length (log.lead ++ records before) + 5, length body))
held_there log before after body parts h some most =
    let front = log.lead ++ records before in
    let rest = records after ++ h.gate ∷ h.rest in
    let split : part_of log.ruling parts ≡ front ++ 1 ∷ (counted body ++ rest) =
    h.split ∙ ap (λ (l : List ℕ). log.lead ++ l ++ h.gate ∷ h.rest) (records-append before (body ∷ after)) ∙ regroup log.lead (records before) (counted body) (records after) h.gate h.rest in
    ap (λ (half : List ℕ). record_at half (length front)) split ∙ record_there front body rest some most
  where
    regroup : (lead old one more : List ℕ) (gate : ℕ) (rest : List ℕ) → lead ++ (old ++ (1 ∷ one ++ more)) ++ gate ∷ rest ≡ (lead ++ old) ++ 1 ∷ (one ++ (more ++ gate ∷ rest))
    regroup lead old one more gate rest = simp append_assoc

pub ended_there : (log : Log) (bodies : List (List ℕ)) (parts : Parts) → Holds log bodies parts → record_at (part_of log.ruling parts) (length (log.lead ++ records bodies)) ≡ Ok None
ended_there log bodies parts h =
    ap (λ (half : List ℕ). record_at half (length (log.lead ++ records bodies))) h.split ∙ closed_there (log.lead ++ records bodies) h.rest h.gate h.closed

-- a reader stops at a closed gate
pub closed_next : (front rest : List ℕ) (gate : ℕ) → gate ≢ 1 → next_length (front ++ gate ∷ rest) (length front) ≡ Ok None
closed_next front rest gate closed =
    let half = front ++ gate ∷ rest in
    let shut : nat_eq (get_or half (length front) 0) 1 ≡ false = ⊎_elim (λ yes. absurd (closed (sym (gate_at front rest gate) ∙ yes.1))) (λ other. other.0) (eqb_tells (get_or half (length front) 0) 1) in
    second (nat_lt (length front) (length half)) (nat_eq (get_or half (length front) 0) 1) (Err (length front)) (Ok None)
    (cond (not (has_length half (length front))) (Err (length front + 1)) (Ok (Some (length_at half (length front))))) (there front rest gate) shut
