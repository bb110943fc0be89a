-- Reading values one after the other, as a loop does.
use Rattle.std.proofs.Common.{◌≡◌, ℕ, suc, ◌-◌, ◌+◌, ◌≤◌, ◌<◌, List, [], ◌∷◌, ◌++◌, length, Ok, Err, refl, sym, ap, ◌∙◌, append_assoc, arith}
use Rattle.std.proofs.lemmas.List.{append-nil}
use Rattle.record_fields.specs.declared.flaw.FieldFault.{FieldFault}
use Rattle.record_fields.specs.declared.flaw.FieldFault.TheVariants.{NoMemory, Flawed}
use Rattle.record_fields.specs.Formats.{Read, ◌>>=◌, Format, items_at}
use Rattle.record_fields.specs.Readers.{Fails}
use Rattle.record_fields.specs.declared.flaw.Flaw.TheVariants.{Illegal}
use Rattle.record_fields.proofs.ReadLaws.{ok_more}
use Rattle.record_fields.specs.Laws.{Exact, AreBytes}
use Rattle.record_fields.specs.Pieces.{with_front}

regrouped : {X : Type 0} (front : List X) (x : X) (read : Read (List X)) → with_front front (read >>= λ xs. Ok (x ∷ xs.0, xs.1)) ≡ with_front (front ++ x ∷ []) read
regrouped front x (Ok y) = ap (λ xs. Ok (xs, y.1)) (simp append_assoc)
regrouped front x (Err flaw) = refl

pub begins : {X : Type 0} (read : Read (List X)) → with_front [] read ≡ read
begins (Ok x) = refl
begins (Err flaw) = refl

pub goes_on : {X : Type 0} (f : Format X) (front : List X) (count i : ℕ) (bytes : List ℕ) (x : X) (after : List ℕ) (total : Read (List X)) → i < count → f.read bytes ≡ Ok (x, after)
    → with_front front (items_at f (count - i) bytes) ≡ total → with_front (front ++ x ∷ []) (items_at f (count - (i + 1)) after) ≡ total
unfolding items_at
goes_on f front count i bytes x after total lt e so_far =
    let k : count - i ≡ suc (count - (i + 1)) = omega arith in
    let one : with_front front (items_at f (count - i) bytes) ≡ with_front (front ++ x ∷ []) (items_at f (count - (i + 1)) after) = rw (k, e) (regrouped front x (items_at f (count - (i + 1)) after)) in
    sym one ∙ so_far

pub fails : {X : Type 0} (f : Format X) (fault : FieldFault) (front : List X) (count i : ℕ) (bytes : List ℕ) (total : Read (List X)) → i < count → Fails fault (f.read bytes)
    → with_front front (items_at f (count - i) bytes) ≡ total → Fails fault total
unfolding items_at
fails f NoMemory front count i bytes total lt e so_far = tt
fails f (Flawed flaw) front count i bytes total lt e so_far =
    let k : count - i ≡ suc (count - (i + 1)) = omega arith in
    let one : with_front front (items_at f (count - i) bytes) ≡ Err flaw = rw (k, e) refl in
    sym so_far ∙ one

pub ends : {X : Type 0} (f : Format X) (front : List X) (count i : ℕ) (bytes : List ℕ) (total : Read (List X)) → count ≤ i → with_front front (items_at f (count - i) bytes) ≡ total → total ≡ Ok (front, bytes)
unfolding items_at
ends f front count i bytes total le so_far =
    let k : count - i ≡ 0 = omega arith in
    let one : with_front front (items_at f (count - i) bytes) ≡ Ok (front, bytes) = rw k (ap (λ xs. Ok (xs, bytes)) (append-nil front)) in
    sym so_far ∙ one

-- ---- in pieces: whatever follows the bytes that are there
abbrev pub Continues : {X : Type 0} → Format X → List X → ℕ → List ℕ → List X → ℕ → List ℕ → Type 0
Continues f front count bytes items still rest = (more : List ℕ) → with_front items (items_at f still (rest ++ more)) ≡ with_front front (items_at f count (bytes ++ more))

pub continues_on : {X : Type 0} (f : Format X) → Exact f → (front items : List X) (count still next : ℕ) (bytes rest : List ℕ) (x : X) (after : List ℕ) → AreBytes rest → still ≡ suc next → f.read rest ≡ Ok (x, after)
    → Continues f front count bytes items still rest → Continues f front count bytes (items ++ x ∷ []) next after
unfolding items_at
continues_on f law front items count still next bytes rest x after h k read so_far = λ more.
    let one : with_front items (items_at f still (rest ++ more)) ≡ with_front (items ++ x ∷ []) (items_at f next (after ++ more)) =
    rw (k, ok_more f law rest more x after h read) (regrouped items x (items_at f next (after ++ more))) in
    sym one ∙ so_far more

-- a value that isn't legal isn't legal, whatever follows
pub breaks : {X : Type 0} (f : Format X) → Exact f → (front items : List X) (count still next : ℕ) (bytes rest : List ℕ) (left : ℕ) → AreBytes rest → still ≡ suc next → f.read rest ≡ Err (Illegal left)
    → Continues f front count bytes items still rest → (more : List ℕ) → with_front front (items_at f count (bytes ++ more)) ≡ Err (Illegal (left + length more))
unfolding items_at
breaks f law front items count still next bytes rest left h k read so_far more =
    let one : with_front items (items_at f still (rest ++ more)) ≡ Err (Illegal (left + length more)) = rw (k, law.illegal rest more left h read) refl in
    sym (so_far more) ∙ one
