-- The text of turns that are joined, and the rows after them.
use Rattle.std.proofs.Common.{◌≡◌, ℕ, ◌≤◌, Some, List, [], ◌∷◌, ◌++◌, length, refl, sym, ◌∙◌, ap, arith, append_assoc, length-append}
use Rattle.std.proofs.lemmas.List.{append-nil, append_cancel_left}
use Rattle.std.specs.Prelude.{Option}
use Rattle.std.specs.Io.KnownBytes.{append_known}
use Rattle.fsrm_model.specs.declared.row.Capacity.{Capacity}
use Rattle.fsrm_model.specs.declared.row.Rows.{Rows}
use Rattle.fsrm_outside.specs.Parts.{Parts}
use Rattle.fsrm_outside.specs.Runs.{CoversMore}
use Rattle.fsrm_outside.specs.Shown.{IsFront}
use Rattle.fsrm_outside.proofs.Stages.{some_is}
use Rattle.fsrm_session.specs.Covers.{Covers}
use Rattle.fsrm_session.specs.Grows.{Grows}
use Rattle.fsrm_session.specs.Turns.{Turn, rows_after, text_of}

-- ---- more turns
pub text_of-append : (R : Rows) (a b : List Turn) → text_of R (a ++ b) ≡ text_of R a ++ text_of (rows_after R a) b
text_of-append R [] b = refl
text_of-append R (t ∷ a) b = ap (λ (l : List ℕ). t.said R ++ l) (text_of-append (t.after R) a b) ∙ sym (append_assoc (t.said R) (text_of (t.after R) a) (text_of (rows_after (t.after R) a) b))

pub rows_after-append : (R : Rows) (a b : List Turn) → rows_after R (a ++ b) ≡ rows_after (rows_after R a) b
rows_after-append R [] b = refl
rows_after-append R (t ∷ a) b = rows_after-append (t.after R) a b

pub text_one : (R : Rows) (turns : List Turn) (turn : Turn) → text_of R (turns ++ turn ∷ []) ≡ text_of R turns ++ turn.said (rows_after R turns)
text_one R turns turn = text_of-append R turns (turn ∷ []) ∙ ap (λ (l : List ℕ). text_of R turns ++ l) (append-nil (turn.said (rows_after R turns)))

pub rows_one : (R : Rows) (turns : List Turn) (turn : Turn) → rows_after R (turns ++ turn ∷ []) ≡ turn.after (rows_after R turns)
rows_one R turns turn = rows_after-append R turns (turn ∷ [])

-- ---- fronts
-- the text of more turns begins with that of fewer
pub text_front : (R : Rows) (a b : List Turn) → IsFront (text_of R a) (text_of R (a ++ b))
text_front R a b = (text_of (rows_after R a) b, text_of-append R a b)

pub front_then : (a b c : List ℕ) → IsFront a b → IsFront b c → IsFront a c
front_then a b c p q = (p.0 ++ q.0, q.1 ∙ ap (λ (l : List ℕ). l ++ q.0) p.1 ∙ append_assoc a p.0 q.0)

pub front_same : (a b : List ℕ) → a ≡ b → IsFront a b
front_same a b e = ([], sym e ∙ sym (append-nil a))

pub front_length : (a b : List ℕ) → IsFront a b → length a ≤ length b
front_length a b p = omega (arith, ap length p.1, length-append a p.0)

-- A device took something, and what it didn't take is left: so it took a front of what waited.
pub front_taken : (shown waiting left : List ℕ) (before after : Option (List ℕ)) → before ≡ Some shown → append_known after left ≡ append_known before waiting → Grows before after → (front : List ℕ) × (after ≡ Some (shown ++ front)) × IsFront front waiting
front_taken shown waiting left before after told same grows =
    let more = grows.more in
    let now : after ≡ Some (shown ++ more) = grows.shown ∙ ap (λ (o : Option (List ℕ)). append_known o more) told in
    let whole : Some ((shown ++ more) ++ left) ≡ Some (shown ++ waiting) = ap (λ (o : Option (List ℕ)). append_known o left) (sym now) ∙ same ∙ ap (λ (o : Option (List ℕ)). append_known o waiting) told in
    (more, now, (left, append_cancel_left shown waiting (more ++ left) (sym (some_is whole) ∙ append_assoc shown more left)))

-- ---- what parts cover
pub covers_longer : (K : Capacity) (R : Rows) (turns more : List Turn) (n : ℕ) (parts : Parts) → Covers K R turns n parts → Covers K R (turns ++ more) n parts
covers_longer K R turns more n parts c = record {
  done = c.done;
  rest = c.rest ++ more;
  are = ap (λ (l : List Turn). l ++ more) c.are ∙ append_assoc c.done c.rest more;
  holds = c.holds;
  acknowledged = c.acknowledged;
}

pub covers_on : (K : Capacity) (R : Rows) (turns more : List Turn) (before n : ℕ) (parts : Parts) → CoversMore (Covers K R turns) before n parts → CoversMore (Covers K R (turns ++ more)) before n parts
covers_on K R turns more before n parts h shown is = covers_longer K R turns more shown parts (h shown is)
