-- After a switch.
use Rattle.std.proofs.Common.{◌≡◌, inl, inr, ℕ, ◌+◌, ◌≤◌, Bool, Some, List, ◌∷◌, ◌++◌, length, take, refl, sym, ◌∙◌, ap, subst, arith, append_assoc, length-append}
use Rattle.std.specs.Prelude.{Option, None, Ok, slice_index}
use Rattle.std.proofs.lemmas.List.{take-append-le}
use Rattle.fsrm_outside.specs.Parts.{Parts, part_of, other}
use Rattle.fsrm_outside.specs.declared.traits.Part.{Part}
use Rattle.fsrm_journal.specs.Heads.{head_of, is_open, generation_at}
use Rattle.fsrm_journal.specs.Halves.{IsNext, IsRetired, head_tail, Certain, Follows, Knows, Ruled, Switched}
use Rattle.fsrm_journal.specs.Next.{next_length}
use Rattle.fsrm_journal.specs.Opened.{judged_parts, IsOpened, ReadsOn, StandsOn}
use Rattle.fsrm_journal.specs.Records.{records, Log, Holds}
use Rattle.fsrm_journal.specs.declared.heads.Head.{Head}
use Rattle.fsrm_journal.specs.declared.journal.Journal.{Journal}
use Rattle.fsrm_journal.proofs.HeadBytes.{spelled, generation_back}
use Rattle.fsrm_journal.proofs.NextLaws.{closed_next, gate_at}
use Rattle.fsrm_journal.proofs.Walks.{settled_at}
use Rattle.fsrm_journal.proofs.Turns.{back, fresh_is, judged_same}

-- there is one generation after another
one_next : (old m n : ℕ) → IsNext old m → IsNext old n → m ≡ n
one_next old m n (inl a) (inl b) = omega (arith, a.1, b.1)
one_next old m n (inl a) (inr b) = absurd (omega (arith, a.0, b.0))
one_next old m n (inr a) (inl b) = absurd (omega (arith, a.0, b.0))
one_next old m n (inr a) (inr b) = omega (arith, a.1, b.1)

pub switched_now : {D : Type 0} (reads : D → Option Parts) (clock : D → Option ℕ) (images : D → ℕ → Parts → Type 0) {r : Part} {half image : List ℕ} {head : Head} {still : Bool} {now : Parts} → (disk : D) (generation : ℕ) → Follows half head → head.image ≡ length image
    → generation ≡ generation_at (head_of half) → Certain reads clock images now disk → Ruled r half head image still now
    → (journal : Journal) → journal.ruling ≡ other r → IsNext generation journal.generation → journal.beside_open ≡ still → journal.end ≡ 48 + length image → Switched reads clock images half head image journal disk
switched_now reads clock images {r} {half} {image} {head} {still} {now} disk generation f whole at certain ruled journal rules next beside end =
    let j = journal.ruling in
    let split : part_of j now ≡ 1 ∷ (head_tail head ++ (image ++ 0 ∷ ruled.rest)) = ap (λ (x : Part). part_of x now) rules ∙ ruled.split in
    let is : judged_parts now ≡ Ok j = ruled.rules ∙ ap (λ (x : Part). Ok x) (sym rules) in
    let front = spelled head ++ image in
    let size : length (spelled head) ≡ 48 = refl in
    let long : length front ≡ journal.end = omega (arith, end, size, length-append (spelled head) image) in
    let none : next_length (part_of j now) journal.end ≡ Ok None =
    ap (λ (l : List ℕ). next_length l journal.end) split ∙ ap (next_length (front ++ 0 ∷ ruled.rest)) (sym long) ∙ closed_next front ruled.rest 0 (λ one. absurd (omega arith)) in
    let generations : journal.generation ≡ head.generation = one_next generation journal.generation head.generation next (subst (λ (n : ℕ). IsNext n head.generation) (sym at) f.next) in
    record {
      parts = now;
      certain = certain;
      knows = record {
        rules = is;
        generation = generations ∙ sym (generation_back head f.legal) ∙ ap (λ (l : List ℕ). generation_at (head_of l)) (sym split);
        beside = beside ∙ ruled.beside ∙ ap (λ (l : List ℕ). is_open (head_of l)) (sym (back r now)) ∙ ap (λ (x : Part). is_open (head_of (part_of (other x) now))) (sym rules);
      };
      fresh = fresh_is j head image ruled.rest now f.legal whole split is;
      retired = subst (λ (l : List ℕ). IsRetired half l) (sym (back r now) ∙ ap (λ (x : Part). part_of (other x) now) (sym rules)) ruled.retired;
      at = end;
      gate = ap (λ (l : List ℕ). slice_index l journal.end) split ∙ ap (λ (k : ℕ). slice_index (front ++ 0 ∷ ruled.rest) k) (sym long) ∙ gate_at front ruled.rest 0;
      settled = settled_at reads clock images disk j journal.end now certain.told (λ t i told left. certain.told ∙ ap (λ (p : Parts). Some p) (sym (certain.only t i told left))) none;
    }

-- what is known from the heads that were read
pub knows_opened : (parts : Parts) (journal : Journal) (head : Head) → IsOpened parts journal head → Knows parts journal
knows_opened parts journal head o = record { rules = o.rules; generation = o.generation ∙ ap (λ (h : Head). h.generation) o.says; beside = o.beside }

pub knows_read : (parts : Parts) (before after : Journal) → ReadsOn before after → Knows parts before → Knows parts after
knows_read parts before after on k = record {
  rules = k.rules ∙ ap (λ (x : Part). Ok x) (sym on.ruling);
  generation = on.generation ∙ k.generation ∙ ap (λ (x : Part). generation_at (head_of (part_of x parts))) (sym on.ruling);
  beside = on.beside ∙ k.beside ∙ ap (λ (x : Part). is_open (head_of (part_of (other x) parts))) (sym on.ruling);
}

-- records that are added leave the heads
heads_stay : (log : Log) (bodies : List (List ℕ)) (parts : Parts) → Holds log bodies parts → 48 ≤ length log.lead → head_of (part_of log.ruling parts) ≡ take 48 log.lead
heads_stay log bodies parts h long = ap (take 48) (h.split ∙ append_assoc log.lead (records bodies) (h.gate ∷ h.rest)) ∙ take-append-le 48 log.lead (records bodies ++ h.gate ∷ h.rest) long

-- and so all that the journal knows
pub knows_on : (log : Log) (bodies more : List (List ℕ)) (old new : Parts) (before after : Journal) → Holds log bodies old → Holds log more new → 48 ≤ length log.lead → before.ruling ≡ log.ruling → StandsOn before after → Knows old before → Knows new after
knows_on log bodies more old new before after was is long rules on k =
    let r = before.ruling in
    let here : head_of (part_of log.ruling new) ≡ head_of (part_of log.ruling old) = heads_stay log more new is long ∙ sym (heads_stay log bodies old was long) in
    let there : head_of (part_of (other log.ruling) new) ≡ head_of (part_of (other log.ruling) old) = ap head_of (is.same ∙ sym was.same) in
    let here' : head_of (part_of r new) ≡ head_of (part_of r old) = ap (λ (x : Part). head_of (part_of x new)) rules ∙ here ∙ ap (λ (x : Part). head_of (part_of x old)) (sym rules) in
    let there' : head_of (part_of (other r) new) ≡ head_of (part_of (other r) old) = ap (λ (x : Part). head_of (part_of (other x) new)) rules ∙ there ∙ ap (λ (x : Part). head_of (part_of (other x) old)) (sym rules) in
    record {
      rules = judged_same r old new here' there' ∙ k.rules ∙ ap (λ (x : Part). Ok x) (sym on.ruling);
      generation = on.generation ∙ k.generation ∙ ap generation_at (sym here') ∙ ap (λ (x : Part). generation_at (head_of (part_of x new))) (sym on.ruling);
      beside = on.beside ∙ k.beside ∙ ap is_open (sym there') ∙ ap (λ (x : Part). is_open (head_of (part_of (other x) new))) (sym on.ruling);
    }
