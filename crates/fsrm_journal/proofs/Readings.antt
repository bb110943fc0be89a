-- How far a store was read.
use Rattle.std.proofs.Common.{◌≡◌, ⊎_elim, ℕ, ◌+◌, ◌-◌, ◌^◌, ◌≤◌, ◌<◌, List, [], ◌∷◌, ◌++◌, length, take, drop, refl, sym, ◌∙◌, ap, subst, arith, length-append, length-take, length-drop}
use Rattle.std.specs.Prelude.{min, Option, None, Some, Ok}
use Rattle.std.proofs.lemmas.Bool.{cases_lt}
use Rattle.std.proofs.lemmas.List.{take_all, take-take, drop-drop, drop-take, take-append-drop}
use Rattle.fsrm_outside.specs.Parts.{Parts, part_of}
use Rattle.fsrm_outside.specs.declared.traits.Part.{Part}
use Rattle.fsrm_outside.proofs.Stages.{some_is}
use Rattle.fsrm_journal.specs.Heads.{head_of}
use Rattle.fsrm_journal.specs.HeadSays.{head_says}
use Rattle.fsrm_journal.specs.Next.{record_at}
use Rattle.fsrm_journal.specs.Opened.{IsOpened, ReadsOn}
use Rattle.fsrm_journal.specs.Reading.{Comes}
use Rattle.fsrm_outside.specs.Settling.{Stable}
use Rattle.fsrm_journal.specs.Sight.{Sees}
use Rattle.fsrm_journal.specs.Stores.{image_there, ReadUpTo, StandsAt, Stands}
use Rattle.fsrm_journal.specs.declared.heads.Head.{Head}
use Rattle.fsrm_journal.specs.declared.journal.Journal.{Journal}
use Rattle.fsrm_journal.proofs.Switched.{knows_opened, knows_read}
use Rattle.fsrm_journal.proofs.Tails.{stands_after}
use Rattle.fsrm_journal.proofs.Walks.{stands, comes_then}

-- the head alone
pub read_head : (parts : Parts) (journal : Journal) (head : Head) → IsOpened parts journal head → Sees (part_of journal.ruling parts) journal → ReadUpTo head [] [] parts journal
read_head parts journal head o sees = record {
  knows = knows_opened parts journal head o;
  says = sym o.says;
  holds = refl;
  within = omega arith;
  comes = sym o.at;
  sees = sees;
  image_end = o.image;
}

-- ---- the image
-- what was asked for, or all that is there
front_of : (piece l : List ℕ) (k : ℕ) → piece ≡ take k l → piece ≡ take (length piece) l
front_of piece l k is =
    let few : length piece ≤ k = omega (arith, ap length is, length-take k l) in
    sym (take_all (length piece) piece (omega arith)) ∙ ap (take (length piece)) is ∙ take-take (length piece) k l few

-- bytes that come next
two_fronts : (a b : ℕ) (l : List ℕ) → take (a + b) l ≡ take a l ++ take b (drop a l)
two_fronts a b l =
    sym (take-append-drop a (take (a + b) l)) ∙ ap (λ (m : List ℕ). m ++ drop a (take (a + b) l)) (take-take a (a + b) l (omega arith)) ∙ ap (λ (m : List ℕ). take a l ++ m) (drop-take a b l)

pub read_piece : (head : Head) (image piece : List ℕ) (parts : Parts) (before after : Journal) (k : ℕ) → ReadUpTo head image [] parts before → ReadsOn before after → Sees (part_of before.ruling parts) after → after.end ≡ before.end + length piece
    → piece ≡ take k (drop before.end (part_of before.ruling parts)) → k ≤ before.image_end - before.end → ReadUpTo head (image ++ piece) [] parts after
read_piece head image piece parts before after k r on sees end is within =
    let half = part_of before.ruling parts in
    let l = drop before.end half in
    let more = length-append image piece in
    let at : 48 + length image ≡ before.end = r.comes in
    let few : length piece ≤ before.image_end - before.end = omega (arith, ap length is, length-take k l, within) in
    let next : take (length piece) (drop (length image) (drop 48 half)) ≡ piece =
    ap (take (length piece)) (drop-drop (length image) 48 half ∙ ap (λ (n : ℕ). drop n half) at) ∙ sym (front_of piece l k is) in
    let holds : take (length (image ++ piece)) (drop 48 half) ≡ image ++ piece =
    ap (λ (n : ℕ). take n (drop 48 half)) more ∙ two_fronts (length image) (length piece) (drop 48 half) ∙ ap (λ (m : List ℕ). m ++ take (length piece) (drop (length image) (drop 48 half))) r.holds ∙ ap (λ (m : List ℕ). image ++ m) next in
    let same : part_of after.ruling parts ≡ half = ap (λ (x : Part). part_of x parts) on.ruling in
    record {
      knows = knows_read parts before after on r.knows;
      says = ap (λ (m : List ℕ). head_says (head_of m)) same ∙ r.says;
      holds = ap (λ (m : List ℕ). take (length (image ++ piece)) (drop 48 m)) same ∙ holds;
      within = omega (arith, more, few, r.image_end, at, r.within);
      comes = omega (arith, more, at, end);
      sees = subst (λ (m : List ℕ). Sees m after) (sym same) sees;
      image_end = on.image_end ∙ r.image_end;
    }

-- if none come, all are there that come
pub none_left : (head : Head) (image piece : List ℕ) (parts : Parts) (journal : Journal) (k room : ℕ) → ReadUpTo head image [] parts journal → journal.end ≤ 2 ^ 62 → 0 < room
    → piece ≡ take k (drop journal.end (part_of journal.ruling parts)) → k ≡ min (min journal.image_end journal.len - journal.end) room → length piece ≡ 0 → image ≡ image_there head (part_of journal.ruling parts)
none_left head image piece parts journal k room r low some is size none =
    let half = part_of journal.ruling parts in
    let l = drop 48 half in
    let at : 48 + length image ≡ journal.end = r.comes in
    let left = length half - journal.end in
    let nothing : min k left ≡ 0 = omega (arith, ap length is, none, length-take k (drop journal.end half), length-drop journal.end half) in
    ⊎_elim
    (λ more.
    let whole : length image ≡ head.image = omega (arith, more, nothing, size, some, r.image_end, r.within, r.sees.long, at, low) in
    sym r.holds ∙ ap (λ (n : ℕ). take n l) whole)
    (λ short.
    let few : length l ≤ length image = omega (arith, short, length-drop 48 half, at) in
    sym r.holds ∙ take_all (length image) l few ∙ sym (take_all head.image l (omega (arith, few, r.within))))
    (cases_lt 0 left)

-- ---- records
-- one more
pub read_body : (head : Head) (image : List ℕ) (bodies : List (List ℕ)) (body : List ℕ) (parts : Parts) (before after : Journal) (place n : ℕ) → ReadUpTo head image bodies parts before → ReadsOn before after → Sees (part_of before.ruling parts) after
    → record_at (part_of before.ruling parts) before.end ≡ Ok (Some (place, n)) → body ≡ take n (drop place (part_of before.ruling parts)) → after.end ≡ place + n → ReadUpTo head image (bodies ++ body ∷ []) parts after
read_body head image bodies body parts before after place n r on sees there is end =
    let half = part_of before.ruling parts in
    let e = before.end in
    let s = stands half e place n there in
    let at : place ≡ e + 5 = sym s.1 in
    let long : length body ≡ n = omega (arith, ap length is, length-take n (drop place half), length-drop place half, s.0.whole, at) in
    let found : record_at half e ≡ Ok (Some (e + 5, length body)) = there ∙ ap (λ (p : ℕ). Ok (Some (p, n))) at ∙ ap (λ (m : ℕ). Ok (Some (e + 5, m))) (sym long) in
    let same_body : take (length body) (drop (e + 5) half) ≡ body = ap (λ (m : ℕ). take m (drop (e + 5) half)) long ∙ ap (λ (p : ℕ). take n (drop p half)) (sym at) ∙ sym is in
    let comes : Comes half (48 + length image) (bodies ++ body ∷ []) after.end = comes_then half (48 + length image) e after.end bodies (body ∷ []) r.comes (found, same_body, omega (arith, long, end, at)) in
    let same : part_of after.ruling parts ≡ half = ap (λ (x : Part). part_of x parts) on.ruling in
    record {
      knows = knows_read parts before after on r.knows;
      says = ap (λ (m : List ℕ). head_says (head_of m)) same ∙ r.says;
      holds = ap (λ (m : List ℕ). take (length image) (drop 48 m)) same ∙ r.holds;
      within = r.within;
      comes = subst (λ (m : List ℕ). Comes m (48 + length image) (bodies ++ body ∷ []) after.end) (sym same) comes;
      sees = subst (λ (m : List ℕ). Sees m after) (sym same) sees;
      image_end = on.image_end ∙ r.image_end;
    }

-- nothing but the place was changed, and that not either
pub read_still : (head : Head) (image : List ℕ) (bodies : List (List ℕ)) (parts : Parts) (before after : Journal) → ReadUpTo head image bodies parts before → ReadsOn before after → Sees (part_of before.ruling parts) after → after.end ≡ before.end
    → ReadUpTo head image bodies parts after
read_still head image bodies parts before after r on sees end =
    let same : part_of after.ruling parts ≡ part_of before.ruling parts = ap (λ (x : Part). part_of x parts) on.ruling in
    record {
      knows = knows_read parts before after on r.knows;
      says = ap (λ (m : List ℕ). head_says (head_of m)) same ∙ r.says;
      holds = ap (λ (m : List ℕ). take (length image) (drop 48 m)) same ∙ r.holds;
      within = r.within;
      comes = subst (λ (m : List ℕ). Comes m (48 + length image) bodies after.end) (sym same) (subst (λ (n : ℕ). Comes (part_of before.ruling parts) (48 + length image) bodies n) (sym end) r.comes);
      sees = subst (λ (m : List ℕ). Sees m after) (sym same) sees;
      image_end = on.image_end ∙ r.image_end;
    }

-- all of it
pub read_all : (head : Head) (image : List ℕ) (bodies : List (List ℕ)) (parts : Parts) (journal : Journal) → ReadUpTo head image bodies parts journal → journal.end ≤ 2 ^ 62 → head.image ≡ length image → record_at (part_of journal.ruling parts) journal.end ≡ Ok None
    → StandsAt head image bodies parts journal
read_all head image bodies parts journal r low whole none =
    let end = stands_after (part_of journal.ruling parts) (48 + length image) bodies journal.end r.comes in
    record {
      store = record { rules = r.knows.rules; says = r.says; holds = r.holds; whole = whole; reads = record { end = journal.end; comes = r.comes; stops = none } };
      knows = r.knows;
      end = end;
      image_end = omega (arith, r.image_end, whole, end, low);
    }

pub stands_stable : {D : Type 0} (reads : D → Option Parts) (clock : D → Option ℕ) (images : D → ℕ → Parts → Type 0) (head : Head) (image : List ℕ) (bodies : List (List ℕ)) (parts : Parts) (journal : Journal) (disk : D)
    → reads disk ≡ Some parts → Stable reads clock images disk → StandsAt head image bodies parts journal → Stands reads clock images head image bodies journal disk
stands_stable reads clock images head image bodies parts journal disk told stable at = record {
  parts = parts;
  certain = record { told = told; only = λ t i here left. some_is (sym (stable t i here left) ∙ told) };
  at = at;
}
