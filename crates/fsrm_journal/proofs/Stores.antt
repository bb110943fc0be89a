-- What stands for a store, and what the calls on it leave.
use Rattle.std.proofs.Common.{◌≡◌, inl, inr, ℕ, ◌+◌, ◌≤◌, Bool, true, false, cond, List, [], ◌∷◌, ◌++◌, length, take, drop, refl, sym, ◌∙◌, ap, subst, arith, append_assoc, length-append, length-take}
use Rattle.std.specs.Prelude.{All, Option, None, Some, Result, Ok, Err, nat_le}
use Rattle.std.proofs.lemmas.List.{take-append-le, drop-take, append-nil}
use Rattle.std.proofs.lemmas.List.Elements.{All-nil}
use Rattle.fsrm_outside.specs.Parts.{Parts, part_of, other}
use Rattle.fsrm_outside.specs.declared.traits.Part.{Part}
use Rattle.fsrm_outside.proofs.Stages.{later_back, some_is}
use Rattle.fsrm_outside.specs.Kept.{KeepsDisk}
use Rattle.fsrm_outside.specs.Moments.{EachNow}
use Rattle.fsrm_journal.specs.Heads.{head_of, is_open, generation_at}
use Rattle.fsrm_journal.specs.HeadSays.{head_says}
use Rattle.fsrm_journal.specs.Halves.{Filling, Fresh, Knows, Stays, StaysOrFresh, Switched}
use Rattle.fsrm_journal.specs.Next.{next_length, with_body, record_at}
use Rattle.fsrm_journal.specs.Opened.{judged_parts, StandsOn}
use Rattle.fsrm_journal.specs.Reading.{IsBody, Comes, Read, log_at}
use Rattle.fsrm_outside.specs.Settling.{Stable}
use Rattle.fsrm_journal.specs.Records.{records, Log, Holds, HoldsAllOrNone, Settled}
use Rattle.fsrm_journal.specs.Stores.{HoldsStore, HoldsWithOrWithout, HoldsOldOrNew, SameStore, StandsAt, Stands, Changing}
use Rattle.fsrm_journal.specs.declared.fault.JournalFault.{JournalFault}
use Rattle.fsrm_journal.specs.declared.heads.Head.{Head}
use Rattle.fsrm_journal.specs.declared.journal.Journal.{Journal}
use Rattle.fsrm_journal.proofs.Files.{records-append}
use Rattle.fsrm_journal.proofs.GivenUp.{knows_filling}
use Rattle.fsrm_journal.proofs.HeadLaws.{open_whole}
use Rattle.fsrm_journal.proofs.Switched.{knows_on}
use Rattle.fsrm_journal.proofs.Tails.{stands_after}
use Rattle.fsrm_journal.proofs.Turns.{judged_same, rules_wins}
use Rattle.fsrm_journal.proofs.Walks.{read_once, reads_all, settled_at}

-- ---- what parts hold
ok_same : (r q : Part) (j : Result Part JournalFault) → j ≡ Ok r → j ≡ Ok q → r ≡ q
ok_same r q j a b = cc

-- parts hold one store
pub one_store : (parts : Parts) (r q : Part) (head next : Head) (image new : List ℕ) (bodies more : List (List ℕ)) → HoldsStore r head image bodies parts → HoldsStore q next new more parts → SameStore r q head next image new bodies more
one_store parts r q head next image new bodies more a b =
    let rule = ok_same r q (judged_parts parts) a.rules b.rules in
    let heads : head ≡ next = sym a.says ∙ ap (λ (x : Part). head_says (head_of (part_of x parts))) rule ∙ b.says in
    let long : length image ≡ length new = sym a.whole ∙ ap (λ (h : Head). h.image) heads ∙ b.whole in
    let images : image ≡ new = sym a.holds ∙ ap (λ (n : ℕ). take n (drop 48 (part_of r parts))) long ∙ ap (λ (x : Part). take (length new) (drop 48 (part_of x parts))) rule ∙ b.holds in
    let there : Read (part_of q parts) (48 + length new) bodies = subst (λ (n : ℕ). Read (part_of q parts) (48 + n) bodies) long (subst (λ (x : Part). Read (part_of x parts) (48 + length image) bodies) rule a.reads) in
    record { rules = rule; heads = heads; images = images; records = read_once (part_of q parts) (48 + length new) bodies more there b.reads }

-- the half that rules is there up to the end of its head
pub head_whole : (parts : Parts) (r : Part) → judged_parts parts ≡ Ok r → 48 ≤ length (part_of r parts)
head_whole parts r is =
    let w = rules_wins r parts is in
    omega (arith, open_whole (head_of (part_of r parts)) w.sound w.opened, length-take 48 (part_of r parts))

pub fresh_store : (r : Part) (head : Head) (image : List ℕ) (parts : Parts) → Fresh r head image parts → HoldsStore r head image [] parts
fresh_store r head image parts f = record {
  rules = f.rules;
  says = f.says;
  holds = f.holds;
  whole = f.whole;
  reads = record { end = 48 + length image; comes = refl; stops = f.none };
}

pub stays_store : (r : Part) (head : Head) (image : List ℕ) (bodies : List (List ℕ)) (old parts : Parts) → HoldsStore r head image bodies old → Stays r (part_of r old) parts → HoldsStore r head image bodies parts
stays_store r head image bodies old parts h s = record {
  rules = s.rules;
  says = ap (λ (l : List ℕ). head_says (head_of l)) s.same ∙ h.says;
  holds = ap (λ (l : List ℕ). take (length image) (drop 48 l)) s.same ∙ h.holds;
  whole = h.whole;
  reads = subst (λ (l : List ℕ). Read l (48 + length image) bodies) (sym s.same) h.reads;
}

-- ---- records that are added
-- what the half holds up to the place where records are added stays
front_of : (log : Log) (bodies : List (List ℕ)) (parts : Parts) → Holds log bodies parts → (n : ℕ) → n ≤ length log.lead → take n (part_of log.ruling parts) ≡ take n log.lead
front_of log bodies parts h n few = ap (take n) (h.split ∙ append_assoc log.lead (records bodies) (h.gate ∷ h.rest)) ∙ take-append-le n log.lead (records bodies ++ h.gate ∷ h.rest) few

lead_long : (r : Part) (place : ℕ) (old : Parts) → Holds (log_at r place old) [] old → length (take place (part_of r old)) ≡ place
lead_long r place old was =
    let lead = take place (part_of r old) in
    omega (arith, ap length was.split, length-append (lead ++ []) (was.gate ∷ was.rest), ap length (append-nil lead), length-take place (part_of r old))

added_store : (r : Part) (place : ℕ) (head : Head) (image : List ℕ) (bodies held : List (List ℕ)) (old parts : Parts) → HoldsStore r head image bodies old → place ≡ 48 + length image + length (records bodies)
    → Holds (log_at r place old) [] old → Holds (log_at r place old) held parts → All IsBody held → HoldsStore r head image (bodies ++ held) parts
added_store r place head image bodies held old parts store end was now legal =
    let log = log_at r place old in
    let a = part_of r old in
    let b = part_of r parts in
    let lead : length log.lead ≡ place = lead_long r place old was in
    let comes : Comes a (48 + length image) bodies (length log.lead) =
    subst (λ (n : ℕ). Comes a (48 + length image) bodies n) (omega (arith, stands_after a (48 + length image) bodies store.reads.end store.reads.comes, lead, end)) store.reads.comes in
    let long : 48 + length image ≤ length log.lead = omega (arith, lead, end) in
    let heads : head_of b ≡ head_of a = front_of log held parts now 48 (omega (arith, long)) ∙ sym (front_of log [] old was 48 (omega (arith, long))) in
    let beside : head_of (part_of (other r) parts) ≡ head_of (part_of (other r) old) = ap head_of (now.same ∙ sym was.same) in
    let front : take (48 + length image) b ≡ take (48 + length image) a = front_of log held parts now (48 + length image) long ∙ sym (front_of log [] old was (48 + length image) long) in
    record {
      rules = judged_same r old parts heads beside ∙ store.rules;
      says = ap head_says heads ∙ store.says;
      holds = sym (drop-take 48 (length image) b) ∙ ap (drop 48) front ∙ drop-take 48 (length image) a ∙ store.holds;
      whole = store.whole;
      reads = reads_all log (48 + length image) bodies held old parts was comes now legal;
    }

pub none_next : (half : List ℕ) (place : ℕ) (r : Result (Option ℕ) ℕ) → with_body half place r ≡ Ok None → r ≡ Ok None
none_next half place (Err damaged) is = absurd (cc)
none_next half place (Ok None) is = refl
none_next half place (Ok (Some n)) is = absurd (never (nat_le (place + 5 + n) (length half)) is)
  where
    never : (there : Bool) → ◌≡◌ {A = Result (Option (ℕ × ℕ)) ℕ} (cond there (Ok (Some (place + 5, n))) (Err (place + 5))) (Ok None) → ⊥
    never true e = cc
    never false e = cc

-- from the closed gate on records may be added
pub settled_of : {D : Type 0} {reads : D → Option Parts} {clock : D → Option ℕ} {images : D → ℕ → Parts → Type 0} {head : Head} {image : List ℕ} {bodies : List (List ℕ)} {journal : Journal} {disk : D}
    → (s : Stands reads clock images head image bodies journal disk) → Settled reads clock images (log_at journal.ruling journal.end s.parts) [] journal.ruling journal.end disk
settled_of {reads = reads} {clock = clock} {images = images} {image = image} {bodies = bodies} {journal = journal} {disk = disk} s =
    let half = part_of journal.ruling s.parts in
    let r = s.at.store.reads in
    let at : r.end ≡ journal.end = omega (arith, stands_after half (48 + length image) bodies r.end r.comes, s.at.end) in
    let none : next_length half journal.end ≡ Ok None = none_next half journal.end (next_length half journal.end) (ap (record_at half) (sym at) ∙ r.stops) in
    settled_at reads clock images disk journal.ruling journal.end s.parts s.certain.told (λ t i told left. s.certain.told ∙ ap (λ (p : Parts). Some p) (sym (s.certain.only t i told left))) none

held_now : {D : Type 0} {reads : D → Option Parts} {clock : D → Option ℕ} {images : D → ℕ → Parts → Type 0} {head : Head} {image : List ℕ} {bodies : List (List ℕ)} {journal : Journal} {disk : D}
    → (s : Stands reads clock images head image bodies journal disk) → Holds (log_at journal.ruling journal.end s.parts) [] s.parts
held_now {journal = journal} s =
    let t = settled_of s in
    subst (λ (p : Parts). Holds (log_at journal.ruling journal.end s.parts) [] p) (some_is (sym t.told ∙ s.certain.told)) t.holds

pub none_here : (held : List (List ℕ)) → length held ≡ 0 → held ≡ []
none_here [] none = refl
none_here (body ∷ held) none = absurd (omega (arith, none))

-- an image while records are added
pub with_or_without : {D : Type 0} {reads : D → Option Parts} {clock : D → Option ℕ} {images : D → ℕ → Parts → Type 0} {head : Head} {image : List ℕ} {bodies : List (List ℕ)} {journal : Journal} {disk : D} (held : List (List ℕ))
    → (s : Stands reads clock images head image bodies journal disk) → All IsBody held → (i : Parts) → HoldsAllOrNone (log_at journal.ruling journal.end s.parts) [] held i → HoldsWithOrWithout journal.ruling head image bodies held i
with_or_without {head = head} {image = image} {bodies = bodies} {journal = journal} held s legal i (inl h) =
    inl (subst (λ (l : List (List ℕ)). HoldsStore journal.ruling head image l i) (append-nil bodies) (added_store journal.ruling journal.end head image bodies [] s.parts i s.at.store s.at.end (held_now s) h (All-nil IsBody)))
with_or_without {head = head} {image = image} {bodies = bodies} {journal = journal} held s legal i (inr h) =
    inr (added_store journal.ruling journal.end head image bodies held s.parts i s.at.store s.at.end (held_now s) h legal)

-- and before they are
pub without : {D : Type 0} {reads : D → Option Parts} {clock : D → Option ℕ} {images : D → ℕ → Parts → Type 0} {head : Head} {image : List ℕ} {bodies : List (List ℕ)} {journal : Journal} {disk : D} (held : List (List ℕ))
    → (s : Stands reads clock images head image bodies journal disk) → (t : ℕ) (i : Parts) → clock disk ≡ Some t → images disk t i → HoldsWithOrWithout journal.ruling head image bodies held i
without {head = head} {image = image} {bodies = bodies} {journal = journal} held s t i told left =
    inl (subst (λ (p : Parts). HoldsStore journal.ruling head image bodies p) (sym (s.certain.only t i told left)) s.at.store)

-- after they were
pub stands_added : {D : Type 0} {reads : D → Option Parts} {clock : D → Option ℕ} {images : D → ℕ → Parts → Type 0} {head : Head} {image : List ℕ} {bodies : List (List ℕ)} {journal : Journal} {disk : D} (held : List (List ℕ)) (after : Journal) (new : D)
    → (s : Stands reads clock images head image bodies journal disk) → All IsBody held → StandsOn journal after → after.image_end ≡ journal.image_end
    → Settled reads clock images (log_at journal.ruling journal.end s.parts) held after.ruling after.end new → Stands reads clock images head image (bodies ++ held) after new
stands_added {head = head} {image = image} {bodies = bodies} {journal = journal} held after new s legal on image_end n =
    let r = journal.ruling in
    let was = held_now s in
    let lead = take journal.end (part_of r s.parts) in
    let long : length lead ≡ journal.end = lead_long r journal.end s.parts was in
    record {
      parts = n.parts;
      certain = record { told = n.told; only = n.only };
      at = record {
        store = subst (λ (x : Part). HoldsStore x head image (bodies ++ held) n.parts) (sym on.ruling) (added_store r journal.end head image bodies held s.parts n.parts s.at.store s.at.end was n.holds legal);
        knows = knows_on (log_at r journal.end s.parts) [] held s.parts n.parts journal after was n.holds (omega (arith, long, s.at.end)) refl on s.at.knows;
        end = omega (arith, n.ends, length-append lead (records held), long, s.at.end, ap length (records-append bodies held), length-append (records bodies) (records held));
        image_end = image_end ∙ s.at.image_end;
      };
    }

-- nothing is written
knows_still : (parts : Parts) (before after : Journal) → StandsOn before after → Knows parts before → Knows parts after
knows_still parts before after on k = record {
  rules = k.rules ∙ ap (λ (x : Part). Ok x) (sym on.ruling);
  generation = on.generation ∙ k.generation ∙ ap (λ (x : Part). generation_at (head_of (part_of x parts))) (sym on.ruling);
  beside = on.beside ∙ k.beside ∙ ap (λ (x : Part). is_open (head_of (part_of (other x) parts))) (sym on.ruling);
}

pub stands_on : (head : Head) (image : List ℕ) (bodies : List (List ℕ)) (parts : Parts) (before after : Journal) → StandsOn before after → after.end ≡ before.end → after.image_end ≡ before.image_end
    → StandsAt head image bodies parts before → StandsAt head image bodies parts after
stands_on head image bodies parts before after on end image_end s = record {
  store = subst (λ (x : Part). HoldsStore x head image bodies parts) (sym on.ruling) s.store;
  knows = knows_still parts before after on s.knows;
  end = end ∙ s.end;
  image_end = image_end ∙ s.image_end;
}

-- ---- a change to the other half
pub begun : {D : Type 0} {reads : D → Option Parts} {clock : D → Option ℕ} {images : D → ℕ → Parts → Type 0} {head : Head} {image : List ℕ} {bodies : List (List ℕ)} {journal : Journal} {disk : D} (next : Head) (after : Journal) (new : D)
    → (s : Stands reads clock images head image bodies journal disk) → after.ruling ≡ journal.ruling → after.end ≡ journal.end → after.image_end ≡ journal.image_end
    → Filling reads clock images (part_of journal.ruling s.parts) next [] after new → Changing reads clock images head image bodies next [] after new
begun {reads = reads} {clock = clock} {images = images} {head = head} {image = image} {bodies = bodies} next after new s ruling end image_end f = record {
  was = s.parts;
  store = subst (λ (x : Part). HoldsStore x head image bodies s.parts) (sym ruling) s.at.store;
  filling = subst (λ (x : Part). Filling reads clock images (part_of x s.parts) next [] after new) (sym ruling) f;
  end = end ∙ s.at.end;
  image_end = image_end ∙ s.at.image_end;
}

pub goes_on : {D : Type 0} {reads : D → Option Parts} {clock : D → Option ℕ} {images : D → ℕ → Parts → Type 0} {head : Head} {image : List ℕ} {bodies : List (List ℕ)} {next : Head} {front : List ℕ} {journal : Journal} {disk : D} (more : List ℕ) (after : Journal) (new : D)
    → (c : Changing reads clock images head image bodies next front journal disk) → after.ruling ≡ journal.ruling → after.end ≡ journal.end → after.image_end ≡ journal.image_end
    → Filling reads clock images (part_of journal.ruling c.was) next more after new → Changing reads clock images head image bodies next more after new
goes_on {reads = reads} {clock = clock} {images = images} {head = head} {image = image} {bodies = bodies} {next = next} more after new c ruling end image_end f = record {
  was = c.was;
  store = subst (λ (x : Part). HoldsStore x head image bodies c.was) (sym ruling) c.store;
  filling = subst (λ (x : Part). Filling reads clock images (part_of x c.was) next more after new) (sym ruling) f;
  end = end ∙ c.end;
  image_end = image_end ∙ c.image_end;
}

pub old_or_new : (r : Part) (head next : Head) (image new : List ℕ) (bodies : List (List ℕ)) (was : Parts) → HoldsStore r head image bodies was → (i : Parts) → StaysOrFresh r (part_of r was) next new i → HoldsOldOrNew r head image bodies next new i
old_or_new r head next image new bodies was store i (inl s) = inl (stays_store r head image bodies was i store s)
old_or_new r head next image new bodies was store i (inr f) = inr (fresh_store (other r) next new i f)

pub stands_switched : {D : Type 0} {reads : D → Option Parts} {clock : D → Option ℕ} {images : D → ℕ → Parts → Type 0} {half : List ℕ} (next : Head) (new : List ℕ) (journal : Journal) (disk : D)
    → Switched reads clock images half next new journal disk → journal.image_end ≡ journal.end → Stands reads clock images next new [] journal disk
stands_switched next new journal disk w image_end = record {
  parts = w.parts;
  certain = w.certain;
  at = record { store = fresh_store journal.ruling next new w.parts w.fresh; knows = w.knows; end = omega (arith, w.at); image_end = image_end ∙ w.at };
}

-- a change that is given up, once that is synced
pub given_up : {D : Type 0} {reads : D → Option Parts} {clock : D → Option ℕ} {images : D → ℕ → Parts → Type 0} (head : Head) (image : List ℕ) (bodies : List (List ℕ)) (next : Head) (front : List ℕ) (journal : Journal) (disk synced : D)
    → Changing reads clock images head image bodies next front journal disk → reads synced ≡ reads disk → Stable reads clock images synced → Stands reads clock images head image bodies journal synced
given_up head image bodies next front journal disk synced c same stable =
    let b = c.filling.beside in
    let told = same ∙ b.told in
    let knows = knows_filling (part_of journal.ruling c.was) front next journal disk b.parts c.filling b.told in
    record {
      parts = b.parts;
      certain = record { told = told; only = λ t i at left. some_is (sym (stable t i at left) ∙ told) };
      at = record {
        store = stays_store journal.ruling head image bodies c.was b.parts c.store (record { rules = knows.rules; same = b.same });
        knows = knows;
        end = c.end;
        image_end = c.image_end;
      };
    }

-- ---- while nothing is written
pub each_now : {D : Type 0} {reads : D → Option Parts} {clock : D → Option ℕ} {images : D → ℕ → Parts → Type 0} {head : Head} {image : List ℕ} {bodies : List (List ℕ)} {journal : Journal} {disk : D}
    → Stands reads clock images head image bodies journal disk → EachNow clock images (HoldsStore journal.ruling head image bodies) disk
each_now {head = head} {image = image} {bodies = bodies} {journal = journal} s = record {
  now = λ t i told left. subst (λ (p : Parts). HoldsStore journal.ruling head image bodies p) (sym (s.certain.only t i told left)) s.at.store;
}

-- calls of other devices leave the disk
pub kept_on : {D : Type 0} {reads : D → Option Parts} {clock : D → Option ℕ} {images : D → ℕ → Parts → Type 0} {faults : D → ℕ} {head : Head} {image : List ℕ} {bodies : List (List ℕ)} {journal : Journal} {old new : D}
    → KeepsDisk reads clock images faults old new → Stands reads clock images head image bodies journal old → Stands reads clock images head image bodies journal new
kept_on {clock = clock} {old = old} {new = new} keeps s = record {
  parts = s.parts;
  certain = record {
    told = keeps.same_reads ∙ s.certain.told;
    only = λ t i at left.
        let u = later_back (clock old) (clock new) t keeps.later at in
        s.certain.only u.0 i u.1 ((keeps.since u.0 t t i u.1 at u.2 (omega arith)).0 left);
  };
  at = s.at;
}
