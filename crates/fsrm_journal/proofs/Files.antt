-- What writes make of the bytes of a half.
use Rattle.std.proofs.Common.{◌≡◌, ◌≢◌, inl, inr, ℕ, ◌+◌, ◌≤◌, ◌<◌, None, Some, List, [], ◌∷◌, ◌++◌, length, get_or, take, drop, refl, sym, ◌∙◌, ap, subst, arith, append_assoc, length-append, length-take, length-drop, take-append-drop}
use Rattle.std.specs.Prelude.{Option}
use Rattle.std.specs.Option.{option_map}
use Rattle.std.proofs.lemmas.Bool.{cases_eq}
use Rattle.std.proofs.lemmas.List.{take_at, drop_at, take-take, drop_more}
use Rattle.std.proofs.Math.Seq.{drop-append-add}
use Rattle.fsrm_outside.specs.Changes.{Torn, over, Written}
use Rattle.fsrm_outside.specs.Parts.{Parts, part_of, other}
use Rattle.fsrm_outside.specs.declared.traits.Part.{Part}
use Rattle.fsrm_outside.specs.declared.traits.Part.TheVariants.{Zero, One}
use Rattle.fsrm_journal.specs.Records.{counted, records, batch, Log, Holds, HoldsAllOrNone}

pub told_back : {A B : Type 0} (f : A → B) (o : Option A) (x : B) → option_map f o ≡ Some x → (y : A) × (o ≡ Some y) × (x ≡ f y)
told_back f None x told = absurd (cc)
told_back f (Some y) x told = (y, refl, cc)

pub told_forth : {A B : Type 0} (f : A → B) (o : Option A) (y : A) → o ≡ Some y → option_map f o ≡ Some (f y)
told_forth f o y told = ap (option_map f) told

pub written_here : (r : Part) (place : ℕ) (bytes : List ℕ) (p : Parts) → part_of r (Written r place bytes p) ≡ over place bytes (part_of r p)
written_here Zero place bytes p = refl
written_here One place bytes p = refl

pub written_there : (r : Part) (place : ℕ) (bytes : List ℕ) (p : Parts) → part_of (other r) (Written r place bytes p) ≡ part_of (other r) p
written_there Zero place bytes p = refl
written_there One place bytes p = refl

pub written_beside : (r o : Part) (place : ℕ) (bytes : List ℕ) (p : Parts) → o ≡ other r → part_of r (Written o place bytes p) ≡ part_of r p
written_beside r o place bytes p is = subst (λ (x : Part). part_of r (Written x place bytes p) ≡ part_of r p) (sym is) (go r)
  where
    go : (x : Part) → part_of x (Written (other x) place bytes p) ≡ part_of x p
    go Zero = refl
    go One = refl

-- the front of the half r, and all of the other
pub record Front (r : Part) (front beside : List ℕ) (parts : Parts) : Type 0 where
  pub is : take (length front) (part_of r parts) ≡ front
  pub same : part_of (other r) parts ≡ beside

pub front_of : (r : Part) (front beside rest : List ℕ) (parts : Parts) → part_of r parts ≡ front ++ rest → part_of (other r) parts ≡ beside → Front r front beside parts
front_of r front beside rest parts split same = record { is = ap (take (length front)) split ∙ take_at front rest (length front) refl; same = same }

pub front_split : (r : Part) (front beside : List ℕ) (parts : Parts) → Front r front beside parts → part_of r parts ≡ front ++ drop (length front) (part_of r parts)
front_split r front beside parts f = sym (take-append-drop (length front) (part_of r parts)) ∙ ap (λ (l : List ℕ). l ++ drop (length front) (part_of r parts)) f.is

-- a write after it leaves it, also where a crash cuts the write short
pub torn_front : (r : Part) (front beside : List ℕ) (place n : ℕ) (old new : Parts) → length front ≤ place → Front r front beside old → Torn r place n old new → Front r front beside new
torn_front r front beside place n old new after f torn = record {
  is = sym (take-take (length front) place (part_of r new) after) ∙ ap (take (length front)) torn.before ∙ take-take (length front) place (part_of r old) after ∙ f.is;
  same = torn.other_part ∙ f.same;
}

-- the lead, the records and a gate
abbrev pub shut : Log → List (List ℕ) → ℕ → List ℕ
shut log bodies gate = log.lead ++ records bodies ++ gate ∷ []

regroup_shut : (lead recs : List ℕ) (gate : ℕ) (rest : List ℕ) → (lead ++ recs ++ gate ∷ []) ++ rest ≡ lead ++ recs ++ gate ∷ rest
regroup_shut lead recs gate rest = append_assoc (lead ++ recs) (gate ∷ []) rest

-- a closed gate ends the records, whatever stands after it
pub front_holds : (log : Log) (bodies : List (List ℕ)) (gate : ℕ) (parts : Parts) → gate ≢ 1 → Front log.ruling (shut log bodies gate) log.beside parts → Holds log bodies parts
front_holds log bodies gate parts closed f = record {
  gate = gate;
  rest = drop (length (shut log bodies gate)) (part_of log.ruling parts);
  closed = closed;
  split = front_split log.ruling (shut log bodies gate) log.beside parts f ∙ regroup_shut log.lead (records bodies) gate (drop (length (shut log bodies gate)) (part_of log.ruling parts));
  same = f.same;
}

pub holds_front : (log : Log) (bodies : List (List ℕ)) (parts : Parts) → (h : Holds log bodies parts) → Front log.ruling (shut log bodies h.gate) log.beside parts
holds_front log bodies parts h = front_of log.ruling (shut log bodies h.gate) log.beside h.rest parts (h.split ∙ sym (regroup_shut log.lead (records bodies) h.gate h.rest)) h.same

-- a write after a front
pub over_at : (front rest bytes : List ℕ) (place : ℕ) → length front ≡ place → over place bytes (front ++ rest) ≡ (front ++ bytes) ++ drop (length bytes) rest
over_at front rest bytes place is =
    let tail : drop (place + length bytes) (front ++ rest) ≡ drop (length bytes) rest = subst (λ (k : ℕ). drop (k + length bytes) (front ++ rest) ≡ drop (length bytes) rest) is (drop-append-add front rest (length bytes)) in
    ap (λ (l : List ℕ). l ++ bytes ++ drop (place + length bytes) (front ++ rest)) (take_at front rest place is)
    ∙ ap (λ (l : List ℕ). (front ++ bytes) ++ l) tail

pub length-over : (place : ℕ) (bytes old : List ℕ) → place ≤ length old → place + length bytes ≤ length (over place bytes old)
length-over place bytes old within = omega (arith, length-append (take place old) bytes, length-append (take place old ++ bytes) (drop (place + length bytes) old), length-take place old)

pub length-over-old : (place : ℕ) (bytes old : List ℕ) → place ≤ length old → length old ≤ length (over place bytes old)
length-over-old place bytes old within = omega (arith, length-append (take place old) bytes, length-append (take place old ++ bytes) (drop (place + length bytes) old), length-take place old, length-drop (place + length bytes) old)

-- a write of one byte that a crash may cut short
pub torn_gate : (r : Part) (front tail : List ℕ) (gate place : ℕ) (old new : Parts) → length front ≡ place → part_of r old ≡ front ++ gate ∷ tail → Torn r place 1 old new → (left : ℕ) × (part_of r new ≡ front ++ left ∷ tail)
torn_gate r front tail gate place old new is split torn =
    let long : place < length (part_of r new) = omega (arith, torn.no_shorter, ap length split, length-append front (gate ∷ tail)) in
    let before : take place (part_of r new) ≡ front = torn.before ∙ ap (take place) split ∙ take_at front (gate ∷ tail) place is in
    let after : drop (place + 1) (part_of r new) ≡ tail = torn.after ∙ ap (drop (place + 1)) (split ∙ sym (append_assoc front (gate ∷ []) tail)) ∙ drop_at (front ++ gate ∷ []) tail (place + 1) (omega (arith, length-append front (gate ∷ []))) in (
      get_or (part_of r new) place 0,
      sym (take-append-drop place (part_of r new)) ∙ ap (λ (l : List ℕ). l ++ drop place (part_of r new)) before
          ∙ ap (λ (l : List ℕ). front ++ l) (drop_more (part_of r new) place 0 long ∙ ap (λ (l : List ℕ). get_or (part_of r new) place 0 ∷ l) after),
    )

pub over_gate : (front tail : List ℕ) (gate place : ℕ) → length front ≡ place → over place (1 ∷ []) (front ++ gate ∷ tail) ≡ front ++ 1 ∷ tail
over_gate front tail gate place is = over_at front (gate ∷ tail) (1 ∷ []) place is ∙ append_assoc front (1 ∷ []) tail

pub records-append : (a b : List (List ℕ)) → records (a ++ b) ≡ records a ++ records b
records-append [] b = refl
records-append (x ∷ a) b = ap (λ (l : List ℕ). 1 ∷ counted x ++ l) (records-append a b) ∙ sym (append_assoc (1 ∷ counted x) (records a) (records b))

-- a batch of which the first gate is open counts whole
pub opened : (log : Log) (bodies : List (List ℕ)) (body : List ℕ) (more : List (List ℕ)) (rest : List ℕ) (parts : Parts) → part_of log.ruling parts ≡ log.lead ++ records bodies ++ 1 ∷ (batch (body ∷ more) ++ 0 ∷ rest)
    → part_of (other log.ruling) parts ≡ log.beside → Holds log (bodies ++ body ∷ more) parts
opened log bodies body more rest parts split same = record {
  gate = 0;
  rest = rest;
  closed = λ is. absurd (omega arith);
  split = split ∙ regroup log.lead (records bodies) (batch (body ∷ more)) rest ∙ ap (λ (l : List ℕ). log.lead ++ l ++ 0 ∷ rest) (sym (records-append bodies (body ∷ more)));
  same = same;
}
  where
    regroup : (lead recs b rest : List ℕ) → lead ++ recs ++ 1 ∷ (b ++ 0 ∷ rest) ≡ lead ++ (recs ++ 1 ∷ b) ++ 0 ∷ rest
    regroup lead recs b rest = simp append_assoc

-- a batch after any gate counts whole or not at all
pub either : (log : Log) (bodies : List (List ℕ)) (gate : ℕ) (body : List ℕ) (more : List (List ℕ)) (rest : List ℕ) (parts : Parts) → part_of log.ruling parts ≡ log.lead ++ records bodies ++ gate ∷ (batch (body ∷ more) ++ 0 ∷ rest)
    → part_of (other log.ruling) parts ≡ log.beside → HoldsAllOrNone log bodies (body ∷ more) parts
either log bodies gate body more rest parts split same = elim (cases_eq gate 1) [
  | inl is ↦ inr (opened log bodies body more rest parts (split ∙ ap (λ (n : ℕ). log.lead ++ records bodies ++ n ∷ (batch (body ∷ more) ++ 0 ∷ rest)) is) same)
  | inr closed ↦ inl (record { gate = gate; rest = batch (body ∷ more) ++ 0 ∷ rest; closed = closed; split = split; same = same })
]
