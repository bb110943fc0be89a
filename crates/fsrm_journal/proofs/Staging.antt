-- What the two steps of a flush do.
use Rattle.std.proofs.lemmas.Bool.Decides.{eqb_tells}
use Rattle.std.proofs.Common.{◌≡◌, ◌≢◌, ⊎_elim, true, false, nat_eq, ℕ, ◌+◌, ◌<◌, Some, List, [], ◌∷◌, ◌++◌, length, drop, refl, sym, ◌∙◌, ap, subst, arith, append_assoc, length-append}
use Rattle.std.specs.Prelude.{Option}
use Rattle.std.proofs.lemmas.List.{append-nil}
use Rattle.fsrm_outside.specs.Changes.{Torn, Through, Written, over}
use Rattle.fsrm_outside.specs.Parts.{Parts, part_of, other}
use Rattle.fsrm_outside.specs.declared.traits.Part.{Part}
use Rattle.fsrm_outside.proofs.Stages.{DiskLaws, Stage, begun, stepped, some_is}
use Rattle.fsrm_journal.specs.Records.{counted, records, batch, Log, Holds, HoldsAllOrNone, Settled, Staged}
use Rattle.fsrm_journal.proofs.Files.{Front, shut, front_holds, holds_front, torn_front, over_at, over_gate, torn_gate, either, opened, records-append, written_here, written_there}

pub begins : {D : Type 0} {reads : D → Option Parts} {clock : D → Option ℕ} {images : D → ℕ → Parts → Type 0} {by : D → D → Type 0} {log : Log} {bodies : List (List ℕ)} {ruling : Part} {end : ℕ} {disk : D}
    → DiskLaws clock images by → (s : Settled reads clock images log bodies ruling end disk)
    → Stage clock images by (Holds log bodies) (Front log.ruling (shut log bodies s.holds.gate) log.beside) disk disk
begins {log = log} {bodies = bodies} laws s =
    let F = Front log.ruling (shut log bodies s.holds.gate) log.beside in
    begun laws (Holds log bodies) {Q = F} (record { now = λ t i told left. subst F (sym (s.only t i told left)) (holds_front log bodies s.parts s.holds) })
    (λ i f. front_holds log bodies s.holds.gate i s.holds.closed f)

-- a write after the closed gate
pub writes : {D : Type 0} {clock : D → Option ℕ} {images : D → ℕ → Parts → Type 0} {by : D → D → Type 0} {log : Log} {bodies : List (List ℕ)} {old mid : D} {gate : ℕ}
    → DiskLaws clock images by → (new : D) (r : Part) (place n : ℕ) → r ≡ log.ruling → gate ≢ 1 → length (log.lead ++ records bodies) < place
    → Stage clock images by (Holds log bodies) (Front log.ruling (shut log bodies gate) log.beside) old mid → by mid new → Through clock images (Torn r place n) mid new
    → Stage clock images by (Holds log bodies) (Front log.ruling (shut log bodies gate) log.beside) old new
writes {log = log} {bodies = bodies} {gate = gate} laws new r place n rules closed after before ran by_step =
    stepped laws new (Front log.ruling (shut log bodies gate) log.beside) (Torn r place n) before ran by_step
    (λ d i f torn. torn_front log.ruling (shut log bodies gate) log.beside place n d i (omega (arith, after, length-append (log.lead ++ records bodies) (gate ∷ []))) f (subst (λ (x : Part). Torn x place n d i) rules torn))
    (λ i f. front_holds log bodies gate i closed f)

-- the batch was written and synced
pub makes_staged : {D : Type 0} {reads : D → Option Parts} {clock : D → Option ℕ} {images : D → ℕ → Parts → Type 0} {log : Log} {bodies : List (List ℕ)} {ruling : Part} {end : ℕ} {disk : D}
    → (s : Settled reads clock images log bodies ruling end disk) (new : D) (bytes closed : List ℕ) → closed ≡ bytes ++ 0 ∷ []
    → reads new ≡ Some (Written ruling (end + 1) closed s.parts)
    → ((t : ℕ) (i : Parts) → clock new ≡ Some t → images new t i → reads new ≡ Some i)
    → Staged reads clock images log bodies bytes end new
makes_staged {log = log} {bodies = bodies} {ruling = ruling} {end = end} s new bytes closed is told durable =
    let gate = s.holds.gate in
    let front = shut log bodies gate in
    let p = Written log.ruling (end + 1) closed s.parts in
    let told' = told ∙ ap (λ (x : Part). Some (Written x (end + 1) closed s.parts)) s.rules in
    let split : part_of log.ruling s.parts ≡ front ++ s.holds.rest = s.holds.split ∙ sym (append_assoc (log.lead ++ records bodies) (gate ∷ []) s.holds.rest) in
    let more = drop (length closed) s.holds.rest in
    let done = over_at front s.holds.rest closed (end + 1) (omega (arith, s.ends, length-append (log.lead ++ records bodies) (gate ∷ []))) in
    record {
      parts = p;
      told = told';
      gate = gate;
      rest = more;
      closed = s.holds.closed;
      split = written_here log.ruling (end + 1) closed s.parts ∙ ap (over (end + 1) closed) split ∙ done ∙ ap (λ (l : List ℕ). (front ++ l) ++ more) is ∙ regroup log.lead (records bodies) gate bytes more;
      same = written_there log.ruling (end + 1) closed s.parts ∙ s.holds.same;
      ends = s.ends;
      only = λ t i at left. some_is (sym (durable t i at left) ∙ told');
    }
  where
    regroup : (l r : List ℕ) (g : ℕ) (b m : List ℕ) → ((l ++ r ++ g ∷ []) ++ (b ++ 0 ∷ [])) ++ m ≡ l ++ r ++ g ∷ (b ++ 0 ∷ m)
    regroup l r g b m = simp append_assoc

-- the gate is written
pub opens : {D : Type 0} {reads : D → Option Parts} {clock : D → Option ℕ} {images : D → ℕ → Parts → Type 0} {by : D → D → Type 0} {log : Log} {bodies : List (List ℕ)} {end : ℕ} {disk : D} (body : List ℕ) (more : List (List ℕ))
    → DiskLaws clock images by → Staged reads clock images log bodies (batch (body ∷ more)) end disk → (new : D) (r : Part) → r ≡ log.ruling → by disk new → Through clock images (Torn r end 1) disk new
    → Stage clock images by (HoldsAllOrNone log bodies (body ∷ more)) (HoldsAllOrNone log bodies (body ∷ more)) disk new
opens {log = log} {bodies = bodies} {end = end} body more laws s new r rules ran by_step =
    let P = HoldsAllOrNone log bodies (body ∷ more) in
    let Q : Parts → Type 0 = λ i. i ≡ s.parts in
    let start = begun laws P {Q = Q} (record { now = λ t i told left. s.only t i told left })
    (λ i is. either log bodies s.gate body more s.rest i (ap (part_of log.ruling) is ∙ s.split) (ap (part_of (other log.ruling)) is ∙ s.same)) in
    stepped laws new P (Torn r end 1) start ran by_step
    (λ d i is torn.
    let torn' = subst (λ (x : Part). Torn x end 1 d i) rules torn in
    let at = torn_gate log.ruling (log.lead ++ records bodies) (batch (body ∷ more) ++ 0 ∷ s.rest) s.gate end d i (sym s.ends) (ap (part_of log.ruling) is ∙ s.split) torn' in
    either log bodies at.0 body more s.rest i at.1 (torn'.other_part ∙ ap (part_of (other log.ruling)) is ∙ s.same))
    (λ i p. p)

pub makes_settled : {D : Type 0} {reads : D → Option Parts} {clock : D → Option ℕ} {images : D → ℕ → Parts → Type 0} {log : Log} {bodies : List (List ℕ)} {end : ℕ} {disk : D} (body : List ℕ) (more : List (List ℕ))
    → (s : Staged reads clock images log bodies (batch (body ∷ more)) end disk) (new : D) (r : Part) → r ≡ log.ruling → reads new ≡ Some (Written r end (1 ∷ []) s.parts)
    → ((t : ℕ) (i : Parts) → clock new ≡ Some t → images new t i → reads new ≡ Some i)
    → Settled reads clock images log (bodies ++ body ∷ more) r (end + 1 + length (batch (body ∷ more))) new
makes_settled {log = log} {bodies = bodies} {end = end} body more s new r rules told durable =
    let p = Written log.ruling end (1 ∷ []) s.parts in
    let told' = told ∙ ap (λ (x : Part). Some (Written x end (1 ∷ []) s.parts)) rules in
    record {
      parts = p;
      told = told';
      holds = opened log bodies body more s.rest p
          (written_here log.ruling end (1 ∷ []) s.parts ∙ ap (over end (1 ∷ [])) s.split ∙ over_gate (log.lead ++ records bodies) (batch (body ∷ more) ++ 0 ∷ s.rest) s.gate end (sym s.ends))
          (written_there log.ruling end (1 ∷ []) s.parts ∙ s.same);
      rules = rules;
      ends = omega (arith, s.ends, ap (λ (l : List ℕ). length (log.lead ++ l)) (records-append bodies (body ∷ more)), length-append log.lead (records bodies ++ records (body ∷ more)), length-append (records bodies) (1 ∷ batch (body ∷ more)), length-append log.lead (records bodies));
      only = λ t i at left. some_is (sym (durable t i at left) ∙ told');
    }

-- one body after those held
pub batch-push : (held : List (List ℕ)) (body : List ℕ) → held ≢ [] → batch (held ++ body ∷ []) ≡ batch held ++ 1 ∷ counted body
batch-push [] body some = absurd (some refl)
batch-push (h ∷ held) body some = ap (λ (l : List ℕ). counted h ++ l) (records-append held (body ∷ []) ∙ ap (λ (l : List ℕ). records held ++ l) (append-nil (1 ∷ counted body))) ∙ sym (append_assoc (counted h) (records held) (1 ∷ counted body))

pub some_held : (held : List (List ℕ)) → (length held ≡ 0 → ⊥) → (body : List ℕ) × (more : List (List ℕ)) × (held ≡ body ∷ more)
some_held [] some = absurd (some refl)
some_held (body ∷ more) some = (body, more, refl)

pub none_there : (xs : List ℕ) → length xs ≡ 0 → xs ≡ []
none_there [] none = refl
none_there (x ∷ xs) none = absurd (omega arith)

-- a record after those that are held
pub hold_more : (held : List (List ℕ)) (body old new : List ℕ) (n : ℕ) → length held ≡ n → old ≡ batch held
    → (nat_eq n 0 ≡ true → new ≡ old ++ counted body) → (nat_eq n 0 ≡ false → new ≡ old ++ 1 ∷ counted body) → new ≡ batch (held ++ body ∷ [])
hold_more [] body old new n few is first more =
    first (ap (λ (k : ℕ). nat_eq k 0) (sym few)) ∙ ap (λ (l : List ℕ). l ++ counted body) is ∙ sym (append-nil (counted body))
hold_more (h ∷ held) body old new n few is first more =
    more (⊎_elim (λ same. absurd (omega (arith, same.1, few))) (λ other. other.0) (eqb_tells n 0))
    ∙ ap (λ (l : List ℕ). l ++ 1 ∷ counted body) is ∙ sym (batch-push (h ∷ held) body (λ none. absurd (cc)))
