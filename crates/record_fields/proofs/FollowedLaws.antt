-- One field after the other.
use Rattle.std.proofs.Common.{◌≡◌, ℕ, ◌+◌, ◌≤◌, true, List, [], ◌++◌, length, drop, Ok, Err, refl, sym, ap, subst, ◌∙◌, append_assoc, arith, inl, inr}
use Rattle.std.proofs.lemmas.Bool.{cases_lt}
use Rattle.std.proofs.lemmas.List.{length-append, length-drop, append-nil}
use Rattle.record_fields.specs.declared.flaw.Flaw.{Flaw}
use Rattle.record_fields.specs.declared.flaw.Flaw.TheVariants.{Illegal}
use Rattle.record_fields.specs.Formats.{◌>>=◌, Format, nothing, pair_at, followed, ◌⊗◌}
use Rattle.record_fields.specs.Laws.{Exact, AreBytes, Reaches, Places, joined, left_of}
use Rattle.record_fields.proofs.Reaching.{parted, goes_past, joined-append, flaw_within, not_whole}
use Rattle.fsrm_base.proofs.TestLaws.{both, both_true}
use Rattle.record_fields.proofs.ReadLaws.{first_flaw, bind_ok, bind_err, ok_is, rest_bytes, ok_more}

pub nothing_exact : Exact nothing
nothing_exact = record {
  again = λ x rest legal. refl;
  takes = λ bytes x rest h e. (refl, ap (λ (y : Unit × List ℕ). y.1) (ok_is (tt, bytes) (x, rest) e));
  illegal = λ bytes more left h e. absurd cc;
}

pair_again : {A B : Type 0} (f : Format A) (g : A → Format B) → Exact f → ((a : A) → Exact (g a)) → (p : A × B) (rest : List ℕ) → (followed f g).legal p ≡ true → pair_at f g ((followed f g).spell p ++ rest) ≡ Ok (p, rest)
pair_again f g fl gl p rest legal =
    let l = both (f.legal p.0) ((g p.0).legal p.1) legal in
    let split = append_assoc (f.spell p.0) ((g p.0).spell p.1) rest in
    rw (split, fl.again p.0 ((g p.0).spell p.1 ++ rest) l.0, (gl p.0).again p.1 rest l.1) refl

pair_takes : {A B : Type 0} (f : Format A) (g : A → Format B) → Exact f → ((a : A) → Exact (g a)) → (bytes : List ℕ) (p : A × B) (rest : List ℕ) → AreBytes bytes → pair_at f g bytes ≡ Ok (p, rest)
    → ((followed f g).legal p ≡ true) × (bytes ≡ (followed f g).spell p ++ rest)
pair_takes {A = A} {B = B} f g fl gl bytes p rest h e =
    let a = bind_ok (f.read bytes) (λ a. (g a.0).read a.1 >>= λ b. Ok ((a.0, b.0), b.1)) (p, rest) e in
    let b = bind_ok ((g a.0.0).read a.0.1) (λ b. Ok ((a.0.0, b.0), b.1)) (p, rest) a.2 in
    let t = fl.takes bytes a.0.0 a.0.1 h a.1 in
    let u = (gl a.0.0).takes a.0.1 b.0.0 b.0.1 (rest_bytes f fl bytes a.0.0 a.0.1 h a.1) b.1 in
    let parts : bytes ≡ (f.spell a.0.0 ++ (g a.0.0).spell b.0.0) ++ b.0.1 = t.1 ∙ ap (λ (r : List ℕ). f.spell a.0.0 ++ r) u.1 ∙ sym (append_assoc (f.spell a.0.0) ((g a.0.0).spell b.0.0) b.0.1) in
    subst (λ (x : (A × B) × List ℕ). ((followed f g).legal x.0 ≡ true) × (bytes ≡ (followed f g).spell x.0 ++ x.1)) (ok_is ((a.0.0, b.0.0), b.0.1) (p, rest) b.2) (both_true _ _ t.0 u.0, parts)

pair_wrong : {A B : Type 0} (f : Format A) (g : A → Format B) → Exact f → ((a : A) → Exact (g a)) → (bytes more : List ℕ) (left : ℕ) → AreBytes bytes → pair_at f g bytes ≡ Err (Illegal left) → pair_at f g (bytes ++ more) ≡ Err (Illegal (left + length more))
pair_wrong f g fl gl bytes more left h e =
    elim (bind_err (f.read bytes) (λ a. (g a.0).read a.1 >>= λ b. Ok ((a.0, b.0), b.1)) (Illegal left) e) [
      | inl first ↦ rw (fl.illegal bytes more left h first) refl
      | inr second ↦
          let x = second.0 in
          elim (bind_err ((g x.0).read x.1) (λ b. Ok ((x.0, b.0), b.1)) (Illegal left) second.2) [
            | inl later ↦ rw (ok_more f fl bytes more x.0 x.1 h second.1, (gl x.0).illegal x.1 more left (rest_bytes f fl bytes x.0 x.1 h second.1) later) refl
            | inr never ↦ absurd (cc never.2)
          ]
    ]

pub followed_exact : {A B : Type 0} (f : Format A) (g : A → Format B) → Exact f → ((a : A) → Exact (g a)) → Exact (followed f g)
followed_exact f g fl gl = record { again = pair_again f g fl gl; takes = pair_takes f g fl gl; illegal = pair_wrong f g fl gl }

infixr 5 ◌and◌
pub ◌and◌ : {A B : Type 0} {f : Format A} {g : Format B} → Exact f → Exact g → Exact (f ⊗ g)
◌and◌ {f = f} {g = g} fl gl = followed_exact f (λ a. g) fl (λ a. gl)

-- ---- where damage is told
pub nothing_places : Places nothing
nothing_places = record {
  exact = nothing_exact;
  parts = λ x. refl;
  some = tt;
  some_legal = refl;
  sound = λ bytes flaw h e. absurd cc;
  farthest = λ bytes flaw left h e r. absurd cc;
}

-- fields of a legal value that bytes begin with end no later than a whole value that they begin with
no_further : {A : Type 0} (f : Format A) → Places f → (a y : A) (front d : List (List ℕ)) (rest after : List ℕ) → f.legal a ≡ true → f.legal y ≡ true → f.fields y ≡ front ++ d → joined front ++ rest ≡ f.spell a ++ after → length after ≤ length rest
no_further {A = A} f law a y front d rest after a_legal y_legal begins same =
    let sizes : length (joined front) + length rest ≡ length (f.spell a) + length after = sym (length-append (joined front) rest) ∙ ap length same ∙ length-append (f.spell a) after in
    elim (cases_lt (length (f.spell a)) (length (joined front))) [
      | inr short ↦ omega (arith, sizes)
      | inl long ↦
          let m = drop (length (f.spell a)) (joined front) in
          let past : joined front ≡ f.spell a ++ m = goes_past (joined front) (f.spell a) rest after same (omega arith) in
          let whole : f.spell y ≡ f.spell a ++ (m ++ joined d) =
          sym (law.parts y) ∙ ap joined begins ∙ joined-append front d ∙ ap (λ (b : List ℕ). b ++ joined d) past ∙ append_assoc (f.spell a) m (joined d) in
          let one : f.read (f.spell y) ≡ Ok (y, []) = ap f.read (sym (append-nil (f.spell y))) ∙ law.exact.again y [] y_legal in
          let two : f.read (f.spell y) ≡ Ok (a, m ++ joined d) = ap f.read whole ∙ law.exact.again a (m ++ joined d) a_legal in
          let none : m ++ joined d ≡ [] = ap (λ (p : A × List ℕ). p.1) (ok_is (a, m ++ joined d) (y, []) (sym two ∙ one)) in
          absurd (omega (arith, long, ap length none, length-append m (joined d), length-drop (length (f.spell a)) (joined front)))
    ]

-- bytes that begin with all fields of the first value
whole_first : {A : Type 0} (f : Format A) → Places f → (y : A) (front d : List (List ℕ)) (bytes rest : List ℕ) → front ≡ f.fields y ++ d → bytes ≡ joined front ++ rest → bytes ≡ f.spell y ++ (joined d ++ rest)
whole_first f law y front d bytes rest is agrees =
    agrees ∙ ap (λ (l : List (List ℕ)). joined l ++ rest) is ∙ ap (λ (b : List ℕ). b ++ rest) (joined-append (f.fields y) d ∙ ap (λ (b : List ℕ). b ++ joined d) (law.parts y))
    ∙ append_assoc (f.spell y) (joined d) rest

pair_sound : {A B : Type 0} (f : Format A) (g : A → Format B) → Places f → ((a : A) → Places (g a)) → (bytes : List ℕ) (flaw : Flaw) → AreBytes bytes → pair_at f g bytes ≡ Err flaw → Reaches (followed f g) bytes (left_of flaw)
pair_sound f g fl gl bytes flaw h e =
    elim (bind_err (f.read bytes) (λ a. (g a.0).read a.1 >>= λ b. Ok ((a.0, b.0), b.1)) flaw e) [
      | inl first ↦
          let r = fl.sound bytes flaw h first in
          let b = (gl r.value).some in
          record {
            value = (r.value, b);
            front = r.front;
            after = r.after ++ (g r.value).fields b;
            rest = r.rest;
            legal = both_true _ _ r.legal (gl r.value).some_legal;
            begins = ap (λ (l : List (List ℕ)). l ++ (g r.value).fields b) r.begins ∙ append_assoc r.front r.after ((g r.value).fields b);
            agrees = r.agrees;
            leaves = r.leaves;
          }
      | inr second ↦
          let x = second.0 in
          let t = fl.exact.takes bytes x.0 x.1 h second.1 in
          let later : (g x.0).read x.1 ≡ Err flaw = first_flaw ((g x.0).read x.1) (λ b. (x.0, b)) flaw second.2 in
          let r = (gl x.0).sound x.1 flaw (rest_bytes f fl.exact bytes x.0 x.1 h second.1) later in
          record {
            value = (x.0, r.value);
            front = f.fields x.0 ++ r.front;
            after = r.after;
            rest = r.rest;
            legal = both_true _ _ t.0 r.legal;
            begins = ap (λ (l : List (List ℕ)). f.fields x.0 ++ l) r.begins ∙ sym (append_assoc (f.fields x.0) r.front r.after);
            agrees = t.1 ∙ ap (λ (b : List ℕ). f.spell x.0 ++ b) r.agrees ∙ sym (append_assoc (f.spell x.0) (joined r.front) r.rest)
                ∙ ap (λ (b : List ℕ). b ++ r.rest) (ap (λ (b : List ℕ). b ++ joined r.front) (sym (fl.parts x.0)) ∙ sym (joined-append (f.fields x.0) r.front));
            leaves = r.leaves;
          }
    ]

pair_farthest : {A B : Type 0} (f : Format A) (g : A → Format B) → Places f → ((a : A) → Places (g a)) → (bytes : List ℕ) (flaw : Flaw) (left : ℕ) → AreBytes bytes → pair_at f g bytes ≡ Err flaw
    → Reaches (followed f g) bytes left → left_of flaw ≤ left
pair_farthest {A = A} f g fl gl bytes flaw left h e r =
    let y = r.value in
    let legal = both (f.legal y.0) ((g y.0).legal y.1) r.legal in
    let parts = parted (f.fields y.0) ((g y.0).fields y.1) r.front r.after r.begins in
    elim (bind_err (f.read bytes) (λ a. (g a.0).read a.1 >>= λ b. Ok ((a.0, b.0), b.1)) flaw e) [
      | inl first ↦ elim parts [
        | inl p ↦ fl.farthest bytes flaw left h first record { value = y.0; front = r.front; after = p.0; rest = r.rest; legal = legal.0; begins = p.1; agrees = r.agrees; leaves = r.leaves }
        | inr p ↦ absurd (not_whole f fl.exact bytes flaw y.0 (joined p.0 ++ r.rest) first legal.0 (whole_first f fl y.0 r.front p.0 bytes r.rest p.1 r.agrees))
      ]
      | inr second ↦
          let x = second.0 in
          let t = fl.exact.takes bytes x.0 x.1 h second.1 in
          let are = rest_bytes f fl.exact bytes x.0 x.1 h second.1 in
          let later : (g x.0).read x.1 ≡ Err flaw = first_flaw ((g x.0).read x.1) (λ b. (x.0, b)) flaw second.2 in
          elim parts [
            | inl p ↦
                let far : length x.1 ≤ length r.rest = no_further f fl x.0 y.0 r.front p.0 r.rest x.1 t.0 legal.0 p.1 (sym r.agrees ∙ t.1) in
                omega (arith, far, r.leaves, flaw_within (g x.0) (gl x.0) x.1 flaw are later)
            | inr p ↦
                let whole = whole_first f fl y.0 r.front p.0 bytes r.rest p.1 r.agrees in
                let same : x ≡ (y.0, joined p.0 ++ r.rest) = ok_is x (y.0, joined p.0 ++ r.rest) (sym second.1 ∙ ap f.read whole ∙ fl.exact.again y.0 (joined p.0 ++ r.rest) legal.0) in
                let after : (g y.0).read (joined p.0 ++ r.rest) ≡ Err flaw = subst (λ (q : A × List ℕ). (g q.0).read q.1 ≡ Err flaw) same later in
                let are' : AreBytes (joined p.0 ++ r.rest) = subst (λ (q : A × List ℕ). AreBytes q.1) same are in
                (gl y.0).farthest (joined p.0 ++ r.rest) flaw left are' after
                record { value = y.1; front = p.0; after = r.after; rest = r.rest; legal = legal.1; begins = p.2; agrees = refl; leaves = r.leaves }
          ]
    ]

pub followed_places : {A B : Type 0} (f : Format A) (g : A → Format B) → Places f → ((a : A) → Places (g a)) → Places (followed f g)
followed_places f g fl gl = record {
  exact = followed_exact f g fl.exact (λ a. (gl a).exact);
  parts = λ p. joined-append (f.fields p.0) ((g p.0).fields p.1) ∙ ap (λ (b : List ℕ). b ++ joined ((g p.0).fields p.1)) (fl.parts p.0) ∙ ap (λ (b : List ℕ). f.spell p.0 ++ b) ((gl p.0).parts p.1);
  some = (fl.some, (gl fl.some).some);
  some_legal = both_true _ _ fl.some_legal (gl fl.some).some_legal;
  sound = pair_sound f g fl gl;
  farthest = pair_farthest f g fl gl;
}

infixr 5 ◌also◌
pub ◌also◌ : {A B : Type 0} {f : Format A} {g : Format B} → Places f → Places g → Places (f ⊗ g)
◌also◌ {f = f} {g = g} fl gl = followed_places f (λ a. g) fl (λ a. gl)
