-- Values of several kinds.
use Rattle.std.proofs.Common.{◌≡◌, inl, inr, ℕ, Bool, true, false, cond, List, [], ◌++◌, Option, Some, None, Ok, Err, refl, sym, ap, subst, ◌∙◌, append_assoc}
use Rattle.std.specs.Option.{option_map_or}
use Rattle.fsrm_base.proofs.TestLaws.{both, both_true}
use Rattle.record_fields.specs.declared.flaw.Flaw.{Flaw}
use Rattle.record_fields.specs.declared.flaw.Flaw.TheVariants.{Illegal}
use Rattle.record_fields.specs.Formats.{Format, ◌>>=◌, known_at, pair_at, followed}
use Rattle.record_fields.specs.Laws.{Exact, Places, joined}
use Rattle.record_fields.proofs.FollowedLaws.{followed_places}
use Rattle.record_fields.proofs.ReadLaws.{bind_ok, bind_err, ok_is, ok_more, rest_bytes, first_flaw}
use Rattle.record_fields.proofs.Reaching.{carried, joined-append}
use Rattle.record_codec.specs.Kinds.{one_of, tagged, tagged_at, tagged_legal, tagged_spelled, tagged_fields}

-- what passes a test is there
has : {A : Type 0} (test : A → Bool) (o : Option A) → option_map_or test o false ≡ true → (a : A) × (o ≡ Some a) × (test a ≡ true)
has test None e = absurd (cc e)
has test (Some a) e = (a, refl, e)

-- ---- one kind
made_read : {A X : Type 0} (make : A → X) (f : Format A) (bytes : List ℕ) → known_at (λ a. Some (make a)) f bytes ≡ (f.read bytes >>= λ a. Ok (make a.0, a.1))
unfolding known_at
made_read make f bytes = refl

pub one_of_exact : {A X : Type 0} (make : A → X) (parts : X → Option A) (f : Format A) → Exact f → ((a : A) → parts (make a) ≡ Some a) → ((x : X) (a : A) → parts x ≡ Some a → make a ≡ x)
    → Exact (one_of make parts f)
one_of_exact {X = X} make parts f law made whole = record {
  again = λ x rest legal.
      let h = has f.legal (parts x) legal in
      made_read make f (option_map_or f.spell (parts x) [] ++ rest) ∙ rw (h.1, law.again h.0 rest h.2, whole x h.0 h.1) refl;
  takes = λ bytes x rest are e.
      let b = bind_ok (f.read bytes) (λ a. Ok (make a.0, a.1)) (x, rest) (sym (made_read make f bytes) ∙ e) in
      let t = law.takes bytes b.0.0 b.0.1 are b.1 in
      let same = ok_is (make b.0.0, b.0.1) (x, rest) b.2 in
      let of_it : parts x ≡ Some b.0.0 = ap (λ (y : X × List ℕ). parts y.0) (sym same) ∙ made b.0.0 in (
        ap (λ o. option_map_or f.legal o false) of_it ∙ t.0,
        t.1 ∙ ap (λ (y : X × List ℕ). f.spell b.0.0 ++ y.1) same ∙ ap (λ o. option_map_or f.spell o [] ++ rest) (sym of_it),
      );
  illegal = λ bytes more left are e.
      let first = first_flaw (f.read bytes) make (Illegal left) (sym (made_read make f bytes) ∙ e) in
      made_read make f (bytes ++ more) ∙ rw (law.illegal bytes more left are first) refl;
}

joined_parts : {A : Type 0} (f : Format A) → ((a : A) → joined (f.fields a) ≡ f.spell a) → (o : Option A) → joined (option_map_or f.fields o []) ≡ option_map_or f.spell o []
joined_parts f law None = refl
joined_parts f law (Some a) = law a

pub one_of_places : {A X : Type 0} (make : A → X) (parts : X → Option A) (f : Format A) → Places f → ((a : A) → parts (make a) ≡ Some a) → ((x : X) (a : A) → parts x ≡ Some a → make a ≡ x)
    → Places (one_of make parts f)
one_of_places make parts f law made whole =
    carried (one_of make parts f) f (one_of_exact make parts f law.exact made whole) (λ x. joined_parts f law.parts (parts x)) law
    (λ bytes flaw are e. first_flaw (f.read bytes) make flaw (sym (made_read make f bytes) ∙ e))
    (λ a legal. (make a, ap (λ o. option_map_or f.legal o false) (made a) ∙ legal, ap (λ o. option_map_or f.fields o []) (made a)))
    (λ x legal. let h = has f.legal (parts x) legal in (h.0, h.2, ap (λ o. option_map_or f.fields o []) (sym h.1)))

-- ---- all kinds
-- the values of a kind are of this kind
abbrev pub AreOwn : {K X : Type 0} → (K → Format X) → (X → Option K) → Type 0
AreOwn {K = K} {X = X} body kind_of = (k : K) (x : X) → (body k).legal x ≡ true → kind_of x ≡ Some k

pub tagged_exact : {K X : Type 0} (kind : Format K) (body : K → Format X) (kind_of : X → Option K) → Exact kind → ((k : K) → Exact (body k)) → AreOwn body kind_of → Exact (tagged kind body kind_of)
tagged_exact kind body kind_of law laws own = record {
  again = λ x rest legal.
      let h = has (tagged_legal kind body x) (kind_of x) legal in
      let l = both (kind.legal h.0) ((body h.0).legal x) h.2 in
      rw (h.1, append_assoc (kind.spell h.0) ((body h.0).spell x) rest, law.again h.0 ((body h.0).spell x ++ rest) l.0) ((laws h.0).again x rest l.1);
  takes = λ bytes x rest are e.
      let b = bind_ok (kind.read bytes) (λ k. (body k.0).read k.1) (x, rest) e in
      let t = law.takes bytes b.0.0 b.0.1 are b.1 in
      let u = (laws b.0.0).takes b.0.1 x rest (rest_bytes kind law bytes b.0.0 b.0.1 are b.1) b.2 in
      let is = own b.0.0 x u.0 in (
        ap (λ o. option_map_or (tagged_legal kind body x) o false) is ∙ both_true _ _ t.0 u.0,
        t.1 ∙ ap (λ r. kind.spell b.0.0 ++ r) u.1 ∙ sym (append_assoc (kind.spell b.0.0) ((body b.0.0).spell x) rest)
            ∙ ap (λ o. option_map_or (tagged_spelled kind body x) o [] ++ rest) (sym is),
      );
  illegal = λ bytes more left are e. elim (bind_err (kind.read bytes) (λ k. (body k.0).read k.1) (Illegal left) e) [
    | inl first ↦ rw (law.illegal bytes more left are first) refl
    | inr second ↦
        rw (ok_more kind law bytes more second.0.0 second.0.1 are second.1)
        ((laws second.0.0).illegal second.0.1 more left (rest_bytes kind law bytes second.0.0 second.0.1 are second.1) second.2)
  ];
}

tagged_parts : {K X : Type 0} (kind : Format K) (body : K → Format X) (x : X) → ((k : K) → joined (kind.fields k) ≡ kind.spell k) → ((k : K) → joined ((body k).fields x) ≡ (body k).spell x)
    → (o : Option K) → joined (option_map_or (tagged_fields kind body x) o []) ≡ option_map_or (tagged_spelled kind body x) o []
tagged_parts kind body x front after None = refl
tagged_parts kind body x front after (Some k) = joined-append (kind.fields k) ((body k).fields x) ∙ rw (front k, after k) refl

tagged_flaw : {K X : Type 0} (kind : Format K) (body : K → Format X) (bytes : List ℕ) (flaw : Flaw) → tagged_at kind body bytes ≡ Err flaw → pair_at kind body bytes ≡ Err flaw
tagged_flaw kind body bytes flaw e = elim (bind_err (kind.read bytes) (λ k. (body k.0).read k.1) flaw e) [
  | inl first ↦ rw first refl
  | inr second ↦ rw (second.1, second.2) refl
]

pub tagged_places : {K X : Type 0} (kind : Format K) (body : K → Format X) (kind_of : X → Option K) → Places kind → ((k : K) → Places (body k)) → AreOwn body kind_of → Places (tagged kind body kind_of)
tagged_places kind body kind_of law laws own =
    carried (tagged kind body kind_of) (followed kind body) (tagged_exact kind body kind_of law.exact (λ k. (laws k).exact) own)
    (λ x. tagged_parts kind body x law.parts (λ k. (laws k).parts x) (kind_of x)) (followed_places kind body law laws)
    (λ bytes flaw are e. tagged_flaw kind body bytes flaw e)
    (λ d legal.
    let l = both (kind.legal d.0) ((body d.0).legal d.1) legal in
    let is = own d.0 d.1 l.1 in
    (d.1, ap (λ o. option_map_or (tagged_legal kind body d.1) o false) is ∙ legal, ap (λ o. option_map_or (tagged_fields kind body d.1) o []) is))
    (λ x legal.
    let h = has (tagged_legal kind body x) (kind_of x) legal in
    ((h.0, x), h.2, ap (λ o. option_map_or (tagged_fields kind body x) o []) (sym h.1)))

-- ---- the bytes of kinds
-- what a chain of tests chose has what each of its choices has
pub chosen : {X : Type 0} (P : X → Type 0) (t : Bool) (y x : X) (r : Option X) → (t ≡ true → P y) → (r ≡ Some x → P x) → cond t (Some y) r ≡ Some x → P x
chosen P true y x r here later e = let is : y ≡ x = some_is y x e in subst P is (here refl)
  where
    some_is : {X : Type 0} (y x : X) → Some y ≡ Some x → y ≡ x
    some_is y x e = cc
chosen P false y x r here later e = later e
