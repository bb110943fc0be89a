-- Reading an image section by section.
use Rattle.std.proofs.Common.{◌≡◌, ◌≢◌, ℕ, suc, ◌≤◌, zero, Bool, true, false, cond, drop, List, [], ◌∷◌, ◌++◌, length, Ok, Err, refl, ap, ◌∙◌, arith}
use Rattle.std.specs.Prelude.{Result, IfOk}
use Rattle.std.proofs.Math.Dec.{ltb}
use Rattle.std.proofs.lemmas.Bool.{ltb-false, le-ltb}
use Rattle.byteorder.specs.Endian.{little_number}
use Rattle.byteorder.specs.Numbers.{little_from-append}
use Rattle.std.proofs.lemmas.List.{append-nil, length-append, drop-append-le}
use Rattle.fsrm_model.specs.declared.row.Rows.{Rows}
use Rattle.record_fields.specs.declared.flaw.Flaw.{Flaw}
use Rattle.record_fields.specs.declared.flaw.Flaw.TheVariants.{Truncated}
use Rattle.record_fields.specs.Formats.{Format, Read, ◌>>=◌, number_at, items_at}
use Rattle.record_fields.specs.Pieces.{with_front}
use Rattle.record_fields.proofs.ReadLaws.{ok_is}
use Rattle.image_codec.specs.declared.section.Section.{Section}
use Rattle.image_codec.specs.declared.section.Section.TheVariants.{Start, Nodes, Quotas, Templates, Autos, Groups, Screens, Excepts, Jobs, Acts, Audits}
use Rattle.image_codec.specs.Rows.{node, quota, template, auto, group, screen, except, job, act, audit}
use Rattle.image_codec.specs.Sections.{following, start_of, more_of, items_of, after, resume}

-- ---- what is read next
pub then_same : {A B : Type 0} (r : Read A) (f g : A × List ℕ → Read B) → ((x : A × List ℕ) → f x ≡ g x) → (r >>= f) ≡ (r >>= g)
then_same (Ok x) f g same = same x
then_same (Err flaw) f g same = refl

pub then_then : {A B C : Type 0} (r : Read A) (f : A × List ℕ → Read B) (g : B × List ℕ → Read C) → ((r >>= f) >>= g) ≡ (r >>= λ x. f x >>= g)
then_then (Ok x) f g = refl
then_then (Err flaw) f g = refl

-- ---- a section of which no more rows come
more_done : {X : Type 0} (f : Format X) (front : List X) (put : List X → Rows) (bytes : List ℕ) → more_of f front put 0 bytes ≡ Ok (put front, bytes)
unfolding items_at
more_done f front put bytes = ap (λ xs. Ok (put xs, bytes)) (append-nil front)

pub section_done : (s : Section) (R : Rows) (bytes : List ℕ) → items_of s R 0 bytes ≡ Ok (R, bytes)
section_done Start R bytes = refl
section_done Nodes R bytes = more_done node R.nodes (λ xs. record R { nodes = xs }) bytes
section_done Quotas R bytes = more_done quota R.quotas (λ xs. record R { quotas = xs }) bytes
section_done Templates R bytes = more_done template R.templates (λ xs. record R { templates = xs }) bytes
section_done Autos R bytes = more_done auto R.autos (λ xs. record R { autos = xs }) bytes
section_done Groups R bytes = more_done group R.groups (λ xs. record R { groups = xs }) bytes
section_done Screens R bytes = more_done screen R.screens (λ xs. record R { screens = xs }) bytes
section_done Excepts R bytes = more_done except R.excepts (λ xs. record R { excepts = xs }) bytes
section_done Jobs R bytes = more_done job R.jobs (λ xs. record R { jobs = xs }) bytes
section_done Acts R bytes = more_done act R.acts (λ xs. record R { acts = xs }) bytes
section_done Audits R bytes = more_done audit R.audits (λ xs. record R { audits = xs }) bytes

-- ---- a section after another one
pub resumed : (s : Section) (R : Rows) (bytes : List ℕ) → resume s R 0 bytes ≡ after (following s) R bytes
resumed s R bytes = ap (λ r. r >>= λ x. after (following s) x.0 x.1) (section_done s R bytes)

pub at_end : (s : Section) (R : Rows) (bytes : List ℕ) → following s ≡ [] → resume s R 0 bytes ≡ Ok (R, bytes)
at_end s R bytes none = resumed s R bytes ∙ ap (λ ss. after ss R bytes) none

pub at_next : (s next : Section) (R : Rows) (bytes : List ℕ) (count : ℕ) (rest : List ℕ) → following s ≡ next ∷ following next → number_at 4 bytes ≡ Ok (count, rest)
    → resume s R 0 bytes ≡ resume next R count rest
at_next s next R bytes count rest is read =
    resumed s R bytes ∙ ap (λ ss. after ss R bytes) is ∙ ap (λ r. r >>= λ n. items_of next R n.0 n.1 >>= λ x. after (following next) x.0 x.1) read

pub at_cut : (s next : Section) (R : Rows) (bytes : List ℕ) (flaw : Flaw) → following s ≡ next ∷ following next → number_at 4 bytes ≡ Err flaw → resume s R 0 bytes ≡ Err flaw
at_cut s next R bytes flaw is read =
    resumed s R bytes ∙ ap (λ ss. after ss R bytes) is ∙ ap (λ r. r >>= λ n. items_of next R n.0 n.1 >>= λ x. after (following next) x.0 x.1) read

-- ---- numbers
number_cut : (b : Bool) (n : ℕ) (x : ℕ × List ℕ) (flaw : Flaw) → cond b (Err (Truncated n)) (Ok x) ≡ Err flaw → flaw ≡ Truncated n
number_cut true n x flaw e = cc
number_cut false n x flaw e = absurd cc

pub number_truncated : (width : ℕ) (bytes : List ℕ) (flaw : Flaw) → number_at width bytes ≡ Err flaw → flaw ≡ Truncated (length bytes)
unfolding number_at
number_truncated width bytes flaw e = number_cut (ltb (length bytes) width) (length bytes) (little_number width bytes, drop width bytes) flaw e

number_whole : (b : Bool) (n : ℕ) (x y : ℕ × List ℕ) → cond b (Err (Truncated n)) (Ok x) ≡ Ok y → (b ≡ false) × (x ≡ y)
number_whole true n x y e = absurd cc
number_whole false n x y e = (refl, ok_is x y e)

pub number_more : (width : ℕ) (bytes more : List ℕ) (n : ℕ) (rest : List ℕ) → number_at width bytes ≡ Ok (n, rest) → number_at width (bytes ++ more) ≡ Ok (n, rest ++ more)
unfolding number_at
number_more width bytes more n rest read =
    let w = number_whole (ltb (length bytes) width) (length bytes) (little_number width bytes, drop width bytes) (n, rest) read in
    let long : width ≤ length bytes = ltb-false (length bytes) width w.0 in
    let long' : ltb (length (bytes ++ more)) width ≡ false = le-ltb _ _ (omega (arith, long, length-append bytes more)) in
    let number' : little_number width (bytes ++ more) ≡ little_number width bytes = little_from-append width bytes more long in
    let after' : drop width (bytes ++ more) ≡ drop width bytes ++ more = drop-append-le width bytes more long in
    rw (long', number', after') (ap (λ (x : ℕ × List ℕ). Ok (x.0, x.1 ++ more)) w.1)

-- ---- what comes first
start_suc : (R : Rows) (still : ℕ) (bytes : List ℕ) → still ≢ 0 → start_of R still bytes ≡ start_of R 1 bytes
start_suc R zero bytes some = absurd (some refl)
start_suc R (suc k) bytes some = refl

pub start_read : (R : Rows) (still : ℕ) (bytes : List ℕ) (m : ℕ) (r : List ℕ) (l : ℕ) (rest : List ℕ) → still ≢ 0 → number_at 8 bytes ≡ Ok (m, r) → number_at 4 r ≡ Ok (l, rest)
    → (more : List ℕ) → start_of R still (bytes ++ more) ≡ Ok (record R { last_moment = m; run_limit = l }, rest ++ more)
start_read R still bytes m r l rest some first second more =
    let a : number_at 8 (bytes ++ more) ≡ Ok (m, r ++ more) = number_more 8 bytes more m r first in
    let b : number_at 4 (r ++ more) ≡ Ok (l, rest ++ more) = number_more 4 r more l rest second in
    start_suc R still (bytes ++ more) some ∙ rw (a, b) refl

pub start_cut : (R : Rows) (still : ℕ) (bytes : List ℕ) (flaw : Flaw) → still ≢ 0 → number_at 8 bytes ≡ Err flaw → start_of R still bytes ≡ Err (Truncated (length bytes))
start_cut R still bytes flaw some first =
    start_suc R still bytes some ∙ ap (λ r. r >>= λ m. number_at 4 m.1 >>= λ l. Ok (record R { last_moment = m.0; run_limit = l.0 }, l.1)) first ∙ ap (λ f. Err f) (number_truncated 8 bytes flaw first)

pub start_cut_later : (R : Rows) (still : ℕ) (bytes : List ℕ) (m : ℕ) (r : List ℕ) (flaw : Flaw) → still ≢ 0 → number_at 8 bytes ≡ Ok (m, r) → number_at 4 r ≡ Err flaw → start_of R still bytes ≡ Err (Truncated (length r))
start_cut_later R still bytes m r flaw some first second =
    start_suc R still bytes some ∙ rw (first, second) (ap (λ f. Err f) (number_truncated 4 r flaw second))

-- ---- rows of a list
pub items_cut : {X : Type 0} (f : Format X) (still : ℕ) (bytes : List ℕ) (flaw : Flaw) → still ≢ 0 → f.read bytes ≡ Err flaw → items_at f still bytes ≡ Err flaw
unfolding items_at
items_cut f zero bytes flaw some e = absurd (some refl)
items_cut f (suc k) bytes flaw some e = rw e refl

pub ok_then : {X E : Type 0} {P Q : X → Type 0} (r : Result X E) → ((x : X) → P x → Q x) → IfOk r P → IfOk r Q
ok_then (Ok x) f p = f x p
ok_then (Err e) f p = p

-- ---- sections: what follows one that was read on
pub resume_on : (s : Section) (R S : Rows) (still left : ℕ) (bytes rest : List ℕ) → items_of s S left rest ≡ items_of s R still bytes → resume s S left rest ≡ resume s R still bytes
resume_on s R S still left bytes rest same = ap (λ r. r >>= λ x. after (following s) x.0 x.1) same

-- ---- a list that was read on
pub more_on : {X : Type 0} (f : Format X) (front now : List X) (put : List X → Rows) (still left : ℕ) (bytes rest : List ℕ) → with_front now (items_at f left rest) ≡ with_front front (items_at f still bytes)
    → more_of f now put left rest ≡ more_of f front put still bytes
more_on {X = X} f front now put still left bytes rest same = ap (λ (r : Read (List X)). r >>= λ xs. Ok (put xs.0, xs.1)) same

pub more_flaw : {X : Type 0} (f : Format X) (front : List X) (put : List X → Rows) (still : ℕ) (bytes : List ℕ) (flaw : Flaw) → with_front front (items_at f still bytes) ≡ Err flaw → more_of f front put still bytes ≡ Err flaw
more_flaw {X = X} f front put still bytes flaw e = ap (λ (r : Read (List X)). r >>= λ xs. Ok (put xs.0, xs.1)) e

pub more_cut : {X : Type 0} (f : Format X) (front : List X) (put : List X → Rows) (still : ℕ) (bytes : List ℕ) (flaw : Flaw) → items_at f still bytes ≡ Err flaw → more_of f front put still bytes ≡ Err flaw
more_cut {X = X} f front put still bytes flaw e = more_flaw f front put still bytes flaw (ap (λ (r : Read (List X)). with_front front r) e)
