-- The entries that records spell are those of the bodies that a reader comes to.
use Rattle.std.proofs.Common.{◌≡◌, ℕ, zero, suc, ◌+◌, ◌≤◌, ◌<◌, Bool, true, false, cond, not, arith, length-take, length-drop, List, [], ◌∷◌, length, take, drop, refl, sym, ◌∙◌, ap, subst}
use Rattle.std.specs.Prelude.{Option, None, Some, Result, Ok, Err, nat_lt, nat_eq, slice_index}
use Rattle.std.proofs.lemmas.Bool.{ltb-true, le-ltb}
use Rattle.fsrm_model.specs.declared.command.Entry.{Entry}
use Rattle.fsrm_journal.specs.Next.{length_at, has_length, with_body, record_at}
use Rattle.fsrm_journal.specs.Reading.{Comes, Read}
use Rattle.fsrm_journal.proofs.Walks.{stands, comes_then}
use Rattle.record_codec.specs.Entries.{decoded}
use Rattle.fsrm_store.specs.Keeps.{Spell}
use Rattle.fsrm_store.specs.States.{with_entry, with_record, first_entries}

-- ---- a reader comes to nothing past the end
pub inside : (half : List ℕ) (place : ℕ) (found : Option (ℕ × ℕ)) → record_at half place ≡ Ok found → place < length half
inside half place (Some (p, n)) is = let s = (stands half place p n is).0 in omega (arith, s.whole)
inside half place None is = by (nat_lt place (length half)) refl is
  where
    by : (b : Bool) → nat_lt place (length half) ≡ b → with_body half place (cond (not b) (Err place) (cond (not (nat_eq (slice_index half place) 1)) (Ok None) (cond (not (has_length half place)) (Err (place + 1)) (Ok (Some (length_at half place)))))) ≡ Ok None → place < length half
    by true e h = ltb-true place (length half) e
    by false e h = absurd (cc h)

past : (half : List ℕ) (place : ℕ) (found : Option (ℕ × ℕ)) → record_at half place ≡ Ok found → length half < place → ⊥
past half place found is h = let i = inside half place found is in omega (arith, i, h)

-- ---- the bodies that a reader comes to are those whose entries are told
pub entries_told : (half : List ℕ) (most place end : ℕ) (bodies : List (List ℕ)) (entries : List Entry) → Comes half place bodies end → record_at half end ≡ Ok None → Spell bodies entries → length half < most + place
    → first_entries most half place ≡ Ok entries
entries_told half zero place end [] entries comes stops s h = absurd (past half place None (ap (record_at half) comes ∙ stops) (omega (arith, h)))
entries_told half zero place end (body ∷ bodies) entries comes stops s h = absurd (past half place (Some (place + 5, length body)) comes.0 (omega (arith, h)))
entries_told half (suc most) place end [] [] comes stops s h = ap (with_record (first_entries most half) half) (ap (record_at half) comes ∙ stops)
entries_told half (suc most) place end [] (e ∷ es) comes stops s h = absurd s
entries_told half (suc most) place end (body ∷ bodies) [] comes stops s h = absurd s
entries_told half (suc most) place end (body ∷ bodies) (e ∷ es) comes stops s h =
    ap (with_record (first_entries most half) half) comes.0
    ∙ (ap (λ r. with_entry (place + 5) r (first_entries most half (place + 5 + length body))) (ap decoded comes.1 ∙ s.0)
    ∙ ap (with_entry (place + 5) (Ok e)) (entries_told half most (place + 5 + length body) end bodies es comes.2 stops s.1 (omega (arith, h))))

-- ---- and the other way round
pub record Found (half : List ℕ) (place : ℕ) (entries : List Entry) : Type 0 where
  pub bodies : List (List ℕ)
  pub read : Read half place bodies
  pub spell : Spell bodies entries

found_none : (half : List ℕ) (place : ℕ) → record_at half place ≡ Ok None → Found half place []
found_none half place is = record { bodies = []; read = record { end = place; comes = refl; stops = is }; spell = tt }

-- a reader that comes to a record
pub comes_one : (half : List ℕ) (place p n : ℕ) → record_at half place ≡ Ok (Some (p, n)) → Comes half place (take n (drop p half) ∷ []) (p + n)
comes_one half place p n is =
    let s = stands half place p n is in
    let body = take n (drop p half) in
    let whole : place + 5 + n ≤ length half = s.0.whole in
    let long : length body ≡ n = omega (arith, length-take n (drop p half), length-drop p half, whole, s.1) in
    let there : record_at half place ≡ Ok (Some (place + 5, length body)) = is ∙ ap (λ (p : ℕ). Ok (Some (p, n))) (sym s.1) ∙ ap (λ (n : ℕ). Ok (Some (place + 5, n))) (sym long) in
    let same : take (length body) (drop (place + 5) half) ≡ body = ap (λ (k : ℕ). take k (drop (place + 5) half)) long ∙ ap (λ (p : ℕ). take n (drop p half)) s.1 in
    let next : place + 5 + length body ≡ p + n = omega (arith, s.1, long) in
    (there, same, next)

found_some : (half : List ℕ) (place p n : ℕ) (entry : Entry) (entries : List Entry) → record_at half place ≡ Ok (Some (p, n)) → decoded (take n (drop p half)) ≡ Ok entry → Found half (p + n) entries → Found half place (entry ∷ entries)
found_some half place p n entry entries is spells rest =
    let body = take n (drop p half) in
    record {
      bodies = body ∷ rest.bodies;
      read = record { end = rest.read.end; comes = comes_then half place (p + n) rest.read.end (body ∷ []) rest.bodies (comes_one half place p n is) rest.read.comes; stops = rest.read.stops };
      spell = (spells, rest.spell);
    }

abbrev same : Result (List Entry) ℕ → Result (List Entry) ℕ → Type 0
same r s = r ≡ s

ok_is : (a b : List Entry) → same (Ok a) (Ok b) → a ≡ b
ok_is a b e = cc e

pub entries_found : (half : List ℕ) (most place : ℕ) (entries : List Entry) → first_entries most half place ≡ Ok entries → Found half place entries
entries_found half zero place entries is = absurd (cc is)
entries_found half (suc most) place entries is =
    by_record (λ p es e. entries_found half most p es e) (record_at half place) refl is
  where
    by_entry : ((p : ℕ) (es : List Entry) → first_entries most half p ≡ Ok es → Found half p es) → (p n : ℕ) → record_at half place ≡ Ok (Some (p, n)) → (r : Result Entry ℕ) → decoded (take n (drop p half)) ≡ r → (rest : Result (List Entry) ℕ) → first_entries most half (p + n) ≡ rest → with_entry p r rest ≡ Ok entries → Found half place entries
    by_entry more p n at (Err wrong) e rest f is = absurd (cc is)
    by_entry more p n at (Ok entry) e (Err damaged) f is = absurd (cc is)
    by_entry more p n at (Ok entry) e (Ok es) f is =
        subst (Found half place) (ok_is (entry ∷ es) entries is) (found_some half place p n entry es at e (more (p + n) es f))

    by_record : ((p : ℕ) (es : List Entry) → first_entries most half p ≡ Ok es → Found half p es) → (r : Result (Option (ℕ × ℕ)) ℕ) → record_at half place ≡ r → with_record (first_entries most half) half r ≡ Ok entries → Found half place entries
    by_record more (Err damaged) e is = absurd (cc is)
    by_record more (Ok None) e is = subst (Found half place) (ok_is [] entries is) (found_none half place e)
    by_record more (Ok (Some (p, n))) e is = by_entry more p n e (decoded (take n (drop p half))) refl (first_entries most half (p + n)) refl is

-- ---- where a reader stops at a damage
past_end : (half : List ℕ) (place : ℕ) → length half ≤ place → record_at half place ≡ Err place
past_end half place past = ap (λ (b : Bool). with_body half place (cond (not b) (Err place) (cond (not (nat_eq (slice_index half place) 1)) (Ok None) (cond (not (has_length half place)) (Err (place + 1)) (Ok (Some (length_at half place))))))) (le-ltb place (length half) past)

pub entries_damaged : (half : List ℕ) (damaged most place end : ℕ) (bodies : List (List ℕ)) (entries : List Entry) → Comes half place bodies end → Spell bodies entries → ((k : ℕ) → first_entries (suc k) half end ≡ Err damaged) → length half < most + place
    → first_entries most half place ≡ Err damaged
entries_damaged half damaged zero place end [] entries comes s stops h =
    let none : record_at half place ≡ Err place = past_end half place (omega (arith, h)) in
    sym (ap (with_record (first_entries zero half) half) none) ∙ (ap (first_entries 1 half) comes ∙ stops 0)
entries_damaged half damaged zero place end (body ∷ bodies) entries comes s stops h = absurd (past half place (Some (place + 5, length body)) comes.0 (omega (arith, h)))
entries_damaged half damaged (suc most) place end [] entries comes s stops h = ap (first_entries (suc most) half) comes ∙ stops most
entries_damaged half damaged (suc most) place end (body ∷ bodies) [] comes s stops h = absurd s
entries_damaged half damaged (suc most) place end (body ∷ bodies) (e ∷ es) comes s stops h =
    ap (with_record (first_entries most half) half) comes.0
    ∙ (ap (λ r. with_entry (place + 5) r (first_entries most half (place + 5 + length body))) (ap decoded comes.1 ∙ s.0)
    ∙ ap (with_entry (place + 5) (Ok e)) (entries_damaged half damaged most (place + 5 + length body) end bodies es comes.2 s.1 stops (omega (arith, h))))
