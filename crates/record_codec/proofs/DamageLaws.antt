-- Where bytes that spell no entry go wrong.
use Rattle.std.proofs.Common.{◌≡◌, ℕ, ◌-◌, ◌<◌, ◌≤◌, Bool, true, false, cond, List, [], ◌++◌, length, drop, Ok, Err, Result, refl, sym, ap, ◌∙◌, arith, append_assoc}
use Rattle.std.specs.Prelude.{nat_eq, nat_le}
use Rattle.std.proofs.lemmas.Bool.{leb-true, leb-false}
use Rattle.std.proofs.lemmas.List.{append-nil, length-append}
use Rattle.fsrm_model.specs.declared.command.Entry.{Entry}
use Rattle.record_fields.specs.Formats.{Format, Read}
use Rattle.record_fields.specs.Laws.{AreBytes, Places, Reaches, joined, left_of}
use Rattle.record_fields.proofs.Reaching.{goes_past, joined-append, flaw_within}
use Rattle.record_fields.proofs.ReadLaws.{ok_is}
use Rattle.record_codec.specs.declared.fault.CodecFault.{CodecFault}
use Rattle.record_codec.specs.declared.fault.CodecFault.TheVariants.{BadRecord, NoMemory}
use Rattle.record_codec.specs.Decoding.{Decodes, GoesWrong, IfBad}
use Rattle.record_codec.specs.Entries.{entry, at_end, decoded}
use Rattle.record_codec.proofs.EntryLaws.{entry_places}

-- ---- bytes that begin with a whole spelling
whole_reaches : {X : Type 0} (f : Format X) → Places f → (bytes : List ℕ) (x : X) (rest : List ℕ) → f.legal x ≡ true → bytes ≡ f.spell x ++ rest → Reaches f bytes (length rest)
whole_reaches f law bytes x rest legal is = record {
  value = x;
  front = f.fields x;
  after = [];
  rest = rest;
  legal = legal;
  begins = sym (append-nil (f.fields x));
  agrees = is ∙ ap (λ (b : List ℕ). b ++ rest) (sym (law.parts x));
  leaves = refl;
}

-- no other legal value begins with them and with more
no_farther : {X : Type 0} (f : Format X) → Places f → (bytes : List ℕ) (x : X) (rest : List ℕ) → f.legal x ≡ true → bytes ≡ f.spell x ++ rest → (left : ℕ) → Reaches f bytes left → left < length rest → ⊥
no_farther f law bytes x rest legal is left r less =
    let p = joined r.front in
    let q = f.spell x in
    let both_are : p ++ r.rest ≡ q ++ rest = sym r.agrees ∙ is in
    let long : length q ≤ length p = omega (arith, ap length both_are, length-append p r.rest, length-append q rest, r.leaves, less) in
    let d = drop (length q) p in
    let past : p ≡ q ++ d = goes_past p q r.rest rest both_are long in
    let spelled : f.spell r.value ≡ q ++ (d ++ joined r.after) =
    sym (law.parts r.value) ∙ ap joined r.begins ∙ joined-append r.front r.after ∙ ap (λ (b : List ℕ). b ++ joined r.after) past ∙ append_assoc q d (joined r.after) in
    let one : f.read (f.spell r.value) ≡ Ok (r.value, []) = ap f.read (sym (append-nil (f.spell r.value))) ∙ law.exact.again r.value [] r.legal in
    let other : f.read (f.spell r.value) ≡ Ok (x, d ++ joined r.after) = ap f.read spelled ∙ law.exact.again x (d ++ joined r.after) legal in
    let none : d ++ joined r.after ≡ [] = ap (λ y. y.1) (ok_is (x, d ++ joined r.after) (r.value, []) (sym other ∙ one)) in
    absurd (omega (arith, ap length both_are, length-append p r.rest, length-append q rest, r.leaves, less, ap length past, length-append q d, ap length none, length-append d (joined r.after)))

whole_farthest : {X : Type 0} (f : Format X) → Places f → (bytes : List ℕ) (x : X) (rest : List ℕ) → f.legal x ≡ true → bytes ≡ f.spell x ++ rest → (left : ℕ) → Reaches f bytes left → length rest ≤ left
whole_farthest f law bytes x rest legal is left r = settled (nat_le (length rest) left) refl
  where
    settled : (t : Bool) → nat_le (length rest) left ≡ t → length rest ≤ left
    settled true t = leb-true (length rest) left t
    settled false t = absurd (no_farther f law bytes x rest legal is left r (leb-false (length rest) left t))

-- ---- entries
too_many : (t : Bool) (x : Entry × List ℕ) (stood place : ℕ) → cond t (Ok x.0) (Err stood) ≡ Err place → stood ≡ place
too_many true x stood place e = absurd (cc e)
too_many false x stood place e = cc

ends_badly : (bytes : List ℕ) (read : Read Entry) (place : ℕ) → AreBytes bytes → entry.read bytes ≡ read → at_end (length bytes) read ≡ Err place → GoesWrong bytes place
ends_badly bytes (Ok x) place are is e =
    let t = entry_places.exact.takes bytes x.0 x.1 are is in
    let stood : length bytes - length x.1 ≡ place = too_many (nat_eq (length x.1) 0) x (length bytes - length x.1) place e in
    record {
      left = length x.1;
      stands = omega (arith, stood, ap length t.1, length-append (entry.spell x.0) x.1);
      sound = whole_reaches entry entry_places bytes x.0 x.1 t.0 t.1;
      farthest = whole_farthest entry entry_places bytes x.0 x.1 t.0 t.1;
    }
ends_badly bytes (Err flaw) place are is e =
    let stood : length bytes - left_of flaw ≡ place = cc in
    record {
      left = left_of flaw;
      stands = omega (arith, stood, flaw_within entry entry_places bytes flaw are is);
      sound = entry_places.sound bytes flaw are is;
      farthest = λ fewer r. entry_places.farthest bytes flaw fewer are is r;
    }

pub is_place : (bytes : List ℕ) (result : Result Entry CodecFault) → AreBytes bytes → Decodes result (decoded bytes) → IfBad result (GoesWrong bytes)
is_place bytes (Ok e) are given = tt
is_place bytes (Err NoMemory) are given = tt
is_place bytes (Err (BadRecord place)) are given = ends_badly bytes (entry.read bytes) place are refl given
