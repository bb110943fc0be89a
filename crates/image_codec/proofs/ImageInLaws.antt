-- What a reader of pieces answers.
use Rattle.std.proofs.Common.{◌≡◌, ◌≢◌, ℕ, ◌+◌, ◌-◌, ◌<◌, ◌≤◌, Bool, true, false, List, [], ◌∷◌, ◌++◌, length, take, drop, Option, Some, None, Ok, Err, refl, sym, ap, subst, ◌∙◌, append_assoc, arith, ◌⊎◌, inl, inr}
use Rattle.std.specs.Prelude.{◌==◌, ◌&&◌, nat_lt, Result, is_none, is_some}
use Rattle.std.specs.Option.{unwrap_or}
use Rattle.fsrm_base.proofs.TestLaws.{is_or, neither}
use Rattle.std.proofs.lemmas.Bool.{ne_eqb, le-ltb, ltb-true, ltb-false}
use Rattle.std.proofs.lemmas.List.{append-nil, length-append, take-append-drop}
use Rattle.std.proofs.Math.Bool.{and-false}
use Rattle.std.proofs.Math.Seq.{take-append-add, take-nil}
use Rattle.fsrm_model.specs.declared.row.Rows.{Rows}
use Rattle.record_fields.specs.Formats.{Read}
use Rattle.record_fields.specs.declared.flaw.Flaw.TheVariants.{Truncated, Illegal}
use Rattle.image_codec.specs.declared.image_in.ImageIn.{ImageIn}
use Rattle.image_codec.specs.ImageIn.{resumed, own_bytes, outcome, past_end, AreRead, ReadsOn}
use Rattle.record_codec.specs.declared.fault.CodecFault.{CodecFault}
use Rattle.record_codec.specs.declared.fault.CodecFault.TheVariants.{BadRecord}
use Rattle.image_codec.specs.Images.{image, image_in, of_length}
use Rattle.image_codec.specs.Sections.{resume, no_rows, Pauses}
use Rattle.image_codec.specs.declared.section.Section.TheVariants.{Start}
use Rattle.image_codec.proofs.ImageReads.{image_reads}

same_length : (v w : Bool) (m n : ℕ) (r s : Read Rows) → v ≡ w → m ≡ n → r ≡ s → of_length v m r ≡ of_length w n s
same_length v w m n r s p q e = ap (λ (b : Bool). of_length b m r) p ∙ ap (λ (k : ℕ). of_length w k r) q ∙ ap (λ x. of_length w n x) e

-- bytes past the end of a whole image
too_many : (w : Bool) (size : ℕ) (R : Rows) (rest : List ℕ) → (w && (length rest == 0)) ≡ false → of_length w size (Ok (R, rest)) ≡ Err (size - length rest)
too_many w size R rest fails = rw fails refl

own_first : (reader : ImageIn) (own more : List ℕ) → length own ≤ reader.len - reader.came → own_bytes reader (own ++ more) ≡ own ++ take (reader.len - reader.came - length own) more
own_first reader own more within =
    let parts : reader.len - reader.came ≡ length own + (reader.len - reader.came - length own) = omega (arith, within) in
    ap (λ (n : ℕ). take n (own ++ more)) parts ∙ take-append-add own more (reader.len - reader.came - length own)

first_false : (a b : Bool) → a ≡ false → (a && b) ≡ false
first_false a b fails = rw fails refl

second_false : (a b : Bool) → b ≡ false → (a && b) ≡ false
second_false a b fails = ap (λ (x : Bool). a && x) fails ∙ and-false a

pub outcome_on : (before now : ImageIn) (own : List ℕ) → length own ≤ before.len - before.came → ReadsOn before own now → (more : List ℕ) → outcome now more ≡ outcome before (own ++ more)
outcome_on before now own within on more =
    let room : now.len - now.came ≡ before.len - before.came - length own = omega (arith, on.len, on.came) in
    let later = take (before.len - before.came - length own) more in
    let here : own_bytes now more ≡ later = ap (λ (n : ℕ). take n more) room in
    let all : own_bytes before (own ++ more) ≡ own ++ later = own_first before own more within in
    let sum : now.came + length more ≡ before.came + length (own ++ more) = omega (arith, on.came, length-append own more) in
    same_length _ _ _ _ _ _
    (ap (λ (n : ℕ). n == now.len) sum ∙ ap (λ (n : ℕ). before.came + length (own ++ more) == n) on.len)
    (ap (λ (b : List ℕ). now.came + length b) here ∙ omega (arith, on.came, length-append own later) ∙ sym (ap (λ (b : List ℕ). before.came + length b) all))
    (ap (resumed now) here ∙ on.goes_on later ∙ sym (ap (resumed before) all))

-- ---- damage that no bytes can mend
pub illegal_outcome : (before : ImageIn) (own beyond : List ℕ) (left place : ℕ) → length own ≤ before.len - before.came → place ≡ before.came + length own - left
    → ((more : List ℕ) → resumed before (own ++ more) ≡ Err (Illegal (left + length more))) → (more : List ℕ) → outcome before ((own ++ beyond) ++ more) ≡ Err place
illegal_outcome before own beyond left place within is illegal more =
    let later = take (before.len - before.came - length own) (beyond ++ more) in
    let all : own_bytes before ((own ++ beyond) ++ more) ≡ own ++ later = ap (own_bytes before) (append_assoc own beyond more) ∙ own_first before own (beyond ++ more) within in
    let where_it_is : before.came + length (own ++ later) - (left + length later) ≡ place = omega (arith, is, length-append own later) in
    same_length _ _ _ _ _ _ refl (ap (λ (b : List ℕ). before.came + length b) all) (ap (resumed before) all ∙ illegal later) ∙ ap (λ (n : ℕ). Err n) where_it_is

-- more bytes than the image has, at a field that is cut short
pub cut_outcome : (before now : ImageIn) (own beyond : List ℕ) (left : ℕ) → length own ≡ before.len - before.came → ReadsOn before own now → Pauses now.section now.rows now.still now.held.items (Some left)
    → (more : List ℕ) → outcome before ((own ++ beyond) ++ more) ≡ Err (now.came - left)
cut_outcome before now own beyond left full on cut more =
    let none : before.len - before.came - length own ≡ 0 = omega (arith, full) in
    let all : own_bytes before ((own ++ beyond) ++ more) ≡ own ++ [] =
    ap (own_bytes before) (append_assoc own beyond more) ∙ own_first before own (beyond ++ more) (omega (arith, full)) ∙ ap (λ (n : ℕ). own ++ take n (beyond ++ more)) none in
    let reads : resumed before (own ++ []) ≡ Err (Truncated left) = sym (on.goes_on []) ∙ ap (resume now.section now.rows now.still) (append-nil now.held.items) ∙ cut in
    same_length _ _ _ _ _ _ refl (ap (λ (b : List ℕ). before.came + length b) all) (ap (resumed before) all ∙ reads)
    ∙ ap (λ (n : ℕ). Err n) (omega (arith, on.came, ap length (append-nil own)))

-- bytes that follow a whole spelling
pub end_outcome : (before now : ImageIn) (own beyond : List ℕ) → length own ≤ before.len - before.came → ReadsOn before own now → Pauses now.section now.rows now.still now.held.items None
    → (0 < length now.held.items) ⊎ (before.len < before.came + length (own ++ beyond)) → (more : List ℕ) → outcome before ((own ++ beyond) ++ more) ≡ Err (now.came - length now.held.items)
end_outcome before now own beyond within on ended too more =
    let later = take (before.len - before.came - length own) (beyond ++ more) in
    let bytes = (own ++ beyond) ++ more in
    let w = before.came + length bytes == before.len in
    let all : own_bytes before bytes ≡ own ++ later = ap (own_bytes before) (append_assoc own beyond more) ∙ own_first before own (beyond ++ more) within in
    let reads : resumed before (own ++ later) ≡ Ok (now.rows, now.held.items ++ later) = sym (on.goes_on later) ∙ ended (now.held.items ++ later) in
    let fails : (w && (length (now.held.items ++ later) == 0)) ≡ false = elim too [
      | inl held ↦ second_false w (length (now.held.items ++ later) == 0) (ne_eqb (length (now.held.items ++ later)) 0 (λ e. omega (arith, held, e, length-append now.held.items later)))
      | inr beyond_it ↦ first_false w (length (now.held.items ++ later) == 0) (ne_eqb (before.came + length bytes) before.len (λ e. omega (arith, beyond_it, e, length-append (own ++ beyond) more)))
    ] in
    same_length _ _ _ _ _ _ refl (ap (λ (b : List ℕ). before.came + length b) all) (ap (resumed before) all ∙ reads)
    ∙ too_many w (before.came + length (own ++ later)) now.rows (now.held.items ++ later) fails
    ∙ ap (λ (n : ℕ). Err n) (omega (arith, on.came, length-append own later, length-append now.held.items later))

-- ---- at the last
nothing_more : (reader : ImageIn) → own_bytes reader [] ≡ []
nothing_more reader = take-nil (reader.len - reader.came)

pub final_cut : (now : ImageIn) (left : ℕ) → Pauses now.section now.rows now.still now.held.items (Some left) → outcome now [] ≡ Err (now.came - left)
final_cut now left cut =
    same_length _ _ _ _ _ _ refl (ap (λ (b : List ℕ). now.came + length b) (nothing_more now))
    (ap (resumed now) (nothing_more now) ∙ ap (resume now.section now.rows now.still) (append-nil now.held.items) ∙ cut)
    ∙ ap (λ (n : ℕ). Err n) (omega arith)

final_read : (now : ImageIn) → Pauses now.section now.rows now.still now.held.items None → outcome now [] ≡ of_length (now.came + 0 == now.len) (now.came + 0) (Ok (now.rows, now.held.items))
final_read now ended =
    same_length _ _ _ _ _ _ refl (ap (λ (b : List ℕ). now.came + length b) (nothing_more now))
    (ap (resumed now) (nothing_more now) ∙ ap (resume now.section now.rows now.still) (append-nil now.held.items) ∙ ended now.held.items)

pub final_end : (now : ImageIn) → Pauses now.section now.rows now.still now.held.items None → (0 < length now.held.items) ⊎ (now.came ≢ now.len) → outcome now [] ≡ Err (now.came - length now.held.items)
final_end now ended wrong =
    let fails : ((now.came + 0 == now.len) && (length now.held.items == 0)) ≡ false = elim wrong [
      | inl held ↦ second_false (now.came + 0 == now.len) (length now.held.items == 0) (ne_eqb (length now.held.items) 0 (λ e. omega (arith, held, e)))
      | inr other ↦ first_false (now.came + 0 == now.len) (length now.held.items == 0) (ne_eqb (now.came + 0) now.len (λ e. other (omega (arith, e))))
    ] in
    final_read now ended ∙ too_many (now.came + 0 == now.len) (now.came + 0) now.rows now.held.items fails ∙ ap (λ (n : ℕ). Err n) (omega arith)

-- ---- at first
pub begins_so : (len : ℕ) (bytes : List ℕ) → of_length (0 + length bytes == len) (0 + length (take (len - 0) bytes)) (resume Start no_rows 1 ([] ++ take (len - 0) bytes)) ≡ image_in len bytes
begins_so len bytes =
    let room : len - 0 ≡ len = omega arith in
    let own : take (len - 0) bytes ≡ take len bytes = ap (λ (n : ℕ). take n bytes) room in
    let sum : 0 + length bytes ≡ length bytes = omega arith in
    let size : 0 + length (take (len - 0) bytes) ≡ length (take len bytes) = omega (arith, ap length own) in
    same_length _ _ _ _ _ _ (ap (λ (n : ℕ). n == len) sum) size (sym (image_reads (take (len - 0) bytes)) ∙ ap image.read own)

-- ---- what the calls answer
pub feed_damage : (before now : ImageIn) (own beyond : List ℕ) (cut : Option ℕ) → length own ≤ before.len - before.came → (0 < length beyond → length own ≡ before.len - before.came) → ReadsOn before own now
    → Pauses now.section now.rows now.still now.held.items cut → past_end cut (length now.held.items) (length beyond) ≡ true → (more : List ℕ)
    → outcome before ((own ++ beyond) ++ more) ≡ Err (now.came - unwrap_or cut (length now.held.items))
feed_damage before now own beyond None within full on ended past more =
    elim (is_or (nat_lt 0 (length beyond)) (nat_lt 0 (length now.held.items)) past) [
      | inl some ↦
          let there : 0 < length beyond = ltb-true 0 (length beyond) some in
          end_outcome before now own beyond within on ended (inr (omega (arith, there, full there, length-append own beyond))) more
      | inr held ↦ end_outcome before now own beyond within on ended (inl (ltb-true 0 (length now.held.items) held)) more
    ]
feed_damage before now own beyond (Some left) within full on cut past more =
    elim (is_or (nat_lt 0 (length beyond)) false past) [
      | inl some ↦ cut_outcome before now own beyond left (full (ltb-true 0 (length beyond) some)) on cut more
      | inr never ↦ absurd (cc never)
    ]

none_beyond : (own beyond bytes : List ℕ) → own ++ beyond ≡ bytes → nat_lt 0 (length beyond) ≡ false → own ≡ bytes
none_beyond own [] bytes parts none = sym (append-nil own) ∙ parts
none_beyond own (x ∷ xs) bytes parts none = absurd (omega (arith, ltb-false 0 (length (x ∷ xs)) none))

pub held_back : (before now : ImageIn) (own beyond bytes : List ℕ) → length own ≤ before.len - before.came → own ++ beyond ≡ bytes → length beyond ≡ 0 → ReadsOn before own now → (more : List ℕ) → outcome now more ≡ outcome before (bytes ++ more)
held_back before now own beyond bytes within parts none on more =
    outcome_on before now own within on more ∙ ap (λ (b : List ℕ). outcome before (b ++ more)) (none_beyond own beyond bytes parts (le-ltb 0 (length beyond) (omega (arith, none))))

pub feed_on : (before now : ImageIn) (own beyond bytes : List ℕ) (cut : Option ℕ) → length own ≤ before.len - before.came → own ++ beyond ≡ bytes → ReadsOn before own now
    → past_end cut (length now.held.items) (length beyond) ≡ false → (more : List ℕ) → outcome now more ≡ outcome before (bytes ++ more)
feed_on before now own beyond bytes cut within parts on past more =
    let none = (neither (nat_lt 0 (length beyond)) (is_none cut && nat_lt 0 (length now.held.items)) past).0 in
    outcome_on before now own within on more ∙ ap (λ (b : List ℕ). outcome before (b ++ more)) (none_beyond own beyond bytes parts none)

pub finish_damage : (now : ImageIn) (cut : Option ℕ) → Pauses now.section now.rows now.still now.held.items cut → (is_some cut ≡ true) ⊎ ((0 < length now.held.items) ⊎ (now.came ≢ now.len))
    → outcome now [] ≡ Err (now.came - unwrap_or cut (length now.held.items))
finish_damage now None ended (inl some) = absurd (cc some)
finish_damage now None ended (inr wrong) = final_end now ended wrong
finish_damage now (Some left) cut wrong = final_cut now left cut

pub parted : (count : ℕ) (own beyond bytes : List ℕ) → own ≡ take count bytes → beyond ≡ drop count bytes → own ++ beyond ≡ bytes
parted count own beyond bytes front back =
    ap (λ (b : List ℕ). b ++ beyond) front ∙ ap (λ (b : List ℕ). take count bytes ++ b) back ∙ take-append-drop count bytes

pub told : (fault : CodecFault) (place : ℕ) (read : Result Rows ℕ) → fault ≡ BadRecord place → read ≡ Err place → AreRead (Err fault) read
told fault place read is e = subst (λ (f : CodecFault). AreRead (Err f) read) (sym is) e
