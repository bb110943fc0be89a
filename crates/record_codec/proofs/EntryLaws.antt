-- Entries are read as they are spelled, and no other bytes spell them.
use Rattle.std.proofs.Common.{◌≡◌, ℕ, ◌-◌, Bool, true, false, cond, List, [], length, None, Some, Ok, Err, Result, refl, sym, ap, ◌∙◌, arith}
use Rattle.std.specs.Prelude.{nat_eq, IfOk, option_map}
use Rattle.std.proofs.lemmas.Bool.{eqb-true}
use Rattle.std.proofs.lemmas.Grind.{common_steps}
use Rattle.std.proofs.lemmas.List.{append-nil, nil_from_length}
use Rattle.fsrm_model.specs.declared.command.Entry.{Entry}
use Rattle.fsrm_model.specs.declared.command.Entry.TheVariants.{Order, Finish}
use Rattle.record_fields.specs.Formats.{Read, number, ◌⊗◌}
use Rattle.record_fields.specs.Laws.{AreBytes, Places}
use Rattle.record_fields.proofs.FollowedLaws.{◌also◌}
use Rattle.record_fields.proofs.NumberLaws.{number_exact, number_field, width_1}
use Rattle.record_fields.proofs.StandingLaws.{shaped_places, standing_field_places}
use Rattle.record_codec.specs.declared.fault.CodecFault.{CodecFault}
use Rattle.record_codec.specs.declared.kinds.Kind.{Kind}
use Rattle.record_codec.specs.declared.kinds.Kind.TheVariants.{Deed as DeedKinds, Finish as FinishKind}
use Rattle.record_codec.specs.Decoding.{Decodes}
use Rattle.record_codec.specs.Deeds.{deed_kind_of, deed_values}
use Rattle.record_codec.specs.Entries.{Body, Does, Finishes, kind_of, kind_code, kind_in, entry_kind, deed_in, folder_in, values, body, entry, entry_of, entry_parts, at_end, decoded}
use Rattle.record_codec.specs.Fields.{moment, folder}
use Rattle.record_codec.proofs.DeedLaws.{deed_known, deed_home, deed_places, deed_own, earlier}
use Rattle.record_codec.proofs.FieldLaws.{moment_places, folder_places}
use Rattle.record_codec.proofs.KindLaws.{AreOwn, one_of_places, tagged_places, chosen}

-- ---- the byte of the kind
kind_there : (k : Kind) → true ≡ true → kind_of (kind_code k) ≡ Some k
kind_there (DeedKinds k) may = rw (deed_known k).0 refl
kind_there FinishKind may = refl

abbrev IsCode : ℕ → Kind → Type 0
IsCode n k = (true ≡ true) × (kind_code k ≡ n)

kind_home : (n : ℕ) (k : Kind) → kind_of n ≡ Some k → (true ≡ true) × (kind_code k ≡ n)
kind_home n k =
    earlier (IsCode n) DeedKinds (deed_kind_of n) _ k (λ d is. (refl, deed_home n d is))
    (chosen (IsCode n) (nat_eq n 99) FinishKind k None (λ t. (refl, sym (eqb-true n 99 t))) (λ none. absurd (cc none)))

entry_kind_places : Places entry_kind
entry_kind_places = standing_field_places kind_of kind_code (λ k. true) (number 1) (number_exact 1 width_1) (number_field 1) kind_there kind_home FinishKind refl refl

-- ---- what follows it
values_places : (k : Kind) → Places (values k)
values_places (DeedKinds k) = one_of_places Does deed_in (deed_values k) (deed_places k) (λ deed. refl) (grind (arith, common_steps))
values_places FinishKind = one_of_places Finishes folder_in folder folder_places (λ n. refl) (grind (arith, common_steps))

values_own : AreOwn values kind_in
values_own (DeedKinds k) (Does deed) legal = ap (option_map DeedKinds) (deed_own k deed legal)
values_own FinishKind (Finishes number) legal = refl
values_own k other legal = absurd (cc legal)

body_places : Places body
body_places = tagged_places entry_kind values kind_in entry_kind_places values_places values_own

-- ---- whole entries
there : (e : Entry) → entry_of (entry_parts e) ≡ e
there (Order command) = refl
there (Finish at number) = refl

home : (v : ℕ × Body) → entry_parts (entry_of v) ≡ v
home (at, Does deed) = refl
home (at, Finishes number) = refl

pub entry_places : Places entry
entry_places = shaped_places entry_of entry_parts (moment ⊗ body) (moment_places also body_places) there home

-- ---- all of the bytes
pub decoded_again : (e : Entry) → entry.legal e ≡ true → decoded (entry.spell e) ≡ Ok e
decoded_again e legal =
    let law = entry_places.exact in
    let read : entry.read (entry.spell e) ≡ Ok (e, []) = ap entry.read (sym (append-nil (entry.spell e))) ∙ law.again e [] legal in
    ap (at_end (length (entry.spell e))) read

abbrev done : Entry × List ℕ → Read Entry
done x = Ok x

abbrev ends_so : Bool → Entry → ℕ → Result Entry ℕ
ends_so true e place = Ok e
ends_so false e place = Err place

ended_so : (t : Bool) (x : Entry × List ℕ) (place : ℕ) (e : Entry) → nat_eq (length x.1) 0 ≡ t → ends_so t x.0 place ≡ Ok e → done x ≡ done (e, [])
ended_so true x place e z is = let n : x.1 ≡ [] = nil_from_length x.1 (eqb-true _ _ z) in let o : x.0 ≡ e = cc is in rw (← o, ← n) refl
ended_so false x place e z is = absurd (cc is)

same_end : (t : Bool) (e : Entry) (place : ℕ) → cond t (Ok e) (Err place) ≡ ends_so t e place
same_end true e place = refl
same_end false e place = refl

ended : (bytes : List ℕ) (read : Read Entry) (e : Entry) → at_end (length bytes) read ≡ Ok e → read ≡ Ok (e, [])
ended bytes (Ok x) e is = ended_so (nat_eq (length x.1) 0) x (length bytes - length x.1) e refl (sym (same_end (nat_eq (length x.1) 0) x.0 (length bytes - length x.1)) ∙ is)
ended bytes (Err flaw) e is = absurd (cc is)

pub decoded_takes : (bytes : List ℕ) (e : Entry) → AreBytes bytes → decoded bytes ≡ Ok e → (entry.legal e ≡ true) × (bytes ≡ entry.spell e)
decoded_takes bytes e are is =
    let law = entry_places.exact in
    let t = law.takes bytes e [] are (ended bytes (entry.read bytes) e is) in
    (t.0, t.1 ∙ append-nil (entry.spell e))

-- what a call answers
pub is_found : (bytes : List ℕ) (result : Result Entry CodecFault) → AreBytes bytes → Decodes result (decoded bytes) → IfOk result (λ e. (entry.legal e ≡ true) × (bytes ≡ entry.spell e))
is_found bytes (Ok e) are given = decoded_takes bytes e are given
is_found bytes (Err fault) are given = tt
