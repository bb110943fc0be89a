-- Places of quotas that are noted, and noted no longer, on the way up.
use Rattle.std.proofs.Common.{◌≡◌, ℕ, ◌==◌, Bool, true, false, ◌&&◌, ◌||◌, not, List, Option, Some, None, nat_lt, slice_get, refl, ap, sym, ◌∙◌, subst, arith}
use Rattle.std.proofs.lemmas.Option.{slice_get-map}
use Rattle.std.specs.Prelude.{map, option_map}
use Rattle.std.specs.Option.{option_map_or}
use Rattle.fsrm_base.specs.Keyed.{has_row, is_ascending, row_of}
use Rattle.fsrm_base.specs.Numbers.{is_in, is_set, with_number, without_number}
use Rattle.fsrm_base.specs.Places.{IsAt}
use Rattle.fsrm_base.proofs.Look.{found_has, found_key}
use Rattle.fsrm_base.proofs.NumberLaws.{in_with, in_without, set_with, set_without}
use Rattle.fsrm_base.proofs.SortedRows.{row_at, there}
use Rattle.fsrm_base.proofs.TestLaws.{clash, eq_is, eq_test, ge_is, is_apart, lt_is}
use Rattle.fsrm_model.specs.declared.row.QuotaRow.{QuotaRow}
use Rattle.fsrm_model.specs.objects.Quota.{folder_of}
use Rattle.number_set.specs.Numbers.{Numbers}
use Rattle.thresholds.proofs.Decoded.{earlier}
use Rattle.fsrm_parts.specs.Crossing.{Drops, Notes}

-- ---- whether the quota at a place passes a test
abbrev pub passes_at : (QuotaRow → Bool) → List QuotaRow → ℕ → Bool
passes_at test quotas place = option_map_or test (slice_get quotas place) false

-- a place at which no quota passes
fails_at : (test : QuotaRow → Bool) (quotas : List QuotaRow) (place : ℕ) → ((q : QuotaRow) → slice_get quotas place ≡ Some q → test q ≡ false) → passes_at test quotas place ≡ false
fails_at test quotas place h = at (slice_get quotas place) refl
  where
    at : (o : Option QuotaRow) → slice_get quotas place ≡ o → option_map_or test o false ≡ false
    at None e = refl
    at (Some q) e = h q e

same_at : (one other : QuotaRow → Bool) (quotas : List QuotaRow) (place : ℕ) → ((q : QuotaRow) → one q ≡ other q) → passes_at one quotas place ≡ passes_at other quotas place
same_at one other quotas place h = at (slice_get quotas place)
  where
    at : (o : Option QuotaRow) → option_map_or one o false ≡ option_map_or other o false
    at None = refl
    at (Some q) = h q

either_at : (one other : QuotaRow → Bool) (quotas : List QuotaRow) (place : ℕ) → (passes_at one quotas place || passes_at other quotas place) ≡ passes_at (λ q. one q || other q) quotas place
either_at one other quotas place = at (slice_get quotas place)
  where
    at : (o : Option QuotaRow) → (option_map_or one o false || option_map_or other o false) ≡ option_map_or (λ q. one q || other q) o false
    at None = refl
    at (Some q) = refl

-- quotas that were changed, and pass the test as before
mapped_at : (test : QuotaRow → Bool) (g : QuotaRow → QuotaRow) (quotas : List QuotaRow) (place : ℕ) → ((q : QuotaRow) → test (g q) ≡ test q) → passes_at test (map g quotas) place ≡ passes_at test quotas place
mapped_at test g quotas place h = ap (λ o. option_map_or test o false) (slice_get-map g quotas place) ∙ at (slice_get quotas place)
  where
    at : (o : Option QuotaRow) → option_map_or test (option_map g o) false ≡ option_map_or test o false
    at None = refl
    at (Some q) = h q

-- ---- the place of a folder's quota
pub two_places : (quotas : List QuotaRow) (i j : ℕ) (q r : QuotaRow) → is_ascending folder_of quotas ≡ true → slice_get quotas i ≡ Some q → slice_get quotas j ≡ Some r → q.folder ≡ r.folder → i ≡ j
two_places quotas i j q r a one other same = at (nat_lt i j) (nat_lt j i) refl refl
  where
    at : (b c : Bool) → nat_lt i j ≡ b → nat_lt j i ≡ c → i ≡ j
    at true c e f = let l = earlier folder_of quotas i j q r a (lt_is i j e) one other in absurd (omega (arith, l, same))
    at false true e f = let l = earlier folder_of quotas j i r q a (lt_is j i f) other one in absurd (omega (arith, l, same))
    at false false e f = let low = ge_is i j e in let high = ge_is j i f in omega (arith, low, high)

-- it alone is the folder's
at_place : (test : QuotaRow → Bool) (quotas : List QuotaRow) (folder place : ℕ) (q : QuotaRow) (i : ℕ) → is_ascending folder_of quotas ≡ true → slice_get quotas place ≡ Some q → q.folder ≡ folder → passes_at (λ q. (q.folder == folder) && test q) quotas i ≡ ((place == i) && test q)
at_place test quotas folder place q i a there own = at (place == i) refl
  where
    at : (b : Bool) → (place == i) ≡ b → passes_at (λ q. (q.folder == folder) && test q) quotas i ≡ (b && test q)
    at true e =
        ap (λ k. option_map_or (λ (q : QuotaRow). (q.folder == folder) && test q) (slice_get quotas k) false) (sym (eq_is place i e))
        ∙ (ap (λ o. option_map_or (λ (q : QuotaRow). (q.folder == folder) && test q) o false) there
        ∙ ap (λ b. b && test q) (eq_test q.folder folder own))
    at false e =
        fails_at (λ q. (q.folder == folder) && test q) quotas i
        (λ r found. ap (λ b. b && test r) (is_apart r.folder folder (λ same. clash (place == i) (eq_test place i (two_places quotas place i q r a there found (own ∙ sym same))) e)))

-- a folder's quota, found at its place
pub record Placed (quotas : List QuotaRow) (folder place : ℕ) : Type 0 where
  pub quota : QuotaRow
  pub there : slice_get quotas place ≡ Some quota
  pub own : quota.folder ≡ folder

abbrev pub placed : (quotas : List QuotaRow) (folder place : ℕ) (q : QuotaRow) → IsAt folder_of folder quotas place → slice_get quotas place ≡ Some q → Placed quotas folder place
placed quotas folder place q at there = record { quota = q; there = there; own = found_key folder_of folder quotas q (sym at.found ∙ there) }

pub placed_at : (quotas : List QuotaRow) (folder place : ℕ) → IsAt folder_of folder quotas place → Placed quotas folder place
placed_at quotas folder place at = let f = there quotas place at.within in placed quotas folder place f.row at f.is

-- ---- notes
alone : (b : Bool) → b ≡ (b || false)
alone true = refl
alone false = refl

pub notes_none : (noted : Numbers) (quotas : List QuotaRow) (test : QuotaRow → Bool) → ((place : ℕ) (q : QuotaRow) → slice_get quotas place ≡ Some q → test q ≡ false) → Notes noted noted quotas test
notes_none noted quotas test h =
    record {
      bound = refl;
      set = λ set. set;
      members = λ place. alone (is_in noted.members place) ∙ ap (λ b. is_in noted.members place || b) (sym (fails_at test quotas place (h place)));
    }

-- of a folder that has no quota, or whose quota fails the test
pub notes_absent : (noted : Numbers) (quotas : List QuotaRow) (folder : ℕ) (test : QuotaRow → Bool) → is_ascending folder_of quotas ≡ true → has_row folder_of folder quotas ≡ false → Notes noted noted quotas (λ q. (q.folder == folder) && test q)
notes_absent noted quotas folder test a none =
    notes_none noted quotas (λ q. (q.folder == folder) && test q) (λ place q there. ap (λ b. b && test q) (is_apart q.folder folder (λ same.
    clash (has_row folder_of folder quotas) (found_has folder_of folder quotas q (row_at folder_of folder quotas place q a there same)) none)))

pub notes_failed : (noted : Numbers) (quotas : List QuotaRow) (folder : ℕ) (test : QuotaRow → Bool) → ((q : QuotaRow) → q.folder ≡ folder → row_of folder_of folder quotas ≡ Some q → test q ≡ false) → is_ascending folder_of quotas ≡ true → Notes noted noted quotas (λ q. (q.folder == folder) && test q)
notes_failed noted quotas folder test h a =
    notes_none noted quotas (λ q. (q.folder == folder) && test q) (λ place q there. at place q there (q.folder == folder) refl)
  where
    at : (place : ℕ) (q : QuotaRow) → slice_get quotas place ≡ Some q → (b : Bool) → (q.folder == folder) ≡ b → (b && test q) ≡ false
    at place q there true e = let own = eq_is q.folder folder e in h q own (row_at folder_of folder quotas place q a there own)
    at place q there false e = refl

swapped : (a b : Bool) → (a || b) ≡ (b || a)
swapped true true = refl
swapped true false = refl
swapped false true = refl
swapped false false = refl

pub notes_one : (noted new : Numbers) (quotas : List QuotaRow) (folder place : ℕ) (test : QuotaRow → Bool) (p : Placed quotas folder place) → is_ascending folder_of quotas ≡ true → test p.quota ≡ true → new ≡ record noted { members = with_number place noted.members } → Notes noted new quotas (λ q. (q.folder == folder) && test q)
notes_one noted new quotas folder place test p a passes is =
    record {
      bound = ap (λ (n : Numbers). n.bound) is;
      set = λ set. subst (λ (n : Numbers). is_set n.members ≡ true) (sym is) (set_with place noted.members set);
      members = λ i.
          ap (λ (n : Numbers). is_in n.members i) is
          ∙ (in_with place i noted.members
          ∙ (swapped (place == i) (is_in noted.members i)
          ∙ ap (λ b. is_in noted.members i || b) (sym (at_place test quotas folder place p.quota i a p.there p.own ∙ (ap (λ b. (place == i) && b) passes ∙ whole (place == i))))));
    }
  where
    whole : (b : Bool) → (b && true) ≡ b
    whole true = refl
    whole false = refl

or_both : (a b c : Bool) → ((a || b) || c) ≡ (a || (b || c))
or_both true b c = refl
or_both false b c = refl

-- one after the other, of quotas whose peaks were raised between them
pub notes_both : (old mid new : Numbers) (quotas raised : List QuotaRow) (g : QuotaRow → QuotaRow) (one other whole : QuotaRow → Bool) → Notes old mid quotas one → Notes mid new raised other → raised ≡ map g quotas → ((q : QuotaRow) → other (g q) ≡ other q) → ((q : QuotaRow) → (one q || other q) ≡ whole q) → Notes old new quotas whole
notes_both old mid new quotas raised g one other whole first second is same both_are =
    record {
      bound = second.bound ∙ first.bound;
      set = λ set. second.set (first.set set);
      members = λ i.
          second.members i
          ∙ (ap (λ b. b || passes_at other raised i) (first.members i)
          ∙ (ap (λ b. (is_in old.members i || passes_at one quotas i) || b) (ap (λ qs. passes_at other qs i) is ∙ mapped_at other g quotas i same)
          ∙ (or_both (is_in old.members i) (passes_at one quotas i) (passes_at other quotas i)
          ∙ ap (λ b. is_in old.members i || b) (either_at one other quotas i ∙ same_at (λ q. one q || other q) whole quotas i both_are))));
    }

-- ---- drops
keeps_all : (b : Bool) → b ≡ (b && true)
keeps_all true = refl
keeps_all false = refl

pub drops_none : (noted : Numbers) (quotas : List QuotaRow) (test : QuotaRow → Bool) → ((place : ℕ) (q : QuotaRow) → slice_get quotas place ≡ Some q → test q ≡ false) → Drops noted noted quotas test
drops_none noted quotas test h =
    record {
      bound = refl;
      set = λ set. set;
      members = λ place. keeps_all (is_in noted.members place) ∙ ap (λ b. is_in noted.members place && not b) (sym (fails_at test quotas place (h place)));
    }

pub drops_absent : (noted : Numbers) (quotas : List QuotaRow) (folder : ℕ) → is_ascending folder_of quotas ≡ true → has_row folder_of folder quotas ≡ false → Drops noted noted quotas (λ q. q.folder == folder)
drops_absent noted quotas folder a none =
    drops_none noted quotas (λ q. q.folder == folder) (λ place q there. is_apart q.folder folder (λ same.
    clash (has_row folder_of folder quotas) (found_has folder_of folder quotas q (row_at folder_of folder quotas place q a there same)) none))

turned_and : (a b : Bool) → (a && b) ≡ (b && a)
turned_and true true = refl
turned_and true false = refl
turned_and false true = refl
turned_and false false = refl

pub drops_one : (noted new : Numbers) (quotas : List QuotaRow) (folder place : ℕ) → Placed quotas folder place → is_ascending folder_of quotas ≡ true → new ≡ record noted { members = without_number place noted.members } → Drops noted new quotas (λ q. q.folder == folder)
drops_one noted new quotas folder place p a is =
    record {
      bound = ap (λ (n : Numbers). n.bound) is;
      set = λ set. subst (λ (n : Numbers). is_set n.members ≡ true) (sym is) (set_without place noted.members set);
      members = λ i.
          ap (λ (n : Numbers). is_in n.members i) is
          ∙ (in_without place i noted.members
          ∙ (turned_and (not (place == i)) (is_in noted.members i)
          ∙ ap (λ b. is_in noted.members i && not b) (sym (same_at (λ q. q.folder == folder) (λ q. (q.folder == folder) && true) quotas i (λ q. keeps_all (q.folder == folder))
          ∙ (at_place (λ q. true) quotas folder place p.quota i a p.there p.own ∙ sym (keeps_all (place == i)))))));
    }

and_both : (a b c : Bool) → ((a && not b) && not c) ≡ (a && not (b || c))
and_both true true c = refl
and_both true false c = refl
and_both false b c = refl

pub drops_both : (old mid new : Numbers) (quotas : List QuotaRow) (one other whole : QuotaRow → Bool) → Drops old mid quotas one → Drops mid new quotas other → ((q : QuotaRow) → (one q || other q) ≡ whole q) → Drops old new quotas whole
drops_both old mid new quotas one other whole first second both_are =
    record {
      bound = second.bound ∙ first.bound;
      set = λ set. second.set (first.set set);
      members = λ i.
          second.members i
          ∙ (ap (λ b. b && not (passes_at other quotas i)) (first.members i)
          ∙ (and_both (is_in old.members i) (passes_at one quotas i) (passes_at other quotas i)
          ∙ ap (λ b. is_in old.members i && not b) (either_at one other quotas i ∙ same_at (λ q. one q || other q) whole quotas i both_are)));
    }

-- the same of quotas that pass a test
pub either_and : (a b x whole : Bool) → (a || b) ≡ whole → ((a && x) || (b && x)) ≡ (whole && x)
either_and true true x whole e = twice x ∙ ap (λ c. c && x) e
  where
    twice : (x : Bool) → (x || x) ≡ x
    twice true = refl
    twice false = refl
either_and true false x whole e = sym (alone x) ∙ ap (λ c. c && x) e
either_and false true x whole e = ap (λ c. c && x) e
either_and false false x whole e = ap (λ c. c && x) e
