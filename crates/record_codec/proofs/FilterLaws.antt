-- What a report is asked for: the law of its format. If its values are in their ranges it has a spelling, of the length that
-- the definitions count.
use Rattle.std.proofs.Common.{◌≡◌, ℕ, Bool, true, false, List, length, Option, Some, None, refl, arith}
use Rattle.std.specs.Prelude.{◌&&◌, nat_le}
use Rattle.std.specs.Option.{option_map_or}
use Rattle.std.specs.Str.{is_utf8}
use Rattle.fsrm_base.proofs.TestLaws.{both, both_true}
use Rattle.fsrm_model.specs.commands.Commands.{is_owner, is_length, is_filter}
use Rattle.fsrm_model.specs.commands.Entry.{text_bytes, filter_bytes}
use Rattle.fsrm_model.specs.declared.row.Filter.{Filter}
use Rattle.fsrm_model.specs.values.Limits.{most_days, most_use, most_rows}
use Rattle.fsrm_model.specs.values.Patterns.{is_pattern}
use Rattle.record_fields.specs.Formats.{Format, number_spelled, text_spelled, optional, optional_legal, ◌⊗◌}
use Rattle.record_fields.specs.Laws.{Places}
use Rattle.record_fields.proofs.FollowedLaws.{◌also◌}
use Rattle.record_fields.proofs.OptionalLaws.{optional_places}
use Rattle.record_fields.proofs.StandingLaws.{shaped_places}
use Rattle.record_codec.specs.Fields.{owner, pattern, file_length, days, least_use, row_count}
use Rattle.record_codec.specs.Filters.{filter_of, filter_values, filter, filter_typed}
use Rattle.record_codec.specs.Typed.{some_typed}
use Rattle.record_codec.proofs.FieldLaws.{owner_places, pattern_places, file_length_places, days_places, least_use_places, row_count_places}
use Rattle.record_codec.proofs.Legal.{within_legal, from_zero, owner_legal, length_legal, pattern_legal, eight_bytes, two, text_long, option_long}

pub filter_places : Places filter
filter_places =
    shaped_places filter_of filter_values (optional owner ⊗ optional pattern ⊗ optional file_length ⊗ optional days ⊗ optional least_use ⊗ row_count)
    (optional_places owner owner_places also optional_places pattern pattern_places also optional_places file_length file_length_places
    also optional_places days days_places also optional_places least_use least_use_places also row_count_places) (λ f. refl) (λ v. refl)

-- ---- its values
-- optional numbers, and optional texts
pub given_legal : {X : Type 0} (test : X → Bool) (f : Format X) → ((x : X) → test x ≡ true → f.legal x ≡ true) → (o : Option X)
    → option_map_or test o true ≡ true → optional_legal false f o ≡ true
given_legal test f law None is = refl
given_legal test f law (Some x) is = law x is

pub text_given : (test : List ℕ → Bool) (f : Format (List ℕ)) → ((t : List ℕ) → test t ≡ true → is_utf8 t ≡ true → f.legal t ≡ true)
    → (o : Option (List ℕ)) → option_map_or test o true ≡ true → some_typed is_utf8 o ≡ true → optional_legal false f o ≡ true
text_given test f law None is utf8 = refl
text_given test f law (Some t) is utf8 = law t is utf8

days_legal : (n : ℕ) → nat_le n most_days ≡ true → days.legal n ≡ true
days_legal n is = within_legal 0 most_days n (omega arith) (from_zero most_days n is)

least_use_legal : (n : ℕ) → nat_le n most_use ≡ true → least_use.legal n ≡ true
least_use_legal n is = within_legal 0 most_use n (omega arith) (from_zero most_use n is)

pub filter_legal : (f : Filter) → is_filter f ≡ true → filter_typed f ≡ true → filter.legal f ≡ true
filter_legal f is utf8 =
    let rows = nat_le 1 f.max && nat_le f.max most_rows in
    let recent = option_map_or (λ n. nat_le n most_days) f.days true in
    let used = option_map_or (λ n. nat_le n most_use) f.min_use true in
    let a = both (option_map_or is_owner f.owner true && (option_map_or is_pattern f.pattern true && option_map_or is_length f.min_size true)) ((recent && used) && rows) is in
    let b = both (option_map_or is_owner f.owner true) (option_map_or is_pattern f.pattern true && option_map_or is_length f.min_size true) a.0 in
    let c = both (option_map_or is_pattern f.pattern true) (option_map_or is_length f.min_size true) b.1 in
    let d = both (recent && used) rows a.1 in
    let e = both recent used d.0 in
    both_true _ _ (given_legal is_owner owner owner_legal f.owner b.0)
    (both_true _ _ (text_given is_pattern pattern pattern_legal f.pattern c.0 utf8)
    (both_true _ _ (given_legal is_length file_length length_legal f.min_size c.1)
    (both_true _ _ (given_legal (λ n. nat_le n most_days) days days_legal f.days e.0)
    (both_true _ _ (given_legal (λ n. nat_le n most_use) least_use least_use_legal f.min_use e.1)
    (within_legal 1 most_rows f.max (omega arith) d.1)))))

pub filter_long : (f : Filter) → length (filter.spell f) ≡ filter_bytes f
filter_long f =
    two _ _ _ _ (option_long (number_spelled 8) (λ n. 8) eight_bytes f.owner)
    (two _ _ _ _ (option_long text_spelled text_bytes text_long f.pattern)
    (two _ _ _ _ (option_long (number_spelled 8) (λ n. 8) eight_bytes f.min_size)
    (two _ _ _ _ (option_long (number_spelled 8) (λ n. 8) eight_bytes f.days)
    (two _ _ _ _ (option_long (number_spelled 8) (λ n. 8) eight_bytes f.min_use) (eight_bytes f.max)))))
