-- The quotas that an update reaches: what their texts are, when it is refused, and how they take the places of those that they were.
use Rattle.std.proofs.Common.{◌≡◌, ℕ, ◌+◌, ◌<◌, ◌≤◌, ◌==◌, nat_le, nat_lt, Bool, true, false, cond, List, [], ◌∷◌, ◌++◌, length, set, take, drop, get_or, Option, Some, None, refl, sym, ◌∙◌, ap, subst, append_assoc, length-append, length-drop, length-take, arith}
use Rattle.std.proofs.lemmas.List.{append-nil, drop_all, drop_more, get_or_at, length-map, length-take-le, set_at, take_all, take_more}
use Rattle.std.proofs.lemmas.Option.{get_or_from_slice_get, same_Some, slice_get_within}
use Rattle.std.specs.Borrow.{MutBor}
use Rattle.std.specs.List.{AllByRecursion}
use Rattle.std.specs.Option.{option_copied_mut}
use Rattle.std.specs.Prelude.{IsSome, filter, fold, map, option_map, slice_get}
use Rattle.fsrm_base.specs.Causes.{◌when◌}
use Rattle.fsrm_base.specs.Keyed.{has_row, is_ascending, row_of}
use Rattle.fsrm_base.proofs.EditedRows.{absent_later, ascending_tail, sum_by-with_change}
use Rattle.fsrm_base.proofs.Look.{find-map}
use Rattle.fsrm_base.proofs.Members.{all_found}
use Rattle.fsrm_base.proofs.Order.{ascending-filter}
use Rattle.fsrm_base.proofs.RowLaws.{all_filter, each, own_rows}
use Rattle.fsrm_base.proofs.SortedRows.{row_at, there}
use Rattle.fsrm_base.proofs.TestLaws.{eq_is, eq_turned, le_is, lt_is, lt_test, neither, same_tests}
use Rattle.fsrm_model.specs.declared.command.Update.{Update}
use Rattle.fsrm_model.specs.declared.row.QuotaRow.{QuotaRow}
use Rattle.fsrm_model.specs.declared.row.TemplateRow.{TemplateRow}
use Rattle.fsrm_model.specs.objects.Quota.{folder_of}
use Rattle.fsrm_model.specs.objects.Templates.{as_template, is_reached, template_number, template_of, updated}
use Rattle.fsrm_model.specs.commands.TemplateWork.{updated_quotas}
use Rattle.fsrm_model.specs.values.Texts.{quota_bytes, template_bytes}
use Rattle.fsrm_model.proofs.templates.PutLaws.{put, put_each}
use Rattle.fsrm_objects.specs.Kept.{AreSmallQuotas}
use Rattle.fsrm_objects.specs.Tables.{Tables, quota_texts}
use Rattle.templates.specs.declared.answer.TemplateFault.TheVariants.{TextsFull}
use Rattle.templates.specs.Faults.{modify_fault, update_fault}
use Rattle.templates.specs.Held.{Held, texts_in, with_other}
use Rattle.templates.proofs.PartLaws.{template_fits, thresholds_fit}

-- what is left of rows from a place on
pub left_from : {X : Type 0} (rows : List X) (place : ℕ) (row : X) → slice_get rows place ≡ Some row → drop place rows ≡ row ∷ drop (place + 1) rows
left_from rows place row at =
    drop_more rows place row (slice_get_within rows place row at) ∙ ap (λ r. r ∷ drop (place + 1) rows) (get_or_from_slice_get rows place row row at)

-- ---- texts
-- each quota's are few
pub quota_small : (quotas : List QuotaRow) (place : ℕ) (quota : QuotaRow) → AreSmallQuotas quotas → slice_get quotas place ≡ Some quota → quota_bytes quota ≤ 131072
quota_small quotas place quota are at =
    le_is (quota_bytes quota) 131072
    (all_found (λ row. nat_le (quota_bytes row) 131072) (λ row. row.folder == quota.folder) quotas quota are.small (row_at folder_of quota.folder quotas place quota are.held.ascending at refl))

-- so the bytes of the texts that a change counts fit
pub ruleset fitting = (template_fits, thresholds_fit, quota_small)

pub lt_moved : (a b c d : ℕ) → a + d ≡ b + c → nat_lt a b ≡ nat_lt c d
lt_moved a b c d h = same_tests (nat_lt a b) (nat_lt c d) (λ l. let k : a < b = lt_is a b l in lt_test c d (omega arith)) (λ l. let k : c < d = lt_is c d l in lt_test a b (omega arith))

-- the change of a template is refused as that of the row that it replaces
pub update_due : (held : Held) (quotas : List QuotaRow) (row old : TemplateRow) (mode : Update) (room : ℕ) → is_ascending template_number held.templates ≡ true → template_of held.templates row.number ≡ Some old → modify_fault held quotas row mode room ≡ update_fault old row quotas mode room
update_due held quotas row old mode room ascending found =
    let after = map (updated mode old row) quotas in
    ap (λ o. TextsFull when nat_lt (room + (texts_in held + quota_texts quotas)) (texts_in (with_other held row) + quota_texts (updated_quotas mode o (λ r. row) quotas))) found
    ∙ ap (λ b. TextsFull when b)
    (lt_moved (room + (texts_in held + quota_texts quotas)) (texts_in (with_other held row) + quota_texts after) (room + (template_bytes old + quota_texts quotas)) (template_bytes row + quota_texts after)
    (omega (arith, sum_by-with_change template_number template_bytes row.number (λ r. row) old held.templates ascending found)))

-- ---- quotas that take the places of those of their folders
pub lent_mut : {X : Type 0} (o : Option (MutBor X)) (x : X) → Some x ≡ option_copied_mut o → IsSome o
lent_mut None x is = cc
lent_mut (Some lent) x is = refl

abbrev pub AreThere : List QuotaRow → List QuotaRow → Type 0
AreThere quotas rows = AllByRecursion (λ row. row_of folder_of row.folder quotas ≡ Some row) rows

other_folder : (row q : QuotaRow) (n : ℕ) (b : Bool) → (q.folder == row.folder) ≡ b → (row.folder == n) ≡ false → ((cond b row q).folder == n) ≡ (q.folder == n)
other_folder row q n true same apart = apart ∙ sym (ap (λ k. k == n) (eq_is q.folder row.folder same) ∙ apart)
other_folder row q n false other apart = refl

-- those of other folders stay
still_there : (row : QuotaRow) (quotas rows : List QuotaRow) → has_row folder_of row.folder rows ≡ false → AreThere quotas rows → AreThere (put folder_of quotas row) rows
still_there row quotas [] absent are = tt
still_there row quotas (r ∷ rows) absent are =
    let no = neither (r.folder == row.folder) (has_row folder_of row.folder rows) absent in
    let swap = λ (q : QuotaRow). cond (q.folder == row.folder) row q in (
      find-map (λ (q : QuotaRow). q.folder == r.folder) swap (λ q. other_folder row q r.folder (q.folder == row.folder) refl (eq_turned r.folder row.folder no.0)) quotas
          ∙ (ap (option_map swap) are.0 ∙ ap (λ b. Some (cond b row r)) no.0),
      still_there row quotas rows no.1 are.1,
    )

abbrev pub with_quotas : Tables → List QuotaRow → Tables
with_quotas tables quotas = record tables { quotas = quotas }

-- Before a place, `rows` are quotas as they were, and what becomes of them is in the tables `now`. From there on it is the other way
-- round. In the end the tables are `after`
pub record IsHalfway (new : TemplateRow) (reached : List QuotaRow) (after now : Tables) (rows : List QuotaRow) (place : ℕ) : Type 0 where
  pub swapped : rows ≡ take place reached ++ map (as_template new) (drop place reached)
  pub ascending : is_ascending folder_of (drop place reached) ≡ true
  pub are_there : AreThere now.quotas (drop place reached)
  pub leads : with_quotas now (fold (put folder_of) now.quotas (map (as_template new) (drop place reached))) ≡ after

pub at_start : (mode : Update) (old new : TemplateRow) (now : Tables) → is_ascending folder_of now.quotas ≡ true → (rows : List QuotaRow) → rows ≡ map (as_template new) (filter (is_reached mode old) now.quotas) → IsHalfway new (filter (is_reached mode old) now.quotas) (with_quotas now (map (updated mode old new) now.quotas)) now rows 0
at_start mode old new now ascending rows made =
    let p = is_reached mode old in
    record {
      swapped = made;
      ascending = ascending-filter folder_of p now.quotas ascending;
      are_there = all_filter p (λ q. row_of folder_of q.folder now.quotas ≡ Some q) now.quotas (each now.quotas (λ q own passes. own) (own_rows folder_of now.quotas ascending));
      leads = ap (with_quotas now) (put_each folder_of (as_template new) p (λ q. refl) now.quotas ascending);
    }

-- the row at a place is what becomes of a quota that is in the tables. Once both have changed places, one more is done
pub record IsNext (new : TemplateRow) (reached : List QuotaRow) (after now : Tables) (rows : List QuotaRow) (place : ℕ) (row : QuotaRow) : Type 0 where
  pub was : QuotaRow
  pub at : slice_get reached place ≡ Some was
  pub is : row ≡ as_template new was
  pub there : row_of folder_of row.folder now.quotas ≡ Some was
  pub done : (then : Tables) (old : QuotaRow) → then ≡ with_quotas now (put folder_of now.quotas row) → row_of folder_of row.folder now.quotas ≡ Some old → IsHalfway new reached after then (set rows place old) (place + 1)

module _ (new : TemplateRow) (reached : List QuotaRow) (after now : Tables) (rows : List QuotaRow) (place : ℕ) (half : IsHalfway new reached after now rows place) where
  pub long : length rows ≡ length reached
  long =
      let made = as_template new in
      omega (arith, ap length half.swapped, length-append (take place reached) (map made (drop place reached)), length-map (drop place reached) made, length-take place reached, length-drop place reached)

  pub next : (row : QuotaRow) → slice_get rows place ≡ Some row → IsNext new reached after now rows place row
  next row read =
      let within : place < length reached = omega (arith, slice_get_within rows place row read, long) in
      let f = there reached place within in
      let made = as_template new f.row in
      let left = left_from reached place f.row f.is in
      let done = take place reached in
      let rest = drop (place + 1) reached in
      let later = map (as_template new) rest in
      let many = length-take-le place reached (omega arith) in
      let swapped : rows ≡ done ++ made ∷ later = half.swapped ∙ ap (λ (qs : List QuotaRow). done ++ map (as_template new) qs) left in
      let is : row ≡ made =
      sym (get_or_from_slice_get rows place row row read) ∙ (ap (λ (rs : List QuotaRow). get_or rs place row) swapped ∙ get_or_at done made later row place many) in
      let are = subst (AreThere now.quotas) left half.are_there in
      let is_there : row_of folder_of row.folder now.quotas ≡ Some f.row = ap (λ (r : QuotaRow). row_of folder_of r.folder now.quotas) is ∙ are.0 in
      let ascending = subst (λ (qs : List QuotaRow). is_ascending folder_of qs ≡ true) left half.ascending in
      let absent : has_row folder_of row.folder rest ≡ false = rw is (absent_later folder_of f.row.folder f.row rest (omega arith) ascending) in
      let taken : take (place + 1) reached ≡ done ++ f.row ∷ [] =
      take_more reached place f.row within ∙ ap (λ (q : QuotaRow). done ++ q ∷ []) (get_or_from_slice_get reached place f.row f.row f.is) in
      record {
        was = f.row;
        at = f.is;
        is = is;
        there = is_there;
        done = λ then old is_put replaced. record {
          swapped = ap (λ (rs : List QuotaRow). set rs place old) swapped
              ∙ (set_at done made later old place many
              ∙ (ap (λ (q : QuotaRow). done ++ q ∷ later) (same_Some old f.row (sym replaced ∙ is_there))
              ∙ (sym (append_assoc done (f.row ∷ []) later) ∙ ap (λ (qs : List QuotaRow). qs ++ later) (sym taken))));
          ascending = ascending_tail folder_of f.row rest ascending;
          are_there = subst (λ (t : Tables). AreThere t.quotas rest) (sym is_put) (still_there row now.quotas rest absent are.1);
          leads = ap (λ (t : Tables). with_quotas t (fold (put folder_of) t.quotas later)) is_put
              ∙ (ap (λ (r : QuotaRow). with_quotas now (fold (put folder_of) (put folder_of now.quotas r) later)) is
              ∙ (sym (ap (λ (qs : List QuotaRow). with_quotas now (fold (put folder_of) now.quotas (map (as_template new) qs))) left) ∙ half.leads));
        };
      }

  pub at_end : length reached ≤ place → (now ≡ after) × (rows ≡ reached)
  at_end past =
      let none = drop_all place reached past in (
        sym (ap (λ (qs : List QuotaRow). with_quotas now (fold (put folder_of) now.quotas (map (as_template new) qs))) none) ∙ half.leads,
        half.swapped ∙ (ap (λ (qs : List QuotaRow). take place reached ++ map (as_template new) qs) none ∙ (append-nil (take place reached) ∙ take_all place reached past)),
      )
