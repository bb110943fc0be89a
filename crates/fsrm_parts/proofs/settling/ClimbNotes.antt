-- What is noted on what is left of the way up, and noted no longer.
use Rattle.std.proofs.Common.{◌≡◌, ℕ, ◌==◌, Bool, ◌&&◌, ◌||◌, List, [], ◌∷◌, refl, ap, sym, ◌∙◌}
use Rattle.std.specs.Prelude.{if◌then◌else◌}
use Rattle.std.specs.Cmp.{nat_eq_equiv}
use Rattle.fsrm_base.specs.Keyed.{with_change}
use Rattle.fsrm_base.specs.Numbers.{is_in}
use Rattle.fsrm_base.proofs.TestLaws.{and_false}
use Rattle.fsrm_model.specs.declared.row.NodeRow.{NodeRow}
use Rattle.fsrm_model.specs.declared.row.QuotaRow.{QuotaRow}
use Rattle.fsrm_model.specs.objects.Quota.{folder_of}
use Rattle.fsrm_model.specs.nodes.Tree.{is_under}
use Rattle.number_set.specs.Numbers.{Numbers}
use Rattle.quota_usage.specs.declared.change.Counter.{Counter}
use Rattle.quota_usage.specs.Counters.{used_in}
use Rattle.fsrm_parts.specs.Crossing.{Drops, Notes, is_crossing}
use Rattle.fsrm_parts.specs.Peaks.{raised}
use Rattle.fsrm_parts.proofs.settling.NoteLaws.{drops_both, drops_none, either_and, notes_both, notes_none}
use Rattle.fsrm_parts.proofs.tables.RaiseLaws.{raised_case, crossing_none}

-- a number is the first one or one of the rest
on_way : (n at : ℕ) (rest way : List ℕ) → way ≡ at ∷ rest → ((n == at) || is_in rest n) ≡ is_in way n
on_way n at rest way is = ap (λ b. b || is_in rest n) (nat_eq_equiv.symm n at) ∙ sym (ap (λ (ns : List ℕ). is_in ns n) is)

module _ (at m : ℕ) (rest way : List ℕ) (is : way ≡ at ∷ rest) (counters : List Counter) (minus plus : ℕ) where
  abbrev crosses : QuotaRow → Bool
  crosses q = is_crossing counters minus plus q

  -- raising a peak plays no part
  abbrev raise : QuotaRow → QuotaRow
  raise q = if folder_of q == at then raised counters m q else q

  same : (q : QuotaRow) → (is_in rest (raise q).folder && crosses (raise q)) ≡ (is_in rest q.folder && crosses q)
  same q = raised_case (λ r. (is_in rest r.folder && crosses r) ≡ (is_in rest q.folder && crosses q)) counters m q refl (λ used. refl) (folder_of q == at)

  pub climb_next : (old mid end : Numbers) (quotas now : List QuotaRow) → now ≡ with_change folder_of at (raised counters m) quotas → Notes old mid quotas (λ q. (q.folder == at) && crosses q) → Notes mid end now (λ q. is_in rest q.folder && crosses q) → Notes old end quotas (λ q. is_in way q.folder && crosses q)
  climb_next old mid end quotas now made first second =
      notes_both old mid end quotas now raise
      (λ q. (q.folder == at) && crosses q) (λ q. is_in rest q.folder && crosses q) (λ q. is_in way q.folder && crosses q)
      first second made same
      (λ q. either_and (q.folder == at) (is_in rest q.folder) (crosses q) (is_in way q.folder) (on_way q.folder at rest way is))

pub climb_ended : (way : List ℕ) → way ≡ [] → (counters : List Counter) (minus plus : ℕ) (noted : Numbers) (quotas : List QuotaRow) → Notes noted noted quotas (λ q. is_in way q.folder && is_crossing counters minus plus q)
climb_ended way none counters minus plus noted quotas =
    notes_none noted quotas (λ q. is_in way q.folder && is_crossing counters minus plus q)
    (λ place q there. ap (λ (ns : List ℕ). is_in ns q.folder && is_crossing counters minus plus q) none)

-- without counters nothing is noted
pub climb_uncounted : (nodes : List NodeRow) (start : ℕ) (counters : List Counter) (minus plus : ℕ) (noted : Numbers) (quotas : List QuotaRow) → counters ≡ [] → Notes noted noted quotas (λ q. is_under nodes q.folder start && is_crossing counters minus plus q)
climb_uncounted nodes start counters minus plus noted quotas e =
    notes_none noted quotas (λ q. is_under nodes q.folder start && is_crossing counters minus plus q)
    (λ place q there.
    ap (λ b. is_under nodes q.folder start && b) (crossing_none counters minus plus q (ap (λ (cs : List Counter). used_in cs q.folder) e))
    ∙ and_false (is_under nodes q.folder start))

-- ---- the same of drops
pub drop_next : (at : ℕ) (rest way : List ℕ) → way ≡ at ∷ rest → (old mid end : Numbers) (quotas : List QuotaRow) → Drops old mid quotas (λ q. q.folder == at) → Drops mid end quotas (λ q. is_in rest q.folder) → Drops old end quotas (λ q. is_in way q.folder)
drop_next at rest way is old mid end quotas first second =
    drops_both old mid end quotas (λ q. q.folder == at) (λ q. is_in rest q.folder) (λ q. is_in way q.folder) first second (λ q. on_way q.folder at rest way is)

pub drop_ended : (way : List ℕ) → way ≡ [] → (noted : Numbers) (quotas : List QuotaRow) → Drops noted noted quotas (λ q. is_in way q.folder)
drop_ended way none noted quotas = drops_none noted quotas (λ q. is_in way q.folder) (λ place q there. ap (λ (ns : List ℕ). is_in ns q.folder) none)
