use Rattle.std.proofs.Common.{◌≡◌, ℕ, ◌&&◌, true, refl, sym, ap, ◌∙◌, subst, arith, List, length}
use Rattle.std.specs.Prelude.{map, if◌then◌else◌}
use Rattle.fsrm_base.specs.Keyed.{is_ascending}
use Rattle.fsrm_base.specs.Numbers.{is_in}
use Rattle.fsrm_base.proofs.ChangedRows.{changed_rows, changed_none, changed_first}
use Rattle.fsrm_base.proofs.Order.{ascending-change}
use Rattle.fsrm_model.specs.declared.row.QuotaRow.{QuotaRow}
use Rattle.fsrm_model.specs.objects.Quota.{folder_of}
use Rattle.fsrm_model.specs.nodes.Tree.{is_under}
use Rattle.fsrm_objects.specs.Tables.{Tables}
use Rattle.quota_usage.specs.declared.change.Counter.{Counter}
use Rattle.quota_usage.specs.Climb.{amended_counter, climbed}
use Rattle.quota_usage.specs.Counters.{counted, used_in}
use Rattle.quota_usage.proofs.ClimbLaws.{fits_first, fits_rest, used_apart}
use Rattle.quota_usage.proofs.CounterLaws.{no_counters}
use Rattle.fsrm_parts.specs.Crossing.{is_crossing, Notes}
use Rattle.fsrm_parts.specs.Peaks.{raised}
use Rattle.fsrm_parts.proofs.settling.ClimbNotes.{climb_ended, climb_next, climb_uncounted}
use Rattle.fsrm_parts.proofs.tables.RaiseLaws.{none_counted, raised_keeps, tables_as, tables_kept}
use Rattle.fsrm_parts.proofs.charging.gain_above.Goals as goal

pub returns-then-is_empty-clause-counted : goal.returns-then-is_empty-clause-counted
returns-then-is_empty-clause-counted g c =
    let none = no_counters c.args.usage.now (sym c.is_empty.ensures ∙ c.if-is_empty.true) in
    none ∙ sym (ap (climbed c.args.tree.now.nodes c.args.folder c.args.gain.minus c.args.gain.plus) none)

pub returns-then-is_empty-clause-quotas : goal.returns-then-is_empty-clause-quotas
returns-then-is_empty-clause-quotas g c =
    tables_as c.args.objects.now _
    (none_counted c.args.usage.now c.args.gain.moment (λ q. is_under c.args.tree.now.nodes q.folder c.args.folder) c.args.objects.now.quotas
    (no_counters c.args.usage.now (sym c.is_empty.ensures ∙ c.if-is_empty.true)))

pub returns-then-is_empty-clause-noted : goal.returns-then-is_empty-clause-noted
returns-then-is_empty-clause-noted g c =
    climb_uncounted c.args.tree.now.nodes c.args.folder c.args.usage.now c.args.gain.minus c.args.gain.plus c.args.crossing.now c.args.objects.now.quotas
    (no_counters c.args.usage.now (sym c.is_empty.ensures ∙ c.if-is_empty.true))

pub loop-at-init : goal.loop-at-init
loop-at-init g c =
    let gain = c.args.gain in
    let is = c.way_up-way.ensures in
    let all = climbed c.args.tree.now.nodes c.args.folder gain.minus gain.plus c.args.usage.now in
    record {
      fits = record { fits = λ folder bytes on used. c.requires.fits.fits folder bytes (sym (ap (λ (ns : List ℕ). is_in ns folder) is) ∙ on) used };
      counted = ap (λ (ns : List ℕ). changed_rows counted (amended_counter gain.minus gain.plus) ns c.args.usage.now) is;
      rest = refl;
      raised = ap (λ (ns : List ℕ). changed_rows folder_of (raised all gain.moment) ns c.args.objects.now.quotas) is;
      ascending = c.requires.ascending;
      bound = c.requires.bound;
      noted = λ end rest. subst (λ (ns : List ℕ). Notes c.args.crossing.now end c.args.objects.now.quotas (λ q. is_in ns q.folder && is_crossing all gain.minus gain.plus q)) is rest;
      looks = omega (arith, ap length is);
    }

pub gain_at-requires-clause-fits : goal.gain_at-requires-clause-fits
gain_at-requires-clause-fits g c =
    fits_first c.loop-at.usage c.loop-at.way c.next.new.self c.in-Some.at c.args.gain.minus c.args.gain.plus c.in-Some.ensures.some c.loop-at.invariant.fits

pub gain_at-requires-clause-ascending : goal.gain_at-requires-clause-ascending
gain_at-requires-clause-ascending g c = c.loop-at.invariant.ascending

pub gain_at-requires-clause-bound : goal.gain_at-requires-clause-bound
gain_at-requires-clause-bound g c = c.loop-at.invariant.bound

pub loop-at-preserved : goal.loop-at-preserved
loop-at-preserved g c =
    let l = c.loop-at in
    let gain = c.args.gain in
    let at = c.in-Some.at in
    let rest = c.next.new.self in
    let is = c.in-Some.ensures.some in
    let apart = c.in-Some.ensures.apart in
    let usage = c.gain_at.new.usage in
    let all = climbed c.args.tree.now.nodes c.args.folder gain.minus gain.plus c.args.usage.now in
    let amend = amended_counter gain.minus gain.plus in
    let counts : changed_rows counted amend rest usage ≡ all =
    ap (changed_rows counted amend rest) c.gain_at.ensures.counted
    ∙ (changed_first counted amend (λ r. refl) at rest apart l.usage
    ∙ (sym (ap (λ (ns : List ℕ). changed_rows counted amend ns l.usage) is) ∙ l.invariant.counted)) in
    let same : used_in all at ≡ used_in usage at = ap (λ (cs : List Counter). used_in cs at) (sym counts) ∙ used_apart gain.minus gain.plus rest at apart usage in
    let raise = raised all gain.moment in
    let kept = raised_keeps all gain.moment in
    let raising = c.gain_at.ensures.raised all same in
    let made = ap (λ (t : Tables). t.quotas) raising in
    record {
      fits = fits_rest l.usage usage l.way rest at gain.minus gain.plus is apart c.gain_at.ensures.counted l.invariant.fits;
      counted = counts;
      rest = tables_kept c.args.objects.now l.objects c.gain_at.new.objects _ l.invariant.rest raising;
      raised =
          ap (changed_rows folder_of raise rest) made
          ∙ (changed_first folder_of raise kept at rest apart l.objects.quotas
          ∙ (sym (ap (λ (ns : List ℕ). changed_rows folder_of raise ns l.objects.quotas) is) ∙ l.invariant.raised));
      ascending = subst (λ (t : Tables). is_ascending folder_of t.quotas ≡ true) (sym raising) (ascending-change folder_of at raise kept l.objects.quotas l.invariant.ascending);
      bound = (c.gain_at.ensures.noted all same).bound ∙ l.invariant.bound;
      noted = λ end more.
          l.invariant.noted end
          (climb_next at gain.moment rest l.way is all gain.minus gain.plus l.crossing c.gain_at.new.crossing end l.objects.quotas c.gain_at.new.objects.quotas made (c.gain_at.ensures.noted all same) more);
      looks = omega (arith, c.in-Some.ensures.count, l.invariant.looks);
    }

pub returns-clause-counted : goal.returns-clause-counted
returns-clause-counted g c =
    let l = c.loop-at in
    let amend = amended_counter c.args.gain.minus c.args.gain.plus in
    sym (ap (λ (ns : List ℕ). changed_rows counted amend ns l.usage) c.in_default.ensures.none ∙ changed_none counted amend l.usage) ∙ l.invariant.counted

pub returns-clause-quotas : goal.returns-clause-quotas
returns-clause-quotas g c =
    let l = c.loop-at in
    let gain = c.args.gain in
    let nodes = c.args.tree.now.nodes in
    let all = climbed nodes c.args.folder gain.minus gain.plus c.args.usage.now in
    let raise = raised all gain.moment in
    let counts = returns-clause-counted g c in
    l.invariant.rest
    ∙ (ap (λ (quotas : List QuotaRow). record c.args.objects.now { quotas = quotas })
    (sym (ap (λ (ns : List ℕ). changed_rows folder_of raise ns l.objects.quotas) c.in_default.ensures.none ∙ changed_none folder_of raise l.objects.quotas) ∙ l.invariant.raised)
    ∙ ap (λ (counters : List Counter). record c.args.objects.now { quotas = map (λ quota. if is_under nodes (folder_of quota) c.args.folder then raised counters gain.moment quota else quota) c.args.objects.now.quotas }) (sym counts))

pub returns-clause-noted : goal.returns-clause-noted
returns-clause-noted g c =
    let l = c.loop-at in
    let gain = c.args.gain in
    let nodes = c.args.tree.now.nodes in
    let all = climbed nodes c.args.folder gain.minus gain.plus c.args.usage.now in
    subst (λ (counters : List Counter). Notes c.args.crossing.now l.crossing c.args.objects.now.quotas (λ q. is_under nodes q.folder c.args.folder && is_crossing counters gain.minus gain.plus q)) (sym (returns-clause-counted g c))
    (l.invariant.noted l.crossing (climb_ended l.way c.in_default.ensures.none all gain.minus gain.plus l.crossing l.objects.quotas))
