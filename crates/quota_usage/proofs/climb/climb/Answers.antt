use Rattle.std.proofs.Common.{ℕ, List, length, refl, sym, ◌∙◌, ap, arith}
use Rattle.fsrm_base.specs.Numbers.{is_in}
use Rattle.fsrm_base.proofs.ChangedRows.{changed_rows, changed_none, changed_first}
use Rattle.quota_usage.specs.Climb.{amended_counter, climbed}
use Rattle.quota_usage.specs.Counters.{counted}
use Rattle.quota_usage.proofs.ClimbLaws.{fits_first, fits_rest}
use Rattle.quota_usage.proofs.CounterLaws.{no_counters}
use Rattle.quota_usage.proofs.climb.climb.Goals as goal

pub returns-then-is_empty-clause-made : goal.returns-then-is_empty-clause-made
returns-then-is_empty-clause-made g c =
    let none = no_counters c.args.counters.now (sym c.is_empty.ensures ∙ c.if-is_empty.true) in
    none ∙ sym (ap (climbed c.args.tree.now.nodes c.args.start c.args.minus c.args.plus) none)

pub loop-at-init : goal.loop-at-init
loop-at-init g c =
    let is = c.way_up-way.ensures in
    record {
      fits = record { fits = λ folder bytes on used. c.requires.fits.fits folder bytes (sym (ap (λ (ns : List ℕ). is_in ns folder) is) ∙ on) used };
      made = ap (λ (ns : List ℕ). changed_rows counted (amended_counter c.args.minus c.args.plus) ns c.args.counters.now) is;
      looks = omega (arith, ap length is);
    }

pub amend-requires : goal.amend-requires
amend-requires g c =
    fits_first c.loop-at.counters c.loop-at.way c.next.new.self c.in-Some.at c.args.minus c.args.plus c.in-Some.ensures.some c.loop-at.invariant.fits

pub loop-at-preserved : goal.loop-at-preserved
loop-at-preserved g c =
    let l = c.loop-at in
    let rest = c.next.new.self in
    let is = c.in-Some.ensures.some in
    let change = amended_counter c.args.minus c.args.plus in
    record {
      fits = fits_rest l.counters c.amend.new.self l.way rest c.in-Some.at c.args.minus c.args.plus is c.in-Some.ensures.apart c.amend.ensures.made l.invariant.fits;
      made =
          ap (changed_rows counted change rest) c.amend.ensures.made
          ∙ (changed_first counted change (λ r. refl) c.in-Some.at rest c.in-Some.ensures.apart l.counters
          ∙ (sym (ap (λ (ns : List ℕ). changed_rows counted change ns l.counters) is) ∙ l.invariant.made));
      looks = omega (arith, c.in-Some.ensures.count, l.invariant.looks);
    }

pub returns-clause-made : goal.returns-clause-made
returns-clause-made g c =
    let l = c.loop-at in
    let change = amended_counter c.args.minus c.args.plus in
    sym (ap (λ (ns : List ℕ). changed_rows counted change ns l.counters) c.in_default.ensures.none ∙ changed_none counted change l.counters) ∙ l.invariant.made
