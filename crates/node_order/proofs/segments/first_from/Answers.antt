use Rattle.std.proofs.Common.{◌≡◌, ◌+◌, ◌-◌, ◌<◌, get_or, length, inl, inr, ap, sym, ◌∙◌, subst, arith}
use Rattle.std.proofs.lemmas.Bool.{cases_lt}
use Rattle.block_list.specs.Runs.{start_of}
use Rattle.block_list.proofs.Joined.{run_within}
use Rattle.node_order.specs.Entries.{IsLower, IsNotLower}
use Rattle.node_order.specs.declared.entries.Entry.{Entry}
use Rattle.node_order.proofs.segments.first_from.Goals as goal

-- what stands past the end
abbrev none : Entry
none = record { prefix = 0; parent = 0; node = 0 }

pub returns-clause-first : goal.returns-clause-first
returns-clause-first c =
    let order = c.args.order.now in
    let runs = order.runs in
    let count = c.lower_runs-count.result in
    let run = count - 1 in
    let entries = c.run-entries.result.now in
    let offset = c.halve-offset.result in
    let least = c.halve-offset.ensures.least in
    let within = c.halve-offset.ensures.within in
    let some = c.run-entries.ensures.some in
    let next : run + 1 ≡ count = omega (arith, c.if-count-eq0.false) in
    record {
      lower = λ m. elim (cases_lt 1 offset) [
        | inl l ↦
            let k = offset - 1 in
            let below : k < length entries = omega (arith, within, l) in
            let is : start_of runs run + k ≡ start_of runs run + offset - 1 = omega (arith, l) in
            subst (IsLower order c.args.folder) is
            (record {
              entry = get_or entries k none;
              at = c.run-entries.ensures.numbers k none below;
              listed = c.run-entries.ensures.listed k none below;
              lower = c.halve-offset.ensures.lower l;
            })
        | inr l ↦
            let is : start_of runs run ≡ start_of runs run + offset - 1 = omega (arith, l, least) in
            subst (IsLower order c.args.folder) is (c.lower_runs-count.ensures.lower run next)
      ];
      other = λ m. elim (cases_lt offset (length entries)) [
        | inl l ↦ record {
          entry = get_or entries offset none;
          at = c.run-entries.ensures.numbers offset none l;
          listed = c.run-entries.ensures.listed offset none l;
          other = c.halve-offset.ensures.other l;
        }
        | inr l ↦
            let is : start_of runs count ≡ start_of runs run + offset = ap (start_of runs) (sym next) ∙ omega (arith, c.run-entries.ensures.next, l, within) in
            subst (IsNotLower order c.args.folder) is (c.lower_runs-count.ensures.other (run_within runs count (omega (arith, is, m))))
      ];
    }
