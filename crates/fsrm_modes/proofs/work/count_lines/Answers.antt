use Rattle.std.proofs.Common.{◌≡◌, ◌+◌, ℕ, List, ◌∷◌, refl, sym, ap, ◌∙◌, subst, arith, rules}
use Rattle.std.specs.Prelude.{Err}
use Rattle.fsrm_store.specs.Amortized.{bytes_since}
use Rattle.made_script.specs.Rest.{lines_left}
use Rattle.fsrm_session.specs.Members.{members}
use Rattle.fsrm_session.specs.Spending.{bytes_after}
use Rattle.fsrm_session.specs.Underway.{Stops}
use Rattle.fsrm_session.specs.declared.stop.Stop.{Stop}
use Rattle.fsrm_session.specs.declared.stop.Stop.TheVariants.{NoMemory}
use Rattle.fsrm_session.proofs.Object.{laws_of}
use Rattle.fsrm_session.proofs.Results.{stops_passed}
use Rattle.fsrm_session.proofs.Spending.{after_fault, after_most, spends_less}
use Rattle.fsrm_modes.specs.Working.{unshown_lines}
use Rattle.fsrm_modes.proofs.Outcomes.{full_stops}
use Rattle.fsrm_modes.proofs.Working.{counted_breaks, counted_more, counted_none, counted_spends, counted_stops, line_full, line_stops, same_stop, Counted}
use Rattle.fsrm_modes.proofs.work.count_lines.Goals as goal

pub lines-init : goal.lines-init
lines-init g c = record {
  counted = counted_none c.args.work.now.number (lines_left c.args.work.now) c.none-tally.result c.args.session.now c.args.outside.now c.args.steps.now (laws_of g.met.O.Sink g.met.O.Disk g.met.O.Outside) c.none-tally.ensures;
  ready = c.requires.ready;
  writes = refl;
  calls = refl;
  reads = refl;
  left = refl;
}

pub lines-preserved : goal.lines-preserved
lines-preserved g c =
    let M = members g.O.Source g.O.Sink g.O.Disk in
    let was = c.args.session.now in
    let mid = c.lines.session in
    let now = c.count_line.new.session in
    let first = c.args.work.now.number in
    let all = lines_left c.args.work.now in
    let more = lines_left c.next_line.new.work in
    let kept = c.lines.invariant in
    let next = c.in_ok-next_line.ensures in
    let done = c.in_ok-counted.ensures in
    let is = next.made c.if-branch.true ∙ ap (λ (l : List ℕ). l ∷ more) (sym c.line.ensures) in
    let one : c.number.result ≡ c.lines.work.number + 1 = c.number.ensures ∙ next.number c.if-branch.true in
    record {
      counted = subst (λ (n : ℕ). Counted M first all more n c.in_ok-tally.tally was now c.args.outside.now c.count_line.new.outside c.args.steps.now c.count_line.new.steps) c.number.ensures
          (counted_more first all (lines_left c.lines.work) more c.lines.work.number c.number.result c.line.result.now c.lines.tally c.in_ok-counted.counted c.in_ok-tally.tally was mid now c.args.outside.now c.lines.outside c.count_line.new.outside c.args.steps.now c.lines.steps c.count_line.new.steps
          (laws_of g.met.O.Sink g.met.O.Disk g.met.O.Outside) kept.counted is one done.runs done.tally c.in_ok-tally.ensures.sum done.rows done.size done.looks);
      ready = done.ready;
      writes = done.counts.0 ∙ kept.writes;
      calls = done.counts.1 ∙ kept.calls;
      reads = done.reads ∙ kept.reads;
      left = done.left ∙ kept.left;
    }

-- there was no memory for a line
pub returns-in_err-next_line-clause-runs : goal.returns-in_err-next_line-clause-runs
returns-in_err-next_line-clause-runs g c =
    let M = members g.O.Source g.O.Sink g.O.Disk in
    let laws = laws_of g.met.O.Sink g.met.O.Disk g.met.O.Outside in
    let was = c.args.session.now in
    let mid = c.lines.session in
    let first = c.args.work.now.number in
    let all = lines_left c.args.work.now in
    let rest = lines_left c.lines.work in
    let number = c.lines.work.number in
    let turns = unshown_lines was.store.engine.size (first + 1) all in
    let stop = c.in_err-next_line.field-0.0 in
    let fault : c.from_residual.result ≡ Err stop = search rules in
    let full = same_stop stop NoMemory c.in_err-next_line.ensures.only in
    stops_passed c.from_residual.result stop turns was mid c.args.outside.now c.lines.outside fault
    (subst (λ (s : Stop). Stops M s turns was mid c.args.outside.now c.lines.outside) (sym full)
    (counted_stops NoMemory first all rest number c.lines.tally was mid mid c.args.outside.now c.lines.outside c.lines.outside c.args.steps.now c.lines.steps laws c.lines.invariant.counted (full_stops (unshown_lines mid.store.engine.size (number + 1) rest) mid c.lines.outside laws)))

pub returns-in_err-next_line-clause-looks : goal.returns-in_err-next_line-clause-looks
returns-in_err-next_line-clause-looks g c =
    let was = c.args.session.now in
    let mid = c.lines.session in
    let first = c.args.work.now.number in
    let all = lines_left c.args.work.now in
    spends_less (unshown_lines was.store.engine.size (first + 1) all) was c.args.outside.now c.args.steps.now c.args.steps.now c.lines.steps (bytes_since mid.store.journal) (bytes_after c.from_residual.result mid) (omega arith) (after_most c.from_residual.result mid)
    (counted_spends first all (lines_left c.lines.work) c.lines.work.number c.lines.tally was mid c.args.outside.now c.lines.outside c.args.steps.now c.lines.steps c.lines.invariant.counted)

-- the session stopped at a line
pub returns-in_err-counted-clause-runs : goal.returns-in_err-counted-clause-runs
returns-in_err-counted-clause-runs g c =
    let laws = laws_of g.met.O.Sink g.met.O.Disk g.met.O.Outside in
    let was = c.args.session.now in
    let mid = c.lines.session in
    let now = c.count_line.new.session in
    let first = c.args.work.now.number in
    let all = lines_left c.args.work.now in
    let rest = lines_left c.lines.work in
    let more = lines_left c.next_line.new.work in
    let number = c.lines.work.number in
    let next = c.in_ok-next_line.ensures in
    let is = next.made c.if-branch.true ∙ ap (λ (l : List ℕ). l ∷ more) (sym c.line.ensures) in
    let one : c.number.result ≡ number + 1 = c.number.ensures ∙ next.number c.if-branch.true in
    let stop = c.in_err-counted.field-0.0 in
    let fault : c.from_residual-in_err-counted.result ≡ Err stop = search rules in
    stops_passed c.from_residual-in_err-counted.result stop (unshown_lines was.store.engine.size (first + 1) all) was now c.args.outside.now c.count_line.new.outside fault
    (counted_stops stop first all rest number c.lines.tally was mid now c.args.outside.now c.lines.outside c.count_line.new.outside c.args.steps.now c.lines.steps laws c.lines.invariant.counted
    (line_stops stop mid.store.engine.size number c.number.result c.line.result.now rest more mid now c.lines.outside c.count_line.new.outside is one c.in_err-counted.ensures.runs))

pub returns-in_err-counted-clause-looks : goal.returns-in_err-counted-clause-looks
returns-in_err-counted-clause-looks g c =
    let was = c.args.session.now in
    let mid = c.lines.session in
    let now = c.count_line.new.session in
    let first = c.args.work.now.number in
    let all = lines_left c.args.work.now in
    let more = lines_left c.next_line.new.work in
    let next = c.in_ok-next_line.ensures in
    let is = next.made c.if-branch.true ∙ ap (λ (l : List ℕ). l ∷ more) (sym c.line.ensures) in
    let one : c.number.result ≡ c.lines.work.number + 1 = c.number.ensures ∙ next.number c.if-branch.true in
    let stop = c.in_err-counted.field-0.0 in
    let fault : c.from_residual-in_err-counted.result ≡ Err stop = search rules in
    spends_less (unshown_lines was.store.engine.size (first + 1) all) was c.args.outside.now c.args.steps.now c.args.steps.now c.count_line.new.steps _ (bytes_after c.from_residual-in_err-counted.result now) (omega arith) (after_fault c.from_residual-in_err-counted.result stop now fault)
    (counted_breaks first all (lines_left c.lines.work) more c.lines.work.number c.number.result c.line.result.now c.lines.tally was mid c.args.outside.now c.lines.outside c.args.steps.now c.lines.steps c.count_line.new.steps _ c.lines.invariant.counted is one c.in_err-counted.ensures.looks)

-- its reply couldn't be counted
pub returns-in_err-tally-clause-runs : goal.returns-in_err-tally-clause-runs
returns-in_err-tally-clause-runs g c =
    let M = members g.O.Source g.O.Sink g.O.Disk in
    let laws = laws_of g.met.O.Sink g.met.O.Disk g.met.O.Outside in
    let was = c.args.session.now in
    let mid = c.lines.session in
    let now = c.count_line.new.session in
    let first = c.args.work.now.number in
    let all = lines_left c.args.work.now in
    let rest = lines_left c.lines.work in
    let more = lines_left c.next_line.new.work in
    let number = c.lines.work.number in
    let next = c.in_ok-next_line.ensures in
    let is = next.made c.if-branch.true ∙ ap (λ (l : List ℕ). l ∷ more) (sym c.line.ensures) in
    let one : c.number.result ≡ number + 1 = c.number.ensures ∙ next.number c.if-branch.true in
    let turns = unshown_lines was.store.engine.size (first + 1) all in
    let stop = c.in_err-tally.field-0.0 in
    let fault : c.from_residual-in_err-tally.result ≡ Err stop = search rules in
    let full = same_stop stop NoMemory c.in_err-tally.ensures.only in
    stops_passed c.from_residual-in_err-tally.result stop turns was now c.args.outside.now c.count_line.new.outside fault
    (subst (λ (s : Stop). Stops M s turns was now c.args.outside.now c.count_line.new.outside) (sym full)
    (counted_stops NoMemory first all rest number c.lines.tally was mid now c.args.outside.now c.lines.outside c.count_line.new.outside c.args.steps.now c.lines.steps laws c.lines.invariant.counted
    (line_full mid.store.engine.size number c.number.result c.line.result.now rest more mid now c.lines.outside c.count_line.new.outside laws is one c.in_ok-counted.ensures.runs)))

pub returns-in_err-tally-clause-looks : goal.returns-in_err-tally-clause-looks
returns-in_err-tally-clause-looks g c =
    let was = c.args.session.now in
    let mid = c.lines.session in
    let now = c.count_line.new.session in
    let first = c.args.work.now.number in
    let all = lines_left c.args.work.now in
    let more = lines_left c.next_line.new.work in
    let next = c.in_ok-next_line.ensures in
    let is = next.made c.if-branch.true ∙ ap (λ (l : List ℕ). l ∷ more) (sym c.line.ensures) in
    let one : c.number.result ≡ c.lines.work.number + 1 = c.number.ensures ∙ next.number c.if-branch.true in
    spends_less (unshown_lines was.store.engine.size (first + 1) all) was c.args.outside.now c.args.steps.now c.args.steps.now c.count_line.new.steps (bytes_since now.store.journal) (bytes_after c.from_residual-in_err-tally.result now) (omega arith) (after_most c.from_residual-in_err-tally.result now)
    (counted_breaks first all (lines_left c.lines.work) more c.lines.work.number c.number.result c.line.result.now c.lines.tally was mid c.args.outside.now c.lines.outside c.args.steps.now c.lines.steps c.count_line.new.steps (bytes_since now.store.journal) c.lines.invariant.counted is one c.in_ok-counted.ensures.looks)
