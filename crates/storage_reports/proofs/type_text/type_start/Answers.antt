use Rattle.std.proofs.Common.{◌≡◌, ◌-◌, suc, drop, get_or, length, sym, ◌∙◌, ap, arith}
use Rattle.std.specs.List.{list_any}
use Rattle.std.proofs.lemmas.List.{drop_all}
use Rattle.fsrm_base.proofs.TestLaws.{eq_test, is_apart}
use Rattle.fsrm_model.specs.reports.Reports.{is_dot}
use Rattle.storage_reports.proofs.TypeLaws.{last_dot, no_dot_more, without_dot}
use Rattle.storage_reports.proofs.type_text.type_start.Goals as goal

pub loop-start-init : goal.loop-start-init
loop-start-init c = record {
  within = omega arith;
  none = ap (list_any is_dot) (drop_all (length c.args.bytes.now) c.args.bytes.now (omega arith));
}

pub loop-start-preserved : goal.loop-start-preserved
loop-start-preserved c =
    let bytes = c.args.bytes.now in
    let k = c.loop-start.start - 1 in
    let next : c.loop-start.start ≡ suc k = omega (arith, c.loop-start-test.true) in
    record {
      within = omega (arith, c.loop-start.invariant.within);
      none = no_dot_more bytes k (omega (arith, c.loop-start.invariant.within, c.loop-start-test.true)) (is_apart (get_or bytes k 0) 46 c.if-bytes-start-eq46.false) (ap (λ j. list_any is_dot (drop j bytes)) (sym next) ∙ c.loop-start.invariant.none);
    }

pub returns-then-bytes-start-eq46-clause-rest : goal.returns-then-bytes-start-eq46-clause-rest
returns-then-bytes-start-eq46-clause-rest c =
    let bytes = c.args.bytes.now in
    let k = c.loop-start.start - 1 in
    let next : c.loop-start.start ≡ suc k = omega (arith, c.loop-start-test.true) in
    ap (λ j. drop j bytes) next
    ∙ last_dot bytes k (omega (arith, c.loop-start.invariant.within, c.loop-start-test.true)) (eq_test (get_or bytes k 0) 46 c.if-bytes-start-eq46.true) (ap (λ j. list_any is_dot (drop j bytes)) (sym next) ∙ c.loop-start.invariant.none)

pub returns-clause-rest : goal.returns-clause-rest
returns-clause-rest c =
    let start : c.loop-start.start ≡ 0 = omega (arith, c.loop-start-test.false) in
    without_dot c.args.bytes.now (ap (λ j. list_any is_dot (drop j c.args.bytes.now)) (sym start) ∙ c.loop-start.invariant.none)
