use Rattle.std.proofs.Common.{ℕ, List, refl, sym, ◌∙◌, ap, arith}
use Rattle.file_screens.specs.Way.{applying_on}
use Rattle.file_screens.proofs.FolderLaws.{unasked}
use Rattle.file_screens.proofs.WayLaws.{bare}
use Rattle.file_screens.proofs.screening.first_asked.Goals as goal

pub loop-folder-init : goal.loop-folder-init
loop-folder-init g c = record { alike = λ groups name. refl; looks = omega arith }

pub returns-then-is_asked-clause-alike : goal.returns-then-is_asked-clause-alike
returns-then-is_asked-clause-alike g c =
    λ groups name.
    ap (λ (ns : List ℕ). applying_on groups c.args.objects.now ns name) (sym c.in-Some.ensures.some) ∙ c.loop-folder.invariant.alike groups name

pub loop-folder-preserved : goal.loop-folder-preserved
loop-folder-preserved g c =
    let l = c.loop-folder in
    let tables = c.args.objects.now in
    let is = c.in-Some.ensures.some in
    let plain = unasked tables c.in-Some.folder c.is_asked.result c.is_asked.ensures c.if-is_asked.false in
    record {
      alike = λ groups name.
          bare groups tables name c.in-Some.folder c.next.new.self c.in-Some.ensures.apart plain.0 plain.1
          ∙ (ap (λ (ns : List ℕ). applying_on groups tables ns name) (sym is) ∙ l.invariant.alike groups name);
      looks = omega (arith, c.in-Some.ensures.count, l.invariant.looks);
    }

pub returns-clause-alike : goal.returns-clause-alike
returns-clause-alike g c =
    λ groups name.
    sym (c.loop-folder.invariant.alike groups name) ∙ ap (λ (ns : List ℕ). applying_on groups c.args.objects.now ns name) c.in_default.ensures.none
