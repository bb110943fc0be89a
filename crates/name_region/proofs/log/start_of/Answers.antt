-- A text begins where the one before it ends.
use Rattle.std.proofs.Common.{◌≡◌, ◌+◌, ◌<◌, ◌∙◌, ap, sym, arith, length, take}
use Rattle.std.proofs.lemmas.List.{take_more}
use Rattle.name_region.specs.declared.log.Record.{Record}
use Rattle.name_region.specs.Log.{end_of}
use Rattle.name_region.proofs.LogLaws.{end_of-append}
use Rattle.name_region.proofs.log.start_of.Goals as goal

pub returns-in-Some : goal.returns-in-Some
returns-in-Some c =
    let rs = c.args.records.now.items in
    let before = c.in-Some.before in
    let r = c.index.result.now in
    let at : before + 1 ≡ c.args.index = omega (arith, c.in-Some.ensures) in
    let within : before < length rs = omega (arith, c.requires, at) in
    ap (λ (x : Record). x.end) c.index.ensures
    ∙ (sym (end_of-append 0 (take before rs) _) ∙ (ap (end_of 0) (sym (take_more rs before r within)) ∙ ap (λ n. end_of 0 (take n rs)) at))
