use Rattle.std.proofs.Common.{◌+◌, ◌∙◌, List, ℕ, drop, map, get_or, sym, ap}
use Rattle.std.proofs.lemmas.List.{drop_all, drop_more}
use Rattle.std.specs.Char.{to_ascii_lowercase}
use Rattle.storage_reports.specs.Doubles.{mixed, mixed_with}
use Rattle.storage_reports.proofs.Mixes.{mixed_step}
use Rattle.storage_reports.proofs.twins.mix_lower.Goals as goal

pub loop-byte-preserved : goal.loop-byte-preserved
loop-byte-preserved c =
    let bytes = c.args.bytes.now in
    let i = c.loop-byte.byte-index in
    mixed_step c.loop-byte.mixed (to_ascii_lowercase (get_or bytes i 0)) c.mix-mixed.result (map to_ascii_lowercase (drop i bytes)) (map to_ascii_lowercase (drop (i + 1) bytes))
    (ap (map to_ascii_lowercase) (drop_more bytes i 0 c.loop-byte-test.true)) (c.mix-mixed.ensures ∙ ap (mixed_with c.loop-byte.mixed) (c.from.ensures ∙ c.to_ascii_lowercase.ensures.value))
    ∙ c.loop-byte.invariant

pub returns : goal.returns
returns c = ap (λ (bytes : List ℕ). mixed c.loop-byte.mixed (map to_ascii_lowercase bytes)) (sym (drop_all c.loop-byte.byte-index c.args.bytes.now c.loop-byte-test.false)) ∙ c.loop-byte.invariant
