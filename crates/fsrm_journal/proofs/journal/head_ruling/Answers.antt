use Rattle.std.proofs.Common.{ap, ◌∙◌, arith}
use Rattle.std.specs.Prelude.{Ok}
use Rattle.fsrm_outside.specs.declared.traits.Part.{Part}
use Rattle.fsrm_journal.proofs.HeadLaws.{open_whole, says_legal}
use Rattle.fsrm_journal.proofs.Turns.{zero_judged, one_judged}
use Rattle.fsrm_journal.proofs.journal.head_ruling.Goals as goal

pub head_says-requires : goal.head_says-requires
head_says-requires c =
    let head = zero_judged c.args.zero.now c.args.one.now (c.requires ∙ ap (λ (half : Part). Ok half) c.in-Zero.is) in
    open_whole c.args.zero.now head.0 head.1

pub head_says-requires-in-One : goal.head_says-requires-in-One
head_says-requires-in-One c =
    let head = one_judged c.args.zero.now c.args.one.now (c.requires ∙ ap (λ (half : Part). Ok half) c.in-One.is) in
    open_whole c.args.one.now head.0 head.1

pub returns-in-Zero-clause-legal : goal.returns-in-Zero-clause-legal
returns-in-Zero-clause-legal c =
    let head = zero_judged c.args.zero.now c.args.one.now (c.requires ∙ ap (λ (half : Part). Ok half) c.in-Zero.is) in
    says_legal c.args.zero.now c.head_says.result c.head_says.ensures head.0 head.1 (omega (arith, c.head_says.type_inv)) (omega (arith, c.head_says.type_inv))

pub returns-in-One-clause-legal : goal.returns-in-One-clause-legal
returns-in-One-clause-legal c =
    let head = one_judged c.args.zero.now c.args.one.now (c.requires ∙ ap (λ (half : Part). Ok half) c.in-One.is) in
    says_legal c.args.one.now c.head_says-in-One.result c.head_says-in-One.ensures head.0 head.1 (omega (arith, c.head_says-in-One.type_inv)) (omega (arith, c.head_says-in-One.type_inv))
