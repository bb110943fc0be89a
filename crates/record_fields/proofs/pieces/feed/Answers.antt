use Rattle.std.proofs.Common.{◌≡◌, ◌-◌, ap, sym, ◌∙◌, arith, Ok, Err, ℕ, subst}
use Rattle.record_fields.specs.Readers.{Fails}
use Rattle.record_fields.specs.declared.flaw.FieldFault.TheVariants.{Flawed}
use Rattle.record_fields.specs.declared.flaw.Flaw.TheVariants.{Illegal}
use Rattle.record_fields.proofs.ItemLoops.{continues_on, breaks}
use Rattle.record_fields.proofs.pieces.feed.Goals as goal

pub loop-still-preserved : goal.loop-still-preserved
loop-still-preserved g c =
    let f = g.F.Field.format in
    let after = c.rest-rest.result.now in
    record {
      so_far = rw c.in_ok-push-in-Ok.ensures.ok
          (continues_on f c.requires.exact c.args.items.now c.loop-still.items c.args.count c.loop-still.still (c.loop-still.still - 1) c.args.bytes.now c.loop-still.rest.now c.in-Ok.value after
          c.loop-still.invariant.are_bytes (omega arith) (ap f.read (sym c.new-reader.ensures) ∙ c.in-Ok.ensures ∙ ap (λ r. Ok (c.in-Ok.value, r)) (sym c.rest-rest.ensures)) c.loop-still.invariant.so_far);
      are_bytes = λ i. omega (arith, c.type_inv.rest i);
    }

pub returns-in-Err-Flawed-Illegal-clause-flaw : goal.returns-in-Err-Flawed-Illegal-clause-flaw
returns-in-Err-Flawed-Illegal-clause-flaw g c = λ left e more.
    let f = g.F.Field.format in
    let arm = c.in-Err-Flawed-Illegal in
    let same : arm.left ≡ left = cc (e, arm.left-is) in
    let illegal : arm.field-0-0 ≡ Illegal arm.left = rw arm.field-0-is at arm.field-0-0-is in
    let fails : Fails (Flawed arm.field-0-0) (f.read c.new-reader.result) = subst (λ fault. Fails fault (f.read c.new-reader.result)) arm.field-0-is arm.ensures in
    let read : f.read c.loop-still.rest.now ≡ Err (Illegal left) =
    ap f.read (sym c.new-reader.ensures) ∙ fails ∙ ap (λ flaw. Err flaw) (illegal ∙ ap (λ (n : ℕ). Illegal n) same) in
    breaks f c.requires.exact c.args.items.now c.loop-still.items c.args.count c.loop-still.still (c.loop-still.still - 1) c.args.bytes.now c.loop-still.rest.now left
    c.loop-still.invariant.are_bytes (omega arith) read c.loop-still.invariant.so_far more
