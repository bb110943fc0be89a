use Rattle.std.proofs.Common.{◌≡◌, ◌≤◌, ◌∙◌, inr, length, length-take, length-drop, drop, ap, arith}
use Rattle.fsrm_outside.specs.Parts.{part_of}
use Rattle.fsrm_journal.proofs.Ahead.{front_read, read_there}
use Rattle.fsrm_journal.proofs.window.Window.reach.Goals as goal

pub returns-clause-there : goal.returns-clause-there
returns-clause-there g c parts told s =
    let half = part_of c.args.part parts in
    let old = c.args.self.now.bytes in
    let into = c.read_at.new.into in
    let n = c.in_ok-self.field-0 in
    let size = length c.deref_mut.result.now in
    let long : size ≡ length old.items = ap length c.deref_mut.ensures.value in
    let most : n ≤ old.len = omega (arith, c.in_ok-self.ensures.count, c.read_at.auto.into, long, old.ok.0) in
    read_there half c.args.place _ size (front_read n old.len into (drop (length into) old.items) c.in_ok-self.ensures.count most ∙ c.in_ok-self.ensures.bytes parts told)

pub returns-clause-enough : goal.returns-clause-enough
returns-clause-enough g c parts told =
    let half = part_of c.args.part parts in
    let old = c.args.self.now.bytes in
    let into = c.read_at.new.into in
    let n = c.in_ok-self.field-0 in
    let size = length c.deref_mut.result.now in
    let long : size ≡ length old.items = ap length c.deref_mut.ensures.value in
    let most : n ≤ old.len = omega (arith, c.in_ok-self.ensures.count, c.read_at.auto.into, long, old.ok.0) in
    let is = front_read n old.len into (drop (length into) old.items) c.in_ok-self.ensures.count most ∙ c.in_ok-self.ensures.bytes parts told in
    inr (omega (arith, ap length is, length-take size (drop c.args.place half), length-drop c.args.place half, long, c.args.self.now.long))
