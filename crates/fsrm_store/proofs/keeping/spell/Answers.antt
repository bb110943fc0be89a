use Rattle.std.proofs.Common.{◌≤◌, List, ℕ, length, refl, ◌∙◌, ap, arith}
use Rattle.fsrm_store.proofs.Standings.{front_kept}
use Rattle.fsrm_store.proofs.keeping.spell.Goals as goal

pub returns-clause-written : goal.returns-clause-written
returns-clause-written c =
    let into = c.encode.new.into in
    let whole = ap (λ (l : List ℕ). length l) c.deref_mut.ensures.value in
    let few : c.encode.result ≤ c.args.buffer.now.len = omega (arith, c.encode.ensures.short, c.requires.room, c.deref_mut.ensures.len, whole) in
    let fits : c.encode.result ≤ length into = omega (arith, c.encode.ensures.short, c.requires.room, c.encode.auto.into, whole) in
    front_kept c.encode.result c.args.buffer.now.len _ into _ refl few fits ∙ c.encode.ensures.written
