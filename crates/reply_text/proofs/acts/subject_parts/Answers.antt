use Rattle.std.proofs.Common.{◌≡◌, ℕ, List, ◌++◌, ◌∷◌, true, false, refl, ap, ne_eqb, append-nil}
use Rattle.std.specs.Prelude.{◌==◌, codes, decimal}
use Rattle.reply_text.proofs.acts.subject_parts.Goals as goal

pub returns-then-percent-eq0 : goal.returns-then-percent-eq0
returns-then-percent-eq0 c = λ folder.
    let none : (c.args.percent == 0) ≡ true = rw c.if-percent-eq0.true refl in
    rw none (ap (λ (xs : List ℕ). codes " screen " ++ xs) (append-nil (decimal folder)))

pub returns-else-percent-eq0 : goal.returns-else-percent-eq0
returns-else-percent-eq0 c = λ folder.
    let some : (c.args.percent == 0) ≡ false = ne_eqb c.args.percent 0 c.if-percent-eq0.false in
    rw some (ap (λ (n : ℕ). codes " quota " ++ (decimal folder ++ 32 ∷ decimal n)) c.from.ensures)
