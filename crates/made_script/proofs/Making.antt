-- The next line of a made script.
use Rattle.std.proofs.Common.{◌≡◌, ℕ, suc, ◌+◌, List, [], ◌∷◌, sym, ap, ◌∙◌, arith}
use Rattle.made_script.specs.Lines.{lines_from, made_line, state_then}

pub one_more : (x number left more state : ℕ) (line : List ℕ) → left ≡ more + 1 → line ≡ made_line x number → state ≡ state_then x number → lines_from x number left ≡ line ∷ lines_from state (number + 1) more
one_more x number left more state line is made then =
    let some : left ≡ suc more = omega arith in
    ap (lines_from x number) some ∙ ap (λ (l : List ℕ). l ∷ lines_from (state_then x number) (number + 1) more) (sym made) ∙ ap (λ (s : ℕ). line ∷ lines_from s (number + 1) more) (sym then)

pub no_more : (x number left : ℕ) → left ≡ 0 → lines_from x number left ≡ []
no_more x number left none = ap (lines_from x number) none
