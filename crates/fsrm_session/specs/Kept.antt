-- What writes make of text that is kept.
use Rattle.std.specs.Prelude.{◌≡◌, ℕ, List, ◌++◌}
use Rattle.std.proofs.Common.{◌∙◌, ap, append_assoc}
use Rattle.fsrm_session.specs.declared.kept.Kept.{Kept}

pub record ByKept (old new : Kept) : Type 0 where
  pub more : List ℕ
  pub is : new.bytes.now.items ≡ old.bytes.now.items ++ more
  pub same : new.bytes.ghost_name ≡ old.bytes.ghost_name

pub more_then : (a b c xs ys : List ℕ) → b ≡ a ++ xs → c ≡ b ++ ys → c ≡ a ++ (xs ++ ys)
more_then a b c xs ys p q = q ∙ ap (λ (l : List ℕ). l ++ ys) p ∙ append_assoc a xs ys
