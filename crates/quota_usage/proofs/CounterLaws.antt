-- Whether there are counters.
use Rattle.std.proofs.Common.{◌≡◌, ◌==◌, true, List, [], ◌∷◌, length, refl, arith}
use Rattle.fsrm_base.proofs.TestLaws.{eq_is}
use Rattle.quota_usage.specs.declared.change.Counter.{Counter}

pub no_counters : (counters : List Counter) → (length counters == 0) ≡ true → counters ≡ []
no_counters [] h = refl
no_counters (c ∷ counters) h = let e : length (c ∷ counters) ≡ 0 = eq_is _ _ h in absurd (omega (arith, e))
