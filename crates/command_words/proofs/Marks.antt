-- Where the first byte stands that passes a test.
use Rattle.std.proofs.Common.{◌≡◌, ℕ, ◌<◌, Bool, List, length, get_or, ap, arith}
use Rattle.std.specs.Prelude.{Option, Some, None, not, unwrap_or}
use Rattle.std.specs.List.{prefix_len}
use Rattle.std.proofs.lemmas.List.Sums.{prefix_len_is}
use Rattle.memchr.specs.Find.{IsFirstByte}
use Rattle.fsrm_base.proofs.TestLaws.{fails}

pub first_mark : (test : ℕ → Bool) (text : List ℕ) (found : Option ℕ) → IsFirstByte test text found → prefix_len (λ b. not (test b)) text ≡ unwrap_or found (length text)
first_mark test text None h =
    prefix_len_is (λ b. not (test b)) text (length text) 0 (omega arith) (λ k less. fails (test (get_or text k 0)) (h k (omega arith) less)) (λ less. absurd (omega arith))
first_mark test text (Some place) h =
    let high : place < length text = h.0.high in
    prefix_len_is (λ b. not (test b)) text place 0 (omega arith) (λ k less. fails (test (get_or text k 0)) (h.0.before k (omega arith) less)) (λ _. ap not h.1)
