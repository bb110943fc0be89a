-- Where a text may be cut: after the bytes at its front that pass a test.
use Rattle.std.proofs.Common.{◌≡◌, ℕ, suc, zero, ◌+◌, ◌<◌, Bool, true, List, get_or, subst, arith}
use Rattle.std.specs.List.{prefix_len}
use Rattle.std.specs.Str.{IsUtf8, IsCharBoundary}
use Rattle.std.proofs.lemmas.List.Sums.{prefix_len-le-length, prefix_len_passes}
use Rattle.std.proofs.lemmas.Str.{IsCharBoundary-start, IsCharBoundary-after_ascii}

-- what passes the test is ASCII
pub front_end : (test : ℕ → Bool) → ((b : ℕ) → test b ≡ true → b < 128) → (text : List ℕ) (n : ℕ) → IsUtf8 text → n ≡ prefix_len test text → IsCharBoundary text n
front_end test ascii text zero utf8 e = IsCharBoundary-start text utf8
front_end test ascii text (suc n) utf8 e =
    let within = prefix_len-le-length test text in
    let passes = prefix_len_passes test text n 0 (omega arith) in
    let at : n + 1 ≡ suc n = omega arith in
    subst (IsCharBoundary text) at (IsCharBoundary-after_ascii text n utf8 (omega arith) (ascii (get_or text n 0) passes))
