use Rattle.std.proofs.Common.{◌≤◌, ◌∙◌, ℕ, List, ap, length, arith}
use Rattle.name_index.specs.Hash.{bytes_hash, hashed}
use Rattle.name_index.proofs.HashLaws.{ascii_hash}
use Rattle.name_index.proofs.hash.hash_name.Goals as goal

pub returns-then-bytes-le-MOST_CHARACTERS : goal.returns-then-bytes-le-MOST_CHARACTERS
returns-then-bytes-le-MOST_CHARACTERS c =
    let bytes = c.as_bytes-bytes.result.now in
    let few : length bytes ≤ 256 = omega (arith, c.if-bytes-le-MOST_CHARACTERS.true) in
    c.hash_bytes-hash.ensures.hash ∙ (ascii_hash bytes (c.hash_bytes-hash.ensures.ascii c.if-ascii.true) few ∙ ap (λ (t : List ℕ). bytes_hash (hashed t)) c.as_bytes-bytes.ensures.value)
