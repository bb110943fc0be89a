use Rattle.std.proofs.Common.{◌≡◌, ◌-◌, ◌/◌, ◌<◌, ◌≤◌, [], ap, drop, eqb-true, get_or, length, sym, ◌∙◌, arith}
use Rattle.std.specs.Simd.{first_chunks}
use Rattle.name_index.proofs.HashLaws.{all_stirred_ascii, all_stirred_hash, few_ascii, few_hash, none_stirred, one_stirred}
use Rattle.name_index.proofs.hash.hash_bytes.Goals as goal

pub loop-word-init : goal.loop-word-init
loop-word-init c = none_stirred c.args.bytes.now

pub loop-word-preserved : goal.loop-word-preserved
loop-word-preserved c =
    let bytes = c.args.bytes.now in
    let i = c.loop-word.word-index in
    let front = c.as_chunks.ensures.front in
    let inside : i < length bytes / 8 = omega (arith, c.as_chunks.ensures.front_len, c.loop-word-test.true) in
    let count : length (first_chunks 8 (length bytes / 8) bytes) ≡ length bytes / 8 = sym (ap length front) ∙ c.as_chunks.ensures.front_len in
    one_stirred bytes (λ j. (c.type_inv.bytes j).fits) i c.loop-word.hash c.loop-word.ascii c.loop-word.invariant
    (get_or c.as_chunks.result.0.now i []) c.from_le_bytes-word.result c.stir-hash.result c.is_ascii_word-ascii.result inside count (ap (λ ws. get_or ws i []) front) c.from_le_bytes-word.ensures
    c.stir-hash.ensures c.is_ascii_word-ascii.ensures

pub returns-clause-hash : goal.returns-clause-hash
returns-clause-hash c =
    let bytes = c.args.bytes.now in
    let all : length (first_chunks 8 (length bytes / 8) bytes) ≤ c.loop-word.word-index = omega (arith, ap length c.as_chunks.ensures.front, c.loop-word-test.false) in
    let last : c.in-Some.last.now ≡ drop (length bytes - 8) bytes = c.in-Some.ensures.cases.1.same in
    all_stirred_hash bytes (λ j. (c.type_inv.bytes j).fits) c.loop-word.word-index c.loop-word.hash c.loop-word.ascii c.loop-word.invariant
    c.in-Some.last.now c.from_le_bytes-last.result c.stir_last-2.result all last c.from_le_bytes-last.ensures c.stir_last-2.ensures

pub returns-clause-ascii : goal.returns-clause-ascii
returns-clause-ascii c =
    let bytes = c.args.bytes.now in
    let all : length bytes / 8 ≤ c.loop-word.word-index = omega (arith, c.as_chunks.ensures.front_len, c.loop-word-test.false) in
    let enough : 8 ≤ length bytes = c.in-Some.ensures.cases.0 in
    let last : c.in-Some.last.now ≡ drop (length bytes - 8) bytes = c.in-Some.ensures.cases.1.same in
    let long : length c.in-Some.last.now ≡ 8 = ap length last ∙ c.in-Some.ensures.cases.1.long in
    all_stirred_ascii bytes (λ j. (c.type_inv.bytes j).fits) c.loop-word.word-index c.loop-word.hash c.loop-word.ascii c.loop-word.invariant
    c.in-Some.last.now c.from_le_bytes-last.result c.is_ascii_word-2.result all enough last long c.from_le_bytes-last.ensures c.is_ascii_word-2.ensures

pub returns-in_default-clause-hash : goal.returns-in_default-clause-hash
returns-in_default-clause-hash c =
    let few : length c.args.bytes.now < 8 = c.in_default.ensures.cases in
    few_hash c.args.bytes.now few c.short_word-word.result c.stir_last.result c.short_word-word.ensures c.stir_last.ensures

pub returns-in_default-clause-ascii : goal.returns-in_default-clause-ascii
returns-in_default-clause-ascii c = λ t.
    let few : length c.args.bytes.now < 8 = c.in_default.ensures.cases in
    few_ascii c.args.bytes.now few c.short_word-word.result (λ j. (c.type_inv.bytes j).fits) c.short_word-word.ensures (eqb-true _ _ (sym c.is_ascii_word.ensures ∙ t))
