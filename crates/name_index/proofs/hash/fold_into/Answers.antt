use Rattle.std.proofs.Common.{ℕ, List, subst, sym}
use Rattle.std.specs.Str.Iter.{chars_rest}
use Rattle.name_index.proofs.HashLaws.{AreFolded, ended, full, none_folded, one_folded}
use Rattle.name_index.proofs.hash.fold_into.Goals as goal

pub loop-count-init : goal.loop-count-init
loop-count-init c =
    subst (λ (rest : List ℕ). AreFolded c.args.name.now 0 c.args.bytes.now rest) (sym c.chars-characters.ensures.rest) (none_folded c.args.name.now c.args.bytes.now c.told-bytes c.utf8.name)

pub loop-count-preserved : goal.loop-count-preserved
loop-count-preserved c =
    one_folded c.args.name.now c.loop-count.count c.loop-count.bytes (chars_rest c.loop-count.characters) c.loop-count.invariant c.in-Some.byte (chars_rest c.next_byte.new.characters) c.loop-count-test.true
    c.in-Some.ensures.text c.in-Some.ensures.some

pub returns-clause-hashed : goal.returns-clause-hashed
returns-clause-hashed c = full c.args.name.now c.loop-count.count c.loop-count.bytes (chars_rest c.loop-count.characters) c.loop-count.invariant c.loop-count-test.false

pub returns-in-None-clause-hashed : goal.returns-in-None-clause-hashed
returns-in-None-clause-hashed c = ended c.args.name.now c.loop-count.count c.loop-count.bytes (chars_rest c.loop-count.characters) c.loop-count.invariant c.in-None.ensures.none
