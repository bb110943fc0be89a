use Rattle.std.proofs.Common.{Some, ap, arith}
use Rattle.name_index.proofs.BucketLaws.{found}
use Rattle.name_index.proofs.bucket.Bucket.find.Goals as goal

pub returns-then-least-lt-NO_NUMBER : goal.returns-then-least-lt-NO_NUMBER
returns-then-least-lt-NO_NUMBER c = λ n number e.
    ap Some (found c.args.self.now c.args.hash c.least-least.result c.ranges.hash.fits c.least-least.ensures c.requires n number e)

pub returns-else-least-lt-NO_NUMBER : goal.returns-else-least-lt-NO_NUMBER
returns-else-least-lt-NO_NUMBER c = λ n number e.
    let is = found c.args.self.now c.args.hash c.least-least.result c.ranges.hash.fits c.least-least.ensures c.requires n number e in
    absurd (omega (arith, is, number, c.if-least-lt-NO_NUMBER.false))
