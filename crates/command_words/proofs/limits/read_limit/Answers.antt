use Rattle.command_words.proofs.LimitWords.{digits_cut, digits_taken}
use Rattle.command_words.proofs.limits.read_limit.Goals as goal

pub after-requires : goal.after-requires
after-requires c = digits_cut c.args.text.now c.as_bytes.result.now c.digit_count-count.result c.utf8.text c.as_bytes.ensures.value c.digit_count-count.ensures

pub before-requires : goal.before-requires
before-requires c = digits_cut c.args.text.now c.as_bytes.result.now c.digit_count-count.result c.utf8.text c.as_bytes.ensures.value c.digit_count-count.ensures

pub limit_of-requires-clause-digits : goal.limit_of-requires-clause-digits
limit_of-requires-clause-digits c = digits_taken c.args.text.now c.as_bytes.result.now c.before-2.result.now c.digit_count-count.result c.as_bytes.ensures.value c.digit_count-count.ensures c.before-2.ensures
