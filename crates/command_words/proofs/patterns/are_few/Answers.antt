use Rattle.command_words.proofs.PatternLaws.{few_parts}
use Rattle.command_words.proofs.patterns.are_few.Goals as goal

pub returns : goal.returns
returns c = few_parts c.args.text.now c.as_bytes.result.now c.memchr_iter.result c.count.result c.as_bytes.ensures.value c.memchr_iter.ensures.value c.count.ensures
