use Rattle.std.proofs.Common.{Some, None, ◌≡◌, ◌++◌}
use Rattle.std.specs.String.{string_bytes}
use Rattle.command_words.proofs.Quotes.{found_in, quote_cut, more_text, last_text}
use Rattle.command_words.proofs.words.copy_without_quotes.Goals as goal

pub after-rest-requires : goal.after-rest-requires
after-rest-requires c =
    let rest = c.loop-place.rest.now in
    let found = found_in c.as_bytes.result.now rest c.memchr.result (Some c.in-Some.place) c.as_bytes.ensures.value c.in-Some.is c.memchr.ensures in
    (quote_cut rest c.in-Some.place c.loop-place.invariant.utf8 found).1

pub loop-place-preserved : goal.loop-place-preserved
loop-place-preserved c =
    let rest = c.loop-place.rest.now in
    let found = found_in c.as_bytes.result.now rest c.memchr.result (Some c.in-Some.place) c.as_bytes.ensures.value c.in-Some.is c.memchr.ensures in
    let pushed : string_bytes c.push_str.new.self ≡ string_bytes c.loop-place.text ++ c.before-in-Some.result.now = c.in_ok-push_str.ensures.bytes in
    record {
      utf8 = c.after-rest.utf8;
      text = more_text (string_bytes c.loop-place.text) (string_bytes c.push_str.new.self) c.before-in-Some.result.now rest c.after-rest.result.now _ c.in-Some.place found pushed c.before-in-Some.ensures c.after-rest.ensures c.loop-place.invariant.text;
    }

pub returns : goal.returns
returns c =
    let rest = c.loop-place.rest.now in
    let found = found_in c.as_bytes.result.now rest c.memchr.result None c.as_bytes.ensures.value c.in_default.is c.memchr.ensures in
    last_text (string_bytes c.loop-place.text) (string_bytes c.push_str-2.new.self) rest _ found c.in_ok-push_str-2.ensures.bytes c.loop-place.invariant.text
