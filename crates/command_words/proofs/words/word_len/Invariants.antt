use Rattle.std.proofs.Common.{◌≡◌, ◌+◌, ◌-◌, ◌≤◌, length, drop, false}
use Rattle.std.specs.List.{prefix_len}
use Rattle.command_words.specs.Lengths.{is_plain, word_length}
use Rattle.command_words.proofs.words.word_len.Given as goal

abbrev pub invariant-loop-place : goal.invariant-loop-place
invariant-loop-place l = record {
  within : l.place ≤ length l.text;
  word : word_length false l.text ≡ l.place + word_length false (drop l.place l.text);
  marked : prefix_len is_plain (drop l.place l.text) ≡ 0;
}

abbrev pub decreases-loop-place : goal.decreases-loop-place
decreases-loop-place l = length l.text - l.place
