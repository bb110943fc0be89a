use Rattle.std.proofs.Common.{◌≡◌, ◌++◌, length}
use Rattle.std.specs.String.{string_bytes}
use Rattle.fsrm_model.specs.lines.Words.{without_quotes}
use Rattle.command_words.proofs.words.copy_without_quotes.Given as goal
use denote.Shadow.{shadow}
use denote.Text.{Utf8}

abbrev pub invariant-loop-place : goal.invariant-loop-place
invariant-loop-place l = record {
  utf8 : shadow (Utf8 l.rest);
  text : string_bytes l.text ++ without_quotes l.rest ≡ without_quotes l.raw;
}

abbrev pub decreases-loop-place : goal.decreases-loop-place
decreases-loop-place l = length l.rest
