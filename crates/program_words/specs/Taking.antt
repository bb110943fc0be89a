-- What clap tells of words that it takes.
use Rattle.std.specs.Prelude.{◌≡◌, List, []}
use Rattle.clap.specs.Words.{Text, fault_of, matches_of, rows_of, found_of}
use Rattle.clap.specs.declared.parser.matches.ArgMatches.{ArgMatches}
use Rattle.program_words.specs.Command.{fsrm_app}

-- the words are taken, and these are their matches
pub record IsTaken (words : List Text) (m : ArgMatches) : Type 0 where
  pub taken : fault_of fsrm_app words ≡ []
  pub rows : rows_of (found_of m) ≡ matches_of fsrm_app words
