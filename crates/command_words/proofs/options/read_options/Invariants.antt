use Rattle.std.proofs.Common.{◌≡◌, length}
use Rattle.std.specs.Prelude.{List, []}
use Rattle.fsrm_model.specs.lines.Options.{Given, options}
use Rattle.command_words.specs.Taking.{left, end}
use Rattle.command_words.proofs.options.read_options.Given as goal

abbrev pub invariant-loop-given : goal.invariant-loop-given
invariant-loop-given g l =
    let keys = g.O.Options.keys l.options in
    record {
      given : List Given;
      holds : g.O.Options.holds l.options l.given given;
      read : options keys (left l.words) given ≡ options keys (left l.initial.words) [];
      end : end l.words ≡ end l.initial.words;
    }

abbrev pub decreases-loop-given : goal.decreases-loop-given
decreases-loop-given g l = length (left l.words)
