use Rattle.std.proofs.Common.{rules, ◌≡◌, arith, refl, sym, ◌∙◌}
use Rattle.std.proofs.lemmas.List.Elements.{All-nil}
use Rattle.fsrm_journal.specs.Reading.{IsBody}
use Rattle.fsrm_journal.proofs.Staging.{none_there}
use Rattle.fsrm_journal.proofs.Stores.{stands_on}
use Rattle.fsrm_journal.proofs.journal.Journal.set_group.Goals as goal

pub returns-clause-store : goal.returns-clause-store
returns-clause-store c head image bodies parts s = stands_on head image bodies parts _ _ (record { ruling = refl; generation = refl; beside = refl }) refl refl s

pub returns-clause-holding : goal.returns-clause-holding
returns-clause-holding c =
    let old = c.args.self.now in
    let same : c.try_reserve.new.self.items ≡ old.bytes.items = search rules in
    record { count = sym c.requires.none; bytes = same ∙ none_there old.bytes.items (omega (arith, old.fits, c.requires.none)); legal = All-nil IsBody }
