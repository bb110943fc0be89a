use Rattle.std.proofs.Common.{[], ◌∷◌, length-append, arith, refl}
use Rattle.std.proofs.lemmas.List.Elements.{All-append, All-cons, All-nil}
use Rattle.fsrm_journal.specs.Reading.{IsBody}
use Rattle.fsrm_journal.proofs.Stores.{stands_on}
use Rattle.fsrm_journal.proofs.Staging.{hold_more}
use Rattle.fsrm_journal.proofs.journal.Journal.hold.Goals as goal

pub returns-clause-held : goal.returns-clause-held
returns-clause-held c bodies few is = hold_more bodies c.args.body.now c.args.self.now.bytes.items c.append_record.new.bytes.items c.args.self.now.held few is c.append_record.ensures.first c.append_record.ensures.more

pub returns-clause-holding : goal.returns-clause-holding
returns-clause-holding c held h = record {
  count = omega (arith, h.count, length-append held (c.args.body.now ∷ []));
  bytes = returns-clause-held c held h.count h.bytes;
  legal = All-append IsBody held (c.args.body.now ∷ []) h.legal (All-cons IsBody c.args.body.now [] (record { some = c.requires.some; most = c.requires.most }) (All-nil IsBody));
}

pub returns-clause-store : goal.returns-clause-store
returns-clause-store c head image bodies parts s = stands_on head image bodies parts _ _ (record { ruling = refl; generation = refl; beside = refl }) refl refl s
