use Rattle.record_codec.proofs.EntryLaws.{decoded_again, decoded_takes}
use Rattle.record_codec.proofs.RecordBodies.{written_body, body_valid}
use Rattle.record_codec.proofs.laws.record_bodies.read_back.Goals as goal

pub returns-clause-again : goal.returns-clause-again
returns-clause-again c = decoded_again

pub returns-clause-takes : goal.returns-clause-takes
returns-clause-takes c = decoded_takes

pub returns-clause-written : goal.returns-clause-written
returns-clause-written c = written_body

pub returns-clause-valid : goal.returns-clause-valid
returns-clause-valid c = body_valid
