use Rattle.fsrm_store.proofs.ReadLaws.{heads_none, heads_damaged, image_damaged, rows_damaged, image_found, record_damaged, body_damaged, record_found, all_found}
use Rattle.fsrm_store.proofs.laws.reading.Goals as goal

pub returns-clause-none : goal.returns-clause-none
returns-clause-none c = heads_none

pub returns-clause-heads : goal.returns-clause-heads
returns-clause-heads c = heads_damaged

pub returns-clause-image : goal.returns-clause-image
returns-clause-image c = image_damaged

pub returns-clause-rows : goal.returns-clause-rows
returns-clause-rows c = rows_damaged

pub returns-clause-found : goal.returns-clause-found
returns-clause-found c = image_found

pub returns-clause-record : goal.returns-clause-record
returns-clause-record c = record_damaged

pub returns-clause-body : goal.returns-clause-body
returns-clause-body c = body_damaged

pub returns-clause-next : goal.returns-clause-next
returns-clause-next c = record_found

pub returns-clause-all : goal.returns-clause-all
returns-clause-all c = all_found
