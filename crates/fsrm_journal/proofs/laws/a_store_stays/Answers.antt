use Rattle.fsrm_journal.proofs.Readings.{read_still, stands_stable}
use Rattle.fsrm_journal.proofs.Stores.{given_up, each_now, kept_on}
use Rattle.fsrm_journal.proofs.laws.a_store_stays.Goals as goal

pub returns-clause-reading : goal.returns-clause-reading
returns-clause-reading g c = read_still

pub returns-clause-read : goal.returns-clause-read
returns-clause-read g c = stands_stable g.D.Disk.reads g.D.Disk.disk_clock g.D.Disk.images

pub returns-clause-now : goal.returns-clause-now
returns-clause-now g c head image bodies journal disk s = each_now s

pub returns-clause-kept : goal.returns-clause-kept
returns-clause-kept g c head image bodies journal old new keeps s = kept_on keeps s

pub returns-clause-given_up : goal.returns-clause-given_up
returns-clause-given_up g c head next image front bodies journal disk synced = given_up head image bodies next front journal disk synced
