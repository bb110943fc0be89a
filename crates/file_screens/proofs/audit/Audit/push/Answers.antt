use Rattle.file_screens.proofs.NameLaws.{name_short}
use Rattle.file_screens.proofs.audit.Audit.push.Goals as goal

pub new-entry-requires : goal.new-entry-requires
new-entry-requires c = name_short c.args.name.now c.requires
