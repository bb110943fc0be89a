use Rattle.file_jobs.proofs.PathLaws.{reads}
use Rattle.file_jobs.proofs.paths.path_in.Goals as goal

pub returns-in-Ok : goal.returns-in-Ok
returns-in-Ok c names legal is = reads c.args.text.now c.in-Ok.path names c.in-Ok.ensures.path legal is
