use Rattle.fsrm_objects.proofs.QuotaRows.{source_bytes, source_folder}
use Rattle.fsrm_objects.proofs.objects.Objects.clear_template.Goals as goal

pub change_each-requires-clause-keeps : goal.change_each-requires-clause-keeps
change_each-requires-clause-keeps c = record { number = source_folder c.args.template; texts = source_bytes c.args.template }
