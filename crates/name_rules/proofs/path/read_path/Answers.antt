use Rattle.std.proofs.Common.{◌≡◌, drop, ap, ◌∙◌}
use Rattle.fsrm_model.specs.meaning.PathNames.{parts_of}
use Rattle.name_rules.proofs.Names.{path_read}
use Rattle.name_rules.proofs.path.read_path.Goals as goal

pub returns-in-Ok-clause-path : goal.returns-in-Ok-clause-path
returns-in-Ok-clause-path c =
    let read = c.in-Ok.ensures in
    let after = c.in-Some.ensures in
    let names : c.in-Ok.path ≡ parts_of (drop 3 c.args.text.now) = read.names ∙ ap parts_of after.1 in
    path_read c.args.text.now c.in-Ok.path after.0 names read.valid
