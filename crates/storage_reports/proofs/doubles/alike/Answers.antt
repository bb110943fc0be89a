use Rattle.std.proofs.Common.{ℕ, List, Option, map, unwrap_or, ◌∙◌, ap, refl}
use Rattle.std.specs.Prelude.{bytes_eq}
use Rattle.std.specs.Map.{lookup}
use Rattle.storage_reports.specs.Doubles.{file_value}
use Rattle.storage_reports.specs.Files.{Sums, no_files}
use Rattle.fsrm_model.specs.reports.Groups.{with_value}
use Rattle.storage_reports.proofs.SeenKeys.{lookup-seen}
use Rattle.storage_reports.proofs.doubles.alike.Goals as goal

pub returns : goal.returns
returns c =
    let entries = c.args.known.now.entries in
    let looked = lookup-seen _ bytes_eq file_value (λ a b. refl) entries c.in_ok-key.key in
    c.sums_of.ensures
    ∙ (ap (λ (o : Option Sums). unwrap_or o no_files) looked
    ∙ ap (λ (bytes : List ℕ). unwrap_or (lookup (bytes_eq bytes) (map (with_value file_value) entries)) no_files) c.in_ok-key.ensures)
