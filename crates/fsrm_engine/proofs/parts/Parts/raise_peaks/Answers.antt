use Rattle.std.proofs.Common.{true, List, ap, ◌∙◌}
use Rattle.std.specs.Prelude.{map}
use Rattle.fsrm_model.specs.declared.row.QuotaRow.{QuotaRow}
use Rattle.fsrm_model.specs.objects.Quota.{folder_of, peaked}
use Rattle.fsrm_objects.specs.Tables.{Tables}
use Rattle.fsrm_engine.proofs.tables.PeakLaws.{peaks_stay, all_raised}
use Rattle.fsrm_engine.proofs.parts.Parts.raise_peaks.Goals as goal

pub returns-then-self : goal.returns-then-self
returns-then-self c =
    let p = c.args.self.now in
    let e = c.requires.counted in
    ap (λ (qs : List QuotaRow). record p { objects = record p.objects { quotas = qs } })
    (peaks_stay p.tree.size p.tree.nodes c.args.moment p.objects.quotas e.are_quotas.ascending (λ q found counting. e.peaks c.if-self.true (folder_of q) q found counting))
    ∙ ap (λ b. record p { objects = record p.objects { quotas = map (peaked p.tree.size p.tree.nodes c.args.moment) p.objects.quotas }; level = b }) c.if-self.true

pub returns : goal.returns
returns c =
    let p = c.args.self.now in
    let e = c.requires.counted in
    ap (λ (t : Tables). record p { objects = t; level = true }) c.raise_all.ensures
    ∙ ap (λ (qs : List QuotaRow). record p { objects = record p.objects { quotas = qs }; level = true }) (all_raised p.tree.size p.tree.nodes p.objects.quotas p.usage c.args.moment e.are_quotas.ascending e.sums)
