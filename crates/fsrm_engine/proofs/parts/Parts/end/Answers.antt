use Rattle.std.proofs.Common.{ap, sym, subst}
use Rattle.fsrm_engine.specs.declared.parts.Parts.{Parts}
use Rattle.fsrm_engine.specs.Machine.{AreCounted}
use Rattle.fsrm_engine.proofs.tables.CountingLaws.{is_moment_of}
use Rattle.fsrm_engine.proofs.tables.PeakLaws.{counted_peaked}
use Rattle.fsrm_engine.proofs.parts.Parts.end.Goals as goal

pub returns-clause-ended : goal.returns-clause-ended
returns-clause-ended c = ap (λ (q : Parts). record q { last_moment = c.args.moment }) c.raise_peaks.ensures

pub returns-clause-counted : goal.returns-clause-counted
returns-clause-counted c =
    let p = c.args.self.now in
    let e = c.requires.counted in
    subst AreCounted (sym (returns-clause-ended c))
    (counted_peaked p.tree.size p.tree.nodes p.objects.quotas p.usage c.args.moment e.volume e.legal e.are_quotas (is_moment_of c.args.moment c.requires.moment) e.sums)
