use Rattle.std.proofs.Common.{inl, inr}
use Rattle.image_codec.specs.Rows.{node, quota, template, auto, group, screen, except, job, act, audit}
use Rattle.image_codec.proofs.RowLaws.{node_places, quota_places, template_places, auto_places, group_places, screen_places, except_places, job_places, act_places, audit_places}
use Rattle.image_codec.proofs.SectionLaws.{ok_then, more_on, more_flaw, more_cut}
use Rattle.image_codec.proofs.sections.feed_section.Goals as goal

pub feed_rows-requires : goal.feed_rows-requires
feed_rows-requires c = record { exact = node_places.exact }

pub returns-in-Nodes-clause-goes_on : goal.returns-in-Nodes-clause-goes_on
returns-in-Nodes-clause-goes_on c =
    rw c.in-Nodes.is (ok_then c.feed_rows.result (λ r goes more. more_on node _ _ (λ xs. record c.args.rows.now { nodes = xs }) _ _ _ _ (goes more)) c.feed_rows.ensures.goes_on)

pub returns-in-Nodes-clause-stops : goal.returns-in-Nodes-clause-stops
returns-in-Nodes-clause-stops c =
    rw c.in-Nodes.is (ok_then c.feed_rows.result
    (λ r stops. elim stops [ inl none ↦ inl none | inr cut ↦ inr (more_cut node _ (λ xs. record c.args.rows.now { nodes = xs }) _ _ _ cut) ]) c.feed_rows.ensures.stops)

pub returns-in-Nodes-clause-flaw : goal.returns-in-Nodes-clause-flaw
returns-in-Nodes-clause-flaw c = λ left e more.
    rw c.in-Nodes.is (more_flaw node _ (λ xs. record c.args.rows.now { nodes = xs }) _ _ _ (c.feed_rows.ensures.flaw left e more))

pub feed_rows-requires-in-Quotas : goal.feed_rows-requires-in-Quotas
feed_rows-requires-in-Quotas c = record { exact = quota_places.exact }

pub returns-in-Quotas-clause-goes_on : goal.returns-in-Quotas-clause-goes_on
returns-in-Quotas-clause-goes_on c =
    rw c.in-Quotas.is (ok_then c.feed_rows-in-Quotas.result (λ r goes more. more_on quota _ _ (λ xs. record c.args.rows.now { quotas = xs }) _ _ _ _ (goes more)) c.feed_rows-in-Quotas.ensures.goes_on)

pub returns-in-Quotas-clause-stops : goal.returns-in-Quotas-clause-stops
returns-in-Quotas-clause-stops c =
    rw c.in-Quotas.is (ok_then c.feed_rows-in-Quotas.result
    (λ r stops. elim stops [ inl none ↦ inl none | inr cut ↦ inr (more_cut quota _ (λ xs. record c.args.rows.now { quotas = xs }) _ _ _ cut) ]) c.feed_rows-in-Quotas.ensures.stops)

pub returns-in-Quotas-clause-flaw : goal.returns-in-Quotas-clause-flaw
returns-in-Quotas-clause-flaw c = λ left e more.
    rw c.in-Quotas.is (more_flaw quota _ (λ xs. record c.args.rows.now { quotas = xs }) _ _ _ (c.feed_rows-in-Quotas.ensures.flaw left e more))

pub feed_rows-requires-in-Templates : goal.feed_rows-requires-in-Templates
feed_rows-requires-in-Templates c = record { exact = template_places.exact }

pub returns-in-Templates-clause-goes_on : goal.returns-in-Templates-clause-goes_on
returns-in-Templates-clause-goes_on c =
    rw c.in-Templates.is (ok_then c.feed_rows-in-Templates.result (λ r goes more. more_on template _ _ (λ xs. record c.args.rows.now { templates = xs }) _ _ _ _ (goes more)) c.feed_rows-in-Templates.ensures.goes_on)

pub returns-in-Templates-clause-stops : goal.returns-in-Templates-clause-stops
returns-in-Templates-clause-stops c =
    rw c.in-Templates.is (ok_then c.feed_rows-in-Templates.result
    (λ r stops. elim stops [ inl none ↦ inl none | inr cut ↦ inr (more_cut template _ (λ xs. record c.args.rows.now { templates = xs }) _ _ _ cut) ]) c.feed_rows-in-Templates.ensures.stops)

pub returns-in-Templates-clause-flaw : goal.returns-in-Templates-clause-flaw
returns-in-Templates-clause-flaw c = λ left e more.
    rw c.in-Templates.is (more_flaw template _ (λ xs. record c.args.rows.now { templates = xs }) _ _ _ (c.feed_rows-in-Templates.ensures.flaw left e more))

pub feed_rows-requires-in-Autos : goal.feed_rows-requires-in-Autos
feed_rows-requires-in-Autos c = record { exact = auto_places.exact }

pub returns-in-Autos-clause-goes_on : goal.returns-in-Autos-clause-goes_on
returns-in-Autos-clause-goes_on c =
    rw c.in-Autos.is (ok_then c.feed_rows-in-Autos.result (λ r goes more. more_on auto _ _ (λ xs. record c.args.rows.now { autos = xs }) _ _ _ _ (goes more)) c.feed_rows-in-Autos.ensures.goes_on)

pub returns-in-Autos-clause-stops : goal.returns-in-Autos-clause-stops
returns-in-Autos-clause-stops c =
    rw c.in-Autos.is (ok_then c.feed_rows-in-Autos.result
    (λ r stops. elim stops [ inl none ↦ inl none | inr cut ↦ inr (more_cut auto _ (λ xs. record c.args.rows.now { autos = xs }) _ _ _ cut) ]) c.feed_rows-in-Autos.ensures.stops)

pub returns-in-Autos-clause-flaw : goal.returns-in-Autos-clause-flaw
returns-in-Autos-clause-flaw c = λ left e more.
    rw c.in-Autos.is (more_flaw auto _ (λ xs. record c.args.rows.now { autos = xs }) _ _ _ (c.feed_rows-in-Autos.ensures.flaw left e more))

pub feed_rows-requires-in-Groups : goal.feed_rows-requires-in-Groups
feed_rows-requires-in-Groups c = record { exact = group_places.exact }

pub returns-in-Groups-clause-goes_on : goal.returns-in-Groups-clause-goes_on
returns-in-Groups-clause-goes_on c =
    rw c.in-Groups.is (ok_then c.feed_rows-in-Groups.result (λ r goes more. more_on group _ _ (λ xs. record c.args.rows.now { groups = xs }) _ _ _ _ (goes more)) c.feed_rows-in-Groups.ensures.goes_on)

pub returns-in-Groups-clause-stops : goal.returns-in-Groups-clause-stops
returns-in-Groups-clause-stops c =
    rw c.in-Groups.is (ok_then c.feed_rows-in-Groups.result
    (λ r stops. elim stops [ inl none ↦ inl none | inr cut ↦ inr (more_cut group _ (λ xs. record c.args.rows.now { groups = xs }) _ _ _ cut) ]) c.feed_rows-in-Groups.ensures.stops)

pub returns-in-Groups-clause-flaw : goal.returns-in-Groups-clause-flaw
returns-in-Groups-clause-flaw c = λ left e more.
    rw c.in-Groups.is (more_flaw group _ (λ xs. record c.args.rows.now { groups = xs }) _ _ _ (c.feed_rows-in-Groups.ensures.flaw left e more))

pub feed_rows-requires-in-Screens : goal.feed_rows-requires-in-Screens
feed_rows-requires-in-Screens c = record { exact = screen_places.exact }

pub returns-in-Screens-clause-goes_on : goal.returns-in-Screens-clause-goes_on
returns-in-Screens-clause-goes_on c =
    rw c.in-Screens.is (ok_then c.feed_rows-in-Screens.result (λ r goes more. more_on screen _ _ (λ xs. record c.args.rows.now { screens = xs }) _ _ _ _ (goes more)) c.feed_rows-in-Screens.ensures.goes_on)

pub returns-in-Screens-clause-stops : goal.returns-in-Screens-clause-stops
returns-in-Screens-clause-stops c =
    rw c.in-Screens.is (ok_then c.feed_rows-in-Screens.result
    (λ r stops. elim stops [ inl none ↦ inl none | inr cut ↦ inr (more_cut screen _ (λ xs. record c.args.rows.now { screens = xs }) _ _ _ cut) ]) c.feed_rows-in-Screens.ensures.stops)

pub returns-in-Screens-clause-flaw : goal.returns-in-Screens-clause-flaw
returns-in-Screens-clause-flaw c = λ left e more.
    rw c.in-Screens.is (more_flaw screen _ (λ xs. record c.args.rows.now { screens = xs }) _ _ _ (c.feed_rows-in-Screens.ensures.flaw left e more))

pub feed_rows-requires-in-Excepts : goal.feed_rows-requires-in-Excepts
feed_rows-requires-in-Excepts c = record { exact = except_places.exact }

pub returns-in-Excepts-clause-goes_on : goal.returns-in-Excepts-clause-goes_on
returns-in-Excepts-clause-goes_on c =
    rw c.in-Excepts.is (ok_then c.feed_rows-in-Excepts.result (λ r goes more. more_on except _ _ (λ xs. record c.args.rows.now { excepts = xs }) _ _ _ _ (goes more)) c.feed_rows-in-Excepts.ensures.goes_on)

pub returns-in-Excepts-clause-stops : goal.returns-in-Excepts-clause-stops
returns-in-Excepts-clause-stops c =
    rw c.in-Excepts.is (ok_then c.feed_rows-in-Excepts.result
    (λ r stops. elim stops [ inl none ↦ inl none | inr cut ↦ inr (more_cut except _ (λ xs. record c.args.rows.now { excepts = xs }) _ _ _ cut) ]) c.feed_rows-in-Excepts.ensures.stops)

pub returns-in-Excepts-clause-flaw : goal.returns-in-Excepts-clause-flaw
returns-in-Excepts-clause-flaw c = λ left e more.
    rw c.in-Excepts.is (more_flaw except _ (λ xs. record c.args.rows.now { excepts = xs }) _ _ _ (c.feed_rows-in-Excepts.ensures.flaw left e more))

pub feed_rows-requires-in-Jobs : goal.feed_rows-requires-in-Jobs
feed_rows-requires-in-Jobs c = record { exact = job_places.exact }

pub returns-in-Jobs-clause-goes_on : goal.returns-in-Jobs-clause-goes_on
returns-in-Jobs-clause-goes_on c =
    rw c.in-Jobs.is (ok_then c.feed_rows-in-Jobs.result (λ r goes more. more_on job _ _ (λ xs. record c.args.rows.now { jobs = xs }) _ _ _ _ (goes more)) c.feed_rows-in-Jobs.ensures.goes_on)

pub returns-in-Jobs-clause-stops : goal.returns-in-Jobs-clause-stops
returns-in-Jobs-clause-stops c =
    rw c.in-Jobs.is (ok_then c.feed_rows-in-Jobs.result
    (λ r stops. elim stops [ inl none ↦ inl none | inr cut ↦ inr (more_cut job _ (λ xs. record c.args.rows.now { jobs = xs }) _ _ _ cut) ]) c.feed_rows-in-Jobs.ensures.stops)

pub returns-in-Jobs-clause-flaw : goal.returns-in-Jobs-clause-flaw
returns-in-Jobs-clause-flaw c = λ left e more.
    rw c.in-Jobs.is (more_flaw job _ (λ xs. record c.args.rows.now { jobs = xs }) _ _ _ (c.feed_rows-in-Jobs.ensures.flaw left e more))

pub feed_rows-requires-in-Acts : goal.feed_rows-requires-in-Acts
feed_rows-requires-in-Acts c = record { exact = act_places.exact }

pub returns-in-Acts-clause-goes_on : goal.returns-in-Acts-clause-goes_on
returns-in-Acts-clause-goes_on c =
    rw c.in-Acts.is (ok_then c.feed_rows-in-Acts.result (λ r goes more. more_on act _ _ (λ xs. record c.args.rows.now { acts = xs }) _ _ _ _ (goes more)) c.feed_rows-in-Acts.ensures.goes_on)

pub returns-in-Acts-clause-stops : goal.returns-in-Acts-clause-stops
returns-in-Acts-clause-stops c =
    rw c.in-Acts.is (ok_then c.feed_rows-in-Acts.result
    (λ r stops. elim stops [ inl none ↦ inl none | inr cut ↦ inr (more_cut act _ (λ xs. record c.args.rows.now { acts = xs }) _ _ _ cut) ]) c.feed_rows-in-Acts.ensures.stops)

pub returns-in-Acts-clause-flaw : goal.returns-in-Acts-clause-flaw
returns-in-Acts-clause-flaw c = λ left e more.
    rw c.in-Acts.is (more_flaw act _ (λ xs. record c.args.rows.now { acts = xs }) _ _ _ (c.feed_rows-in-Acts.ensures.flaw left e more))

pub feed_rows-requires-in-Audits : goal.feed_rows-requires-in-Audits
feed_rows-requires-in-Audits c = record { exact = audit_places.exact }

pub returns-in-Audits-clause-goes_on : goal.returns-in-Audits-clause-goes_on
returns-in-Audits-clause-goes_on c =
    rw c.in-Audits.is (ok_then c.feed_rows-in-Audits.result (λ r goes more. more_on audit _ _ (λ xs. record c.args.rows.now { audits = xs }) _ _ _ _ (goes more)) c.feed_rows-in-Audits.ensures.goes_on)

pub returns-in-Audits-clause-stops : goal.returns-in-Audits-clause-stops
returns-in-Audits-clause-stops c =
    rw c.in-Audits.is (ok_then c.feed_rows-in-Audits.result
    (λ r stops. elim stops [ inl none ↦ inl none | inr cut ↦ inr (more_cut audit _ (λ xs. record c.args.rows.now { audits = xs }) _ _ _ cut) ]) c.feed_rows-in-Audits.ensures.stops)

pub returns-in-Audits-clause-flaw : goal.returns-in-Audits-clause-flaw
returns-in-Audits-clause-flaw c = λ left e more.
    rw c.in-Audits.is (more_flaw audit _ (λ xs. record c.args.rows.now { audits = xs }) _ _ _ (c.feed_rows-in-Audits.ensures.flaw left e more))
