-- An image is read as its sections, one after the other.
use Rattle.std.proofs.Common.{◌≡◌, ℕ, List, [], ◌∷◌, Ok, refl, sym, ap, ◌∙◌}
use Rattle.fsrm_model.specs.declared.row.NodeRow.{NodeRow}
use Rattle.fsrm_model.specs.declared.row.QuotaRow.{QuotaRow}
use Rattle.fsrm_model.specs.declared.row.TemplateRow.{TemplateRow}
use Rattle.fsrm_model.specs.declared.row.AutoRow.{AutoRow}
use Rattle.fsrm_model.specs.declared.row.GroupRow.{GroupRow}
use Rattle.fsrm_model.specs.declared.row.ScreenRow.{ScreenRow}
use Rattle.fsrm_model.specs.declared.row.ExceptRow.{ExceptRow}
use Rattle.fsrm_model.specs.declared.row.JobRow.{JobRow}
use Rattle.fsrm_model.specs.declared.row.ActRow.{ActRow}
use Rattle.fsrm_model.specs.declared.row.AuditRow.{AuditRow}
use Rattle.fsrm_model.specs.declared.row.Rows.{Rows}
use Rattle.record_fields.specs.Formats.{Format, Read, ◌>>=◌, ◌⊗◌, number, number_at, items_at, listed_at, known_at}
use Rattle.record_fields.proofs.ItemLoops.{begins}
use Rattle.image_codec.specs.declared.section.Section.{Section}
use Rattle.image_codec.specs.declared.section.Section.TheVariants.{Start, Nodes, Quotas, Templates, Autos, Groups, Screens, Excepts, Jobs, Acts, Audits}
use Rattle.image_codec.specs.Images.{image, rows_of}
use Rattle.image_codec.specs.Rows.{rows, node, quota, template, auto, group, screen, except, job, act, audit}
use Rattle.image_codec.specs.Sections.{more_of, items_of, after, resume, no_rows}
use Rattle.image_codec.proofs.SectionLaws.{then_same, then_then}

abbrev FromAudits : Type 0
FromAudits = List AuditRow

abbrev from_audits : Format FromAudits
from_audits = rows audit

abbrev FromActs : Type 0
FromActs = List ActRow × FromAudits

abbrev from_acts : Format FromActs
from_acts = rows act ⊗ from_audits

abbrev FromJobs : Type 0
FromJobs = List JobRow × FromActs

abbrev from_jobs : Format FromJobs
from_jobs = rows job ⊗ from_acts

abbrev FromExcepts : Type 0
FromExcepts = List ExceptRow × FromJobs

abbrev from_excepts : Format FromExcepts
from_excepts = rows except ⊗ from_jobs

abbrev FromScreens : Type 0
FromScreens = List ScreenRow × FromExcepts

abbrev from_screens : Format FromScreens
from_screens = rows screen ⊗ from_excepts

abbrev FromGroups : Type 0
FromGroups = List GroupRow × FromScreens

abbrev from_groups : Format FromGroups
from_groups = rows group ⊗ from_screens

abbrev FromAutos : Type 0
FromAutos = List AutoRow × FromGroups

abbrev from_autos : Format FromAutos
from_autos = rows auto ⊗ from_groups

abbrev FromTemplates : Type 0
FromTemplates = List TemplateRow × FromAutos

abbrev from_templates : Format FromTemplates
from_templates = rows template ⊗ from_autos

abbrev FromQuotas : Type 0
FromQuotas = List QuotaRow × FromTemplates

abbrev from_quotas : Format FromQuotas
from_quotas = rows quota ⊗ from_templates

abbrev FromNodes : Type 0
FromNodes = List NodeRow × FromQuotas

abbrev from_nodes : Format FromNodes
from_nodes = rows node ⊗ from_quotas

-- a list, and then the others
count_then : {X : Type 0} (f : Format X) (s : Section) (ss : List Section) (R : Rows) (put : List X → Rows) (bytes : List ℕ) → ((still : ℕ) (b : List ℕ) → items_of s R still b ≡ more_of f [] put still b)
    → (listed_at (number 4) f bytes >>= λ a. after ss (put a.0) a.1) ≡ after (s ∷ ss) R bytes
unfolding listed_at
count_then {X = X} f s ss R put bytes same =
    then_then (number_at 4 bytes) (λ n. items_at f n.0 n.1) (λ a. after ss (put a.0) a.1)
    ∙ then_same (number_at 4 bytes) (λ n. items_at f n.0 n.1 >>= λ a. after ss (put a.0) a.1) (λ n. items_of s R n.0 n.1 >>= λ r. after ss r.0 r.1)
    (λ n. sym (ap (λ r. r >>= λ x. after ss x.0 x.1) (same n.0 n.1 ∙ ap (λ (r : Read (List X)). r >>= λ xs. Ok (put xs.0, xs.1)) (begins (items_at f n.0 n.1)))
    ∙ then_then (items_at f n.0 n.1) (λ xs. Ok (put xs.0, xs.1)) (λ x. after ss x.0 x.1)))

one_more : {X V : Type 0} (f : Format X) (T : Format V) (s : Section) (ss : List Section) (R : Rows) (put : List X → Rows) (done : List X × V → Rows) (bytes : List ℕ)
    → ((still : ℕ) (b : List ℕ) → items_of s R still b ≡ more_of f [] put still b) → ((xs : List X) (b : List ℕ) → (T.read b >>= λ v. Ok (done (xs, v.0), v.1)) ≡ after ss (put xs) b)
    → ((rows f ⊗ T).read bytes >>= λ v. Ok (done v.0, v.1)) ≡ after (s ∷ ss) R bytes
one_more f T s ss R put done bytes same next =
    then_then (listed_at (number 4) f bytes) (λ a. T.read a.1 >>= λ b. Ok ((a.0, b.0), b.1)) (λ v. Ok (done v.0, v.1))
    ∙ then_same (listed_at (number 4) f bytes) (λ a. (T.read a.1 >>= λ b. Ok ((a.0, b.0), b.1)) >>= λ v. Ok (done v.0, v.1)) (λ a. after ss (put a.0) a.1)
    (λ a. then_then (T.read a.1) (λ b. Ok ((a.0, b.0), b.1)) (λ v. Ok (done v.0, v.1)) ∙ next a.0 a.1)
    ∙ count_then f s ss R put bytes same

abbrev begun : ℕ → ℕ → Rows
begun m l = record no_rows { last_moment = m; run_limit = l }

lists_read : (m l : ℕ) (b : List ℕ) → (from_nodes.read b >>= λ v. Ok (rows_of (m, (l, v.0)), v.1)) ≡ after (Nodes ∷ Quotas ∷ Templates ∷ Autos ∷ Groups ∷ Screens ∷ Excepts ∷ Jobs ∷ Acts ∷ Audits ∷ []) (begun m l) b
lists_read m l b =
    one_more node from_quotas Nodes (Quotas ∷ Templates ∷ Autos ∷ Groups ∷ Screens ∷ Excepts ∷ Jobs ∷ Acts ∷ Audits ∷ []) (begun m l) (λ xs. record (begun m l) { nodes = xs }) (λ v. rows_of (m, (l, v))) b (λ k c. refl) (λ v0 b.
    one_more quota from_templates Quotas (Templates ∷ Autos ∷ Groups ∷ Screens ∷ Excepts ∷ Jobs ∷ Acts ∷ Audits ∷ []) (record (begun m l) { nodes = v0 }) (λ xs. record (begun m l) { nodes = v0; quotas = xs }) (λ v. rows_of (m, (l, (v0, v)))) b (λ k c. refl) (λ v1 b.
    one_more template from_autos Templates (Autos ∷ Groups ∷ Screens ∷ Excepts ∷ Jobs ∷ Acts ∷ Audits ∷ []) (record (begun m l) { nodes = v0; quotas = v1 }) (λ xs. record (begun m l) { nodes = v0; quotas = v1; templates = xs }) (λ v. rows_of (m, (l, (v0, (v1, v))))) b (λ k c. refl) (λ v2 b.
    one_more auto from_groups Autos (Groups ∷ Screens ∷ Excepts ∷ Jobs ∷ Acts ∷ Audits ∷ []) (record (begun m l) { nodes = v0; quotas = v1; templates = v2 }) (λ xs. record (begun m l) { nodes = v0; quotas = v1; templates = v2; autos = xs }) (λ v. rows_of (m, (l, (v0, (v1, (v2, v)))))) b (λ k c. refl) (λ v3 b.
    one_more group from_screens Groups (Screens ∷ Excepts ∷ Jobs ∷ Acts ∷ Audits ∷ []) (record (begun m l) { nodes = v0; quotas = v1; templates = v2; autos = v3 }) (λ xs. record (begun m l) { nodes = v0; quotas = v1; templates = v2; autos = v3; groups = xs }) (λ v. rows_of (m, (l, (v0, (v1, (v2, (v3, v))))))) b (λ k c. refl) (λ v4 b.
    one_more screen from_excepts Screens (Excepts ∷ Jobs ∷ Acts ∷ Audits ∷ []) (record (begun m l) { nodes = v0; quotas = v1; templates = v2; autos = v3; groups = v4 }) (λ xs. record (begun m l) { nodes = v0; quotas = v1; templates = v2; autos = v3; groups = v4; screens = xs }) (λ v. rows_of (m, (l, (v0, (v1, (v2, (v3, (v4, v)))))))) b (λ k c. refl) (λ v5 b.
    one_more except from_jobs Excepts (Jobs ∷ Acts ∷ Audits ∷ []) (record (begun m l) { nodes = v0; quotas = v1; templates = v2; autos = v3; groups = v4; screens = v5 }) (λ xs. record (begun m l) { nodes = v0; quotas = v1; templates = v2; autos = v3; groups = v4; screens = v5; excepts = xs }) (λ v. rows_of (m, (l, (v0, (v1, (v2, (v3, (v4, (v5, v))))))))) b (λ k c. refl) (λ v6 b.
    one_more job from_acts Jobs (Acts ∷ Audits ∷ []) (record (begun m l) { nodes = v0; quotas = v1; templates = v2; autos = v3; groups = v4; screens = v5; excepts = v6 }) (λ xs. record (begun m l) { nodes = v0; quotas = v1; templates = v2; autos = v3; groups = v4; screens = v5; excepts = v6; jobs = xs }) (λ v. rows_of (m, (l, (v0, (v1, (v2, (v3, (v4, (v5, (v6, v)))))))))) b (λ k c. refl) (λ v7 b.
    one_more act from_audits Acts (Audits ∷ []) (record (begun m l) { nodes = v0; quotas = v1; templates = v2; autos = v3; groups = v4; screens = v5; excepts = v6; jobs = v7 }) (λ xs. record (begun m l) { nodes = v0; quotas = v1; templates = v2; autos = v3; groups = v4; screens = v5; excepts = v6; jobs = v7; acts = xs }) (λ v. rows_of (m, (l, (v0, (v1, (v2, (v3, (v4, (v5, (v6, (v7, v))))))))))) b (λ k c. refl) (λ v8 b.
    count_then audit Audits [] (record (begun m l) { nodes = v0; quotas = v1; templates = v2; autos = v3; groups = v4; screens = v5; excepts = v6; jobs = v7; acts = v8 }) (λ xs. record (begun m l) { nodes = v0; quotas = v1; templates = v2; autos = v3; groups = v4; screens = v5; excepts = v6; jobs = v7; acts = v8; audits = xs }) b (λ k c. refl))))))))))

pub image_reads : (bytes : List ℕ) → image.read bytes ≡ resume Start no_rows 1 bytes
unfolding known_at
image_reads bytes =
    let lists = (Nodes ∷ Quotas ∷ Templates ∷ Autos ∷ Groups ∷ Screens ∷ Excepts ∷ Jobs ∷ Acts ∷ Audits ∷ []) in
    let first = then_then (number_at 8 bytes) (λ a. (number 4 ⊗ from_nodes).read a.1 >>= λ b. Ok ((a.0, b.0), b.1)) (λ v. Ok (rows_of v.0, v.1)) in
    let second = λ (a : ℕ × List ℕ). then_then ((number 4 ⊗ from_nodes).read a.1) (λ b. Ok ((a.0, b.0), b.1)) (λ v. Ok (rows_of v.0, v.1))
    ∙ then_then (number_at 4 a.1) (λ c. from_nodes.read c.1 >>= λ d. Ok ((c.0, d.0), d.1)) (λ v. Ok (rows_of (a.0, v.0), v.1)) in
    let third = λ (a c : ℕ × List ℕ). then_then (from_nodes.read c.1) (λ d. Ok ((c.0, d.0), d.1)) (λ v. Ok (rows_of (a.0, v.0), v.1)) ∙ lists_read a.0 c.0 c.1 in
    first ∙ then_same (number_at 8 bytes) _ (λ a. number_at 4 a.1 >>= λ c. after lists (begun a.0 c.0) c.1)
    (λ a. second a ∙ then_same (number_at 4 a.1) _ (λ c. after lists (begun a.0 c.0) c.1) (third a))
    ∙ sym (then_then (number_at 8 bytes) (λ m. number_at 4 m.1 >>= λ l. Ok (begun m.0 l.0, l.1)) (λ r. after lists r.0 r.1)
    ∙ then_same (number_at 8 bytes) _ (λ a. number_at 4 a.1 >>= λ c. after lists (begun a.0 c.0) c.1)
    (λ m. then_then (number_at 4 m.1) (λ l. Ok (begun m.0 l.0, l.1)) (λ r. after lists r.0 r.1)))
