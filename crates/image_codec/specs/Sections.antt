-- How an image is read on, after parts of it were read.
use Rattle.std.specs.Prelude.{◌≡◌, ℕ, zero, suc, List, [], ◌∷◌, Option, Some, None, Ok, Err}
use Rattle.fsrm_model.specs.declared.row.Rows.{Rows}
use Rattle.record_fields.specs.declared.flaw.Flaw.TheVariants.{Truncated}
use Rattle.record_fields.specs.Formats.{Format, Read, ◌>>=◌, number_at, items_at}
use Rattle.record_fields.specs.Pieces.{with_front}
use Rattle.image_codec.specs.declared.section.Section.{Section}
use Rattle.image_codec.specs.declared.section.Section.TheVariants.{Start, Nodes, Quotas, Templates, Autos, Groups, Screens, Excepts, Jobs, Acts, Audits}
use Rattle.image_codec.specs.Rows.{node, quota, template, auto, group, screen, except, job, act, audit}

-- the sections after one
abbrev pub following : Section → List Section
following Start = Nodes ∷ Quotas ∷ Templates ∷ Autos ∷ Groups ∷ Screens ∷ Excepts ∷ Jobs ∷ Acts ∷ Audits ∷ []
following Nodes = Quotas ∷ Templates ∷ Autos ∷ Groups ∷ Screens ∷ Excepts ∷ Jobs ∷ Acts ∷ Audits ∷ []
following Quotas = Templates ∷ Autos ∷ Groups ∷ Screens ∷ Excepts ∷ Jobs ∷ Acts ∷ Audits ∷ []
following Templates = Autos ∷ Groups ∷ Screens ∷ Excepts ∷ Jobs ∷ Acts ∷ Audits ∷ []
following Autos = Groups ∷ Screens ∷ Excepts ∷ Jobs ∷ Acts ∷ Audits ∷ []
following Groups = Screens ∷ Excepts ∷ Jobs ∷ Acts ∷ Audits ∷ []
following Screens = Excepts ∷ Jobs ∷ Acts ∷ Audits ∷ []
following Excepts = Jobs ∷ Acts ∷ Audits ∷ []
following Jobs = Acts ∷ Audits ∷ []
following Acts = Audits ∷ []
following Audits = []

-- the rows with what comes first, if that is still to come
abbrev pub start_of : Rows → ℕ → List ℕ → Read Rows
start_of R zero bytes = Ok (R, bytes)
start_of R (suc more) bytes =
    number_at 8 bytes >>= λ m. number_at 4 m.1 >>= λ l. Ok (record R { last_moment = m.0; run_limit = l.0 }, l.1)

-- a list's next rows, after those that it has
abbrev pub more_of : {X : Type 0} → Format X → List X → (List X → Rows) → ℕ → List ℕ → Read Rows
more_of f front put still bytes = with_front front (items_at f still bytes) >>= λ xs. Ok (put xs.0, xs.1)

-- the rows with those of a section that are still to come, which are so many
abbrev pub items_of : Section → Rows → ℕ → List ℕ → Read Rows
items_of Start R still bytes = start_of R still bytes
items_of Nodes R still bytes = more_of node R.nodes (λ xs. record R { nodes = xs }) still bytes
items_of Quotas R still bytes = more_of quota R.quotas (λ xs. record R { quotas = xs }) still bytes
items_of Templates R still bytes = more_of template R.templates (λ xs. record R { templates = xs }) still bytes
items_of Autos R still bytes = more_of auto R.autos (λ xs. record R { autos = xs }) still bytes
items_of Groups R still bytes = more_of group R.groups (λ xs. record R { groups = xs }) still bytes
items_of Screens R still bytes = more_of screen R.screens (λ xs. record R { screens = xs }) still bytes
items_of Excepts R still bytes = more_of except R.excepts (λ xs. record R { excepts = xs }) still bytes
items_of Jobs R still bytes = more_of job R.jobs (λ xs. record R { jobs = xs }) still bytes
items_of Acts R still bytes = more_of act R.acts (λ xs. record R { acts = xs }) still bytes
items_of Audits R still bytes = more_of audit R.audits (λ xs. record R { audits = xs }) still bytes

-- the rows with all of some sections, each after its count
abbrev pub after : List Section → Rows → List ℕ → Read Rows
after [] R bytes = Ok (R, bytes)
after (s ∷ ss) R bytes = number_at 4 bytes >>= λ n. items_of s R n.0 n.1 >>= λ r. after ss r.0 r.1

-- the rows of an image of which all before a section was read, and of the section all but so many rows
abbrev pub resume : Section → Rows → ℕ → List ℕ → Read Rows
resume s R still bytes = items_of s R still bytes >>= λ r. after (following s) r.0 r.1

-- Where reading stands: at the end of the image, whatever bytes follow, or at a field that is cut short
abbrev pub Pauses : Section → Rows → ℕ → List ℕ → Option ℕ → Type 0
Pauses s R still rest None = (bytes : List ℕ) → resume s R still bytes ≡ Ok (R, bytes)
Pauses s R still rest (Some left) = resume s R still rest ≡ Err (Truncated left)

-- no rows
abbrev pub no_rows : Rows
no_rows =
    record {
      nodes = [];
      quotas = [];
      templates = [];
      autos = [];
      groups = [];
      screens = [];
      excepts = [];
      jobs = [];
      acts = [];
      audits = [];
      queue = [];
      unvisited = [];
      run_limit = 0;
      last_moment = 0;
    }
