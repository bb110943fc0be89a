-- Words are read as the command that they spell, and refused only as a line is.
use Rattle.std.proofs.Common.{◌≡◌, ℕ, List, [], ◌∷◌, ◌++◌, Bool, refl, sym, ◌∙◌, ap, subst, inl, inr}
use Rattle.std.specs.Prelude.{Ok, ◌⊎◌, codes, map, Option, Some, None, option_map, if◌then◌else◌}
use Rattle.std.specs.List.{AllByRecursion}
use Rattle.std.specs.Str.{str_eq_ignore_ascii_case}
use Rattle.std.proofs.lemmas.Bool.{cases_Bool}
use Rattle.fsrm_model.specs.declared.command.Command.{Command}
use Rattle.fsrm_model.specs.declared.command.Deed.{Deed}
use Rattle.fsrm_model.specs.declared.command.Deed.TheVariants.{File, Usage, Step}
use Rattle.fsrm_model.specs.declared.command.FileOp.TheVariants.{Mkdir, Create, Resize, Touch, Move, Remove}
use Rattle.fsrm_model.specs.declared.command.Refusal.TheVariants.{BadLine}
use Rattle.fsrm_model.specs.values.Limits.{latest_moment, longest_file, last_owner, most_visits}
use Rattle.fsrm_model.specs.lines.Line.{no_more, number_word, path_word, owner_word, length_word, mkdir_words, create_words, resize_words, touch_words, move_words, remove_words, usage_words, step_words, Reader, named_word, option_words, tool_words, placed, tool_reader, readers, deed_words, command_of}
use Rattle.fsrm_model.specs.lines.Options.{options}
use Rattle.fsrm_model.specs.lines.Reading.{Read, ◌>>=◌, known, number_from, path_from}
use Rattle.fsrm_model.specs.meaning.Spelling.{IsNamed, Writes, WritesPath, SpellsOptions, SpellsTool, SpellsPlaced, SpellsDeed}
use Rattle.fsrm_model.specs.lines.Tools.{Names, named, ToolCommand, tools}
use Rattle.fsrm_model.specs.lines.Words.{Word}
use Rattle.fsrm_model.proofs.lines.LineValues.{AsLine, then_line, known_line, end_line, number_word_line, path_word_line, one_path_line, path_number_line, one_number_line}
use Rattle.fsrm_model.proofs.lines.OptionLaws.{options_spell, spelled_options, options_line}
use Rattle.fsrm_model.proofs.lines.PathLaws.{path_writes, path_reads}
use Rattle.fsrm_model.proofs.lines.ReadLaws.{then_ok, both_ok, number_writes, number_reads}
use Rattle.fsrm_model.proofs.lines.ValueLaws.{name_same, known_ok}
use Rattle.fsrm_model.proofs.lines.WordLaws.{texts}

abbrev Path : Type 0
Path = List (List ℕ)

-- a value that is read stands in the first word
record NumberWord (low high : ℕ) (given : List Word) (n : ℕ) (more : List Word) : Type 0 where
  word : Word
  given_is : given ≡ word ∷ more
  writes : Writes low high word.text n

record PathWord (given : List Word) (path : Path) (more : List Word) : Type 0 where
  word : Word
  given_is : given ≡ word ∷ more
  writes : WritesPath word.text path

number_word_writes : (low high end : ℕ) (given : List Word) (x : ℕ × List Word) → number_word low high end given ≡ Ok x → NumberWord low high given x.0 x.1
number_word_writes low high end [] x h = absurd (cc h)
number_word_writes low high end (word ∷ more) x h =
    let read = both_ok (number_from low high word.column word.text) (λ n. Ok (n, more)) x h in
    let same : (read.0, more) ≡ x = cc read.2 in
    subst (λ (y : ℕ × List Word). NumberWord low high (word ∷ more) y.0 y.1) same (record { word = word; given_is = refl; writes = number_writes low high word.column word.text read.0 read.1 })

path_word_writes : (end : ℕ) (given : List Word) (x : Path × List Word) → path_word end given ≡ Ok x → PathWord given x.0 x.1
path_word_writes end [] x h = absurd (cc h)
path_word_writes end (word ∷ more) x h =
    let read = both_ok (path_from word.text) (λ path. Ok (path, more)) x h in
    let same : (read.0, more) ≡ x = cc read.2 in
    subst (λ (y : Path × List Word). PathWord (word ∷ more) y.0 y.1) same (record { word = word; given_is = refl; writes = path_writes word.text read.0 read.1 })

-- a word, and what the words after it are
after_word : {given more rest : List Word} (word : Word) → given ≡ word ∷ more → more ≡ rest → given ≡ word ∷ rest
after_word word e f = e ∙ ap (λ (ws : List Word). word ∷ ws) f

no_more_ok : {X : Type 0} (given : List Word) (x y : X) → no_more given x ≡ Ok y → (given ≡ []) × (x ≡ y)
no_more_ok [] x y h = (refl, cc h)
no_more_ok (word ∷ more) x y h = absurd (cc h)

-- and a value that stands there is read, with the words after it
abbrev IsRead : {A : Type 0} → Read (A × List Word) → A → List (List ℕ) → Type 0
IsRead r value after = (more : List Word) × (r ≡ Ok (value, more)) × (texts more ≡ after)

number_word_reads : (low high end : ℕ) (given : List Word) (text : List ℕ) (after : List (List ℕ)) (n : ℕ) → texts given ≡ text ∷ after → Writes low high text n → IsRead (number_word low high end given) n after
number_word_reads low high end [] text after n e w = absurd (cc e)
number_word_reads low high end (word ∷ more) text after n e w =
    let same : word.text ≡ text = cc e in
    let here : Writes low high word.text n = subst (λ (bs : List ℕ). Writes low high bs n) (sym same) w in
    (more, then_ok (number_from low high word.column word.text) n (λ x. Ok (x, more)) (number_reads low high word.column word.text n here), cc e)

path_word_reads : (end : ℕ) (given : List Word) (text : List ℕ) (after : List (List ℕ)) (path : Path) → texts given ≡ text ∷ after → WritesPath text path → IsRead (path_word end given) path after
path_word_reads end [] text after path e w = absurd (cc e)
path_word_reads end (word ∷ more) text after path e w =
    let same : word.text ≡ text = cc e in
    let here : WritesPath word.text path = subst (λ (bs : List ℕ). WritesPath bs path) (sym same) w in
    (more, then_ok (path_from word.text) path (λ x. Ok (x, more)) (path_reads word.text path here), cc e)

no_more_reads : {X : Type 0} (given : List Word) (x : X) → texts given ≡ [] → no_more given x ≡ Ok x
no_more_reads [] x e = refl
no_more_reads (word ∷ more) x e = absurd (cc e)

-- One path, and no more
one_path_spells : (deed : Path → Deed) (end : ℕ) (given : List Word) (d : Deed) → (path_word end given >>= λ path. no_more path.1 (deed path.0)) ≡ Ok d → (a : List ℕ) × (path : Path) × (texts given ≡ a ∷ []) × (WritesPath a path) × (deed path ≡ d)
one_path_spells deed end given d h =
    let path = both_ok (path_word end given) (λ path. no_more path.1 (deed path.0)) d h in
    let last = no_more_ok path.0.1 (deed path.0.0) d path.2 in
    let a = path_word_writes end given path.0 path.1 in
    (a.word.text, path.0.0, ap texts a.given_is ∙ ap (λ (ws : List Word). texts (a.word ∷ ws)) last.0, a.writes, last.1)

one_path_reads : (deed : Path → Deed) (end : ℕ) (given : List Word) (a : List ℕ) (path : Path) → texts given ≡ a ∷ [] → WritesPath a path → (path_word end given >>= λ path. no_more path.1 (deed path.0)) ≡ Ok (deed path)
one_path_reads deed end given a path e w =
    let p = path_word_reads end given a [] path e w in
    then_ok (path_word end given) (path, p.0) (λ path. no_more path.1 (deed path.0)) p.1 ∙ no_more_reads p.0 (deed path) p.2

-- a path and a number
path_number_spells : (low high : ℕ) (deed : Path → ℕ → Deed) (end : ℕ) (given : List Word) (d : Deed) → (path_word end given >>= λ path. number_word low high end path.1 >>= λ n. no_more n.1 (deed path.0 n.0)) ≡ Ok d → (a b : List ℕ) × (path : Path) × (n : ℕ) × (texts given ≡ a ∷ b ∷ []) × (WritesPath a path) × (Writes low high b n) × (deed path n ≡ d)
path_number_spells low high deed end given d h =
    let path = both_ok (path_word end given) (λ path. number_word low high end path.1 >>= λ n. no_more n.1 (deed path.0 n.0)) d h in
    let n = both_ok (number_word low high end path.0.1) (λ n. no_more n.1 (deed path.0.0 n.0)) d path.2 in
    let last = no_more_ok n.0.1 (deed path.0.0 n.0.0) d n.2 in
    let a = path_word_writes end given path.0 path.1 in
    let b = number_word_writes low high end path.0.1 n.0 n.1 in
    let words : given ≡ a.word ∷ b.word ∷ [] = after_word a.word a.given_is (after_word b.word b.given_is last.0) in
    (a.word.text, b.word.text, path.0.0, n.0.0, ap texts words, a.writes, b.writes, last.1)

path_number_reads : (low high : ℕ) (deed : Path → ℕ → Deed) (end : ℕ) (given : List Word) (a b : List ℕ) (path : Path) (n : ℕ) → texts given ≡ a ∷ b ∷ [] → WritesPath a path → Writes low high b n → (path_word end given >>= λ path. number_word low high end path.1 >>= λ n. no_more n.1 (deed path.0 n.0)) ≡ Ok (deed path n)
path_number_reads low high deed end given a b path n e w v =
    let p = path_word_reads end given a (b ∷ []) path e w in
    let q = number_word_reads low high end p.0 b [] n p.2 v in
    then_ok (path_word end given) (path, p.0) (λ path. number_word low high end path.1 >>= λ n. no_more n.1 (deed path.0 n.0)) p.1
    ∙ then_ok (number_word low high end p.0) (n, q.0) (λ n. no_more n.1 (deed path n.0)) q.1
    ∙ no_more_reads q.0 (deed path n) q.2

-- one number, and no more
one_number_spells : (low high : ℕ) (deed : ℕ → Deed) (end : ℕ) (given : List Word) (d : Deed) → (number_word low high end given >>= λ n. no_more n.1 (deed n.0)) ≡ Ok d → (a : List ℕ) × (n : ℕ) × (texts given ≡ a ∷ []) × (Writes low high a n) × (deed n ≡ d)
one_number_spells low high deed end given d h =
    let n = both_ok (number_word low high end given) (λ n. no_more n.1 (deed n.0)) d h in
    let last = no_more_ok n.0.1 (deed n.0.0) d n.2 in
    let a = number_word_writes low high end given n.0 n.1 in
    (a.word.text, n.0.0, ap texts a.given_is ∙ ap (λ (ws : List Word). texts (a.word ∷ ws)) last.0, a.writes, last.1)

one_number_reads : (low high : ℕ) (deed : ℕ → Deed) (end : ℕ) (given : List Word) (a : List ℕ) (n : ℕ) → texts given ≡ a ∷ [] → Writes low high a n → (number_word low high end given >>= λ n. no_more n.1 (deed n.0)) ≡ Ok (deed n)
one_number_reads low high deed end given a n e w =
    let q = number_word_reads low high end given a [] n e w in
    then_ok (number_word low high end given) (n, q.0) (λ n. no_more n.1 (deed n.0)) q.1 ∙ no_more_reads q.0 (deed n) q.2

-- the words after the name of a command whose words have their places
abbrev Spelled : List ℕ → Reader → Type 0
Spelled name reads = (word : Word) (end : ℕ) (given : List Word) (d : Deed) → IsNamed name word.text → reads end given ≡ Ok d → SpellsPlaced (texts (word ∷ given)) d

mkdir_spells : Spelled (codes "mkdir") mkdir_words
mkdir_spells word end given d named h =
    let s = path_number_spells 1 last_owner (λ path owner. File (Mkdir path owner)) end given d h in
    subst (SpellsPlaced (texts (word ∷ given))) s.7 (word.text, s.0, s.1, ap (λ (ts : List (List ℕ)). word.text ∷ ts) s.4, named, s.5, s.6)

resize_spells : Spelled (codes "resize") resize_words
resize_spells word end given d named h =
    let s = path_number_spells 0 longest_file (λ path size. File (Resize path size)) end given d h in
    subst (SpellsPlaced (texts (word ∷ given))) s.7 (word.text, s.0, s.1, ap (λ (ts : List (List ℕ)). word.text ∷ ts) s.4, named, s.5, s.6)

touch_spells : Spelled (codes "touch") touch_words
touch_spells word end given d named h =
    let s = one_path_spells (λ path. File (Touch path)) end given d h in
    subst (SpellsPlaced (texts (word ∷ given))) s.4 (word.text, s.0, ap (λ (ts : List (List ℕ)). word.text ∷ ts) s.2, named, s.3)

remove_spells : Spelled (codes "remove") remove_words
remove_spells word end given d named h =
    let s = one_path_spells (λ path. File (Remove path)) end given d h in
    subst (SpellsPlaced (texts (word ∷ given))) s.4 (word.text, s.0, ap (λ (ts : List (List ℕ)). word.text ∷ ts) s.2, named, s.3)

usage_spells : Spelled (codes "usage") usage_words
usage_spells word end given d named h =
    let s = one_path_spells (λ path. Usage path) end given d h in
    subst (SpellsPlaced (texts (word ∷ given))) s.4 (word.text, s.0, ap (λ (ts : List (List ℕ)). word.text ∷ ts) s.2, named, s.3)

step_spells : Spelled (codes "step") step_words
step_spells word end given d named h =
    let s = one_number_spells 1 most_visits (λ n. Step n) end given d h in
    subst (SpellsPlaced (texts (word ∷ given))) s.4 (word.text, s.0, ap (λ (ts : List (List ℕ)). word.text ∷ ts) s.2, named, s.3)

move_spells : Spelled (codes "move") move_words
move_spells word end given d named h =
    let from = both_ok (path_word end given) (λ from. path_word end from.1 >>= λ to. no_more to.1 (File (Move from.0 to.0))) d h in
    let to = both_ok (path_word end from.0.1) (λ to. no_more to.1 (File (Move from.0.0 to.0))) d from.2 in
    let last = no_more_ok to.0.1 (File (Move from.0.0 to.0.0)) d to.2 in
    let a = path_word_writes end given from.0 from.1 in
    let b = path_word_writes end from.0.1 to.0 to.1 in
    let words : given ≡ a.word ∷ b.word ∷ [] = after_word a.word a.given_is (after_word b.word b.given_is last.0) in
    subst (SpellsPlaced (texts (word ∷ given))) last.1 (word.text, a.word.text, b.word.text, ap (λ (ws : List Word). texts (word ∷ ws)) words, named, a.writes, b.writes)

create_spells : Spelled (codes "create") create_words
create_spells word end given d named h =
    let path = both_ok (path_word end given) (λ path. length_word end path.1 >>= λ size. owner_word end size.1 >>= λ owner. no_more owner.1 (File (Create path.0 size.0 owner.0))) d h in
    let size = both_ok (length_word end path.0.1) (λ size. owner_word end size.1 >>= λ owner. no_more owner.1 (File (Create path.0.0 size.0 owner.0))) d path.2 in
    let owner = both_ok (owner_word end size.0.1) (λ owner. no_more owner.1 (File (Create path.0.0 size.0.0 owner.0))) d size.2 in
    let last = no_more_ok owner.0.1 (File (Create path.0.0 size.0.0 owner.0.0)) d owner.2 in
    let a = path_word_writes end given path.0 path.1 in
    let b = number_word_writes 0 longest_file end path.0.1 size.0 size.1 in
    let c = number_word_writes 1 last_owner end size.0.1 owner.0 owner.1 in
    let rest : size.0.1 ≡ c.word ∷ [] = after_word c.word c.given_is last.0 in
    let words : given ≡ a.word ∷ b.word ∷ c.word ∷ [] = after_word a.word a.given_is (after_word b.word b.given_is rest) in
    subst (SpellsPlaced (texts (word ∷ given))) last.1 (word.text, a.word.text, b.word.text, c.word.text, ap (λ (ws : List Word). texts (word ∷ ws)) words, named, a.writes, b.writes, c.writes)

-- they are refused as a line is
abbrev ReadsLine : Reader → Type 0
ReadsLine reads = (end : ℕ) (given : List Word) → AsLine (reads end given)

create_line : ReadsLine create_words
create_line end given =
    then_line (path_word end given) (λ path. length_word end path.1 >>= λ size. owner_word end size.1 >>= λ owner. no_more owner.1 (File (Create path.0 size.0 owner.0))) (path_word_line end given)
    (λ path. then_line (length_word end path.1) (λ size. owner_word end size.1 >>= λ owner. no_more owner.1 (File (Create path.0 size.0 owner.0))) (number_word_line 0 longest_file end path.1)
    (λ size. then_line (owner_word end size.1) (λ owner. no_more owner.1 (File (Create path.0 size.0 owner.0))) (number_word_line 1 last_owner end size.1)
    (λ owner. end_line owner.1 (File (Create path.0 size.0 owner.0)))))

move_line : ReadsLine move_words
move_line end given =
    then_line (path_word end given) (λ from. path_word end from.1 >>= λ to. no_more to.1 (File (Move from.0 to.0))) (path_word_line end given)
    (λ from. then_line (path_word end from.1) (λ to. no_more to.1 (File (Move from.0 to.0))) (path_word_line end from.1) (λ to. end_line to.1 (File (Move from.0 to.0))))

-- what is known of each reader, one tuple for all
record IsReader (row : List ℕ × Reader) : Type 0 where
  spells : Spelled row.0 row.1
  line : ReadsLine row.1

placed_readers : AllByRecursion IsReader placed
placed_readers = (
  record { spells = mkdir_spells; line = path_number_line 1 last_owner (λ path owner. File (Mkdir path owner)) },
  (
    record { spells = create_spells; line = create_line },
    (
      record { spells = resize_spells; line = path_number_line 0 longest_file (λ path size. File (Resize path size)) },
      (
        record { spells = touch_spells; line = one_path_line (λ path. File (Touch path)) },
        (
          record { spells = move_spells; line = move_line },
          (
            record { spells = remove_spells; line = one_path_line (λ path. File (Remove path)) },
            (
              record { spells = usage_spells; line = one_path_line (λ path. Usage path) },
              (record { spells = step_spells; line = one_number_line 1 most_visits (λ n. Step n) }, tt),
            ),
          ),
        ),
      ),
    ),
  ),
)

-- what is known of each name of names is known of the one that a text has
pub named_each : {X : Type 0} (P : List ℕ × X → Type 0) (names : Names X) (text : List ℕ) (x : X) → AllByRecursion P names → named names text ≡ Some x → (name : List ℕ) × IsNamed name text × P (name, x)
named_each P [] text x each h = absurd (cc h)
named_each {X} P (row ∷ rows) text x each h = elim (cases_Bool (str_eq_ignore_ascii_case row.0 text)) [
  | inl is ↦
      let found = rw is at h in
      let same : row.1 ≡ x = cc found in
      (row.0, is, subst (λ (y : X). P (row.0, y)) same each.0)
  | inr other ↦ let found = rw other at h in named_each P rows text x each.1 found
]

-- names of which none is the text's stand before others
named-append : {X : Type 0} (xs ys : Names X) (text : List ℕ) → named xs text ≡ None → named (xs ++ ys) text ≡ named ys text
named-append [] ys text h = refl
named-append (row ∷ rows) ys text h = elim (cases_Bool (str_eq_ignore_ascii_case row.0 text)) [
  | inl is ↦ let found = rw is at h in absurd (cc found)
  | inr other ↦ let rest = rw other at h in rw other (named-append rows ys text rest)
]

named_front : {X : Type 0} (xs ys : Names X) (text : List ℕ) (x : X) → named xs text ≡ Some x → named (xs ++ ys) text ≡ Some x
named_front [] ys text x h = absurd (cc h)
named_front (row ∷ rows) ys text x h = elim (cases_Bool (str_eq_ignore_ascii_case row.0 text)) [
  | inl is ↦ let found = rw is at h in rw is found
  | inr other ↦ let rest = rw other at h in rw other (named_front rows ys text x rest)
]

-- a name is read as the table's own spelling of it
named_same : {X : Type 0} (names : Names X) (name text : List ℕ) → IsNamed name text → named names text ≡ named names name
named_same [] name text is = refl
named_same {X} (row ∷ rows) name text is =
    ap (λ (b : Bool). if b then Some row.1 else named rows text) (name_same row.0 name text is)
    ∙ ap (λ (o : Option X). if str_eq_ignore_ascii_case row.0 name then Some row.1 else o) (named_same rows name text is)

-- the tools' names, as readers have them
named_tools : (rows : Names (Names (Names ToolCommand))) (text : List ℕ) → named (map tool_reader rows) text ≡ option_map tool_words (named rows text)
named_tools [] text = refl
named_tools (row ∷ rows) text = elim (cases_Bool (str_eq_ignore_ascii_case row.0 text)) [
  | inl is ↦ rw is refl
  | inr other ↦ rw other (named_tools rows text)
]

-- no tool has the name of another command
abbrev IsApart : List ℕ × Names (Names ToolCommand) → Type 0
IsApart tool = named placed tool.0 ≡ None

tools_apart : AllByRecursion IsApart tools
tools_apart = (refl, (refl, (refl, tt)))

tool_read : (text : List ℕ) (objects : Names (Names ToolCommand)) → named tools text ≡ Some objects → named readers text ≡ Some (tool_words objects)
tool_read text objects h =
    let found = named_each IsApart tools text objects tools_apart h in
    named-append placed (map tool_reader tools) text (named_same placed found.0 text found.1 ∙ found.2)
    ∙ named_tools tools text
    ∙ ap (option_map tool_words) h

-- a name that stands for a reader: that of a command whose words have their places, or that of a tool
record ByPlace (text : List ℕ) (reader : Reader) : Type 0 where
  name : List ℕ
  is : IsNamed name text
  own : IsReader (name, reader)

record ByTool (text : List ℕ) (reader : Reader) : Type 0 where
  objects : Names (Names ToolCommand)
  is : named tools text ≡ Some objects
  own : tool_words objects ≡ reader

reader_found : (text : List ℕ) (reader : Reader) → named readers text ≡ Some reader → ByPlace text reader ⊎ ByTool text reader
reader_found text reader h = at (named placed text) refl
  where
    by_tool : (o : Option (Names (Names ToolCommand))) → named tools text ≡ o → option_map tool_words o ≡ Some reader → ByTool text reader
    by_tool None e f = absurd (cc f)
    by_tool (Some objects) e f = record { objects = objects; is = e; own = cc f }

    at : (o : Option Reader) → named placed text ≡ o → ByPlace text reader ⊎ ByTool text reader
    at (Some own) e =
        let same : own ≡ reader = cc (sym (named_front placed (map tool_reader tools) text own e) ∙ h) in
        let found = named_each IsReader placed text own placed_readers e in
        inl (record { name = found.0; is = found.1; own = subst (λ (r : Reader). IsReader (found.0, r)) same found.2 })
    at None e = inr (by_tool (named tools text) refl (sym (named-append placed (map tool_reader tools) text e ∙ named_tools tools text) ∙ h))

-- the next word's name
record NextName {X : Type 0} (names : Names X) (given : List Word) (next : X → List Word → Read Deed) (d : Deed) : Type 0 where
  word : Word
  own : X
  more : List Word
  given_is : given ≡ word ∷ more
  own_is : named names word.text ≡ Some own
  read : next own more ≡ Ok d

named_word_is : {X : Type 0} (names : Names X) (end : ℕ) (given : List Word) (next : X → List Word → Read Deed) (d : Deed) → named_word names end given next ≡ Ok d → NextName names given next d
named_word_is names end [] next d h = absurd (cc h)
named_word_is names end (word ∷ more) next d h =
    let found = both_ok (known (BadLine word.column) (named names word.text)) (λ own. next own more) d h in
    record { word = word; own = found.0; more = more; given_is = refl; own_is = known_ok (BadLine word.column) (named names word.text) found.0 found.1; read = found.2 }

named_word_reads : {X : Type 0} (names : Names X) (end : ℕ) (given : List Word) (next : X → List Word → Read Deed) (text : List ℕ) (after : List (List ℕ)) (own : X) → texts given ≡ text ∷ after → named names text ≡ Some own → (more : List Word) × (named_word names end given next ≡ next own more) × (texts more ≡ after)
named_word_reads names end [] next text after own e h = absurd (cc e)
named_word_reads {X} names end (word ∷ more) next text after own e h =
    let same : word.text ≡ text = cc e in
    let here : named names word.text ≡ Some own = ap (named names) same ∙ h in
    (more, ap (λ (o : Option X). known (BadLine word.column) o >>= λ own. next own more) here, cc e)

named_word_line : {X : Type 0} (names : Names X) (end : ℕ) (given : List Word) (next : X → List Word → Read Deed) → ((text : List ℕ) (own : X) (more : List Word) → named names text ≡ Some own → AsLine (next own more)) → AsLine (named_word names end given next)
named_word_line names end [] next h = refl
named_word_line {X} names end (word ∷ more) next h = at (named names word.text) refl
  where
    at : (o : Option X) → named names word.text ≡ o → AsLine (known (BadLine word.column) o >>= λ own. next own more)
    at None e = refl
    at (Some own) e = h word.text own more e

-- the words after a tool's name
abbrev tool_next : ℕ → Names ToolCommand → List Word → Read Deed
tool_next end commands words = named_word commands end words (λ command words. option_words command end words)

tool_spells : (word : Word) (objects : Names (Names ToolCommand)) (end : ℕ) (given : List Word) (d : Deed) → named tools word.text ≡ Some objects → tool_words objects end given ≡ Ok d → SpellsTool (texts (word ∷ given)) d
tool_spells word objects end given d tool h =
    let object = named_word_is objects end given (tool_next end) d h in
    let command = named_word_is object.own end object.more (λ command words. option_words command end words) d object.read in
    let read = both_ok (options command.own.keys command.more []) (λ given. known (BadLine end) (command.own.deed given)) d command.read in
    record {
      tool = word.text;
      object = object.word.text;
      command = command.word.text;
      rest = texts command.more;
      words_are = ap (λ (ws : List Word). texts (word ∷ ws)) (after_word object.word object.given_is command.given_is);
      objects = objects;
      commands = object.own;
      own = command.own;
      tool_is = tool;
      object_is = object.own_is;
      command_is = command.own_is;
      given = read.0;
      options_are = options_spell command.own.keys command.more read.0 read.1;
      deed_is = known_ok (BadLine end) (command.own.deed read.0) d read.2;
    }

tool_reads : (end : ℕ) (given : List Word) (d : Deed) → SpellsTool (texts given) d → deed_words end given ≡ Ok d
tool_reads end given d s =
    let a = named_word_reads readers end given (λ reader words. reader end words) s.tool (s.object ∷ s.command ∷ s.rest) (tool_words s.objects) s.words_are (tool_read s.tool s.objects s.tool_is) in
    let b = named_word_reads s.objects end a.0 (tool_next end) s.object (s.command ∷ s.rest) s.commands a.2 s.object_is in
    let c = named_word_reads s.commands end b.0 (λ command words. option_words command end words) s.command s.rest s.own b.2 s.command_is in
    let given_are = spelled_options s.own.keys c.0 s.given (subst (λ (ts : List (List ℕ)). SpellsOptions s.own.keys ts s.given) (sym c.2) s.options_are) in
    a.1 ∙ b.1 ∙ c.1
    ∙ then_ok (options s.own.keys c.0 []) s.given (λ given. known (BadLine end) (s.own.deed given)) given_are
    ∙ ap (λ (o : Option Deed). known (BadLine end) o) s.deed_is

tool_line : (objects : Names (Names ToolCommand)) → ReadsLine (tool_words objects)
tool_line objects end given =
    named_word_line objects end given (tool_next end) (λ text commands words found.
    named_word_line commands end words (λ command words. option_words command end words) (λ text command words found.
    then_line (options command.keys words []) (λ given. known (BadLine end) (command.deed given)) (options_line command.keys words [])
    (λ given. known_line (BadLine end) (command.deed given) refl)))

-- words that are read as a deed spell it
deed_spells : (end : ℕ) (given : List Word) (d : Deed) → deed_words end given ≡ Ok d → SpellsDeed (texts given) d
deed_spells end given d h =
    let name = named_word_is readers end given (λ reader words. reader end words) d h in
    elim (reader_found name.word.text name.own name.own_is) [
      | inl place ↦ inl (subst (λ (ws : List Word). SpellsPlaced (texts ws) d) (sym name.given_is) (place.own.spells name.word end name.more d place.is name.read))
      | inr tool ↦
          let read : tool_words tool.objects end name.more ≡ Ok d = ap (λ (r : Reader). r end name.more) tool.own ∙ name.read in
          inr (subst (λ (ws : List Word). SpellsTool (texts ws) d) (sym name.given_is) (tool_spells name.word tool.objects end name.more d tool.is read))
    ]

deed_line : ReadsLine deed_words
deed_line end given =
    named_word_line readers end given (λ reader words. reader end words) (λ text reader words found. elim (reader_found text reader found) [
      | inl place ↦ place.own.line end words
      | inr tool ↦ subst (λ (r : Reader). AsLine (r end words)) tool.own (tool_line tool.objects end words)
    ])

create_reads : (end : ℕ) (given : List Word) (a b c : List ℕ) (path : Path) (size owner : ℕ) → texts given ≡ a ∷ b ∷ c ∷ [] → WritesPath a path → Writes 0 longest_file b size → Writes 1 last_owner c owner → create_words end given ≡ Ok (File (Create path size owner))
create_reads end given a b c path size owner e w v u =
    let p = path_word_reads end given a (b ∷ c ∷ []) path e w in
    let q = number_word_reads 0 longest_file end p.0 b (c ∷ []) size p.2 v in
    let r = number_word_reads 1 last_owner end q.0 c [] owner q.2 u in
    then_ok (path_word end given) (path, p.0) (λ path. length_word end path.1 >>= λ size. owner_word end size.1 >>= λ owner. no_more owner.1 (File (Create path.0 size.0 owner.0))) p.1
    ∙ then_ok (length_word end p.0) (size, q.0) (λ size. owner_word end size.1 >>= λ owner. no_more owner.1 (File (Create path size.0 owner.0))) q.1
    ∙ then_ok (owner_word end q.0) (owner, r.0) (λ owner. no_more owner.1 (File (Create path size owner.0))) r.1
    ∙ no_more_reads r.0 (File (Create path size owner)) r.2

move_reads : (end : ℕ) (given : List Word) (a b : List ℕ) (from to : Path) → texts given ≡ a ∷ b ∷ [] → WritesPath a from → WritesPath b to → move_words end given ≡ Ok (File (Move from to))
move_reads end given a b from to e w v =
    let p = path_word_reads end given a (b ∷ []) from e w in
    let q = path_word_reads end p.0 b [] to p.2 v in
    then_ok (path_word end given) (from, p.0) (λ from. path_word end from.1 >>= λ to. no_more to.1 (File (Move from.0 to.0))) p.1
    ∙ then_ok (path_word end p.0) (to, q.0) (λ to. no_more to.1 (File (Move from to.0))) q.1
    ∙ no_more_reads q.0 (File (Move from to)) q.2

-- a command whose words have their places is read from those after its name
placed_word : (name : List ℕ) (reads : Reader) (end : ℕ) (given : List Word) (text : List ℕ) (after : List (List ℕ)) → texts given ≡ text ∷ after → IsNamed name text → named readers name ≡ Some reads → (more : List Word) × (deed_words end given ≡ reads end more) × (texts more ≡ after)
placed_word name reads end given text after e is own =
    named_word_reads readers end given (λ reader words. reader end words) text after reads e (named_same readers name text is ∙ own)

placed_reads : (end : ℕ) (given : List Word) (d : Deed) → SpellsPlaced (texts given) d → deed_words end given ≡ Ok d
placed_reads end given (File (Mkdir path owner)) s =
    let r = placed_word (codes "mkdir") mkdir_words end given s.0 (s.1 ∷ s.2 ∷ []) s.3 s.4 refl in
    r.1 ∙ path_number_reads 1 last_owner (λ path owner. File (Mkdir path owner)) end r.0 s.1 s.2 path owner r.2 s.5 s.6
placed_reads end given (File (Create path size owner)) s =
    let r = placed_word (codes "create") create_words end given s.0 (s.1 ∷ s.2 ∷ s.3 ∷ []) s.4 s.5 refl in
    r.1 ∙ create_reads end r.0 s.1 s.2 s.3 path size owner r.2 s.6 s.7 s.8
placed_reads end given (File (Resize path size)) s =
    let r = placed_word (codes "resize") resize_words end given s.0 (s.1 ∷ s.2 ∷ []) s.3 s.4 refl in
    r.1 ∙ path_number_reads 0 longest_file (λ path size. File (Resize path size)) end r.0 s.1 s.2 path size r.2 s.5 s.6
placed_reads end given (File (Touch path)) s =
    let r = placed_word (codes "touch") touch_words end given s.0 (s.1 ∷ []) s.2 s.3 refl in
    r.1 ∙ one_path_reads (λ path. File (Touch path)) end r.0 s.1 path r.2 s.4
placed_reads end given (File (Move from to)) s =
    let r = placed_word (codes "move") move_words end given s.0 (s.1 ∷ s.2 ∷ []) s.3 s.4 refl in
    r.1 ∙ move_reads end r.0 s.1 s.2 from to r.2 s.5 s.6
placed_reads end given (File (Remove path)) s =
    let r = placed_word (codes "remove") remove_words end given s.0 (s.1 ∷ []) s.2 s.3 refl in
    r.1 ∙ one_path_reads (λ path. File (Remove path)) end r.0 s.1 path r.2 s.4
placed_reads end given (Usage path) s =
    let r = placed_word (codes "usage") usage_words end given s.0 (s.1 ∷ []) s.2 s.3 refl in
    r.1 ∙ one_path_reads (λ path. Usage path) end r.0 s.1 path r.2 s.4
placed_reads end given (Step n) s =
    let r = placed_word (codes "step") step_words end given s.0 (s.1 ∷ []) s.2 s.3 refl in
    r.1 ∙ one_number_reads 1 most_visits (λ n. Step n) end r.0 s.1 n r.2 s.4
placed_reads end given other s = absurd s

-- words that spell a deed are read as it
deed_reads : (end : ℕ) (given : List Word) (d : Deed) → SpellsDeed (texts given) d → deed_words end given ≡ Ok d
deed_reads end given d (inl s) = placed_reads end given d s
deed_reads end given d (inr s) = tool_reads end given d s

-- words that spell a command: its moment, and the command's own
pub record SpellsCommand (given : List (List ℕ)) (command : Command) : Type 0 where
  pub moment : List ℕ
  pub words : List (List ℕ)
  pub words_are : given ≡ moment ∷ words
  pub moment_is : Writes 0 latest_moment moment command.moment
  pub deed_is : SpellsDeed words command.deed

pub command_spells : (end : ℕ) (given : List Word) (command : Command) → command_of end given ≡ Ok command → SpellsCommand (texts given) command
command_spells end given command h =
    let moment = both_ok (number_word 0 latest_moment end given) (λ moment. deed_words end moment.1 >>= λ deed. Ok (record { moment = moment.0; deed = deed })) command h in
    let deed = both_ok (deed_words end moment.0.1) (λ deed. Ok (record { moment = moment.0.0; deed = deed })) command moment.2 in
    let made : record { moment = moment.0.0; deed = deed.0 } ≡ command = cc deed.2 in
    let a = number_word_writes 0 latest_moment end given moment.0 moment.1 in
    subst (SpellsCommand (texts given)) made (record {
      moment = a.word.text;
      words = texts moment.0.1;
      words_are = ap texts a.given_is;
      moment_is = a.writes;
      deed_is = deed_spells end moment.0.1 deed.0 deed.1;
    })

pub command_reads : (end : ℕ) (given : List Word) (command : Command) → SpellsCommand (texts given) command → command_of end given ≡ Ok command
command_reads end given command s =
    let moment = number_word_reads 0 latest_moment end given s.moment s.words command.moment s.words_are s.moment_is in
    then_ok (number_word 0 latest_moment end given) (command.moment, moment.0) (λ moment. deed_words end moment.1 >>= λ deed. Ok (record { moment = moment.0; deed = deed })) moment.1
    ∙ then_ok (deed_words end moment.0) command.deed (λ deed. Ok (record { moment = command.moment; deed = deed })) (deed_reads end moment.0 command.deed (subst (λ (ts : List (List ℕ)). SpellsDeed ts command.deed) (sym moment.2) s.deed_is))

pub command_line : (end : ℕ) (given : List Word) → AsLine (command_of end given)
command_line end given =
    then_line (number_word 0 latest_moment end given) (λ moment. deed_words end moment.1 >>= λ deed. Ok (record { moment = moment.0; deed = deed })) (number_word_line 0 latest_moment end given)
    (λ moment. then_line (deed_words end moment.1) (λ deed. Ok (record { moment = moment.0; deed = deed })) (deed_line end moment.1) (λ deed. tt))
