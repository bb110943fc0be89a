use Rattle.std.proofs.Common.{◌≡◌, ℕ, Bool, true, false, cond, List, [], ◌∷◌, Option, Some, refl, sym, ap, ◌∙◌, subst}
use Rattle.std.specs.Prelude.{codes, map}
use Rattle.std.specs.Str.{str_eq_ignore_ascii_case}
use Rattle.fsrm_model.specs.declared.command.Deed.{Deed}
use Rattle.fsrm_model.specs.declared.command.Refusal.TheVariants.{BadLine}
use Rattle.fsrm_model.specs.lines.Line.{Reader, readers, tool_reader, tool_words}
use Rattle.fsrm_model.specs.lines.Reading.{Read, ◌>>=◌, known}
use Rattle.fsrm_model.specs.lines.Tools.{Names, ToolCommand, named, tools}
use Rattle.fsrm_model.specs.lines.Words.{Word}
use Rattle.command_words.specs.Taking.{left, end, lent_word}
use Rattle.tool_commands.specs.LineFaults.{ReadsWords, at_moment, named_by}
use Rattle.tool_commands.proofs.commands.deed.Goals as goal

abbrev Isnt : List ℕ → List ℕ → Type 0
Isnt name word = str_eq_ignore_ascii_case name word ≡ false

-- a name that is none of a command whose words have their places
tools_left : (word : List ℕ) → Isnt (codes "mkdir") word → Isnt (codes "create") word → Isnt (codes "resize") word → Isnt (codes "touch") word → Isnt (codes "move") word → Isnt (codes "remove") word → Isnt (codes "usage") word → Isnt (codes "step") word → named readers word ≡ named (map tool_reader tools) word
tools_left word a b c d e f g h = rw (a, b, c, d, e, f, g, h) refl

-- a tool's name stands for what reads the words after it
tool_read : (rows : Names (Names (Names ToolCommand))) (word : Word) (last : ℕ) (given : List Word) → named_by (map tool_reader rows) word (λ reader. reader last given) ≡ named_by rows word (λ objects. tool_words objects last given)
tool_read [] word last given = refl
tool_read (row ∷ rows) word last given = at (str_eq_ignore_ascii_case row.0 word.text) (tool_read rows word last given)
  where
    at : (b : Bool) → named_by (map tool_reader rows) word (λ reader. reader last given) ≡ named_by rows word (λ objects. tool_words objects last given)
        → (known (BadLine word.column) (cond b (Some (tool_words row.1)) (named (map tool_reader rows) word.text)) >>= λ reader. reader last given)
        ≡ (known (BadLine word.column) (cond b (Some row.1) (named rows word.text)) >>= λ objects. tool_words objects last given)
    at true ih = refl
    at false ih = ih

pub returns : goal.returns
returns c =
    let name = c.args.name.now in
    let found = tools_left name.text.now
    (sym c.is_named.ensures ∙ c.if-is_named.false) (sym c.is_named-2.ensures ∙ c.if-is_named-2.false) (sym c.is_named-3.ensures ∙ c.if-is_named-3.false)
    (sym c.is_named-4.ensures ∙ c.if-is_named-4.false) (sym c.is_named-5.ensures ∙ c.if-is_named-5.false) (sym c.is_named-6.ensures ∙ c.if-is_named-6.false)
    (sym c.is_named-7.ensures ∙ c.if-is_named-7.false) (sym c.is_named-8.ensures ∙ c.if-is_named-8.false) in
    subst (λ (read : Read Deed). ReadsWords c.tool.result (at_moment c.args.moment read))
    (sym (ap (λ (o : Option Reader). known (BadLine name.column) o >>= λ reader. reader (end c.args.words.now) (left c.args.words.now)) found
    ∙ tool_read tools (lent_word name) (end c.args.words.now) (left c.args.words.now)))
    c.tool.ensures
