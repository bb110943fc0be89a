-- What a text expands to, front by front.
use Rattle.std.specs.Prelude.{◌≡◌, ℕ, not, true, List, [], ◌∷◌, ◌++◌, drop, length, map, filter, Some, None}
use Rattle.std.specs.List.{list_all}
use Rattle.notice_text.specs.declared.macros.Macro.{Macro}
use Rattle.notice_text.specs.declared.macros.Macro.TheVariants.{ScreenPath}
use Rattle.notice_text.specs.Expand.{Values, begins, expand, is_bracket, macro_at, macros_of, of_quotas, spelling, value}

abbrev pub nothing_expands : Type 0
nothing_expands = (values : Values) → expand values [] ≡ []

-- a macro gives its value, which isn't expanded again
abbrev pub macros_expand : Type 0
macros_expand = (values : Values) (text : List ℕ) (name : Macro) → macro_at (macros_of values) text ≡ Some name → expand values text ≡ value values name ++ expand values (drop (length (spelling name)) text)

-- other bytes stay, up to the next bracket. So does a character, whose bytes after the first are no brackets
abbrev pub others_stay : Type 0
others_stay =
    (values : Values) (b : ℕ) (run rest : List ℕ) → macro_at (macros_of values) (b ∷ run ++ rest) ≡ None → list_all (λ c. not (is_bracket c)) run ≡ true
    → expand values (b ∷ run ++ rest) ≡ b ∷ run ++ expand values rest

-- no macro is spelled as the front of another, so at most one begins a text
abbrev pub all_macros : List Macro
all_macros = ScreenPath ∷ of_quotas

abbrev pub macros_apart : Type 0
macros_apart = map (λ name. filter (λ other. begins (spelling other) (spelling name)) all_macros) all_macros ≡ map (λ name. name ∷ []) all_macros
