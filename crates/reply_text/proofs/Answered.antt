-- Replies, part by part.
use Rattle.std.proofs.Common.{◌≡◌, ℕ, true, List, [], ◌∷◌, ◌++◌, sym, ap, ◌∙◌, rules}
use Rattle.std.specs.Prelude.{Option, Some, None, is_some, decimal, codes, flat_map}
use Rattle.std.specs.Option.{IsSome}
use Rattle.std.proofs.lemmas.List.{append-nil}
use Rattle.fsrm_model.specs.declared.command.Ask.{Ask}
use Rattle.fsrm_model.specs.declared.command.Outcome.{Outcome}
use Rattle.fsrm_model.specs.declared.command.Outcome.TheVariants.{Done, Sum, Listing, Report, Scanned, Refused}
use Rattle.fsrm_model.specs.declared.command.Refusal.{Refusal}
use Rattle.fsrm_model.specs.declared.report.ReportAsk.{ReportAsk}
use Rattle.fsrm_model.specs.declared.report.ReportRow.{ReportRow}
use Rattle.fsrm_model.specs.declared.row.Capacity.{Capacity}
use Rattle.fsrm_model.specs.declared.row.Rows.{Rows}
use Rattle.fsrm_model.specs.commands.Cost.{print_cost, rows_cost}
use Rattle.fsrm_model.specs.reports.Reports.{table}
use Rattle.fsrm_model.specs.texts.ReportText.{row_line}
use Rattle.fsrm_model.specs.texts.Text.{body_line, done_words, head_line, line_of, list_lines, path_text, reply}
use Rattle.reply_text.specs.ReportLines.{row_text}

pub done_text : (K : Capacity) (R : Rows) (moment line : ℕ) (outcome : Outcome) → outcome ≡ Done None → head_line R.nodes line (Done None) ≡ reply K R moment line outcome
done_text K R moment line outcome is = sym (append-nil (head_line R.nodes line (Done None))) ∙ ap (reply K R moment line) (sym is)

pub passive_text : (K : Capacity) (R : Rows) (moment line screen : ℕ) (outcome : Outcome) (path : List ℕ) → outcome ≡ Done (Some screen) → path ≡ path_text R.nodes screen → head_line R.nodes line (Done None) ++ body_line (codes "passive" ∷ path ∷ []) ≡ reply K R moment line outcome
passive_text K R moment line screen outcome path is same =
    ap (λ (xs : List ℕ). head_line R.nodes line (Done None) ++ body_line (codes "passive" ∷ xs ∷ [])) same
    ∙ ap (reply K R moment line) (sym is)

pub sum_text : (K : Capacity) (R : Rows) (moment line node bytes : ℕ) (outcome : Outcome) (path : List ℕ) → outcome ≡ Sum node bytes → path ≡ path_text R.nodes node → head_line R.nodes line (Done None) ++ body_line (decimal bytes ∷ path ∷ []) ≡ reply K R moment line outcome
sum_text K R moment line node bytes outcome path is same =
    ap (λ (xs : List ℕ). head_line R.nodes line (Done None) ++ body_line (decimal bytes ∷ xs ∷ [])) same
    ∙ ap (reply K R moment line) (sym is)

pub visited_text : (K : Capacity) (R : Rows) (moment line folder visited : ℕ) (done : Option ℕ) (outcome : Outcome) (path : List ℕ) → outcome ≡ Scanned folder visited done → path ≡ path_text R.nodes folder → line_of (decimal line ∷ codes "ok" ∷ codes "visited" ∷ decimal visited ∷ codes "of" ∷ path ∷ done_words done) ≡ reply K R moment line outcome
visited_text K R moment line folder visited done outcome path is same =
    ap (λ (xs : List ℕ). line_of (decimal line ∷ codes "ok" ∷ codes "visited" ∷ decimal visited ∷ codes "of" ∷ xs ∷ done_words done)) same
    ∙ sym (append-nil (head_line R.nodes line (Scanned folder visited done)))
    ∙ ap (reply K R moment line) (sym is)

pub refused_text : (K : Capacity) (R : Rows) (moment line : ℕ) (refusal : Refusal) (outcome : Outcome) → outcome ≡ Refused refusal → head_line R.nodes line (Refused refusal) ≡ reply K R moment line outcome
refused_text K R moment line refusal outcome is = sym (append-nil (head_line R.nodes line (Refused refusal))) ∙ ap (reply K R moment line) (sym is)

-- the head of a list, and its lines
pub list_text : (K : Capacity) (R : Rows) (moment line : ℕ) (ask : Ask) (outcome : Outcome) → outcome ≡ Listing ask → head_line R.nodes line (Done None) ++ list_lines K R ask ≡ reply K R moment line outcome
list_text K R moment line ask outcome is = ap (reply K R moment line) (sym is)

-- the head of a report, and its rows
pub report_text : (K : Capacity) (R : Rows) (moment line : ℕ) (ask : ReportAsk) (outcome : Outcome) (rows : List ReportRow) → outcome ≡ Report ask → rows ≡ table K R ask moment
    → head_line R.nodes line (Done None) ++ flat_map (row_text K R ask.kind) rows ≡ reply K R moment line outcome
unfolding row_text
report_text K R moment line ask outcome rows is same =
    ap (λ (xs : List ReportRow). head_line R.nodes line (Done None) ++ flat_map (row_line K R ask.kind) xs) same ∙ ap (reply K R moment line) (sym is)

pub report_looks : (K : Capacity) (R : Rows) (moment : ℕ) (ask : ReportAsk) (outcome : Outcome) (rows : List ReportRow) → outcome ≡ Report ask → rows ≡ table K R ask moment → rows_cost R.nodes rows ≡ print_cost K R moment outcome
report_looks K R moment ask outcome rows is same = ap (rows_cost R.nodes) same ∙ ap (print_cost K R moment) (sym is)

-- a table is given
pub some_given : {T : Type 0} (given : Option T) → is_some given ≡ true → IsSome given
some_given None h = absurd (cc)
some_given (Some table) h = search rules
