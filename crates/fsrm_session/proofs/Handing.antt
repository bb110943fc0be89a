-- Acts that are handed out and written one by one, after the reply to their command.
use Rattle.std.proofs.Common.{◌≡◌, ℕ, ◌+◌, ◌≤◌, Bool, true, false, refl, List, [], ◌∷◌, ◌++◌, sym, ap, ◌∙◌, arith, append_assoc}
use Rattle.std.specs.Prelude.{Option, Some, None, if◌then◌else◌, nat_lt}
use Rattle.std.proofs.lemmas.Grind.{flat_map-append}
use Rattle.std.proofs.lemmas.List.{append-nil}
use Rattle.std.proofs.lemmas.List.Sums.{sum_by-append}
use Rattle.fsrm_model.specs.declared.command.Act.{Act}
use Rattle.fsrm_model.specs.declared.command.Command.{Command}
use Rattle.fsrm_model.specs.declared.command.Outcome.{Outcome}
use Rattle.fsrm_model.specs.declared.row.Capacity.{Capacity}
use Rattle.fsrm_model.specs.declared.row.NodeRow.{NodeRow}
use Rattle.fsrm_model.specs.declared.row.Rows.{Rows}
use Rattle.fsrm_model.specs.objects.Acts.{folder_in}
use Rattle.fsrm_model.specs.texts.ActText.{act_line, act_lines}
use Rattle.fsrm_model.specs.commands.Cost.{acts_cost, path_cost, print_cost, report_cost}
use Rattle.fsrm_model.specs.declared.command.Refusal.{Refusal}
use Rattle.fsrm_model.specs.declared.command.Refusal.TheVariants.{ClockBack}
use Rattle.fsrm_model.specs.commands.Check.{◌when◌, first}
use Rattle.fsrm_model.specs.objects.QuotaStates.{followed}
use Rattle.fsrm_model.specs.commands.Work.{Work}
use Rattle.fsrm_model.specs.commands.Step.{Acted, Stepped, decided, lasted, left_by, refused_leaving, screened, step, unlasting, work}
use Rattle.fsrm_model.specs.texts.Text.{reply}
use Rattle.fsrm_engine.specs.Machine.{Machine}
use Rattle.fsrm_store.specs.Standing.{KeepsJournal, StandsAlike}
use Rattle.fsrm_store.specs.declared.store.Store.{Store}
use Rattle.reply_text.specs.declared.replies.Line.{Line}
use Rattle.fsrm_session.specs.Turns.{told}

-- ---- a store that stands alike
pub keeps_same : (a : Store) → KeepsJournal a a
keeps_same a = record { journal = refl; image = refl; group = refl; is_old = refl; sound = refl }

pub keeps_then : {a b c : Store} → KeepsJournal a b → KeepsJournal b c → KeepsJournal a c
keeps_then p q = record {
  journal = q.journal ∙ p.journal;
  image = q.image ∙ p.image;
  group = q.group ∙ p.group;
  is_old = q.is_old ∙ p.is_old;
  sound = q.sound ∙ p.sound;
}

pub alike_same : (a : Store) → StandsAlike a a
alike_same a = record {
  at = λ head image bodies parts h. h;
  holding = λ held h. h;
  end = refl;
  image_end = refl;
  ruling = refl;
  size = refl;
  rows = refl;
  image = refl;
  is_old = refl;
}

pub alike_then : {a b c : Store} → StandsAlike a b → StandsAlike b c → StandsAlike a c
alike_then p q = record {
  at = λ head image bodies parts h. q.at head image bodies parts (p.at head image bodies parts h);
  holding = λ held h. q.holding held (p.holding held h);
  end = q.end ∙ p.end;
  image_end = q.image_end ∙ p.image_end;
  ruling = q.ruling ∙ p.ruling;
  size = q.size ∙ p.size;
  rows = q.rows ∙ p.rows;
  image = q.image ∙ p.image;
  is_old = q.is_old ∙ p.is_old;
}

-- ---- one act after others
pub one_handed : (all done waiting rest : List Act) (act : Act) → all ≡ done ++ waiting → waiting ≡ act ∷ rest → all ≡ (done ++ act ∷ []) ++ rest
one_handed all done waiting rest act e h = e ∙ ap (λ (acts : List Act). done ++ acts) h ∙ sym (append_assoc done (act ∷ []) rest)

pub all_handed : (all done waiting : List Act) → all ≡ done ++ waiting → waiting ≡ [] → done ≡ all
all_handed all done waiting e none = sym (e ∙ ap (λ (acts : List Act). done ++ acts) none ∙ append-nil done)

lines_more : (R : Rows) (done : List Act) (act : Act) → act_lines R done ++ act_line R act ≡ act_lines R (done ++ act ∷ [])
lines_more R done act =
    ap (λ (xs : List ℕ). act_lines R done ++ xs) (sym (append-nil (act_line R act))) ∙ sym (flat_map-append (act_line R) done (act ∷ []))

-- the rows stay while acts are handed out
pub line_is : (R S : Rows) (done : List Act) (act : Act) → S ≡ R → act_lines R done ++ act_line S act ≡ act_lines R (done ++ act ∷ [])
line_is R S done act same = ap (λ (T : Rows). act_lines R done ++ act_line T act) same ∙ lines_more R done act

pub lines_are : (R S : Rows) (all done rest : List Act) (act : Act) → S ≡ R → all ≡ (done ++ act ∷ []) ++ rest → act_lines R done ++ (act_line S act ++ act_lines R rest) ≡ act_lines R all
lines_are R S all done rest act same e =
    sym (append_assoc (act_lines R done) (act_line S act) (act_lines R rest))
    ∙ ap (λ (xs : List ℕ). xs ++ act_lines R rest) (line_is R S done act same)
    ∙ sym (flat_map-append (act_line R) (done ++ act ∷ []) rest) ∙ sym (ap (act_lines R) e)

-- their looks
cost_more : (nodes : List NodeRow) (done : List Act) (act : Act) → acts_cost nodes (done ++ act ∷ []) ≡ acts_cost nodes done + path_cost nodes (folder_in act.subject)
cost_more nodes done act =
    let split = sum_by-append (λ (act : Act). path_cost nodes (folder_in act.subject)) done (act ∷ []) in
    omega (arith, split)

pub looks_more : (R S : Rows) (done : List Act) (act : Act) (first now next : ℕ) → S ≡ R → now ≤ first + acts_cost R.nodes done → next ≤ now + path_cost S.nodes (folder_in act.subject) → next ≤ first + acts_cost R.nodes (done ++ act ∷ [])
looks_more R S done act first now next same p q =
    let own : path_cost S.nodes (folder_in act.subject) ≡ path_cost R.nodes (folder_in act.subject) = ap (λ (T : Rows). path_cost T.nodes (folder_in act.subject)) same in
    omega (arith, p, q, own, cost_more R.nodes done act)

pub looks_broken : (R : Rows) (all done rest : List Act) (first now : ℕ) → all ≡ done ++ rest → now ≤ first + acts_cost R.nodes done → now ≤ first + acts_cost R.nodes all
looks_broken R all done rest first now e p =
    let split = sum_by-append (λ (act : Act). path_cost R.nodes (folder_in act.subject)) done rest in
    let whole : acts_cost R.nodes all ≡ acts_cost R.nodes (done ++ rest) = ap (acts_cost R.nodes) e in
    omega (arith, p, split, whole)

-- ---- a reply, and then its acts
-- it doesn't depend on who lends the machine
pub reply_lent : (lent own : Machine) (moment number : ℕ) (outcome : Outcome) → lent ≡ own → reply lent.size lent.rows moment number outcome ≡ reply own.size own.rows moment number outcome
reply_lent lent own moment number outcome e = ap (λ (m : Machine). reply m.size m.rows moment number outcome) e

pub cost_lent : (lent own : Machine) (moment : ℕ) (outcome : Outcome) → lent ≡ own → report_cost lent.rows.nodes outcome + print_cost lent.size lent.rows moment outcome ≡ report_cost own.rows.nodes outcome + print_cost own.size own.rows moment outcome
cost_lent lent own moment outcome e = ap (λ (m : Machine). report_cost m.rows.nodes outcome + print_cost m.size m.rows moment outcome) e

-- where no act waits, the reply is all that is told
pub told_alone : (K : Capacity) (R : Rows) (waiting : List Act) (line : Line) (outcome : Outcome) → waiting ≡ [] → reply K R line.moment line.number outcome ≡ told K R waiting line outcome
told_alone K R waiting line outcome none =
    sym (append-nil (reply K R line.moment line.number outcome)) ∙ ap (λ (acts : List Act). reply K R line.moment line.number outcome ++ act_lines R acts) (sym none)

-- ---- a command that doesn't last has no action run
calm_left : (K : Capacity) (R : Rows) (m : ℕ) (refusal : Refusal) (left : Option Acted) → (refused_leaving K R m refusal left).lasting ≡ false → (refused_leaving K R m refusal left).acts ≡ []
calm_left K R m refusal None still = refl
calm_left K R m refusal (Some after) still = absurd (cc still)

calm_choice : (b : Bool) (x y : Stepped) → x.lasting ≡ true → y.acts ≡ [] → (if b then x else y).lasting ≡ false → (if b then x else y).acts ≡ []
calm_choice true x y lasts calm still = absurd (cc (lasts, still))
calm_choice false x y lasts calm still = calm

calm_decided : (K : Capacity) (R : Rows) (m : ℕ) (w : Work) (first : Option Refusal) → (decided K R m w first).lasting ≡ false → (decided K R m w first).acts ≡ []
calm_decided K R m w (Some refusal) still = calm_left K R m refusal (left_by K R m w refusal) still
calm_decided K R m w None still =
    let after = followed R w.effect in
    calm_choice w.lasts (lasted K R (screened after m w.judged) m w.outcome) (unlasting after w.outcome) refl refl still

pub calm_step : (K : Capacity) (R : Rows) (c : Command) → (step K R c).lasting ≡ false → (step K R c).acts ≡ []
calm_step K R c still =
    let w = work K R c.moment c.deed in
    calm_decided K R c.moment w (first ((ClockBack when nat_lt c.moment R.last_moment) ∷ w.checks)) still
