-- Replies that are counted, and turns of which nothing is shown.
use Rattle.std.proofs.Common.{◌≡◌, ℕ, ◌-◌, ◌≤◌, ◌<◌, List, [], ◌∷◌, length, refl, sym, ap, subst, ◌∙◌, arith, length-append}
use Rattle.std.specs.Prelude.{◌^◌, min, false, Some, Ok, Err, Bool, Result, IfOk, MatchResult, OnErr}
use Rattle.std.proofs.lemmas.List.{append-nil}
use Rattle.fsrm_model.specs.commands.Step.{step}
use Rattle.fsrm_model.specs.declared.command.Act.{Act}
use Rattle.fsrm_model.specs.declared.command.Command.{Command}
use Rattle.fsrm_model.specs.declared.command.Outcome.{Outcome}
use Rattle.fsrm_model.specs.declared.command.Outcome.TheVariants.{Refused}
use Rattle.fsrm_model.specs.declared.command.Refusal.{Refusal}
use Rattle.fsrm_model.specs.declared.row.Capacity.{Capacity}
use Rattle.fsrm_model.specs.declared.row.Rows.{Rows}
use Rattle.fsrm_model.specs.lines.Script.{replied_to}
use Rattle.fsrm_model.specs.texts.ActText.{act_line, act_lines}
use Rattle.fsrm_outside.specs.Members.{Members}
use Rattle.fsrm_outside.specs.declared.traits.Sink.{Ghosts as Sink}
use Rattle.fsrm_outside.proofs.OutsideLaws.{Laws}
use Rattle.fsrm_model.specs.texts.Text.{reply}
use Rattle.fsrm_store.specs.Standing.{StandsAlike}
use Rattle.line_parts.specs.Writes.{Writes, WritesTo}
use Rattle.line_parts.specs.declared.fault.TextFault.{TextFault}
use Rattle.line_parts.specs.declared.fault.TextFault.TheVariants.{WriteFault, NoMemory as OutOfMemory}
use Rattle.reply_text.specs.declared.replies.Line.{Line}
use Rattle.made_script.specs.Tally.{accepts, one_reply, tally_of}
use Rattle.made_script.specs.declared.tally.Tally.{Tally}
use Rattle.fsrm_session.specs.Spending.{Spends}
use Rattle.fsrm_session.specs.Turns.{Turn, refused_turn, told, unshown}
use Rattle.fsrm_session.specs.Underway.{Enters, Goes, Stops}
use Rattle.fsrm_session.specs.declared.session.Session.{Session}
use Rattle.fsrm_session.specs.declared.stop.Stop.{Stop}
use Rattle.fsrm_session.specs.declared.stop.Stop.TheVariants.{NoMemory}
use Rattle.fsrm_session.proofs.Entering.{said_told}
use Rattle.fsrm_session.proofs.Going.{enters_stops, enters_tells, idle_enters}
use Rattle.fsrm_session.proofs.Handing.{told_alone}
use Rattle.fsrm_session.proofs.Told.{kept_tells, tells_stops}

-- ---- writers that answer something else
pub as_ok : {S A B : Type 0} {sink : Sink S} {x : A} {y : B} {a b : S} {text : List ℕ} → Writes sink (Ok x) a b text → Writes sink (Ok y) a b text
as_ok p = record {
  text = p.text;
  device = record { fault = λ is. absurd (cc); later = p.device.later; same = p.device.same; by = p.device.by };
}

device_err : {S A B : Type 0} {sink : Sink S} (e : TextFault) (a b : S) → WritesTo {T = A} sink (Err e) a b → WritesTo {T = B} sink (Err e) a b
device_err WriteFault a b p = record { fault = λ is. p.fault refl; later = p.later; same = tt; by = p.by }
device_err OutOfMemory a b p = record { fault = λ is. absurd (cc); later = p.later; same = p.same; by = p.by }

pub as_err : {S A B : Type 0} {sink : Sink S} {e : TextFault} {a b : S} {text : List ℕ} → Writes {T = A} sink (Err e) a b text → Writes {T = B} sink (Err e) a b text
as_err {e = e} {a = a} {b = b} p = record { text = p.text; device = device_err e a b p.device }

-- ---- the reply in memory
some_line : (R : Rows) (act : Act) → 1 ≤ length (act_line R act)
some_line R act = omega arith

acts_few : (R : Rows) (acts : List Act) → length acts ≤ length (act_lines R acts)
acts_few R [] = omega arith
acts_few R (act ∷ acts) = omega (arith, length-append (act_line R act) (act_lines R acts), some_line R act, acts_few R acts)

-- there are no more acts than bytes, so their number is told
pub acts_exact : (K : Capacity) (R : Rows) (waiting : List Act) (line : Line) (outcome : Outcome) (count bytes : ℕ) → count ≡ min (length waiting) (2 ^ 64 - 1) → bytes ≡ length (told K R waiting line outcome) → bytes < 2 ^ 64 → count ≡ length waiting
acts_exact K R waiting line outcome count bytes is all few = omega (arith, is, all, few, length-append (reply K R line.moment line.number outcome) (act_lines R waiting), acts_few R waiting)

pub as_counted : (t : Tally) (b c : Bool) (acts more bytes size : ℕ) → t ≡ one_reply b acts bytes → b ≡ c → acts ≡ more → bytes ≡ size → t ≡ one_reply c more size
as_counted t b c acts more bytes size is same same_acts same_bytes =
    is ∙ ap (λ x. one_reply x acts bytes) same ∙ ap (λ (n : ℕ). one_reply c n bytes) same_acts ∙ ap (λ (n : ℕ). one_reply c more n) same_bytes

-- what a command's reply comes to is what its turn says
pub tally_is : (K size : Capacity) (R rows : Rows) (waiting : List Act) (outcome : Outcome) (number : ℕ) (c : Command) → size ≡ K → rows ≡ (step K R c).rows → waiting ≡ (step K R c).acts → outcome ≡ (step K R c).outcome
    → one_reply (accepts outcome) (length waiting) (length (told size rows waiting (record { number = number; moment = c.moment }) outcome)) ≡ tally_of K R number (Some (Ok c))
tally_is K size R rows waiting outcome number c sizes same acts is =
    let s = step K R c in
    let line : Line = record { number = number; moment = c.moment } in
    as_counted _ (accepts outcome) (accepts s.outcome) (length waiting) (length s.acts) (length (told size rows waiting line outcome)) (length (replied_to K R number (Some (Ok c))).text) refl
    (ap accepts is) (ap (λ (l : List Act). length l) acts) (ap (λ (l : List ℕ). length l) (sym (said_told K size R rows waiting outcome number c sizes same acts is)))

-- so is that of a refusal
pub refusal_is : (K : Capacity) (R : Rows) (waiting : List Act) (refusal : Refusal) (number : ℕ) → waiting ≡ []
    → one_reply (accepts (Refused refusal)) (length waiting) (length (told K R waiting (record { number = number; moment = 0 }) (Refused refusal))) ≡ tally_of K R number (Some (Err refusal))
refusal_is K R waiting refusal number none =
    let line : Line = record { number = number; moment = 0 } in
    as_counted _ false false (length waiting) 0 (length (told K R waiting line (Refused refusal))) (length (replied_to K R number (Some (Err refusal))).text) refl refl
    (ap (λ (l : List Act). length l) none) (ap (λ (l : List ℕ). length l) (sym (told_alone K R waiting line (Refused refusal) none)))

pub if_ok_as : {T E : Type 0} (r : Result T E) (x y : T) → x ≡ y → IfOk r (λ t. t ≡ x) → IfOk r (λ t. t ≡ y)
if_ok_as (Ok t) x y same is = is ∙ same
if_ok_as (Err e) x y same is = tt

-- ---- turns of which nothing is shown
pub counted_goes : {O T : Type 0} {M : Members O} (r : Result T Stop) (turn : Turn) (a b c : Session) (first mid : O) → Laws M → turn.said a.store.engine.rows ≡ [] → Enters M turn a b first mid → StandsAlike b.store c.store → c.kept.items ≡ b.kept.items
    → OnErr r (r ≡ Err NoMemory) → MatchResult r (λ x. Goes M (turn ∷ []) a c first mid) (λ e. Stops M e (turn ∷ []) a c first mid)
counted_goes (Ok x) turn a b c first mid laws said p alike kept only =
    enters_tells turn [] a b c first mid mid laws said p (kept_tells [] b c mid laws alike (kept ∙ sym (append-nil b.kept.items)))
counted_goes {M = M} (Err e) turn a b c first mid laws said p alike kept only =
    let full : e ≡ NoMemory = cc in
    subst (λ (s : Stop). Stops M s (turn ∷ []) a c first mid) (sym full)
    (enters_stops NoMemory turn [] a b c first mid mid laws said p (tells_stops NoMemory [] [] b c mid mid ([], refl) (kept_tells [] b c mid laws alike (kept ∙ sym (append-nil b.kept.items)))))

-- so is a refusal that is counted
pub refused_goes : {O T : Type 0} {M : Members O} (r : Result T Stop) (number : ℕ) (refusal : Refusal) (was next : Session) (now : O) → Laws M → StandsAlike was.store next.store → next.kept ≡ was.kept → OnErr r (r ≡ Err NoMemory)
    → MatchResult r (λ x. Goes M (unshown (refused_turn was.store.engine.size number refusal) ∷ []) was next now now) (λ e. Stops M e (unshown (refused_turn was.store.engine.size number refusal) ∷ []) was next now now)
refused_goes r number refusal was next now laws alike kept only =
    let turn = unshown (refused_turn was.store.engine.size number refusal) in
    counted_goes r turn was was next now now laws refl (idle_enters turn was now laws (λ R. refl)) alike (ap (λ v. v.items) kept) only

-- it takes what it took shown
pub unshown_spends : {O : Type 0} {M : Members O} (turn : Turn) (was : Session) (old : O) (looks steps left : ℕ) → Spends M (turn ∷ []) was old looks steps left → Spends M (unshown turn ∷ []) was old looks steps left
unshown_spends turn was old looks steps left s = record { spends = s.spends }
