-- What follows in each case of a result.
use Rattle.std.proofs.Common.{◌≡◌, List, subst}
use Rattle.std.specs.Prelude.{Result, Ok, Err, MatchResult}
use Rattle.fsrm_outside.specs.Members.{Members}
use Rattle.fsrm_outside.proofs.OutsideLaws.{Laws}
use Rattle.fsrm_session.specs.Turns.{Turn}
use Rattle.fsrm_session.specs.Underway.{Breaks, Calms, Goes, Stops}
use Rattle.fsrm_session.specs.declared.session.Session.{Session}
use Rattle.fsrm_session.specs.declared.stop.Stop.{Stop}
use Rattle.fsrm_session.proofs.Going.{calms_break, calms_then, goes_break, goes_calms}

pub match_result : {T E : Type 0} (r : Result T E) (P Q : T → Type 0) (S U : E → Type 0) → ((x : T) → P x → Q x) → ((e : E) → S e → U e) → MatchResult r P S → MatchResult r Q U
match_result (Ok x) P Q S U f g h = f x h
match_result (Err e) P Q S U f g h = g e h

-- what the caller is told where a call failed
pub passed_on : {T E : Type 0} (r : Result T E) (e : E) (P : T → Type 0) (S : E → Type 0) → r ≡ Err e → S e → MatchResult r P S
passed_on (Ok x) e P S is h = absurd (cc is)
passed_on (Err f) e P S is h =
    let same : e ≡ f = cc is in
    subst S same h

pub breaks_passed : {O T : Type 0} {M : Members O} (r : Result T Stop) (stop : Stop) (a c : Session) (first last : O) → r ≡ Err stop → Breaks M stop a c first last → MatchResult r (λ x. Calms M a c first last) (λ e. Breaks M e a c first last)
breaks_passed {M = M} r stop a c first last is h = passed_on r stop (λ x. Calms M a c first last) (λ e. Breaks M e a c first last) is h

pub stops_passed : {O T : Type 0} {M : Members O} (r : Result T Stop) (stop : Stop) (xs : List Turn) (a c : Session) (first last : O) → r ≡ Err stop → Stops M stop xs a c first last → MatchResult r (λ x. Goes M xs a c first last) (λ e. Stops M e xs a c first last)
stops_passed {M = M} r stop xs a c first last is h = passed_on r stop (λ x. Goes M xs a c first last) (λ e. Stops M e xs a c first last) is h

-- a call that may show what waits, after one that did
pub calms_result : {O T : Type 0} (M : Members O) (r : Result T Stop) (a b c : Session) (first mid last : O) → (Calms M b c mid last → Calms M a c first last) → ((e : Stop) → Breaks M e b c mid last → Breaks M e a c first last)
    → MatchResult r (λ x. Calms M b c mid last) (λ e. Breaks M e b c mid last) → MatchResult r (λ x. Calms M a c first last) (λ e. Breaks M e a c first last)
calms_result M r a b c first mid last f g = match_result r (λ x. Calms M b c mid last) (λ x. Calms M a c first last) (λ e. Breaks M e b c mid last) (λ e. Breaks M e a c first last) (λ x h. f h) g

-- the same, where the first call went well
pub after_calms : {O T : Type 0} {M : Members O} (r : Result T Stop) (a b c : Session) (first mid last : O) → Laws M → Calms M a b first mid
    → MatchResult r (λ x. Calms M b c mid last) (λ e. Breaks M e b c mid last) → MatchResult r (λ x. Calms M a c first last) (λ e. Breaks M e a c first last)
after_calms (Ok x) a b c first mid last laws p h = calms_then a b c first mid last laws p h
after_calms (Err e) a b c first mid last laws p h = calms_break e a b c first mid last laws p h

-- or after turns
pub goes_result : {O T : Type 0} (M : Members O) (r : Result T Stop) (xs ys : List Turn) (a b c : Session) (first mid last : O) → (Goes M xs b c mid last → Goes M ys a c first last) → ((e : Stop) → Stops M e xs b c mid last → Stops M e ys a c first last)
    → MatchResult r (λ x. Goes M xs b c mid last) (λ e. Stops M e xs b c mid last) → MatchResult r (λ x. Goes M ys a c first last) (λ e. Stops M e ys a c first last)
goes_result M r xs ys a b c first mid last f g = match_result r (λ x. Goes M xs b c mid last) (λ x. Goes M ys a c first last) (λ e. Stops M e xs b c mid last) (λ e. Stops M e ys a c first last) (λ x h. f h) g

-- turns, and then what waits may be shown
pub after_ease : {O T : Type 0} {M : Members O} (r : Result T Stop) (xs : List Turn) (a b c : Session) (first mid last : O) → Laws M → Goes M xs a b first mid
    → MatchResult r (λ x. Calms M b c mid last) (λ e. Breaks M e b c mid last) → MatchResult r (λ x. Goes M xs a c first last) (λ e. Stops M e xs a c first last)
after_ease (Ok x) xs a b c first mid last laws p h = goes_calms xs a b c first mid last laws p h
after_ease (Err e) xs a b c first mid last laws p h = goes_break e xs a b c first mid last laws p h
