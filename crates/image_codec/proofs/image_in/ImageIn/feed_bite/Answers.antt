use Rattle.std.proofs.Common.{◌≡◌, ℕ, ◌-◌, ◌<◌, ◌≤◌, true, false, List, ◌++◌, length, Err, sym, ap, ◌∙◌, arith}
use Rattle.std.specs.Option.{unwrap_or}
use Rattle.std.proofs.lemmas.Bool.{eqb-true}
use Rattle.record_codec.specs.declared.fault.CodecFault.TheVariants.{BadRecord}
use Rattle.image_codec.specs.ImageIn.{outcome, past_end}
use Rattle.image_codec.proofs.ImageInLaws.{parted, illegal_outcome, feed_damage, feed_on, held_back}
use Rattle.image_codec.proofs.image_in.ImageIn.feed_bite.Goals as goal

pub returns-in-Err-clause-damaged : goal.returns-in-Err-clause-damaged
returns-in-Err-clause-damaged c = λ place e more.
    let self = c.args.self.now in
    let own = c.split_at.result.0.now in
    let beyond = c.split_at.result.1.now in
    let within : length own ≤ self.len - self.came = omega arith in
    let parts = parted c.min-count.result own beyond c.args.bytes.now c.split_at.ensures.front c.split_at.ensures.back in
    let same : c.in-Err.fault ≡ BadRecord place = cc e in
    let d = c.in-Err.ensures.damaged place (ap (λ fault. Err fault) same) in
    ap (λ (b : List ℕ). outcome self (b ++ more)) (sym parts) ∙ illegal_outcome self own beyond d.0 place within d.1 d.2 more

pub returns-then-is_past_end-clause-damaged : goal.returns-then-is_past_end-clause-damaged
returns-then-is_past_end-clause-damaged c = λ place e more.
    let self = c.args.self.now in
    let now = c.read_on.new.self in
    let own = c.split_at.result.0.now in
    let beyond = c.split_at.result.1.now in
    let within : length own ≤ self.len - self.came = omega arith in
    let full : 0 < length beyond → length own ≡ self.len - self.came = λ some. omega (arith, some) in
    let parts = parted c.min-count.result own beyond c.args.bytes.now c.split_at.ensures.front c.split_at.ensures.back in
    let held : c.as_slice-held.result.now ≡ now.held.items = c.as_slice-held.ensures.value in
    let past : past_end c.in-Ok.cut (length now.held.items) (length beyond) ≡ true =
    ap (λ (b : List ℕ). past_end c.in-Ok.cut (length b) (length beyond)) (sym held) ∙ sym c.is_past_end.ensures ∙ c.if-is_past_end.true in
    let left : c.unwrap_or.result ≡ unwrap_or c.in-Ok.cut (length now.held.items) = c.unwrap_or.ensures ∙ ap (λ (b : List ℕ). unwrap_or c.in-Ok.cut (length b)) held in
    let is : place ≡ now.came - c.unwrap_or.result = cc (e, c.bad_record.ensures) in
    ap (λ (b : List ℕ). outcome self (b ++ more)) (sym parts) ∙ feed_damage self now own beyond c.in-Ok.cut within full c.in-Ok.ensures.reads c.in-Ok.ensures.pauses past more
    ∙ ap (λ (n : ℕ). Err (now.came - n)) (sym left) ∙ ap (λ (n : ℕ). Err n) (sym is)

pub returns-clause-goes_on : goal.returns-clause-goes_on
returns-clause-goes_on c = λ more.
    let self = c.args.self.now in
    let now = c.read_on.new.self in
    let own = c.split_at.result.0.now in
    let beyond = c.split_at.result.1.now in
    let within : length own ≤ self.len - self.came = omega arith in
    let parts = parted c.min-count.result own beyond c.args.bytes.now c.split_at.ensures.front c.split_at.ensures.back in
    let past : past_end c.in-Ok.cut (length now.held.items) (length beyond) ≡ false =
    ap (λ (b : List ℕ). past_end c.in-Ok.cut (length b) (length beyond)) (sym c.as_slice-held.ensures.value) ∙ sym c.is_past_end.ensures ∙ c.if-is_past_end.false in
    feed_on self now own beyond c.args.bytes.now c.in-Ok.cut within parts c.in-Ok.ensures.reads past more

pub returns-then-saturating_add-self-clause-goes_on : goal.returns-then-saturating_add-self-clause-goes_on
returns-then-saturating_add-self-clause-goes_on c = λ more.
    let self = c.args.self.now in
    let own = c.split_at.result.0.now in
    let beyond = c.split_at.result.1.now in
    let within : length own ≤ self.len - self.came = omega arith in
    let parts = parted c.min-count.result own beyond c.args.bytes.now c.split_at.ensures.front c.split_at.ensures.back in
    let none : length beyond ≡ 0 = eqb-true (length beyond) 0 (sym c.is_empty.ensures ∙ c.if-is_empty.true) in
    held_back self c.hold.new.self own beyond c.args.bytes.now within parts none c.in_ok-hold.ensures.reads more
