use Rattle.std.proofs.Common.{◌≡◌, ◌≢◌, ◌⊎◌, ℕ, ◌-◌, ◌<◌, ◌≤◌, true, List, [], length, Err, sym, ap, ◌∙◌, arith, inl, inr}
use Rattle.std.specs.Prelude.{is_some}
use Rattle.std.specs.Option.{unwrap_or}
use Rattle.image_codec.specs.ImageIn.{outcome}
use Rattle.image_codec.proofs.ImageInLaws.{told, outcome_on, finish_damage}
use Rattle.image_codec.proofs.image_in.ImageIn.finish.Goals as goal
use Rattle.image_codec.proofs.image_in.ImageIn.finish.Goals.{then-is_some-via-then-is_some, then-is_some-via-else-is_some+then-held-gt0, then-is_some-via-else-is_some+else-held-gt0+then-reader}

pub returns-then-is_some : goal.returns-then-is_some
returns-then-is_some c =
    let now = c.read_on.new.self in
    let cut = c.in_ok-cut.cut in
    let held : c.as_slice-held.result.now ≡ now.held.items = c.as_slice-held.ensures.value in
    let within : length {A = ℕ} [] ≤ c.args.self.len - c.args.self.came = omega arith in
    let wrong : (is_some cut ≡ true) ⊎ ((0 < length now.held.items) ⊎ (now.came ≢ now.len)) = elim c.then-is_some.branch [
      | then-is_some-via-then-is_some w ↦ inl (cc (c.is_some.ensures, w.if-is_some.true))
      | then-is_some-via-else-is_some+then-held-gt0 w ↦ inr (inl (omega (arith, w.if-held-gt0.true, ap (λ (b : List ℕ). length b) held)))
      | then-is_some-via-else-is_some+else-held-gt0+then-reader w ↦ inr (inr w.if-reader.true)
    ] in
    let left : c.unwrap_or.result ≡ unwrap_or cut (length now.held.items) = c.unwrap_or.ensures ∙ ap (λ (b : List ℕ). unwrap_or cut (length b)) held in
    told c.bad_record.result (now.came - c.unwrap_or.result) (outcome c.args.self []) c.bad_record.ensures
    (sym (outcome_on c.args.self now [] within c.in_ok-cut.ensures.reads []) ∙ finish_damage now cut c.in_ok-cut.ensures.pauses wrong ∙ ap (λ (n : ℕ). Err (now.came - n)) (sym left))
