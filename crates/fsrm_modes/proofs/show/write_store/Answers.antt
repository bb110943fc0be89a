use Rattle.std.proofs.Common.{◌≡◌, ◌≤◌, ◌+◌, subst}
use Rattle.std.specs.Prelude.{OnErr, OnOk}
use Rattle.std.specs.Io.KnownBytes.{append_known}
use Rattle.fsrm_engine.specs.Machine.{Machine}
use Rattle.fsrm_outside.specs.Shown.{ShowsFront}
use Rattle.fsrm_modes.specs.Views.{view_cost, view_text}
use Rattle.fsrm_modes.proofs.show.write_store.Goals as goal

pub returns-clause-whole : goal.returns-clause-whole
returns-clause-whole g c =
    let shown = g.S.Sink.shown in
    subst (λ (m : Machine). OnOk c.write_view.result (shown c.write_view.new.sink ≡ append_known (shown c.args.sink.now) (view_text c.args.view m.size m.rows))) c.engine.ensures.lent c.write_view.ensures.whole

pub returns-clause-front : goal.returns-clause-front
returns-clause-front g c =
    let shown = g.S.Sink.shown in
    subst (λ (m : Machine). OnErr c.write_view.result (ShowsFront (shown c.args.sink.now) (shown c.write_view.new.sink) (view_text c.args.view m.size m.rows))) c.engine.ensures.lent c.write_view.ensures.front

pub returns-clause-device : goal.returns-clause-device
returns-clause-device g c = c.write_view.ensures.device

pub returns-clause-looks : goal.returns-clause-looks
returns-clause-looks g c = subst (λ (m : Machine). c.write_view.new.steps ≤ c.args.steps.now + view_cost c.args.view m.rows) c.engine.ensures.lent c.write_view.ensures.looks
