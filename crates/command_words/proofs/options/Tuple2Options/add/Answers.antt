use Rattle.std.proofs.Common.{rules, ◌≡◌, Ok, Err, ap}
use Rattle.command_words.proofs.OptionLaws.{apart_first, apart_second, first_added, not_added, second_added, found_first}
use Rattle.command_words.proofs.options.Tuple2Options.add.Goals as goal

pub add-requires : goal.add-requires
add-requires g c = apart_first (g.A.Options.keys c.args.self.0) (g.B.Options.keys c.args.self.1) c.requires

pub returns-in_err-add : goal.returns-in_err-add
returns-in_err-add g c before holds =
    let added = c.in_err-add.ensures before holds.0 in
    let fault : c.from_residual.result ≡ Err c.in_err-add.field-0.0 = search rules in
    rw fault (added.0, found_first (g.A.Options.keys c.args.self.0) (g.B.Options.keys c.args.self.1) c.args.word.now.name.now added.0 added.1, added.2)

pub returns-then-branch : goal.returns-then-branch
returns-then-branch g c before holds =
    first_added (g.A.Options.holds c.args.self.0) (g.B.Options.holds c.args.self.1) (g.A.Options.keys c.args.self.0) (g.B.Options.keys c.args.self.1) (Ok c.in_ok-add.field-0) c.args.given.now.0 c.add.new.given c.args.given.now.1 c.args.word.now.name.now c.args.word.now.column c.args.word.now.value.now before
    c.requires (ap Ok c.if-branch.true) (λ next none. g.met.B.Options.kept c.args.self.1 c.args.given.now.1 before next none holds.1) (c.in_ok-add.ensures before holds.0)

pub add-requires-2 : goal.add-requires-2
add-requires-2 g c = apart_second (g.A.Options.keys c.args.self.0) (g.B.Options.keys c.args.self.1) c.requires

pub returns : goal.returns
returns g c before holds =
    let none = not_added (g.A.Options.holds c.args.self.0) (g.A.Options.keys c.args.self.0) (Ok c.in_ok-add.field-0) c.args.given.now.0 c.add.new.given c.args.word.now.name.now c.args.word.now.column c.args.word.now.value.now before
    (ap Ok c.if-branch.false) (c.in_ok-add.ensures before holds.0) in
    second_added (g.A.Options.holds c.args.self.0) (g.B.Options.holds c.args.self.1) (g.A.Options.keys c.args.self.0) (g.B.Options.keys c.args.self.1) c.add-2.result c.args.given.now.0 c.add.new.given c.args.given.now.1 c.add-2.new.given c.args.word.now.name.now c.args.word.now.column c.args.word.now.value.now before
    c.requires none (λ next apart. g.met.A.Options.kept c.args.self.0 c.args.given.now.0 before next apart holds.0) (c.add-2.ensures before holds.1)
