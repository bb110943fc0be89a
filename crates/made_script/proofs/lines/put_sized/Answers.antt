use Rattle.std.proofs.Common.{arith}
use Rattle.made_script.proofs.Spelled.{then_put, put_then, create_is, resize_is}
use Rattle.made_script.proofs.lines.put_sized.Goals as goal

pub returns-then-drawn-lt8 : goal.returns-then-drawn-lt8
returns-then-drawn-lt8 c = then_put c.put_text-then-drawn-lt8.result _ _ _ _ _ _ (put_then _ _ c.args.line.now.items _ _ (put_then _ _ c.args.line.now.items _ _ c.in_ok-put_path.ensures c.in_ok-put_text.ensures) c.in_ok-put_number.ensures) (create_is c.args.drawn.now (omega arith) (omega arith)) c.put_text-then-drawn-lt8.ensures

pub returns : goal.returns
returns c = then_put c.put_number-2.result _ _ _ _ _ _ (put_then _ _ c.args.line.now.items _ _ c.in_ok-put_path-2.ensures c.in_ok-put_text-2.ensures) (resize_is c.args.drawn.now (omega arith) (omega arith)) c.put_number-2.ensures
