use Rattle.std.proofs.Common.{arith}
use Rattle.made_script.proofs.Spelled.{then_put, put_then, move_folder_is, move_is}
use Rattle.made_script.proofs.lines.put_move.Goals as goal

pub returns-then-drawn-eq11 : goal.returns-then-drawn-eq11
returns-then-drawn-eq11 c = then_put c.put_text.result _ _ _ _ _ _ (put_then _ _ c.args.line.now.items _ _ c.in_ok-put_path.ensures c.in_ok-put_path-2.ensures) (move_is c.args.drawn.now (omega arith)) c.put_text.ensures

pub returns : goal.returns
returns c = then_put c.put_path-3.result _ _ _ _ _ _ c.in_ok-put_path-3.ensures (move_folder_is c.args.drawn.now (omega arith)) c.put_path-3.ensures
