use Rattle.made_script.proofs.Spelled.{then_put, put_then, deep_create_is, mkdir_is, quota_is, remove_is, touch_is}
use Rattle.made_script.proofs.lines.put_drawn.Goals as goal

pub returns-in_ok-put_path-in-0 : goal.returns-in_ok-put_path-in-0
returns-in_ok-put_path-in-0 c = then_put c.put_text.result _ _ _ _ _ _ c.in_ok-put_path-in-0.ensures (mkdir_is c.args.drawn.now c.in-0.is) c.put_text.ensures

pub returns-in_ok-put_number-in-1 : goal.returns-in_ok-put_number-in-1
returns-in_ok-put_number-in-1 c = then_put c.put_text-in-1-2.result _ _ _ _ _ _ (put_then _ _ c.args.line.now.items _ _ c.in_ok-put_text-in-1.ensures c.in_ok-put_number-in-1.ensures) (quota_is c.args.drawn.now c.in-1.is) c.put_text-in-1-2.ensures

pub returns-in_ok-put_path-in-10 : goal.returns-in_ok-put_path-in-10
returns-in_ok-put_path-in-10 c = then_put c.put_text-in-10.result _ _ _ _ _ _ c.in_ok-put_path-in-10.ensures (touch_is c.args.drawn.now c.in-10.is) c.put_text-in-10.ensures

pub returns-in_ok-put_path-in-13 : goal.returns-in_ok-put_path-in-13
returns-in_ok-put_path-in-13 c = then_put c.put_text-in-13.result _ _ _ _ _ _ c.in_ok-put_path-in-13.ensures (remove_is c.args.drawn.now c.in-13.is) c.put_text-in-13.ensures

pub returns-in_ok-put_path-in-14-2 : goal.returns-in_ok-put_path-in-14-2
returns-in_ok-put_path-in-14-2 c = then_put c.put_text-in-14.result _ _ _ _ _ _ (put_then _ _ c.args.line.now.items _ _ c.in_ok-put_path-in-14.ensures c.in_ok-put_path-in-14-2.ensures) (deep_create_is c.args.drawn.now c.in-14.is) c.put_text-in-14.ensures
