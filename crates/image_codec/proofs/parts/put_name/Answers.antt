use Rattle.std.proofs.Common.{arith, length}
use Rattle.std.proofs.lemmas.Bool.{lt-ltb, leb-true}
use Rattle.std.proofs.lemmas.Str.{is_utf8-from_IsUtf8}
use Rattle.fsrm_base.proofs.TestLaws.{both_true}
use Rattle.fsrm_model.specs.values.Limits.{longest_action_text}
use Rattle.image_codec.proofs.parts.put_name.Goals as goal

pub returns-clause-legal : goal.returns-clause-legal
returns-clause-legal c = λ short.
    both_true _ _ (lt-ltb (length c.args.name.now) 65536 (omega (arith, leb-true _ longest_action_text short))) (is_utf8-from_IsUtf8 c.args.name.now c.utf8.name)
