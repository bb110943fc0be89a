use Rattle.std.proofs.Common.{◌+◌, ◌*◌, ◌/◌, ◌%◌, ◌∙◌, ap}
use Rattle.std.proofs.Math.Nat.{add-mod-mod}
use Rattle.name_index.specs.Hash.{bytes_hash, hashed, name_hash}
use Rattle.name_index.proofs.hash.hash_of.Goals as goal

pub returns : goal.returns
unfolding name_hash
returns c =
    ap (λ n. n / 4294967296) (add-mod-mod c.hash_name.result (c.from-folder.result * 15074714826142052245) 18446744073709551616)
    ∙ (ap (λ h. (h + c.from-folder.result * 15074714826142052245) % 18446744073709551616 / 4294967296) c.hash_name.ensures
    ∙ ap (λ f. (bytes_hash (hashed c.args.name.now) + f * 15074714826142052245) % 18446744073709551616 / 4294967296) c.from-folder.ensures)
