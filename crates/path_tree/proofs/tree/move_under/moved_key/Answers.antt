use Rattle.std.proofs.Common.{◌≡◌, ◌-◌, ℕ, List, arith, drop, length, length-drop}
use Rattle.std.proofs.Common.{take, take_all}
use Rattle.path_tree.proofs.lemmas.keys.MovedKeyLemmas.{moved_own}
use Rattle.path_tree.proofs.tree.move_under.moved_key.Goals as goal

-- `key` without its first `length from` bytes has at most `length key - length from` bytes, so
-- taking that many bytes takes all of them
whole_rest : (key from : List ℕ)
    → take (length key - length from) (drop (length from) key) ≡ drop (length from) key
whole_rest key from = take_all (length key - length from) (drop (length from) key)
    (omega (arith, length-drop (length from) key))

pub returns-clause-own : goal.returns-clause-own
returns-clause-own c = grind (arith, whole_rest, moved_own)

pub returns-clause-bytes : goal.returns-clause-bytes
returns-clause-bytes c = grind (arith, whole_rest)
