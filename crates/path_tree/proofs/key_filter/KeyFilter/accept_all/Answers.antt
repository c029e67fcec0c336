use Rattle.path_tree.proofs.lemmas.keys.FilterLemmas.{has_bit-none}
use Rattle.path_tree.specs.Hashed.{hash_of}
use Rattle.path_tree.proofs.key_filter.KeyFilter.accept_all.Goals as goal

pub returns : goal.returns
returns c = λ key. has_bit-none 0 (hash_of key) _ c.new.ensures.items
