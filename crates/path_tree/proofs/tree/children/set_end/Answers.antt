use Rattle.std.proofs.Common.{arith}
use Rattle.std.proofs.lemmas.List.{get_or_read}
use Rattle.path_keys.proofs.lemmas.values.LastLemmas.{last_low}
use Rattle.path_keys.proofs.lemmas.values.RangeLemmas.{end_of-some}
use Rattle.path_tree.proofs.lemmas.keys.ChildKeyLemmas.{IsKey-own}
use Rattle.path_tree.proofs.tree.children.set_end.Goals as goal

pub overflow_add-index_mut : goal.overflow_add-index_mut
overflow_add-index_mut c = grind (arith, get_or_read, last_low, IsKey-own)

pub returns : goal.returns
returns c = grind (arith, get_or_read, end_of-some)
