use Rattle.path_keys.specs.NameBytes.{recoded}
use Rattle.path_keys.proofs.lemmas.lanes.PutLemmas.{PutTo}
use Rattle.path_keys.proofs.recode.recode_few.Given as goal

abbrev pub invariant-loop-i : goal.invariant-loop-i
invariant-loop-i l = PutTo (recoded l.how) l.bytes l.fn.out l.at l.i l.out
