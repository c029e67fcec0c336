use Rattle.std.proofs.Common.{length}
use Rattle.path_keys.proofs.lemmas.spelling.CutLemmas.{SpellsCut}
use Rattle.path_keys.proofs.decode.write_text.Given as goal

abbrev pub invariant-loop-run : goal.invariant-loop-run
invariant-loop-run l = SpellsCut l.key l.rest l.fn.out l.at l.out

abbrev pub decreases-loop-run : goal.decreases-loop-run
decreases-loop-run l = length l.rest
