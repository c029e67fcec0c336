use Rattle.upath_commands.proofs.lemmas.FirstLemmas.{firsts-next, firsts-once}
use Rattle.upath_commands.proofs.sort_laws.uniq_keeps_firsts.Goals as goal

pub returns : goal.returns
returns c = record { next = firsts-next; once = firsts-once }
