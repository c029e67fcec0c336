use Rattle.std.proofs.Common.{◌+◌, ◌-◌, ◌<◌}
use Rattle.path_keys.specs.NameBytes.{recoded}
use Rattle.path_keys.proofs.lemmas.lanes.PutLemmas.{PutTo}
use Rattle.path_keys.proofs.recode.recode.Given as goal

-- the bytes before `from` are written
abbrev pub invariant-loop-from : goal.invariant-loop-from
invariant-loop-from l = record {
  in_range : l.from < l.last + 16;
  put : PutTo (recoded l.how) l.bytes l.fn.out l.at l.from l.out;
}

abbrev pub decreases-loop-from : goal.decreases-loop-from
decreases-loop-from l = l.last + 16 - l.from
