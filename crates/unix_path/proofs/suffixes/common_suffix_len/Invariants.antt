use Rattle.std.proofs.Common.{◌-◌}
use Rattle.unix_path.proofs.lemmas.order.EndingLemmas.{HasCommonSuffix}
use Rattle.unix_path.proofs.suffixes.common_suffix_len.Given as goal

abbrev pub invariant-loop-len : goal.invariant-loop-len
invariant-loop-len l = HasCommonSuffix l.a l.b l.len

abbrev pub decreases-loop-len : goal.decreases-loop-len
decreases-loop-len l = l.shorter_len - l.len
