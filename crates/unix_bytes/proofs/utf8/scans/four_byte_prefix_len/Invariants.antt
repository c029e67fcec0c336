use Rattle.std.proofs.Common.{length}
use Rattle.unix_bytes.proofs.lemmas.prefixes.TextPrefixLemmas.{TextBefore}
use Rattle.unix_bytes.proofs.utf8.scans.four_byte_prefix_len.Given as goal

-- `rest` is a suffix of `source`, and the bytes of `source` before it are valid UTF-8
abbrev pub invariant-loop-rest : goal.invariant-loop-rest
invariant-loop-rest l = TextBefore l.source l.rest

abbrev pub decreases-loop-rest : goal.decreases-loop-rest
decreases-loop-rest l = length l.rest
