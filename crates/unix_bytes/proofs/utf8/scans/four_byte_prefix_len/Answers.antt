use Rattle.std.proofs.Common.{sym, arith}
use Rattle.unix_bytes.proofs.lemmas.sequences.StepLemmas.{four_byte_sequence}
use Rattle.unix_bytes.proofs.lemmas.prefixes.TextPrefixLemmas.{sequence_is_text, text_before}
use Rattle.unix_bytes.proofs.utf8.scans.four_byte_prefix_len.Goals as goal

pub loop-rest-preserved : goal.loop-rest-preserved
loop-rest-preserved c =
    let r = c.loop-rest.rest.now in
    let begun = c.begins_four.ensures.0 c.if-begins_four.true in
    text_before c.args.source.now r 4 c.loop-rest.invariant begun.0
    (sequence_is_text r 4 (omega arith) (sym (four_byte_sequence r begun)))
