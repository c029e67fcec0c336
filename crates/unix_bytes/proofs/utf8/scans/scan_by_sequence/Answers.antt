use Rattle.std.proofs.Common.{arith}
use Rattle.std.proofs.lemmas.Grind.{common_steps}
use Rattle.std.proofs.Common.{refl, le_refl}
use Rattle.unix_bytes.proofs.lemmas.prefixes.TextPrefixLemmas.{ascii_is_text, text_before}
use Rattle.unix_bytes.proofs.lemmas.prefixes.TextPrefixLemmas.{sequence_before, no_rest}
use Rattle.unix_bytes.proofs.lemmas.prefixes.TextPrefixLemmas.{sequences_before, broken_rest}
use Rattle.unix_bytes.proofs.lemmas.prefixes.TextPrefixLemmas.{none_at_end}
use Rattle.unix_bytes.proofs.utf8.scans.scan_by_sequence.Goals as goal

pub loop-rest-preserved-then-rest-lt128 : goal.loop-rest-preserved-then-rest-lt128
loop-rest-preserved-then-rest-lt128 c =
    let prefix = c.ascii_prefix_len.ensures in
    text_before c.args.source.now _ _ c.loop-rest.invariant prefix.bound
    (ascii_is_text _ prefix.ascii)

pub loop-rest-preserved-in-Ok-eq2 : goal.loop-rest-preserved-in-Ok-eq2
loop-rest-preserved-in-Ok-eq2 c =
    let pairs = c.two_byte_prefix_len.ensures in
    sequences_before c.args.source.now _ _ 2 _ c.loop-rest.invariant
    c.in-Ok-eq2.ensures.sequence c.in-Ok-eq2.field-0-test pairs.bound pairs.text

pub loop-rest-preserved-in-Ok-eq4 : goal.loop-rest-preserved-in-Ok-eq4
loop-rest-preserved-in-Ok-eq4 c =
    let quads = c.four_byte_prefix_len.ensures in
    sequences_before c.args.source.now _ _ 4 _ c.loop-rest.invariant
    c.in-Ok-eq4.ensures.sequence c.in-Ok-eq4.field-0-test quads.bound quads.text

pub loop-rest-preserved : goal.loop-rest-preserved
loop-rest-preserved c =
    sequence_before c.args.source.now _ _ _ c.loop-rest.invariant c.in-Ok.ensures.sequence refl

pub returns-in-Err-clause-text : goal.returns-in-Err-clause-text
returns-in-Err-clause-text c =
    broken_rest c.args.source.now _ c.in-Err.size c.loop-rest.invariant c.in-Err.ensures.broken

pub returns-clause-text : goal.returns-clause-text
returns-clause-text c = grind (arith, common_steps, no_rest)

pub returns-clause-broken : goal.returns-clause-broken
returns-clause-broken c = grind (arith, common_steps, none_at_end, le_refl)
