use Rattle.std.proofs.Common.{arith}
use Rattle.std.proofs.lemmas.Grind.{common_steps}
use Rattle.std.proofs.lemmas.List.{take_rest}
use Rattle.unix_bytes.proofs.lemmas.prefixes.TextPrefixLemmas.{after_ascii, after_sequence}
use Rattle.unix_bytes.proofs.lemmas.prefixes.TextPrefixLemmas.{text_before_broken}
use Rattle.unix_bytes.proofs.lemmas.prefixes.TextPrefixLemmas.{none_at_end, text_to_end}
use Rattle.unix_bytes.proofs.utf8.scans.scan_by_window.Goals as goal

pub loop-at-preserved-then-source-at-lt128 : goal.loop-at-preserved-then-source-at-lt128
loop-at-preserved-then-source-at-lt128 c =
    let s = c.args.source.now in
    let at = c.loop-at.at in
    let so_far = c.loop-at.invariant in
    let prefix = c.ascii_prefix_len-at.ensures in
    let more = after_ascii s _ at (take_rest s at) so_far.text _ so_far.within prefix.bound
    prefix.ascii in
    record { within = more.0; text = more.1 }

pub text_end-at-requires-clause-so_far : goal.text_end-at-requires-clause-so_far
text_end-at-requires-clause-so_far c =
    let s = c.args.source.now in
    let at = c.loop-at.at in
    let so_far = c.loop-at.invariant in
    (after_sequence s _ at (take_rest s at) so_far.text c.in-Ok.size so_far.within
    c.in-Ok.ensures.sequence).1

pub returns-in-Err-clause-text : goal.returns-in-Err-clause-text
returns-in-Err-clause-text c =
    let s = c.args.source.now in
    let at = c.loop-at.at in
    let so_far = c.loop-at.invariant in
    text_before_broken s _ at (take_rest s at) so_far.text c.in-Err.size so_far.within
    c.in-Err.ensures.broken

pub returns-clause-text : goal.returns-clause-text
returns-clause-text c = grind (arith, common_steps, text_to_end)

pub returns-clause-broken : goal.returns-clause-broken
returns-clause-broken c = none_at_end c.args.source.now c.loop-at.at c.loop-at-test.false
