use Rattle.std.proofs.lemmas.Grind.{common_steps}
use Rattle.std.proofs.Common.{sym, ◌∙◌, arith}
use Rattle.std.proofs.lemmas.Bool.{true≢false}
use Rattle.std.proofs.lemmas.List.{take_rest}
use Rattle.unix_bytes.proofs.lemmas.prefixes.TextPrefixLemmas.{text_before_broken}
use Rattle.unix_bytes.proofs.lemmas.lossy.BrokenLemmas.{one_broken_at}
use Rattle.unix_bytes.proofs.utf8.scans.scan_from_non_ascii.Goals as goal

pub returns-clause-text : goal.returns-clause-text
returns-clause-text c =
    let s = c.args.source.now in
    let at = c.args.at in
    let one = one_broken_at s _ at (take_rest s at) c.requires.some c.requires.non_ascii
    (λ h. true≢false (sym (c.may_begin.ensures h) ∙ c.if-may_begin.false)) in
    text_before_broken s _ at (take_rest s at) c.requires.so_far 1 (omega arith) (omega arith, one)

pub returns-clause-broken : goal.returns-clause-broken
returns-clause-broken c = grind (arith, common_steps, one_broken_at, take_rest, true≢false)
