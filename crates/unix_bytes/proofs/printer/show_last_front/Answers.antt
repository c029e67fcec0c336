use Rattle.std.proofs.lemmas.Grind.{common_steps}
use Rattle.std.proofs.Common.{◌≡◌, ◌+◌, ◌≤◌, length, take, ap, sym, ◌∙◌, arith, length-take-le}
use Rattle.unix_bytes.proofs.lemmas.prefixes.TextPrefixLemmas.{sequence_is_text}
use Rattle.unix_bytes.proofs.lemmas.prefixes.PrinterLemmas.{shows_text, shows_broken}
use Rattle.unix_bytes.proofs.lemmas.prefixes.PrinterLemmas.{sequence_is_short, take_written}
use Rattle.unix_bytes.proofs.printer.show_last_front.Goals as goal

pub write_at-requires : goal.write_at-requires
write_at-requires c = grind (arith, common_steps, sequence_is_short, length-take-le)

pub returns-in-Ok-clause-lossy : goal.returns-in-Ok-clause-lossy
returns-in-Ok-clause-lossy c =
    let s = c.args.source.now in
    let n = c.in-Ok.size in
    let sequence = c.in-Ok.ensures.sequence in
    let long : length (take n s) ≡ n = length-take-le n s c.in-Ok.ensures.within in
    let fits : c.args.at + length (take n s) ≤ length c.args.out.now =
    grind (arith, common_steps, sequence_is_short) in
    shows_text s _ n _ (sequence_is_text s _ sequence.0 sequence.1)
    (ap (λ k. take (c.args.at + k) c.write_at.new.out) (sym long)
    ∙ take_written c.args.at (take n s) c.args.out.now _ fits c.write_at.ensures)

pub returns-in-Err-clause-lossy : goal.returns-in-Err-clause-lossy
returns-in-Err-clause-lossy c =
    shows_broken c.args.source.now _ c.in-Err.size _ c.in-Err.ensures.broken
    c.show_replacement.ensures.bytes
