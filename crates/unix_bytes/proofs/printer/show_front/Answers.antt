use Rattle.unix_bytes.proofs.lemmas.prefixes.TextPrefixLemmas.{sequence_is_text}
use Rattle.unix_bytes.proofs.lemmas.prefixes.PrinterLemmas.{shows_text, shows_broken}
use Rattle.unix_bytes.proofs.lemmas.prefixes.PrinterLemmas.{sequence_is_short}
use Rattle.unix_bytes.proofs.printer.show_front.Goals as goal
use Rattle.std.proofs.Common.{arith}

pub returns-in-Ok-clause-lossy : goal.returns-in-Ok-clause-lossy
returns-in-Ok-clause-lossy c =
    let s = c.args.source.now in
    let sequence = c.in-Ok.ensures.sequence in
    let few = sequence_is_short s in
    shows_text s _ c.in-Ok.size _ (sequence_is_text s _ sequence.0 sequence.1)
    (c.copy_first.ensures.bytes c.in-Ok.size (omega arith))

pub returns-in-Err-clause-lossy : goal.returns-in-Err-clause-lossy
returns-in-Err-clause-lossy c =
    shows_broken c.args.source.now _ c.in-Err.size _ c.in-Err.ensures.broken
    c.show_replacement.ensures.bytes
