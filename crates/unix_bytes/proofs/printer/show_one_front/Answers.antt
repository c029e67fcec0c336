use Rattle.std.proofs.Common.{arith}
use Rattle.unix_bytes.proofs.lemmas.prefixes.PrinterLemmas.{shows_text, takes_one, first_is_text}
use Rattle.unix_bytes.proofs.printer.show_one_front.Goals as goal

pub returns-then-source-lt128-clause-lossy : goal.returns-then-source-lt128-clause-lossy
returns-then-source-lt128-clause-lossy c =
    let s = c.args.source.now in
    shows_text s _ 1 _ (first_is_text s (omega arith) c.if-source-lt128.true)
    (takes_one c.args.out.now s c.args.at (omega arith) (omega arith))
