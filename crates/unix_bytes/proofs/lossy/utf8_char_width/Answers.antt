use Rattle.std.proofs.Common.{arith}
use Rattle.unix_bytes.proofs.lemmas.sequences.WidthLemmas.{has_width}
use Rattle.unix_bytes.proofs.lossy.utf8_char_width.Goals as goal

pub returns-in-0-to-127-clause-value : goal.returns-in-0-to-127-clause-value
returns-in-0-to-127-clause-value c = λ u h. ((has_width c.args.b u h).one (omega arith)).1

pub returns-in-194-to-223-clause-value : goal.returns-in-194-to-223-clause-value
returns-in-194-to-223-clause-value c = λ u h.
    (has_width c.args.b u h).two (omega arith) (omega arith)

pub returns-in-224-to-239-clause-value : goal.returns-in-224-to-239-clause-value
returns-in-224-to-239-clause-value c = λ u h.
    (has_width c.args.b u h).three (omega arith) (omega arith)

pub returns-in-240-to-244-clause-value : goal.returns-in-240-to-244-clause-value
returns-in-240-to-244-clause-value c = λ u h. ((has_width c.args.b u h).four (omega arith)).1
