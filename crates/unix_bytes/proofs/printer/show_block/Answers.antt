use Rattle.std.proofs.Common.{◌+◌, take, subst}
use Rattle.std.proofs.lemmas.List.{take_rest}
use Rattle.std.proofs.Common.{sym, ◌∙◌, arith}
use Rattle.std.proofs.lemmas.Bool.{true≢false}
use Rattle.unix_bytes.specs.Steps.{HasBegun}
use Rattle.unix_bytes.specs.Printer.{Shows}
use Rattle.unix_bytes.proofs.lemmas.prefixes.TextPrefixLemmas.{ascii_is_text}
use Rattle.unix_bytes.proofs.lemmas.lossy.BrokenLemmas.{one_byte_broken}
use Rattle.unix_bytes.proofs.lemmas.prefixes.PrinterLemmas.{shows_text, shows_broken, shows_more}
use Rattle.unix_bytes.proofs.printer.show_block.Goals as goal

pub returns-then-ascii-eq16-2-clause-lossy : goal.returns-then-ascii-eq16-2-clause-lossy
returns-then-ascii-eq16-2-clause-lossy c =
    let s = c.args.source.now in
    let ascii = c.ascii_len_simd16-ascii.ensures in
    subst (λ n. Shows s (take c.args.at c.args.out.now) n
    (take (c.args.at + n) c.copy_first.new.out))
    c.if-ascii-eq16-2.true
    (shows_text s _ _ _ (ascii_is_text _ ascii.ascii) (c.copy_first.ensures.bytes _ ascii.bound))

pub returns-clause-lossy : goal.returns-clause-lossy
returns-clause-lossy c =
    let s = c.args.source.now in
    let ascii = c.ascii_len_simd16-ascii.ensures in
    shows_more s _ _ _ _ _ _ (take_rest s c.ascii_len_simd16-ascii.result)
    (shows_text s _ _ _ (ascii_is_text _ ascii.ascii) (c.copy_first.ensures.bytes _ ascii.bound))
    c.show_front-size.ensures.lossy

pub returns-then-not-may_begin-clause-lossy : goal.returns-then-not-may_begin-clause-lossy
returns-then-not-may_begin-clause-lossy c =
    let s = c.args.source.now in
    let end = λ (h : HasBegun s 2).
    true≢false (sym (c.may_begin.ensures h) ∙ c.if-not-may_begin.true) in
    let one = one_byte_broken s (omega arith) end (omega arith) in
    shows_broken s _ 1 _ (omega arith, sym one) c.show_replacement.ensures.bytes
