use Rattle.std.proofs.lemmas.Grind.{common_steps}
use Rattle.std.proofs.Common.{length, sym, ap, ◌∙◌, arith, length-drop}
use Rattle.std.proofs.lemmas.Bool.{eqb-true}
use Rattle.std.proofs.lemmas.List.{take_rest}
use Rattle.unix_bytes.proofs.lemmas.prefixes.PrinterLemmas.{pushes_buffer, writes_whole}
use Rattle.unix_bytes.proofs.lemmas.prefixes.PushLemmas.{pushes_split, rest_is_shorter}
use Rattle.unix_bytes.proofs.bytes.push_lossy.Goals as goal

pub loop-unread-smaller : goal.loop-unread-smaller
loop-unread-smaller c =
    let some = sym c.is_empty.ensures ∙ c.loop-unread-test.true in
    let rest = c.split_text.result.2.now in
    let read = c.show_first-read.result.0 in
    let less = rest_is_shorter some c.split_text.ensures in
    omega (arith, less, ap length (take_rest rest read), length-drop read rest)

pub loop-unread-preserved : goal.loop-unread-preserved
loop-unread-preserved c = grind (arith, common_steps, pushes_split, pushes_buffer, take_rest)

pub returns : goal.returns
returns c =
    let none = eqb-true _ 0 (sym c.is_empty.ensures ∙ c.loop-unread-test.false) in
    writes_whole c.loop-unread.bytes.items c.loop-unread.unread.now _ none c.loop-unread.invariant
