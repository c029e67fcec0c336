use Rattle.std.proofs.Common.{arith}
use Rattle.std.proofs.lemmas.Grind.{common_steps}
use Rattle.std.proofs.Common.{true, refl, sym, ◌∙◌}
use Rattle.std.specs.Fmt.{padded}
use Rattle.std.proofs.lemmas.Bool.{eqb-true}
use Rattle.unix_bytes.proofs.lemmas.lossy.LossyLemmas.{lossy_of-text}
use Rattle.unix_bytes.proofs.lemmas.prefixes.PushLemmas.{all_is_text, pads_text, shows_lossy_text}
use Rattle.unix_bytes.proofs.lemmas.prefixes.PushLemmas.{lossy_of-split}
use Rattle.std.proofs.Output.{has_written_append, has_written_of_eq}
use Rattle.std.proofs.Output.{has_written_styled_append, has_written_styled_of_eq}
use Rattle.unix_bytes.proofs.lossy.Utf8LossyDisplay.fmt.Goals as goal

pub returns-then-is_empty-clause-writes : goal.returns-then-is_empty-clause-writes
returns-then-is_empty-clause-writes g c = λ p q.
    let s = c.args.self.now.bytes.now in
    let none = eqb-true _ 0 (sym c.is_empty.ensures ∙ c.if-is_empty.true) in
    let only = all_is_text c.split_text.ensures none in
    has_written_of_eq g.W.Write.write_str_gives _ _ _ _ (only.0 ∙ sym (lossy_of-text s only.1))
    (c.pad.ensures.writes p q)

pub returns-then-is_empty-clause-styled : goal.returns-then-is_empty-clause-styled
returns-then-is_empty-clause-styled g c = λ p q.
    let none = eqb-true _ 0 (sym c.is_empty.ensures ∙ c.if-is_empty.true) in
    has_written_styled_of_eq g.W.Write.write_str_gives _ _ _ _
    (pads_text (padded _) c.split_text.ensures none)
    (c.pad.ensures.styled p q)

pub returns-then-valid-clause-styled : goal.returns-then-valid-clause-styled
returns-then-valid-clause-styled g c = λ p q.
    let some = sym c.is_empty.ensures ∙ c.if-is_empty.false in
    has_written_styled_of_eq g.W.Write.write_str_gives _ _ _ _
    (shows_lossy_text (padded _) c.split_text.ensures some)
    (c.write_lossy.ensures.styled p q)

pub returns-clause-writes : goal.returns-clause-writes
returns-clause-writes g c =
    grind (arith, common_steps, has_written_of_eq, lossy_of-split, has_written_append)

pub returns-clause-styled : goal.returns-clause-styled
returns-clause-styled g c = λ p q.
    let took = g.W.Write.write_str_gives in
    let first = c.in_ok-write_chunk.ensures.styled p (refl {a = true}) in
    let some = sym c.is_empty.ensures ∙ c.if-is_empty.false in
    has_written_styled_of_eq took _ _ _ _
    (lossy_of-split c.split_text.ensures ∙ shows_lossy_text (padded _) c.split_text.ensures some)
    (has_written_styled_append took _ _ _ _ _ first (c.write_lossy-2.ensures.styled first.flush q))
