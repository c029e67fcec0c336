use Rattle.std.proofs.Common.{sym, ◌∙◌}
use Rattle.std.proofs.lemmas.Bool.{eqb-true}
use Rattle.unix_bytes.proofs.lemmas.lossy.LossyLemmas.{lossy_of-text}
use Rattle.unix_bytes.proofs.lemmas.prefixes.PushLemmas.{all_is_text, not_text, lossy_of-split}
use Rattle.unix_bytes.proofs.bytes.UnixStr.to_string_lossy.Goals as goal

pub returns-then-is_empty-clause-value : goal.returns-then-is_empty-clause-value
returns-then-is_empty-clause-value c =
    let s = c.args.self.bytes.now in
    let none = eqb-true _ 0 (sym c.is_empty.ensures ∙ c.if-is_empty.true) in
    let only = all_is_text c.split_text.ensures none in
    only.0 ∙ sym (lossy_of-text s only.1)

pub returns-then-is_empty-clause-borrowed : goal.returns-then-is_empty-clause-borrowed
returns-then-is_empty-clause-borrowed c =
    let none = eqb-true _ 0 (sym c.is_empty.ensures ∙ c.if-is_empty.true) in
    let only = all_is_text c.split_text.ensures none in
    (λ _. only.1, λ _. tt)

pub returns-in_err-lossy-clause-succeeds : goal.returns-in_err-lossy-clause-succeeds
returns-in_err-lossy-clause-succeeds c = λ text.
    let some = sym c.is_empty.ensures ∙ c.if-is_empty.false in
    absurd (not_text c.split_text.ensures some text)

pub returns-clause-value : goal.returns-clause-value
returns-clause-value c = c.in_ok-lossy.ensures ∙ lossy_of-split c.split_text.ensures

pub returns-clause-borrowed : goal.returns-clause-borrowed
returns-clause-borrowed c =
    let some = sym c.is_empty.ensures ∙ c.if-is_empty.false in
    (λ none. absurd none, not_text c.split_text.ensures some)
