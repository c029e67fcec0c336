use Rattle.std.proofs.Common.{◌∙◌, [], ap, append-nil, inl, refl}
use Rattle.std.proofs.KnownBytes.{Appends-kept, Consumes-whole}
use Rattle.pathtool.specs.Answers.{output_of}
use Rattle.byte_streams.proofs.lemmas.CallLemmas.{Many-none}
use Rattle.byte_streams.proofs.lemmas.WriteLemmas.{AppendsPrefix-of, OnErr-of}
use Rattle.pathtool.proofs.run.run.Goals as goal

pub returns-then-is_err-clause-err : goal.returns-then-is_err-clause-err
returns-then-is_err-clause-err g c =
    let input = c.in_ok-input.ensures in
    Consumes-whole _ _ c.in_ok-input.input.items _ input.bytes input.at_end
    (AppendsPrefix-of _ _ _ [] _
    (Appends-kept _ _ _ _ c.in_ok-write_answers.ensures.ok c.flush_once.ensures.bytes)
    (append-nil _ ∙ ap output_of c.as_slice.ensures.value))

pub returns-in_err-input-clause-gave_up : goal.returns-in_err-input-clause-gave_up
returns-in_err-input-clause-gave_up g c =
    OnErr-of c.from_residual.result (inl (_, Many-none _, inl refl))
