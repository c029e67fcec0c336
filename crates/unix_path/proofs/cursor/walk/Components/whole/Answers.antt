use Rattle.std.proofs.lemmas.Grind.{common_steps}
use Rattle.std.proofs.Common.{length, sym, ap, ◌∙◌, arith, take_all}
use Rattle.unix_path.specs.Steps.{IsWalk}
use Rattle.unix_path.specs.Cursor.{cursor_rest}
use Rattle.unix_path.specs.Parts.{parts}
use Rattle.unix_path.proofs.lemmas.walks.OffsetLemmas.{is_filler-same, range-zero}
use Rattle.unix_path.proofs.lemmas.steps.SpanLemmas.{rest-trimmed}
use Rattle.unix_path.proofs.lemmas.filler.TrimLemmas.{EndsInPart-take}
use Rattle.unix_path.proofs.cursor.walk.Components.whole.Goals as goal

pub invariant_of-result : goal.invariant_of-result
unfolding IsWalk
invariant_of-result c =
    grind (arith, common_steps, range-zero, take_all, EndsInPart-take, is_filler-same)

pub returns-clause-rest : goal.returns-clause-rest
unfolding cursor_rest IsWalk
returns-clause-rest c =
    let path = c.args.path.now in
    let end = c.trimmed_len in
    range-zero path end.result
    ∙ sym (rest-trimmed path end.result end.ensures.in_range
    (end.ensures.same ∙ ap parts (take_all (length path) path (omega arith)))
    (EndsInPart-take path end.result end.ensures.in_range end.ensures.ends))
