use Rattle.std.proofs.Common.{[], ◌++◌, ◌∷◌, ◌∙◌, append_assoc, subst, rules, arith, eqb-true}
use Rattle.std.proofs.Common.{inr}
use Rattle.std.specs.Io.KnownBytes.{Appends}
use Rattle.std.proofs.KnownBytes.{Appends-trans}
use Rattle.std.proofs.lemmas.List.{nil_from_length}
use Rattle.std.proofs.lemmas.Grind.{common_steps}
use Rattle.pathtool.specs.Answers.{answer_of, output_of}
use Rattle.pathtool.specs.Steps.{newline}
use Rattle.byte_streams.specs.Watched.{AppendsPrefix}
use Rattle.pathtool.proofs.LineLemmas.{output_of-done, output_of-next, writes_answer}
use Rattle.byte_streams.proofs.lemmas.CallLemmas.{Many-none, Many-then}
use Rattle.byte_streams.proofs.lemmas.WriteLemmas.{AppendsPrefix-of, AppendsPrefix-then}
use Rattle.byte_streams.proofs.lemmas.WriteLemmas.{OnErr-of}
use Rattle.pathtool.proofs.run.write_answers.Goals as goal

pub returns-in_err-push_answer_line-clause-err : goal.returns-in_err-push_answer_line-clause-err
returns-in_err-push_answer_line-clause-err g c =
    let (done, h, e) = c.loop-unanswered.invariant.1 in
    OnErr-of c.from_residual.result (AppendsPrefix-of _ _ done _ _ h e)

pub loop-unanswered-init : goal.loop-unanswered-init
loop-unanswered-init g c =
    (search rules, ([], grind (arith, common_steps), search rules), Many-none _)

pub loop-unanswered-preserved : goal.loop-unanswered-preserved
loop-unanswered-preserved g c =
    let (done, h, e) = c.loop-unanswered.invariant.1 in
    let (line, rest) = c.first_line.result in
    let answer = answer_of line.now ++ newline ∷ [] in
    let next = writes_answer line.now c.as_slice.ensures.value c.in_ok-push_answer_line.ensures
    c.clear.ensures.items in (
      search rules,
      (
        done ++ answer,
        Appends-trans _ _ _ done answer h
            (subst (Appends _ _) next c.in-Ok.ensures.ok),
        append_assoc done answer (output_of rest.now)
            ∙ output_of-next _ line.now rest.now done _ c.first_line.ensures.value e,
      ),
      Many-then c.loop-unanswered.invariant.2 c.in-Ok.ensures.writes,
    )

pub returns-clause-ok : goal.returns-clause-ok
returns-clause-ok g c =
    let (done, h, e) = c.loop-unanswered.invariant.1 in
    let none = nil_from_length _ (eqb-true _ 0 (search rules)) in
    subst (Appends _ _) (output_of-done done _ _ none e) h

pub returns-in-Err-clause-err : goal.returns-in-Err-clause-err
returns-in-Err-clause-err g c =
    let (done, h, e) = c.loop-unanswered.invariant.1 in
    let (line, rest) = c.first_line.result in
    let next = writes_answer line.now c.as_slice.ensures.value c.in_ok-push_answer_line.ensures
    c.clear.ensures.items in
    AppendsPrefix-then _ _ _ done (answer_of line.now ++ newline ∷ []) (output_of rest.now) _ h
    (subst (AppendsPrefix _ _) next c.in-Err.ensures.err)
    (output_of-next _ line.now rest.now done _ c.first_line.ensures.value e)

pub returns-in-Err-clause-gave_up : goal.returns-in-Err-clause-gave_up
returns-in-Err-clause-gave_up g c =
    let (s, calls, last) = c.in-Err.ensures.gave_up in
    (s, Many-then c.loop-unanswered.invariant.2 calls, inr last)
