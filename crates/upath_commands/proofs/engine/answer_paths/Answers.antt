use Rattle.std.proofs.Common.{rules, arith, ◌∙◌}
use Rattle.byte_streams.proofs.lemmas.CallLemmas.{WritesUntilNone-then}
use Rattle.upath_commands.proofs.lemmas.CallLemmas.{replied_all, replied_stopped, Speaks-then}
use Rattle.upath_commands.proofs.lemmas.CallLemmas.{went_none, went_then}
use Rattle.upath_commands.proofs.lemmas.PathLemmas.{Passed-at, Passed-done, Passed-end}
use Rattle.upath_commands.proofs.lemmas.PathLemmas.{Passed-fail, Passed-init, Passed-next}
use Rattle.upath_commands.proofs.lemmas.PathLemmas.{Passed-rest}
use Rattle.upath_commands.proofs.engine.answer_paths.Goals as goal

pub loop-index-init : goal.loop-index-init
loop-index-init g c =
    (search rules, went_none g.W.Sink g.E.Sink _, Passed-init _ _ _ _)

pub returns-in_err-answer_next-clause-replied : goal.returns-in_err-answer_next-clause-replied
returns-in_err-answer_next-clause-replied g c =
    let (a, went, passed) = c.loop-index.invariant in
    let k = c.in_err-answer_next.ensures.replied in
    replied_stopped g.W.Sink g.E.Sink _ c.from_residual.result _ _ _ (search rules) (search rules)
    (k.called.wrote.failed ∙ search rules)
    (Passed-fail _ _ c.loop-index.selection _ _ _ _ _ _
    (Passed-at _ _ c.loop-index.selection _ c.args.paths.now c.loop-index.index _ _ _
    (search rules) passed) k.err)
    (WritesUntilNone-then g.W.Sink.write_gives went.writes k.called.wrote.gave_up)
    (Speaks-then g.E.Sink _ _ _ went.speaks k.called.speaks)

pub loop-index-preserved : goal.loop-index-preserved
loop-index-preserved g c =
    let (a, went, passed) = c.loop-index.invariant in
    let k = c.in_ok-answer_next.ensures.replied in (
      k.called.wrote.failed,
      went_then g.W.Sink g.E.Sink _ _ _ _ went k.called,
      Passed-next _ _ c.loop-index.selection _ _ _ _ _ _ _
          (Passed-at _ _ c.loop-index.selection _ c.args.paths.now c.loop-index.index _ _ _
          (search rules) passed)
          c.in_ok-answer_next.ensures.rest k.ok,
    )

pub returns-clause-replied : goal.returns-clause-replied
returns-clause-replied g c =
    let (a, went, passed) = c.loop-index.invariant in
    replied_all g.W.Sink g.E.Sink _ _ _ _ _ a
    (Passed-end _ _ _ _ _ _
    (Passed-done _ _ c.loop-index.selection _ c.args.paths.now c.loop-index.index _ _
    (omega arith) passed)) went

pub returns-clause-rest : goal.returns-clause-rest
returns-clause-rest g c =
    let (a, went, passed) = c.loop-index.invariant in
    Passed-rest _ _ _ _ _ _
    (Passed-done _ _ c.loop-index.selection _ c.args.paths.now c.loop-index.index _ _
    (omega arith) passed)
