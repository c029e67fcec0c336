use Rattle.std.proofs.Common.{arith, ap, ◌∙◌, sym, drop, length-drop}
use Rattle.std.proofs.lemmas.List.{drop_all, take_rest}
use Rattle.std.specs.Io.BufRead.{first_piece}
use Rattle.upath_commands.proofs.lemmas.RecordLemmas.{first_piece-le, records_done, records_taken}
use Rattle.upath_commands.proofs.records.records_in.Goals as goal

pub loop-at-preserved-then-at-input : goal.loop-at-preserved-then-at-input
loop-at-preserved-then-at-input c =
    let (bound, so_far) = c.loop-at.invariant in (
      omega arith,
      records_taken c.args.end c.args.input.now c.loop-at.at _ _ _ _ c.loop-at-test.true
          (c.from_bytes-path.ensures.bytes ∙ c.first_record.ensures
          ∙ ap (first_piece c.args.end) (take_rest c.args.input.now c.loop-at.at))
          (ap (λ n. drop n c.args.input.now) (omega arith)) c.in_ok-push.ensures.items so_far,
    )

pub loop-at-preserved : goal.loop-at-preserved
loop-at-preserved c =
    let (bound, so_far) = c.loop-at.invariant in
    let is = c.from_bytes-path.ensures.bytes ∙ c.first_record.ensures
    ∙ ap (first_piece c.args.end) (take_rest c.args.input.now c.loop-at.at) in (
      omega (arith, first_piece-le c.args.end _ _ is, length-drop c.loop-at.at c.args.input.now),
      records_taken c.args.end c.args.input.now c.loop-at.at _ _ _ _ c.loop-at-test.true is
          (drop_all _ c.args.input.now (omega arith)
          ∙ sym (drop_all _ c.args.input.now (omega arith)))
          c.in_ok-push.ensures.items so_far,
    )

pub returns : goal.returns
returns c = records_done _ c.args.input.now c.loop-at.at _ (omega arith) c.loop-at.invariant.1
