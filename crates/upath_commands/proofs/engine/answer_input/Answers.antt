use Rattle.std.proofs.Common.{rules, arith, refl, ap, sym, ◌∙◌, take, inl, inr}
use Rattle.std.proofs.lemmas.List.{take_rest}
use Rattle.byte_streams.proofs.lemmas.CallLemmas.{Many-more, Many-none, Many-then}
use Rattle.byte_streams.proofs.lemmas.CallLemmas.{WritesUntilNone-then}
use Rattle.upath_commands.specs.Invocations.{task_value}
use Rattle.upath_commands.proofs.lemmas.BlockLemmas.{Reading-init, Reading-stop}
use Rattle.upath_commands.proofs.lemmas.BlockLemmas.{Reading-wait, Reading-wait_fail}
use Rattle.upath_commands.proofs.lemmas.BlockLemmas.{Reading-more, Reading-block}
use Rattle.upath_commands.proofs.lemmas.BlockLemmas.{Reading-block_fail, Reading-end}
use Rattle.upath_commands.proofs.lemmas.BlockLemmas.{Reading-end_fail}
use Rattle.upath_commands.proofs.lemmas.CallLemmas.{called_then, reading_stopped, Speaks-then}
use Rattle.upath_commands.proofs.lemmas.CallLemmas.{went_none, went_then, went_wrote}
use Rattle.upath_commands.proofs.lemmas.ReplyLemmas.{not_read_error, on_err, on_ok, Stopped-same}
use Rattle.upath_commands.proofs.lemmas.WaitLemmas.{waited, wait_failed}
use Rattle.upath_commands.proofs.engine.answer_input.Goals as goal

pub loop-init : goal.loop-init
loop-init g c = (
  search rules,
  search rules,
  rw c.new-records.ensures.items (Reading-init _ _ _ _ _),
  went_none g.W.Sink g.E.Sink _,
  Many-none _,
)

pub returns-in_err-write_out : goal.returns-in_err-write_out
returns-in_err-write_out g c =
    let (a, b, reading, went, reads) = c.loop.invariant in
    let k = c.in_err-write_out.ensures.emitted in
    reading_stopped g.W.Sink g.E.Sink g.R.Source _ c.from_residual.result
    _ _ _ _ _ (search rules) (search rules) (k.wrote.failed ∙ search rules)
    (Reading-wait_fail _ _ _ _ _ _ c.loop.selection _ _ _ reading
    (wait_failed (task_value c.args.task.now) _ _ refl refl k.err))
    (WritesUntilNone-then g.W.Sink.write_gives went.writes k.wrote.gave_up) went.speaks
    (_, reads, inl refl)

pub returns-in_err-count : goal.returns-in_err-count
returns-in_err-count g c =
    let (a, b, reading, went, reads) = c.loop.invariant in
    let k = c.in_ok-write_out.ensures.emitted in
    reading_stopped g.W.Sink g.E.Sink g.R.Source _ c.from_residual-in_err-count.result
    _ _ _ _ _ (search rules) (search rules) (k.wrote.failed ∙ search rules)
    (Reading-stop _ _ _ _ _ _ c.loop.selection _ _
    (Reading-wait _ _ _ _ _ _ c.loop.selection _ _ _ reading
    (waited _ _ _ refl refl k.ok refl refl)))
    (_, Many-then went.writes k.wrote.writes, inl refl) went.speaks
    (_, reads, inr c.in_err-count.ensures.err)

pub returns-in_err-extend_from_slice : goal.returns-in_err-extend_from_slice
returns-in_err-extend_from_slice g c =
    let (a, b, reading, went, reads) = c.loop.invariant in
    let k = c.in_ok-write_out.ensures.emitted in
    reading_stopped g.W.Sink g.E.Sink g.R.Source _ c.from_residual-in_err-extend_from_slice.result
    _ _ _ _ _ (search rules) (search rules) (k.wrote.failed ∙ search rules)
    (Reading-stop _ _ _ _ _ _ c.loop.selection _ _
    (Reading-wait _ _ _ _ _ _ c.loop.selection _ _ _ reading
    (waited _ _ _ refl refl k.ok refl refl)))
    (_, Many-then went.writes k.wrote.writes, inl refl) went.speaks (
      _,
      Many-more reads
          (c.in_ok-count.ensures.some (omega (arith, c.if-count-eq0.false))),
      inl refl,
    )

pub returns-in_err-extend_from_slice-2 : goal.returns-in_err-extend_from_slice-2
returns-in_err-extend_from_slice-2 g c =
    let (a, b, reading, went, reads) = c.loop.invariant in
    let k = c.in_ok-write_out.ensures.emitted in
    reading_stopped g.W.Sink g.E.Sink g.R.Source _ c.from_residual-in_err-extend_from_slice-2.result
    _ _ _ _ _ (search rules) (search rules) (k.wrote.failed ∙ search rules)
    (Reading-stop _ _ _ _ _ _ c.loop.selection _ _
    (Reading-wait _ _ _ _ _ _ c.loop.selection _ _ _ reading
    (waited _ _ _ refl refl k.ok refl refl)))
    (_, Many-then went.writes k.wrote.writes, inl refl) went.speaks (
      _,
      Many-more reads
          (c.in_ok-count.ensures.some (omega (arith, c.if-count-eq0.false))),
      inl refl,
    )

pub returns-then-count-eq0 : goal.returns-then-count-eq0
returns-then-count-eq0 g c =
    let (a, b, reading, went, reads) = c.loop.invariant in
    let k = c.in_ok-write_out.ensures.emitted in
    let last = c.answer_records.ensures.replied in record {
      ok = on_ok c.answer_records.result
          (λ h. Reading-end _ _ _ _ _ _ c.loop.selection _ _ _ _ _ _
          (Reading-wait _ _ _ _ _ _ c.loop.selection _ _ _ reading
          (waited _ _ _ refl refl k.ok refl refl))
          (ap (λ n. take n c.read_some.new.chunk) c.if-count-eq0.true)
          c.in_ok-count.ensures.bytes.0
          (c.in_ok-count.ensures.bytes.1 c.if-count-eq0.true (search rules))
          c.as_slice.ensures.value h) last.ok;
      err = on_err c.answer_records.result
          (λ h. Reading-end_fail _ _ _ _ _ _ c.loop.selection _ _ _ _ _ _
          (Reading-wait _ _ _ _ _ _ c.loop.selection _ _ _ reading
          (waited _ _ _ refl refl k.ok refl refl))
          (ap (λ n. take n c.read_some.new.chunk) c.if-count-eq0.true)
          c.in_ok-count.ensures.bytes.0
          (c.in_ok-count.ensures.bytes.1 c.if-count-eq0.true (search rules))
          c.as_slice.ensures.value h) last.err;
      called = called_then g.W.Sink g.E.Sink c.answer_records.result _ _ _
          (went_wrote g.W.Sink g.E.Sink _ _ _ _ went k.wrote refl) last.called;
      reads = record {
        failed = c.in_ok-count.ensures.read
            ∙ sym (not_read_error c.answer_records.result last.no_read);
        reads = (_, reads, inr (c.in_ok-count.ensures.none c.if-count-eq0.true));
      };
    }

pub loop-preserved-then-len-eq0 : goal.loop-preserved-then-len-eq0
loop-preserved-then-len-eq0 g c =
    let (a, b, reading, went, reads) = c.loop.invariant in
    let k = c.in_ok-write_out.ensures.emitted in (
      k.wrote.failed,
      c.in_ok-count.ensures.read,
      rw c.in_ok-extend_from_slice.ensures.items
          (Reading-more _ _ _ _ _ _ c.loop.selection _ _ _ _
          (Reading-wait _ _ _ _ _ _ c.loop.selection _ _ _ reading
          (waited _ _ _ refl refl k.ok refl refl))
          c.in_ok-count.ensures.bytes.0),
      went_wrote g.W.Sink g.E.Sink _ _ _ _ went k.wrote refl,
      Many-more reads
          (c.in_ok-count.ensures.some (omega (arith, c.if-count-eq0.false))),
    )

pub returns-in_err-answer_records : goal.returns-in_err-answer_records
returns-in_err-answer_records g c =
    let (a, b, reading, went, reads) = c.loop.invariant in
    let k = c.in_ok-write_out.ensures.emitted in
    let last = c.in_err-answer_records.ensures.replied in
    reading_stopped g.W.Sink g.E.Sink g.R.Source _ c.from_residual-in_err-answer_records.result
    _ _ _ _ _ (search rules)
    (c.in_ok-count.ensures.read ∙ sym (not_read_error c.from_residual-in_err-answer_records.result
    (let unread = last.no_read in search rules))) (last.called.wrote.failed ∙ search rules)
    (Reading-block_fail _ _ _ _ _ _ c.loop.selection _ _ _ _
    c.as_slice-in-loop.result.now c.after_last-len.result
    (omega (arith, c.if-len-eq0.false)) c.after_last-len.ensures.in_range
    (c.after_last-len.ensures.after (omega (arith, c.if-len-eq0.false)) ∙ c.end_of-end.ensures)
    (c.as_slice-in-loop.ensures.value ∙ c.in_ok-extend_from_slice-2.ensures.items)
    c.in_ok-count.ensures.bytes.0 _
    (Reading-wait _ _ _ _ _ _ c.loop.selection _ _ _ reading
    (waited _ _ _ refl refl k.ok refl refl)) last.err)
    (WritesUntilNone-then g.W.Sink.write_gives (Many-then went.writes k.wrote.writes)
    last.called.wrote.gave_up) (Speaks-then g.E.Sink _ _ _ went.speaks last.called.speaks) (
      _,
      Many-more reads
          (c.in_ok-count.ensures.some (omega (arith, c.if-count-eq0.false))),
      inl refl,
    )

pub returns-in_err-extend_from_slice-3 : goal.returns-in_err-extend_from_slice-3
returns-in_err-extend_from_slice-3 g c =
    let (a, b, reading, went, reads) = c.loop.invariant in
    let k = c.in_ok-write_out.ensures.emitted in
    let last = c.in_ok-answer_records.ensures.replied in
    reading_stopped g.W.Sink g.E.Sink g.R.Source _ c.from_residual-in_err-extend_from_slice-3.result
    _ _ _ _ _ (search rules) (search rules) (last.called.wrote.failed ∙ search rules)
    (Reading-block_fail _ _ _ _ _ _ c.loop.selection _ _ _ _
    c.as_slice-in-loop.result.now c.after_last-len.result
    (omega (arith, c.if-len-eq0.false)) c.after_last-len.ensures.in_range
    (c.after_last-len.ensures.after (omega (arith, c.if-len-eq0.false)) ∙ c.end_of-end.ensures)
    (c.as_slice-in-loop.ensures.value ∙ c.in_ok-extend_from_slice-2.ensures.items)
    c.in_ok-count.ensures.bytes.0 _
    (Reading-wait _ _ _ _ _ _ c.loop.selection _ _ _ reading
    (waited _ _ _ refl refl k.ok refl refl)) (Stopped-same _ _ _ _ last.ok))
    (_, Many-then (Many-then went.writes k.wrote.writes) last.called.wrote.writes, inl refl)
    (Speaks-then g.E.Sink _ _ _ went.speaks last.called.speaks) (
      _,
      Many-more reads
          (c.in_ok-count.ensures.some (omega (arith, c.if-count-eq0.false))),
      inl refl,
    )

pub loop-preserved : goal.loop-preserved
loop-preserved g c =
    let (a, b, reading, went, reads) = c.loop.invariant in
    let k = c.in_ok-write_out.ensures.emitted in
    let last = c.in_ok-answer_records.ensures.replied in
    let got = take c.in_ok-count.count c.read_some.new.chunk in (
      last.called.wrote.failed,
      c.in_ok-count.ensures.read,
      rw c.in_ok-extend_from_slice-3.ensures.items (rw c.clear.ensures.items
          (rw (take_rest got c.after_last-len.result)
          (Reading-block _ _ _ _ _ _ c.loop.selection _ _ _ _
          c.as_slice-in-loop.result.now c.after_last-len.result
          (omega (arith, c.if-len-eq0.false)) c.after_last-len.ensures.in_range
          (c.after_last-len.ensures.after (omega (arith, c.if-len-eq0.false))
          ∙ c.end_of-end.ensures)
          (c.as_slice-in-loop.ensures.value ∙ c.in_ok-extend_from_slice-2.ensures.items)
          c.in_ok-count.ensures.bytes.0 _ _
          (Reading-wait _ _ _ _ _ _ c.loop.selection _ _ _ reading
          (waited _ _ _ refl refl k.ok refl refl))
          last.ok c.in_ok-answer_records.ensures.rest))),
      went_then g.W.Sink g.E.Sink _ _ _ _
          (went_wrote g.W.Sink g.E.Sink _ _ _ _ went k.wrote refl) last.called,
      Many-more reads
          (c.in_ok-count.ensures.some (omega (arith, c.if-count-eq0.false))),
    )

pub returns : goal.returns
returns g c =
    let (a, b, reading, went, reads) = c.loop.invariant in
    reading_stopped g.W.Sink g.E.Sink g.R.Source _ _ _ _ _ _ _ refl b a
    (Reading-stop _ _ _ _ _ _ c.loop.selection _ _ reading)
    (_, went.writes, inl refl) went.speaks (_, reads, inl refl)
