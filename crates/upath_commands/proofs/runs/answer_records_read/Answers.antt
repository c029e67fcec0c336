use Rattle.std.proofs.Common.{◌≡◌, rules, ap, sym, ◌∙◌}
use Rattle.byte_streams.specs.Watched.{watched_inner}
use Rattle.upath_commands.specs.Answers.{end_of}
use Rattle.upath_commands.specs.Records.{paths_of, records_of}
use Rattle.upath_commands.specs.Sorting.{firsts_if}
use Rattle.upath_commands.proofs.lemmas.CallLemmas.{reading_nothing}
use Rattle.upath_commands.proofs.lemmas.ReplyLemmas.{not_read_error, on_err, on_ok, IfSome-use}
use Rattle.upath_commands.proofs.lemmas.RunLemmas.{chosen_streamed}
use Rattle.upath_commands.proofs.runs.answer_records_read.Goals as goal

pub returns-in_err-input : goal.returns-in_err-input
returns-in_err-input g c =
    let k = c.in_err-input.ensures.reads in
    reading_nothing g.W.Sink g.E.Sink g.R.Source _ c.from_residual.result _ _ _ _ (search rules)
    (k.failed ∙ search rules) (c.requires.write ∙ search rules) k.reads

pub returns-in_err-paths : goal.returns-in_err-paths
returns-in_err-paths g c =
    let k = c.in_ok-input.ensures.reads in
    reading_nothing g.W.Sink g.E.Sink g.R.Source _ c.from_residual-in_err-paths.result _ _ _ _
    (search rules) (k.failed ∙ search rules) (c.requires.write ∙ search rules) k.reads

pub returns-then-is_gathered : goal.returns-then-is_gathered
returns-then-is_gathered g c =
    let last = c.answer_gathered.ensures in
    let end = end_of c.args.task.now.options in record {
      ok = on_ok c.answer_gathered.result
          (λ h. IfSome-use (g.R.Source.remaining (watched_inner c.args.reader.now))
          c.in_ok-input.ensures.bytes (λ input b.
          let e : paths_of c.in_ok-paths.paths.items ≡ records_of end input = c.in_ok-paths.ensures
          ∙ ap (λ end. records_of end c.as_slice.result.now) c.end_of.ensures
          ∙ ap (records_of end) (c.as_slice.ensures.value ∙ b) in
          rw (sym e) h)) last.ok;
      err = on_err c.answer_gathered.result
          (λ h. IfSome-use (g.R.Source.remaining (watched_inner c.args.reader.now))
          c.in_ok-input.ensures.bytes (λ input b.
          let e : paths_of c.in_ok-paths.paths.items ≡ records_of end input = c.in_ok-paths.ensures
          ∙ ap (λ end. records_of end c.as_slice.result.now) c.end_of.ensures
          ∙ ap (records_of end) (c.as_slice.ensures.value ∙ b) in
          rw (sym e) h)) last.err;
      called = last.called;
      reads = record {
        failed = c.in_ok-input.ensures.reads.failed
            ∙ sym (not_read_error c.answer_gathered.result last.no_read);
        reads = c.in_ok-input.ensures.reads.reads;
      };
    }

pub returns : goal.returns
returns g c =
    let task = c.args.task.now in
    let last = c.answer_input.ensures in record {
      ok = on_ok c.answer_input.result
          (λ k. IfSome-use (g.R.Source.remaining (watched_inner c.args.reader.now)) k (λ input h.
          let paths = records_of (end_of task.options) input in
          rw (sym (c.new-selection.ensures paths
          ∙ ap (λ is. firsts_if is paths) c.is_uniq.ensures
          ∙ chosen_streamed task.command task.options paths
          (sym c.is_gathered.ensures ∙ c.if-is_gathered.false)))
          h)) last.ok;
      err = on_err c.answer_input.result
          (λ k. IfSome-use (g.R.Source.remaining (watched_inner c.args.reader.now)) k (λ input h.
          let paths = records_of (end_of task.options) input in
          rw (sym (c.new-selection.ensures paths
          ∙ ap (λ is. firsts_if is paths) c.is_uniq.ensures
          ∙ chosen_streamed task.command task.options paths
          (sym c.is_gathered.ensures ∙ c.if-is_gathered.false)))
          h)) last.err;
      called = last.called;
      reads = last.reads;
    }
