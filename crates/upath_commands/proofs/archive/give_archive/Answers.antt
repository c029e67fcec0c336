use Rattle.std.proofs.Common.{rules, inl, sym, ◌∙◌}
use Rattle.byte_streams.specs.Watched.{watched_inner}
use Rattle.upath_commands.specs.Archives.{OnArchive}
use Rattle.upath_commands.proofs.lemmas.GiveLemmas.{gave_archive, gave_no_output, gave_none}
use Rattle.upath_commands.proofs.lemmas.GiveLemmas.{gave_output}
use Rattle.upath_commands.proofs.lemmas.ReplyLemmas.{IfSome-use}
use Rattle.upath_commands.proofs.archive.give_archive.Goals as goal

pub returns-in_err-input-clause-gave : goal.returns-in_err-input-clause-gave
returns-in_err-input-clause-gave g c =
    gave_none g.W.Sink g.E.Sink c.from_residual.result _ _ _ _ _ (search rules)
    (c.requires.new.write_failed ∙ search rules) (λ input none. inl none)

pub returns-in_err-input-clause-reads : goal.returns-in_err-input-clause-reads
returns-in_err-input-clause-reads g c =
    let k = c.in_err-input.ensures.reads in
    record { failed = k.failed ∙ search rules; reads = k.reads }

pub returns-in_err-decision-clause-gave : goal.returns-in_err-decision-clause-gave
returns-in_err-decision-clause-gave g c =
    gave_none g.W.Sink g.E.Sink c.from_residual-in_err-decision.result _ _ _ _ _ (search rules)
    (c.requires.new.write_failed ∙ search rules) (λ input none. inl none)

pub returns-in_err-decision-clause-reads : goal.returns-in_err-decision-clause-reads
returns-in_err-decision-clause-reads g c =
    let k = c.in_ok-input.ensures.reads in
    record { failed = k.failed ∙ search rules; reads = k.reads }

pub returns-in_err-add-clause-gave : goal.returns-in_err-add-clause-gave
unfolding OnArchive
returns-in_err-add-clause-gave g c =
    let known = g.R.Source.remaining (watched_inner c.args.reader.now) in
    let k = c.in_err-add.ensures.emitted in
    gave_archive g.W.Sink g.E.Sink c.from_residual-in_err-add.result _ _ known c.args.options
    c.in_ok-decision.decision
    (IfSome-use known c.in_ok-input.ensures.bytes (λ input b.
    rw (sym (c.as_slice.ensures.value ∙ b)) c.in_ok-decision.ensures.texts))
    (IfSome-use known c.in_ok-input.ensures.bytes (λ input b.
    rw (sym (c.as_slice.ensures.value ∙ b)) c.in_ok-decision.ensures.safe))
    (rw (sym c.as_slice-2.ensures.value) (rw (sym c.as_slice-3.ensures.value)
    (gave_no_output g.W.Sink g.E.Sink _ c.from_residual-in_err-add.result _ _ _ _ _ (search rules)
    (k.wrote.failed ∙ search rules) k c.send.ensures)))

pub returns-in_err-add-clause-reads : goal.returns-in_err-add-clause-reads
returns-in_err-add-clause-reads g c =
    let k = c.in_ok-input.ensures.reads in
    record { failed = k.failed ∙ search rules; reads = k.reads }

pub returns-clause-gave : goal.returns-clause-gave
unfolding OnArchive
returns-clause-gave g c =
    let known = g.R.Source.remaining (watched_inner c.args.reader.now) in
    gave_archive g.W.Sink g.E.Sink _ _ _ known c.args.options c.in_ok-decision.decision
    (IfSome-use known c.in_ok-input.ensures.bytes (λ input b.
    rw (sym (c.as_slice.ensures.value ∙ b)) c.in_ok-decision.ensures.texts))
    (IfSome-use known c.in_ok-input.ensures.bytes (λ input b.
    rw (sym (c.as_slice.ensures.value ∙ b)) c.in_ok-decision.ensures.safe))
    (rw (sym c.as_slice-2.ensures.value) (rw (sym c.as_slice-3.ensures.value)
    (gave_output g.W.Sink g.E.Sink _ _ _ _ _ c.in_ok-add.ensures.emitted c.send.ensures)))

pub returns-clause-reads : goal.returns-clause-reads
returns-clause-reads g c =
    let k = c.in_ok-input.ensures.reads in record { failed = k.failed; reads = k.reads }
