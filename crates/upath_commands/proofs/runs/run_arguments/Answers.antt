use Rattle.std.proofs.Common.{inl, refl, sym}
use Rattle.byte_streams.proofs.lemmas.CallLemmas.{Many-none}
use Rattle.byte_streams.proofs.lemmas.WriteLemmas.{OnErr-of}
use Rattle.upath_commands.specs.Arguments.{meaning_of}
use Rattle.upath_commands.specs.Records.{paths_of}
use Rattle.upath_commands.specs.Runs.{hides_errors}
use Rattle.upath_commands.proofs.lemmas.ArchiveLemmas.{OnBegun-arguments}
use Rattle.upath_commands.proofs.lemmas.OutputLemmas.{Tells-none}
use Rattle.upath_commands.proofs.lemmas.ReplyLemmas.{IfSome-all}
use Rattle.upath_commands.proofs.runs.run_arguments.Goals as goal

pub returns-in-Err-clause-reads : goal.returns-in-Err-clause-reads
returns-in-Err-clause-reads g c = (_, Many-none _, inl refl)

pub returns-in-Err-clause-gave_up : goal.returns-in-Err-clause-gave_up
returns-in-Err-clause-gave_up g c = inl (_, Many-none _, inl refl)

pub returns-in-Err-clause-spoke : goal.returns-in-Err-clause-spoke
returns-in-Err-clause-spoke g c = λ hears. Many-none _

pub returns-in-Err-clause-err : goal.returns-in-Err-clause-err
returns-in-Err-clause-err g c =
    let meaning = meaning_of (paths_of c.args.arguments.now) in
    IfSome-all _ (λ input. OnBegun-arguments _ _ (hides_errors meaning) c.args.texts meaning input
    refl (Tells-none _ _))

pub returns-in-Ok-Err-clause-reads : goal.returns-in-Ok-Err-clause-reads
returns-in-Ok-Err-clause-reads g c = (_, Many-none _, inl refl)

pub returns-in-Ok-Err-clause-gave_up : goal.returns-in-Ok-Err-clause-gave_up
returns-in-Ok-Err-clause-gave_up g c =
    OnErr-of c.refuse.result
    (rw c.refuse.ensures.unwritten (inl (_, Many-none _, inl refl)))

pub returns-in-Ok-Ok-clause-err : goal.returns-in-Ok-Ok-clause-err
returns-in-Ok-Ok-clause-err g c =
    rw (sym (rw c.in-Ok-Ok.field-0-is at c.in-Ok-Ok.ensures)) c.run_invocation.ensures.reported.err
