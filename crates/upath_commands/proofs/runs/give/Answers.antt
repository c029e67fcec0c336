use Rattle.std.proofs.Common.{rules, sym}
use Rattle.upath_commands.proofs.lemmas.CallLemmas.{unread}
use Rattle.upath_commands.proofs.lemmas.GiveLemmas.{gave_nothing}
use Rattle.upath_commands.proofs.runs.give.Goals as goal

pub returns-in-Help-clause-reads : goal.returns-in-Help-clause-reads
returns-in-Help-clause-reads g c =
    unread g.R.Source c.give_text.result _ c.requires.read c.give_text.ensures.no_read

pub returns-in-Version-clause-reads : goal.returns-in-Version-clause-reads
returns-in-Version-clause-reads g c =
    unread g.R.Source c.give_text-in-Version.result _ c.requires.read
    c.give_text-in-Version.ensures.no_read

pub returns-in-Equal-clause-gave : goal.returns-in-Equal-clause-gave
returns-in-Equal-clause-gave g c =
    rw c.in-Equal.is
    (gave_nothing g.W.Sink g.E.Sink c.eq.result _ _ c.requires.new.write_failed (search rules))

pub returns-in-Equal-clause-reads : goal.returns-in-Equal-clause-reads
returns-in-Equal-clause-reads g c = unread g.R.Source _ _ c.requires.read tt

pub returns-in-Some-clause-reads : goal.returns-in-Some-clause-reads
returns-in-Some-clause-reads g c =
    unread g.R.Source c.give_operands.result _ c.requires.read c.give_operands.ensures.no_read

pub returns-in-Some-clause-gave : goal.returns-in-Some-clause-gave
returns-in-Some-clause-gave g c =
    rw c.in-Each.is (rw c.in-Some.is
    (rw (sym c.as_slice.ensures.value) c.give_operands.ensures.gave))
