use Rattle.std.proofs.Common.{rules}
use Rattle.upath_commands.proofs.lemmas.CallLemmas.{told_none}
use Rattle.upath_commands.proofs.messages.report_error.Goals as goal

pub returns-then-is_quiet : goal.returns-then-is_quiet
returns-then-is_quiet g c = told_none g.E.Sink _ _ (search rules)

pub returns-in-Read : goal.returns-in-Read
returns-in-Read g c = rw c.if-is_quiet.false (rw c.in-Read.is c.send.ensures)

pub returns-in-Write : goal.returns-in-Write
returns-in-Write g c = rw c.if-is_quiet.false (rw c.in-Write.is c.send-in-Write.ensures)

pub returns-in-Memory : goal.returns-in-Memory
returns-in-Memory g c = rw c.if-is_quiet.false (rw c.in-Memory.is c.send-in-Memory.ensures)

pub returns-in-Closed : goal.returns-in-Closed
returns-in-Closed g c = told_none g.E.Sink _ _ (search rules)
