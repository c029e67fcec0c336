use Rattle.std.proofs.Common.{◌≡◌, ◌≢◌, ℕ, true, false, List, [], Option, Some, None}
use Rattle.unix_path.specs.Parents.{parent_of}
use Rattle.path_within.specs.Resolved.{resolved_bytes_of}
use Rattle.upath_commands.specs.Answers.{is_current, relative_of, rest_after}
use Rattle.upath_commands.specs.Answers.{rest_under, under_answer}
use Rattle.upath_commands.specs.declared.command.Options.{Options}
use Rattle.upath_commands.proofs.lemmas.AnswerLawLemmas.{dotted-some}
use Rattle.upath_commands.proofs.lemmas.RecordLemmas.{by_test}
use Rattle.upath_commands.proofs.answer_laws.answers_are_never_empty.Goals as goal

pub returns-clause-resolve : goal.returns-clause-resolve
returns-clause-resolve c = λ task p. dotted-some (Some (resolved_bytes_of p))

pub returns-clause-parent : goal.returns-clause-parent
returns-clause-parent c = λ task p.
    by_test (is_current p) (λ e. rw e (λ d. cc)) (λ e. rw e (dotted-some (parent_of p)))

pub returns-clause-strip : goal.returns-clause-strip
returns-clause-strip c = λ task p. dotted-some (rest_after task.base p)

pub returns-clause-relative : goal.returns-clause-relative
returns-clause-relative c = λ task p. dotted-some (relative_of task.base p)

under-some : (options : Options) (p : List ℕ) (rest : Option (List ℕ))
    → options.inverted ≡ false → options.stripped ≡ true → under_answer options p rest ≢ Some []
under-some options p None i s = rw i (λ e. cc)
under-some options p (Some rest) i s = rw (i, s) (dotted-some (Some rest))

pub returns-clause-under : goal.returns-clause-under
returns-clause-under c = λ task p inverted stripped.
    under-some task.options p (rest_under task.options task.base p) inverted stripped
