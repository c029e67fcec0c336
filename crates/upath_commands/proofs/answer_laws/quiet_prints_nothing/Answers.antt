use Rattle.upath_commands.proofs.lemmas.AnswerLawLemmas.{messages-nothing, output-nothing}
use Rattle.upath_commands.proofs.answer_laws.quiet_prints_nothing.Goals as goal

pub returns : goal.returns
returns c = λ task paths quiet.
    (output-nothing task paths quiet, messages-nothing task paths quiet)
