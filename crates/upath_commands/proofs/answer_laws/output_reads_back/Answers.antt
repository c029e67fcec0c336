use Rattle.upath_commands.proofs.lemmas.AnswerLawLemmas.{output-reads_back}
use Rattle.upath_commands.proofs.answer_laws.output_reads_back.Goals as goal

pub returns : goal.returns
returns c = output-reads_back
