use Rattle.std.proofs.Common.{refl, ◌∙◌}
use Rattle.upath_commands.proofs.lemmas.UsageLemmas.{meaning_around}
use Rattle.upath_commands.proofs.argument_laws.unknown_command_second.Goals as goal

pub returns : goal.returns
returns c = λ letter flag word before after plain plain_after other unknown option.
    meaning_around flag letter word before after plain plain_after other option ∙ rw unknown refl
