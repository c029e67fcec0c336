use Rattle.std.proofs.Common.{refl}
use Rattle.upath_commands.specs.declared.options.Request.TheVariants as request
use Rattle.upath_commands.specs.Arguments.{meaning_of}
use Rattle.upath_commands.specs.Options.{command_by_name}
use Rattle.upath_commands.proofs.lemmas.ItemLemmas.{asked_of-known, command-plain}
use Rattle.upath_commands.proofs.argument_laws.help_first.Goals as goal

pub returns-clause-command : goal.returns-clause-command
unfolding meaning_of
returns-clause-command c = λ name after known.
    rw (
      command-plain name known,
      asked_of-known request.Help name (command_by_name name) known,
    ) refl

pub returns-clause-unknown : goal.returns-clause-unknown
unfolding meaning_of
returns-clause-unknown c = λ word after plain none. rw (plain, none) refl

pub returns-clause-alone : goal.returns-clause-alone
unfolding meaning_of
returns-clause-alone c = refl
