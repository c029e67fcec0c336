use Rattle.std.proofs.Common.{◌∷◌, ◌++◌, codes, refl, ap, ◌∙◌}
use Rattle.upath_commands.specs.declared.options.Request.TheVariants as request
use Rattle.upath_commands.specs.Arguments.{asked_in}
use Rattle.upath_commands.specs.Options.{command_by_name}
use Rattle.upath_commands.proofs.lemmas.ItemLemmas.{items_after-plain}
use Rattle.upath_commands.proofs.lemmas.ItemLemmas.{asked_of-known, meaning_of-items}
use Rattle.upath_commands.proofs.lemmas.ItemLemmas.{request_of-plain}
use Rattle.upath_commands.proofs.lemmas.ItemLemmas.{command-not_help, command-plain}
use Rattle.upath_commands.proofs.lemmas.RequestLemmas.{asked_in-options, options_ask_nothing}
use Rattle.upath_commands.proofs.argument_laws.help_after_command.Goals as goal

pub returns : goal.returns
returns c = λ before name after options known.
    let plain = command-plain name known in
    let rest = name ∷ codes "--help" ∷ after in
    meaning_of-items (before ++ rest) (options_ask_nothing before name (codes "--help" ∷ after)
    options (request_of-plain name plain (command-not_help name known)))
    ∙ rw (
      asked_in-options before rest options,
      ap asked_in (items_after-plain name (codes "--help" ∷ after) plain),
      asked_of-known request.Help name (command_by_name name) known,
    ) refl
