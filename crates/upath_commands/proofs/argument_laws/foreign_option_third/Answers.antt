use Rattle.std.proofs.Common.{◌≡◌, true, ◌∷◌, refl, ◌∙◌}
use Rattle.std.specs.List.{list_all}
use Rattle.std.specs.Option.{is_some}
use Rattle.upath_commands.specs.Arguments.{foreign_option}
use Rattle.upath_commands.specs.ArgumentLaws.{is_plain}
use Rattle.upath_commands.specs.Options.{command_by_name}
use Rattle.upath_commands.proofs.lemmas.ItemLemmas.{command-not_help, command-plain}
use Rattle.upath_commands.proofs.lemmas.OperandLemmas.{first_of-skip}
use Rattle.upath_commands.proofs.lemmas.UsageLemmas.{meaning_around}
use Rattle.upath_commands.proofs.argument_laws.foreign_option_third.Goals as goal

pub returns : goal.returns
returns c = λ letter flag name command before after plain plain_after known option foreign.
    let is_known : is_some (command_by_name name) ≡ true = rw known refl in
    let all : list_all is_plain (name ∷ before) ≡ true
    = rw (command-plain name is_known, plain) refl in
    meaning_around flag letter name before after all plain_after (command-not_help name is_known)
    option
    ∙ rw (
      known,
      first_of-skip (foreign_option command) (λ b. refl) (name ∷ before) _,
      foreign,
    ) refl
