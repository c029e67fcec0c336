use Rattle.std.proofs.Common.{◌∷◌, [], codes, refl}
use Rattle.upath_commands.specs.declared.command.Command.TheVariants as command
use Rattle.upath_commands.specs.declared.items.ItemKind.TheVariants as kind
use Rattle.upath_commands.specs.declared.options.Flag.TheVariants as option
use Rattle.upath_commands.specs.Arguments.{fault_of, foreign_option, meaning_of}
use Rattle.upath_commands.proofs.lemmas.MeaningLemmas.{task_of-before}
use Rattle.upath_commands.proofs.lemmas.OperandLemmas.{each-first}
use Rattle.upath_commands.proofs.lemmas.OperandLemmas.{first_of-operands, operands_of-operands}
use Rattle.upath_commands.proofs.argument_laws.paths_after_dashes.Goals as goal

pub returns : goal.returns
unfolding meaning_of
returns c = λ paths. rw (
  first_of-operands fault_of (λ b. refl) paths,
  operands_of-operands paths,
  first_of-operands (foreign_option command.Canon) (λ b. refl) paths,
  each-first command.Canon [] (codes "canon") _ paths,
  task_of-before command.Canon [] ((kind.Operand, codes "canon")
      ∷ (kind.Option option.Null, codes "z") ∷ (kind.Dashes, codes "--") ∷ []) paths,
) refl
