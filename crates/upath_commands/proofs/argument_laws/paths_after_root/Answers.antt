use Rattle.std.proofs.Common.{◌∷◌, [], codes, refl, ap, ◌∙◌}
use Rattle.upath_commands.specs.declared.command.Command.TheVariants as command
use Rattle.upath_commands.specs.declared.items.ItemKind.TheVariants as kind
use Rattle.upath_commands.specs.declared.options.Flag.TheVariants as option
use Rattle.upath_commands.specs.Arguments.{fault_of, foreign_option, is_given, meaning_of_items}
use Rattle.upath_commands.proofs.lemmas.ItemLemmas.{items_after-plain, meaning_of-items}
use Rattle.upath_commands.proofs.lemmas.MeaningLemmas.{task_of-before}
use Rattle.upath_commands.proofs.lemmas.OperandLemmas.{each-second, first_of-operands}
use Rattle.upath_commands.proofs.lemmas.OperandLemmas.{list_any-operands, operands_of-operands}
use Rattle.upath_commands.proofs.argument_laws.paths_after_root.Goals as goal

pub returns : goal.returns
returns c = λ root paths plain.
    meaning_of-items _ refl
    ∙ ap (λ items. meaning_of_items ((kind.Operand, codes "join")
    ∷ (kind.Option option.Null, codes "z")
    ∷ (kind.Option option.Beneath, codes "--beneath") ∷ items))
    (items_after-plain root (codes "--" ∷ paths) plain)
    ∙ rw (
      first_of-operands fault_of (λ b. refl) paths,
      operands_of-operands paths,
      first_of-operands (foreign_option command.Join) (λ b. refl) paths,
      list_any-operands (is_given option.InRoot) (λ b. refl) paths,
      list_any-operands (is_given option.Verbatim) (λ b. refl) paths,
      each-second command.Join root (codes "join") _ paths,
      task_of-before command.Join root ((kind.Operand, codes "join")
          ∷ (kind.Option option.Null, codes "z")
          ∷ (kind.Option option.Beneath, codes "--beneath")
          ∷ (kind.Operand, root) ∷ (kind.Dashes, codes "--") ∷ []) paths,
    ) refl
