use Rattle.std.proofs.Common.{◌≡◌, ℕ, List, ◌∷◌, ◌++◌, codes, None, Some, length}
use Rattle.std.proofs.Common.{arith, ap, lt-ltb, refl, sym, ◌∙◌}
use Rattle.upath_commands.specs.declared.items.ItemKind.TheVariants as kind
use Rattle.upath_commands.specs.declared.options.Flag.TheVariants as option
use Rattle.upath_commands.specs.declared.command.Command.TheVariants as command
use Rattle.upath_commands.specs.Arguments.{dashes_at, fault_of, first_of, found_meaning}
use Rattle.upath_commands.specs.Arguments.{meaning_of_items, operands_of, refuse}
use Rattle.upath_commands.specs.Items.{ItemValue, items_after, operand}
use Rattle.upath_commands.proofs.lemmas.ItemLemmas.{meaning_of-items}
use Rattle.upath_commands.proofs.lemmas.MeaningLemmas.{command-same, words_of}
use Rattle.upath_commands.proofs.lemmas.DashLemmas.{dashes_after, dashes_after-next}
use Rattle.upath_commands.proofs.lemmas.DashLemmas.{dashes_at-after}
use Rattle.upath_commands.proofs.argument_laws.value_after_equals_sign.Goals as goal

-- the items of `relative`, and of `--from` and its value, with the argument that has the option
abbrev valued : List ℕ → List ℕ → List ItemValue → List ItemValue
valued argument dir items =
    operand (codes "relative")
    ∷ (kind.Option option.From, argument) ∷ (kind.Value option.From, dir) ∷ items

items_after-joined : (dir : List ℕ) (after : List (List ℕ))
    → items_after None (codes "relative" ∷ (codes "--from=" ++ dir) ∷ after)
    ≡ valued (codes "--from=" ++ dir) dir (items_after None after)
items_after-joined dir after =
    rw (lt-ltb 4 (length (codes "from=" ++ dir)) (omega arith)) refl

-- `--` comes after as many operands, whichever argument has the option
dashes-valued : (x dir : List ℕ) (items : List ItemValue)
    → dashes_at (valued x dir items) ≡ dashes_after 1 items
dashes-valued x dir items =
    let value : ItemValue = (kind.Value option.From, dir) in
    let from : ItemValue = (kind.Option option.From, x) in
    dashes_at-after (valued x dir items)
    ∙ dashes_after-next 0 1 (operand (codes "relative")) (from ∷ value ∷ items) refl refl
    ∙ dashes_after-next 1 1 from (value ∷ items) refl refl
    ∙ dashes_after-next 1 1 value items refl refl

-- the argument that has the option doesn't matter
valued-same : (x y dir : List ℕ) (items : List ItemValue)
    → meaning_of_items (valued x dir items) ≡ meaning_of_items (valued y dir items)
valued-same x y dir items =
    let xs = valued x dir items in
    let ys = valued y dir items in
    let name = codes "relative" in
    ap (refuse (first_of fault_of items))
    (command-same xs ys record { flags = λ flag. refl; values = λ flag. refl } name
    (dashes_at xs) command.Relative refl (operands_of items)
    ∙ ap (λ n. found_meaning (Some command.Relative) (words_of ys name n) (operands_of items))
    (dashes-valued x dir items ∙ sym (dashes-valued y dir items)))

pub returns : goal.returns
returns c = λ dir after.
    meaning_of-items _ refl
    ∙ valued-same (codes "--from") (codes "--from=" ++ dir) dir (items_after None after)
    ∙ ap meaning_of_items (sym (items_after-joined dir after))
    ∙ sym (meaning_of-items (codes "relative" ∷ (codes "--from=" ++ dir) ∷ after) refl)
