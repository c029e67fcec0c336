-- Wrong usage among words and one letter that is an option.
use Rattle.std.proofs.Common.{◌≡◌, ◌≢◌, ℕ, true, false, List, [], ◌∷◌, ◌++◌, map, codes}
use Rattle.std.proofs.Common.{Some, None, refl, sym, ap, ◌∙◌, ne_eqb}
use Rattle.std.specs.List.{list_all}
use Rattle.std.specs.Option.{is_some}
use Rattle.std.specs.Str.{bytes_eq}
use Rattle.std.proofs.lemmas.Bool.{false≢true}
use Rattle.unix_bytes.proofs.lemmas.lists.ListLemmas.{by_test}
use Rattle.upath_commands.specs.declared.items.ItemKind.TheVariants as kind
use Rattle.upath_commands.specs.declared.options.Flag.{Flag}
use Rattle.upath_commands.specs.Arguments.{asked_in, command_meaning, fault_of, first_of}
use Rattle.upath_commands.specs.Arguments.{meaning_of, meaning_of_items, operands_of}
use Rattle.upath_commands.specs.ArgumentLaws.{is_plain, short}
use Rattle.upath_commands.specs.Items.{ItemValue, items_after, letter_item, operand}
use Rattle.upath_commands.specs.Options.{option_by_letter}
use Rattle.upath_commands.proofs.lemmas.ItemLemmas.{items_after-plain, items_after-plains}
use Rattle.upath_commands.proofs.lemmas.ItemLemmas.{items_after-short, meaning_of-items, not_asked}
use Rattle.upath_commands.proofs.lemmas.ItemLemmas.{request_of-short}
use Rattle.upath_commands.proofs.lemmas.OperandLemmas.{first_of-operands, first_of-skip}
use Rattle.upath_commands.proofs.lemmas.OperandLemmas.{operands_of-operands, operands_of-skip}

none_is_some : {A : Type 0} (a : A) → None ≡ Some a → ⊥
none_is_some a h = absurd (false≢true (ap is_some h))

-- the letter of an option is no letter without one
another : (letter other : ℕ) (flag : Flag) → option_by_letter other ≡ None
    → option_by_letter letter ≡ Some flag → letter ≢ other
another letter other flag none some = λ same.
    none_is_some flag (sym none ∙ ap option_by_letter (sym same) ∙ some)

plain_items : (words : List (List ℕ)) → list_all is_plain words ≡ true
    → items_after None words ≡ map operand words
plain_items [] h = refl
plain_items (word ∷ words) h =
    by_test (is_plain word)
    (λ e. items_after-plain word words e
    ∙ ap (λ items. operand word ∷ items) (plain_items words (rw e at h)))
    (λ e. absurd (false≢true (rw e at h)))

-- the items of words, an option and words
abbrev pub items_around : Flag → ℕ → List ℕ → List (List ℕ) → List (List ℕ) → List ItemValue
items_around flag letter word before after =
    map operand (word ∷ before) ++ (kind.Option flag, letter ∷ []) ∷ map operand after

nothing_asked : (flag : Flag) (letter : ℕ) (word : List ℕ) (before after : List (List ℕ))
    → asked_in (items_around flag letter word before after) ≡ None
nothing_asked flag letter word [] after = refl
nothing_asked flag letter word (other ∷ before) after = refl

no_fault : (flag : Flag) (letter : ℕ) (word : List ℕ) (before after : List (List ℕ))
    → first_of fault_of (items_around flag letter word before after) ≡ None
no_fault flag letter word before after =
    first_of-skip fault_of (λ b. refl) (word ∷ before)
    ((kind.Option flag, letter ∷ []) ∷ map operand after)
    ∙ first_of-operands fault_of (λ b. refl) after

operands_around : (flag : Flag) (letter : ℕ) (word : List ℕ) (before after : List (List ℕ))
    → operands_of (items_around flag letter word before after) ≡ word ∷ (before ++ after)
operands_around flag letter word before after =
    operands_of-skip (word ∷ before) ((kind.Option flag, letter ∷ []) ∷ map operand after)
    ∙ ap (λ ops. word ∷ (before ++ ops)) (operands_of-operands after)

-- the meaning of words, a letter that is an option, and words
pub meaning_around : (flag : Flag) (letter : ℕ) (word : List ℕ) (before after : List (List ℕ))
    → list_all is_plain (word ∷ before) ≡ true → list_all is_plain after ≡ true
    → word ≢ codes "help" → option_by_letter letter ≡ Some flag
    → meaning_of (word ∷ before ++ short (letter ∷ []) ∷ after)
    ≡ command_meaning (items_around flag letter word before after) (word ∷ (before ++ after))
meaning_around flag letter word before after plain plain_after other option =
    let not_dash = another letter 45 flag refl option in
    let not_h = another letter 104 flag refl option in
    let e : bytes_eq (letter ∷ []) (codes "h") ≡ false = rw (ne_eqb letter 104 not_h) refl in
    let none = request_of-short letter [] not_dash e in
    meaning_of-items _ (not_asked (word ∷ before) _ after plain other none)
    ∙ ap meaning_of_items (items_after-plains (word ∷ before) _ plain
    ∙ ap (λ items. map operand (word ∷ before) ++ items)
    (items_after-short letter [] after not_dash e
    ∙ ap (λ found. letter_item found (letter ∷ []) ∷ items_after None after) option
    ∙ ap (λ items. (kind.Option flag, letter ∷ []) ∷ items) (plain_items after plain_after)))
    ∙ rw (
      nothing_asked flag letter word before after,
      no_fault flag letter word before after,
    ) (ap (command_meaning (items_around flag letter word before after))
    (operands_around flag letter word before after))
