use Rattle.std.proofs.Common.{◌≡◌, ◌≢◌, ◌⊎◌, inl, inr, ℕ, false, List, [], ◌∷◌, ◌++◌, map, codes}
use Rattle.std.proofs.Common.{length, Option, Some, None, refl, ap, sym, ◌∙◌, ne_eqb}
use Rattle.std.specs.Str.{bytes_eq}
use Rattle.upath_commands.specs.declared.options.Flag.{Flag}
use Rattle.upath_commands.specs.Arguments.{first_word, is_dashes, meaning_of_items, operand_of}
use Rattle.upath_commands.specs.Arguments.{request_after}
use Rattle.upath_commands.specs.ArgumentLaws.{short}
use Rattle.upath_commands.specs.Items.{items_after, letter_item, operand}
use Rattle.upath_commands.specs.Options.{option_by_letter, request_by_word}
use Rattle.upath_commands.proofs.lemmas.ItemLemmas.{first_asks_nothing, items_after-plains}
use Rattle.upath_commands.proofs.lemmas.ItemLemmas.{items_after-short, meaning_of-items, not_asked}
use Rattle.upath_commands.proofs.lemmas.ItemLemmas.{request_of-short}
use Rattle.upath_commands.proofs.lemmas.MeaningLemmas.{moved}
use Rattle.upath_commands.proofs.lemmas.RequestLemmas.{after_no_request, asked-moved}
use Rattle.upath_commands.proofs.argument_laws.options_follow_operands.Goals as goal

-- an option, known or not, isn't `--`
no_dashes : (found : Option Flag) (letters : List ℕ)
    → is_dashes (letter_item found letters) ≡ false
no_dashes None letters = refl
no_dashes (Some flag) letters = refl

-- nor is it an operand
no_operand : (found : Option Flag) (letters : List ℕ)
    → operand_of (letter_item found letters) ≡ None
no_operand None letters = refl
no_operand (Some flag) letters = refl

nothing_asked : (before after : List (List ℕ))
    → (length before ≢ 1) ⊎ (request_by_word (first_word after) ≡ None)
    → (length before ≢ 1) ⊎ ((name : List ℕ) → request_after name (items_after None after) ≡ None)
nothing_asked before after (inl h) = inl h
nothing_asked before after (inr h) = inr (after_no_request after h)

pub returns : goal.returns
returns c = λ letter before after plain other not_dash not_h asked.
    let found = option_by_letter letter in
    let letters = letter ∷ [] in
    let e : bytes_eq letters (codes "h") ≡ false = rw (ne_eqb letter 104 not_h) refl in
    let none = request_of-short letter [] not_dash e in
    meaning_of-items _ (not_asked before _ after plain other none)
    ∙ ap meaning_of_items (items_after-plains before _ plain
    ∙ ap (λ items. map operand before ++ items) (items_after-short letter [] after not_dash e))
    ∙ moved (letter_item found letters) before (items_after None after)
    (no_dashes found letters) (no_operand found letters)
    (asked-moved found letters before (items_after None after) (nothing_asked before after asked))
    ∙ ap meaning_of_items (sym (items_after-short letter [] (before ++ after) not_dash e
    ∙ ap (λ items. letter_item found letters ∷ items) (items_after-plains before after plain)))
    ∙ sym (meaning_of-items _ (first_asks_nothing (short letters) (before ++ after) none))
