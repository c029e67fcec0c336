use Rattle.std.proofs.Common.{◌≡◌, ℕ, false, List, [], ◌∷◌, ◌++◌, map, codes, None, Err}
use Rattle.std.proofs.Common.{refl, ap, ◌∙◌, ne_eqb}
use Rattle.std.specs.Str.{bytes_eq}
use Rattle.upath_commands.specs.declared.usage.UsageErrorKind.TheVariants.{UnknownLetter}
use Rattle.upath_commands.specs.Arguments.{asked_in, fault_of, meaning_of_items}
use Rattle.upath_commands.specs.Items.{ItemValue, character, items_after, letter_item, operand}
use Rattle.unix_bytes.specs.Lossy.{is_text}
use Rattle.upath_commands.proofs.lemmas.ItemLemmas.{items_after-plains, items_after-short}
use Rattle.upath_commands.proofs.lemmas.ItemLemmas.{meaning_of-items, not_asked, request_of-short}
use Rattle.upath_commands.proofs.lemmas.OperandLemmas.{first_of-skip}
use Rattle.upath_commands.proofs.lemmas.RecordLemmas.{by_test}
use Rattle.upath_commands.proofs.argument_laws.unknown_option_first.Goals as goal

character-alone : (letter : ℕ) → character (letter ∷ []) ≡ letter ∷ []
character-alone letter = by_test (is_text (letter ∷ [])) (λ e. rw e refl) (λ e. rw e refl)

-- nothing is asked for between a word and a letter
nothing_asked : (letter : ℕ) (word : List ℕ) (before : List (List ℕ)) (rest : List ItemValue)
    → asked_in (map operand (word ∷ before) ++ letter_item None (letter ∷ []) ∷ rest) ≡ None
nothing_asked letter word [] rest = refl
nothing_asked letter word (other ∷ before) rest = refl

reported : (letter : ℕ) (word : List ℕ) (before : List (List ℕ)) (rest : List ItemValue)
    → meaning_of_items (map operand (word ∷ before) ++ letter_item None (letter ∷ []) ∷ rest)
    ≡ Err (UnknownLetter, letter ∷ [])
reported letter word before rest = rw (
  nothing_asked letter word before rest,
  first_of-skip fault_of (λ b. refl) (word ∷ before) (letter_item None (letter ∷ []) ∷ rest),
  character-alone letter,
) refl

pub returns : goal.returns
returns c = λ letter word before after plain other unknown not_dash not_h.
    let e : bytes_eq (letter ∷ []) (codes "h") ≡ false = rw (ne_eqb letter 104 not_h) refl in
    let none = request_of-short letter [] not_dash e in
    meaning_of-items _ (not_asked (word ∷ before) _ after plain other none)
    ∙ ap meaning_of_items (items_after-plains (word ∷ before) _ plain
    ∙ ap (λ items. map operand (word ∷ before) ++ items)
    (items_after-short letter [] after not_dash e
    ∙ ap (λ found. letter_item found (letter ∷ []) ∷ items_after None after) unknown))
    ∙ reported letter word before (items_after None after)
