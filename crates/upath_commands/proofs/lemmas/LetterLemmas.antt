-- What letters after a dash mean joined and apart, whatever their bytes are.
use Rattle.std.proofs.Common.{◌≡◌, ◌⊎◌, inl, inr, ℕ, List, [], ◌∷◌, ◌++◌, map, Option, Some, None}
use Rattle.std.proofs.Common.{Err, refl, unwrap_or, sym, ap, ◌∙◌, append_assoc}
use Rattle.upath_commands.specs.declared.items.ItemKind.TheVariants as kind
use Rattle.upath_commands.specs.declared.options.Flag.{Flag}
use Rattle.upath_commands.specs.declared.usage.UsageErrorKind.TheVariants.{UnknownLetter}
use Rattle.upath_commands.specs.Arguments.{asked_in, command_meaning, fault_of, first_of}
use Rattle.upath_commands.specs.Arguments.{meaning_of_items, operands_of, refuse}
use Rattle.upath_commands.specs.ArgumentLaws.{kind_of}
use Rattle.upath_commands.specs.Invocations.{Meaning, UsageValue}
use Rattle.upath_commands.specs.Items.{ItemValue, character, letter_item, letter_items, operand}
use Rattle.upath_commands.specs.Options.{option_by_letter}
use Rattle.upath_commands.proofs.lemmas.OperandLemmas.{first_of-skip}
use Rattle.upath_commands.proofs.lemmas.RequestLemmas.{after_letter, asked_in-letters}

-- the first wrong usage among the items is an unknown letter
abbrev Unknown : List ItemValue → Type 0
Unknown items = (bytes : List ℕ) × (first_of fault_of items ≡ Some (UnknownLetter, bytes))

-- the items of letters are the same joined and apart, or both have an unknown letter first
abbrev Joins : List ItemValue → List ItemValue → List ItemValue → Type 0
Joins all first second =
    (all ≡ first ++ second)
    ⊎ ((rest : List ItemValue) → Unknown (all ++ rest) × Unknown (first ++ rest))

letter-joins : (found : Option Flag) (x : ℕ) (xs ys : List ℕ)
    → Joins (letter_items (xs ++ ys)) (letter_items xs) (letter_items ys)
    → Joins (letter_item found (x ∷ (xs ++ ys)) ∷ letter_items (xs ++ ys))
    (letter_item found (x ∷ xs) ∷ letter_items xs) (letter_items ys)
letter-joins None x xs ys so_far =
    inr (λ rest. ((character (x ∷ (xs ++ ys)), refl), (character (x ∷ xs), refl)))
letter-joins (Some flag) x xs ys (inl same) =
    inl (ap (λ items. (kind.Option flag, x ∷ []) ∷ items) same)
letter-joins (Some flag) x xs ys (inr unknown) = inr unknown

letters-joins : (xs ys : List ℕ)
    → Joins (letter_items (xs ++ ys)) (letter_items xs) (letter_items ys)
letters-joins [] ys = inl refl
letters-joins (x ∷ xs) ys =
    letter-joins (option_by_letter x) x xs ys (letters-joins xs ys)

-- what is asked for after these operands and letters
abbrev asked_past : List (List ℕ) → List ItemValue → Option Meaning
asked_past [] rest = asked_in rest
asked_past (word ∷ before) rest = None

asked_past-letters : (before : List (List ℕ)) (letters : List ℕ) (rest : List ItemValue)
    → asked_past before (letter_items letters ++ rest) ≡ asked_past before rest
asked_past-letters [] letters rest = asked_in-letters letters rest
asked_past-letters (word ∷ before) letters rest = refl

asked_in-past : (before : List (List ℕ)) (x : ℕ) (xs : List ℕ) (rest : List ItemValue)
    → asked_in (map operand before ++ (letter_items (x ∷ xs) ++ rest)) ≡ asked_past before rest
asked_in-past [] x xs rest = asked_in-letters (x ∷ xs) rest
asked_in-past (name ∷ []) x xs rest =
    after_letter (option_by_letter x) (x ∷ xs) (letter_items xs ++ rest) name
asked_in-past (name ∷ other ∷ before) x xs rest = refl

refused : (asked : Option Meaning) (fault : Option UsageValue) (bytes : List ℕ)
    (meaning : Meaning) → fault ≡ Some (UnknownLetter, bytes)
    → kind_of (unwrap_or asked (refuse fault meaning))
    ≡ kind_of (unwrap_or asked (Err (UnknownLetter, [])))
refused None fault bytes meaning same = rw same refl
refused (Some found) fault bytes meaning same = refl

unknown_refused : (before : List (List ℕ)) (items : List ItemValue) → Unknown items
    → kind_of (meaning_of_items (map operand before ++ items))
    ≡ kind_of (unwrap_or (asked_in (map operand before ++ items)) (Err (UnknownLetter, [])))
unknown_refused before items (bytes, unknown) =
    let all = map operand before ++ items in
    refused (asked_in all) (first_of fault_of all) bytes (command_meaning all (operands_of all))
    (first_of-skip fault_of (λ b. refl) before items ∙ unknown)

joined_kinds : (before : List (List ℕ)) (x y : ℕ) (xs ys : List ℕ) (rest : List ItemValue)
    → Joins (letter_items ((x ∷ xs) ++ y ∷ ys)) (letter_items (x ∷ xs)) (letter_items (y ∷ ys))
    → kind_of (meaning_of_items (map operand before
    ++ (letter_items ((x ∷ xs) ++ y ∷ ys) ++ rest)))
    ≡ kind_of (meaning_of_items (map operand before
    ++ (letter_items (x ∷ xs) ++ (letter_items (y ∷ ys) ++ rest))))
joined_kinds before x y xs ys rest (inl same) =
    ap (λ items. kind_of (meaning_of_items (map operand before ++ items)))
    (ap (λ items. items ++ rest) same
    ∙ append_assoc (letter_items (x ∷ xs)) (letter_items (y ∷ ys)) rest)
joined_kinds before x y xs ys rest (inr unknown) =
    let more = letter_items (y ∷ ys) ++ rest in
    unknown_refused before (letter_items ((x ∷ xs) ++ y ∷ ys) ++ rest) ((unknown rest).0)
    ∙ ap (λ asked. kind_of (unwrap_or asked (Err (UnknownLetter, []))))
    (asked_in-past before x (xs ++ y ∷ ys) rest
    ∙ sym (asked_past-letters before (y ∷ ys) rest)
    ∙ sym (asked_in-past before x xs more))
    ∙ sym (unknown_refused before (letter_items (x ∷ xs) ++ more) ((unknown more).1))

-- letters mean the same joined and apart, but for what is shown of wrong usage
pub letters_kinds : (before : List (List ℕ)) (x y : ℕ) (xs ys : List ℕ) (rest : List ItemValue)
    → kind_of (meaning_of_items (map operand before
    ++ (letter_items ((x ∷ xs) ++ y ∷ ys) ++ rest)))
    ≡ kind_of (meaning_of_items (map operand before
    ++ (letter_items (x ∷ xs) ++ (letter_items (y ∷ ys) ++ rest))))
letters_kinds before x y xs ys rest =
    joined_kinds before x y xs ys rest (letters-joins (x ∷ xs) (y ∷ ys))
