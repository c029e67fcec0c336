-- The items of arguments, and what is asked for by the first argument.
use Rattle.std.proofs.Common.{◌≡◌, ◌≢◌, ◌<◌, ℕ, true, false, List, [], ◌∷◌, ◌++◌, map, codes}
use Rattle.std.proofs.Common.{Option, Some, None, refl, sym, ap, ap₂, ◌∙◌, eqb, ne_eqb, arith}
use Rattle.std.proofs.Common.{option_map, is_some, unwrap_or, Ok}
use Rattle.std.specs.List.{All, list_all}
use Rattle.std.specs.Str.{bytes_eq}
use Rattle.std.proofs.lemmas.Bool.{eqb-false, eqb-true, false≢true}
use Rattle.std.proofs.lemmas.List.Elements.{All-head, All-tail}
use Rattle.std.proofs.lemmas.Slice.Eq.{bytes_eq-Decides}
use Rattle.unix_bytes.proofs.lemmas.lists.ListLemmas.{by_test}
use Rattle.unix_bytes.proofs.lemmas.lossy.LossyLemmas.{is_text-from_IsText}
use Rattle.unix_bytes.proofs.lemmas.prefixes.PrinterLemmas.{first_is_text}
use Rattle.upath_commands.specs.declared.items.ItemKind.TheVariants as kind
use Rattle.upath_commands.specs.declared.options.Flag.{Flag}
use Rattle.upath_commands.specs.declared.options.Request.{Request}
use Rattle.upath_commands.specs.declared.command.Command.{Command}
use Rattle.upath_commands.specs.declared.usage.UsageErrorKind.TheVariants.{UnknownLetter}
use Rattle.upath_commands.specs.Arguments.{asked_first, first_word, meaning_of, meaning_of_items}
use Rattle.upath_commands.specs.Arguments.{asked_of, asked_with, request_of, requested}
use Rattle.upath_commands.specs.ArgumentLaws.{is_plain, short}
use Rattle.upath_commands.specs.Items.{character, items_after, letter_item}
use Rattle.upath_commands.specs.Items.{letter_items, operand}
use Rattle.upath_commands.specs.Options.{option_by_letter, command_by_name}

-- bytes that differ are told apart
pub differ : (xs ys : List ℕ) → xs ≢ ys → bytes_eq xs ys ≡ false
differ xs ys h =
    by_test (bytes_eq xs ys) (λ e. absurd (h ((bytes_eq-Decides xs ys).0 e))) (λ e. e)

-- an argument that doesn't begin with a dash is an operand
pub items_after-plain : (argument : List ℕ) (rest : List (List ℕ)) → is_plain argument ≡ true
    → items_after None (argument ∷ rest) ≡ operand argument ∷ items_after None rest
items_after-plain [] rest h = refl
items_after-plain (b ∷ bs) rest h =
    by_test (eqb 45 b) (λ e. absurd (false≢true (rw e at h)))
    (λ e. rw (ne_eqb b 45 (λ same. eqb-false 45 b e (sym same)), e) refl)

-- arguments that don't begin with dashes are operands
pub items_after-plains : (before rest : List (List ℕ)) → list_all is_plain before ≡ true
    → items_after None (before ++ rest) ≡ map operand before ++ items_after None rest
items_after-plains [] rest h = refl
items_after-plains (argument ∷ before) rest h =
    by_test (is_plain argument)
    (λ e. items_after-plain argument (before ++ rest) e
    ∙ ap (λ items. operand argument ∷ items) (items_after-plains before rest (rw e at h)))
    (λ e. absurd (false≢true (rw e at h)))

-- an argument with a dash and letters, the first of which isn't a dash, has an item for each letter
pub items_after-short : (a : ℕ) (letters : List ℕ) (rest : List (List ℕ)) → a ≢ 45
    → bytes_eq (a ∷ letters) (codes "h") ≡ false
    → items_after None (short (a ∷ letters) ∷ rest)
    ≡ letter_items (a ∷ letters) ++ items_after None rest
items_after-short a letters rest h e =
    rw (ne_eqb a 45 h, e, ne_eqb 45 a (λ same. h (sym same))) refl

-- an ASCII character is one byte
character-ascii : (x : ℕ) (xs : List ℕ) → x < 128 → character (x ∷ xs) ≡ x ∷ []
character-ascii x xs h =
    rw (is_text-from_IsText (x ∷ []) (first_is_text (x ∷ xs) (omega arith) h)) refl

letter_item-first : (found : Option Flag) (x : ℕ) (xs ys : List ℕ) → x < 128
    → letter_item found (x ∷ (xs ++ ys)) ≡ letter_item found (x ∷ xs)
letter_item-first (Some flag) x xs ys h = refl
letter_item-first None x xs ys h =
    ap (λ bytes. (kind.Wrong UnknownLetter, bytes))
    (character-ascii x (xs ++ ys) h ∙ sym (character-ascii x xs h))

-- the items of letters that are joined, the first of which are ASCII
pub letter_items-append : (xs ys : List ℕ) → All (λ b. b < 128) xs
    → letter_items (xs ++ ys) ≡ letter_items xs ++ letter_items ys
letter_items-append [] ys h = refl
letter_items-append (x ∷ xs) ys h =
    ap₂ (λ item items. item ∷ items)
    (letter_item-first (option_by_letter x) x xs ys (All-head (λ b. b < 128) x xs h))
    (letter_items-append xs ys (All-tail (λ b. b < 128) x xs h))

-- an argument that doesn't begin with a dash and isn't `help` is no request
pub request_of-plain : (argument : List ℕ) → is_plain argument ≡ true → argument ≢ codes "help"
    → request_of argument ≡ None
request_of-plain [] h other = refl
request_of-plain (b ∷ bs) h other =
    by_test (eqb 45 b) (λ e. absurd (false≢true (rw e at h)))
    (λ e. rw (differ (b ∷ bs) (codes "help") other)
    (rw (ne_eqb b 45 (λ same. eqb-false 45 b e (sym same))) refl))

-- letters after a dash are no request, but for `-h`
pub request_of-short : (a : ℕ) (letters : List ℕ) → a ≢ 45
    → bytes_eq (a ∷ letters) (codes "h") ≡ false → request_of (short (a ∷ letters)) ≡ None
request_of-short a letters h e = rw (ne_eqb a 45 h, e) refl

-- a first argument that is no request asks for nothing
pub first_asks_nothing : (argument : List ℕ) (after : List (List ℕ)) → request_of argument ≡ None
    → asked_first (argument ∷ after) ≡ None
first_asks_nothing argument after h =
    ap (option_map (λ asked. asked_with asked after)) h

-- nor do arguments that don't begin with a dash, before one that is no request
pub not_asked : (before : List (List ℕ)) (argument : List ℕ) (after : List (List ℕ))
    → list_all is_plain before ≡ true → first_word before ≢ codes "help"
    → request_of argument ≡ None → asked_first (before ++ argument ∷ after) ≡ None
not_asked [] argument after plain other h = first_asks_nothing argument after h
not_asked (word ∷ before) argument after plain other h =
    by_test (is_plain word)
    (λ e. first_asks_nothing word (before ++ argument ∷ after) (request_of-plain word e other))
    (λ e. absurd (false≢true (rw e at plain)))

-- if the first argument asks for nothing, the items have the meaning
pub meaning_of-items : (arguments : List (List ℕ)) → asked_first arguments ≡ None
    → meaning_of arguments ≡ meaning_of_items (items_after None arguments)
unfolding meaning_of
meaning_of-items arguments h =
    ap (λ asked. unwrap_or asked (meaning_of_items (items_after None arguments))) h

-- the name of a command doesn't begin with a dash
pub command-plain : (name : List ℕ) → is_some (command_by_name name) ≡ true → is_plain name ≡ true
command-plain [] h = absurd (false≢true h)
command-plain (b ∷ bs) h =
    by_test (eqb b 45)
    (λ e. absurd (false≢true (rw (eqb-true b 45 e) at h)))
    (λ e. rw (ne_eqb 45 b (λ same. eqb-false b 45 e (sym same))) refl)

-- no command is named `help`
pub command-not_help : (name : List ℕ) → is_some (command_by_name name) ≡ true → name ≢ codes "help"
command-not_help name h same =
    false≢true (ap (λ name. is_some (command_by_name name)) (sym same) ∙ h)

-- what is asked for on a command
pub asked_of-known : (asked : Request) (name : List ℕ) (found : Option Command)
    → is_some found ≡ true → asked_of asked name found ≡ Ok (requested asked name)
asked_of-known asked name None h = absurd (false≢true h)
asked_of-known asked name (Some command) h = refl
