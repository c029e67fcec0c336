use Rattle.std.proofs.Common.{◌≡◌, ◌≢◌, ℕ, List, [], ◌∷◌, ◌++◌, map, codes, true, false, None}
use Rattle.std.proofs.Common.{ap, sym, ◌∙◌, append_assoc, eqb, refl}
use Rattle.std.specs.List.{list_all}
use Rattle.unix_bytes.proofs.lemmas.lists.ListLemmas.{by_test}
use Rattle.std.specs.Str.{bytes_eq}
use Rattle.upath_commands.specs.Arguments.{first_word, meaning_of, meaning_of_items}
use Rattle.upath_commands.specs.ArgumentLaws.{is_plain, kind_of, short}
use Rattle.upath_commands.specs.Items.{items_after, letter_items, operand}
use Rattle.upath_commands.proofs.lemmas.ItemLemmas.{differ, items_after-plains, items_after-short}
use Rattle.upath_commands.proofs.lemmas.ItemLemmas.{letter_items-append, meaning_of-items}
use Rattle.upath_commands.proofs.lemmas.ItemLemmas.{not_asked, request_of-short}
use Rattle.upath_commands.proofs.lemmas.LetterLemmas.{letters_kinds}
use Rattle.upath_commands.proofs.argument_laws.letters_join.Goals as goal

-- letters that are followed by another are not `h` alone
longer : (a b : ℕ) (letters more : List ℕ)
    → bytes_eq (a ∷ (letters ++ b ∷ more)) (codes "h") ≡ false
longer a b [] more = by_test (eqb a 104) (λ e. rw e refl) (λ e. rw e refl)
longer a b (c ∷ letters) more = by_test (eqb a 104) (λ e. rw e refl) (λ e. rw e refl)

-- the meaning of letters that are joined is that of their items
joined : (a b : ℕ) (letters more : List ℕ) (before after : List (List ℕ))
    → list_all is_plain before ≡ true → first_word before ≢ codes "help" → a ≢ 45
    → meaning_of (before ++ short ((a ∷ letters) ++ b ∷ more) ∷ after)
    ≡ meaning_of_items (map operand before
    ++ (letter_items ((a ∷ letters) ++ b ∷ more) ++ items_after None after))
joined a b letters more before after plain other not_a =
    let no_h = longer a b letters more in
    meaning_of-items _ (not_asked before _ after plain other
    (request_of-short a (letters ++ b ∷ more) not_a no_h))
    ∙ ap meaning_of_items (items_after-plains before _ plain
    ∙ ap (λ items. map operand before ++ items)
    (items_after-short a (letters ++ b ∷ more) after not_a no_h))

-- so is the meaning of letters in two arguments
apart : (a b : ℕ) (letters more : List ℕ) (before after : List (List ℕ))
    → list_all is_plain before ≡ true → first_word before ≢ codes "help" → a ≢ 45 → b ≢ 45
    → a ∷ letters ≢ codes "h" → b ∷ more ≢ codes "h"
    → meaning_of (before ++ short (a ∷ letters) ∷ short (b ∷ more) ∷ after)
    ≡ meaning_of_items (map operand before
    ++ (letter_items (a ∷ letters) ++ (letter_items (b ∷ more) ++ items_after None after)))
apart a b letters more before after plain other not_a not_b not_first not_second =
    let first = letter_items (a ∷ letters) in
    let e = differ (a ∷ letters) (codes "h") not_first in
    let f = differ (b ∷ more) (codes "h") not_second in
    meaning_of-items _ (not_asked before _ _ plain other (request_of-short a letters not_a e))
    ∙ ap meaning_of_items (items_after-plains before _ plain
    ∙ ap (λ items. map operand before ++ items)
    (items_after-short a letters (short (b ∷ more) ∷ after) not_a e
    ∙ ap (λ items. first ++ items) (items_after-short b more after not_b f)))

pub returns-clause-whole : goal.returns-clause-whole
returns-clause-whole c = λ a b letters more before after plain other not_a not_b first second ascii.
    let items = items_after None after in
    joined a b letters more before after plain other not_a
    ∙ ap (λ items. meaning_of_items (map operand before ++ items))
    (ap (λ letters. letters ++ items) (letter_items-append (a ∷ letters) (b ∷ more) ascii)
    ∙ append_assoc (letter_items (a ∷ letters)) (letter_items (b ∷ more)) items)
    ∙ sym (apart a b letters more before after plain other not_a not_b first second)

pub returns-clause-kind : goal.returns-clause-kind
returns-clause-kind c = λ a b letters more before after plain other not_a not_b first second.
    ap kind_of (joined a b letters more before after plain other not_a)
    ∙ letters_kinds before a b letters more (items_after None after)
    ∙ ap kind_of (sym (apart a b letters more before after plain other not_a not_b first second))
