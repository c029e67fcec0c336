-- What is asked for just after the command.
use Rattle.std.proofs.Common.{◌≡◌, ◌≢◌, ◌⊎◌, inl, inr, ℕ, Bool, true, false, not, ◌&&◌, List, []}
use Rattle.std.proofs.Common.{◌∷◌, ◌++◌, map, codes, length, Option, Some, None, is_none, is_some}
use Rattle.std.proofs.Common.{refl, sym, ap, subst, ◌∙◌, eqb, eqb-true, ne_eqb}
use Rattle.std.proofs.lemmas.Bool.{eqb-false, false≢true}
use Rattle.std.specs.List.{list_all}
use Rattle.upath_commands.specs.Arguments.{asked_first, request_of}
use Rattle.upath_commands.specs.ArgumentLaws.{is_option, is_plain}
use Rattle.upath_commands.proofs.lemmas.ItemLemmas.{first_asks_nothing}
use Rattle.std.specs.List.{after_first, before_first, position}
use Rattle.std.specs.Str.{bytes_eq}
use Rattle.unix_bytes.proofs.lemmas.lists.ListLemmas.{by_test}
use Rattle.upath_commands.specs.declared.options.Flag.{Flag}
use Rattle.upath_commands.specs.Arguments.{asked_in, first_word, request_after}
use Rattle.upath_commands.specs.Items.{ItemValue, is_equals_sign, items_after, known, letter_item}
use Rattle.upath_commands.specs.Items.{letter_items, long_items, operand, option_items}
use Rattle.upath_commands.specs.Items.{value_awaited, with_value}
use Rattle.upath_commands.specs.Options.{option_by_letter, option_by_name, request_by_word}
use Rattle.upath_commands.specs.Options.{takes_value}

-- a letter asks for nothing
pub after_letter : (found : Option Flag) (letters : List ℕ) (more : List ItemValue) (name : List ℕ)
    → request_after name (letter_item found letters ∷ more) ≡ None
after_letter None letters more name = refl
after_letter (Some flag) letters more name = refl

-- nor does a long option
after_named : (found : Option Flag) (argument : List ℕ) (more : List ItemValue) (name : List ℕ)
    → request_after name ((known found, argument) ∷ more) ≡ None
after_named None argument more name = refl
after_named (Some flag) argument more name = refl

after_valued : (found : Option Flag) (argument value : List ℕ) (more : List ItemValue)
    (name : List ℕ)
    → request_after name (with_value argument value (known found) ++ more) ≡ None
after_valued None argument value more name = refl
after_valued (Some flag) argument value more name =
    by_test (takes_value flag) (λ e. rw e refl) (λ e. rw e refl)

after_long : (argument text : List ℕ) (more : List ItemValue) (name : List ℕ)
    → request_after name (long_items argument text ++ more) ≡ None
after_long argument text more name =
    by_test (is_some (position is_equals_sign text))
    (λ e. rw e (after_valued (option_by_name (before_first is_equals_sign text)) argument
    (after_first is_equals_sign text) more name))
    (λ e. rw e (after_named (option_by_name (before_first is_equals_sign text)) argument more name))

-- nor does any other argument that is no request
after_option : (argument : List ℕ) (more : List ItemValue) (name : List ℕ)
    → request_after name (option_items argument ++ more) ≡ None
after_option [] more name = refl
after_option (b ∷ []) more name =
    by_test (eqb 45 b)
    (λ e. subst (λ b. request_after name (option_items (b ∷ []) ++ more) ≡ None)
    (eqb-true 45 b e) refl)
    (λ e. rw e refl)
after_option (b ∷ c ∷ cs) more name =
    by_test (eqb 45 b)
    (λ e. subst (λ b. request_after name (option_items (b ∷ c ∷ cs) ++ more) ≡ None)
    (eqb-true 45 b e) (by_test (eqb 45 c)
    (λ f. rw f (after_long (45 ∷ c ∷ cs) cs more name))
    (λ f. rw f (after_letter (option_by_letter c) (c ∷ cs) (letter_items cs ++ more) name))))
    (λ e. rw e refl)

-- arguments that don't begin with a request ask for nothing
pub after_no_request : (after : List (List ℕ)) → request_by_word (first_word after) ≡ None
    → (name : List ℕ) → request_after name (items_after None after) ≡ None
after_no_request [] h name = refl
after_no_request (argument ∷ rest) h name =
    by_test (bytes_eq argument (codes "--")) (λ e. rw e refl)
    (λ e. rw (e, h) (after_option argument (items_after (value_awaited argument) rest) name))

-- an option, known or not, asks for nothing, wherever it comes, unless it parts the command from a
-- request
pub asked-moved : (found : Option Flag) (letters : List ℕ) (before : List (List ℕ))
    (items : List ItemValue)
    → (length before ≢ 1) ⊎ ((name : List ℕ) → request_after name items ≡ None)
    → asked_in (map operand before ++ letter_item found letters ∷ items)
    ≡ asked_in (letter_item found letters ∷ (map operand before ++ items))
asked-moved found letters [] items h = refl
asked-moved found letters (name ∷ []) items (inl h) = absurd (h refl)
asked-moved None letters (name ∷ []) items (inr h) = sym (h name)
asked-moved (Some flag) letters (name ∷ []) items (inr h) = sym (h name)
asked-moved None letters (name ∷ other ∷ before) items h = refl
asked-moved (Some flag) letters (name ∷ other ∷ before) items h = refl

-- options before the command ask for nothing
asked_in-named : (found : Option Flag) (argument : List ℕ) (rest : List ItemValue)
    → asked_in ((known found, argument) ∷ rest) ≡ asked_in rest
asked_in-named None argument rest = refl
asked_in-named (Some flag) argument rest = refl

asked_in-valued : (found : Option Flag) (argument value : List ℕ) (rest : List ItemValue)
    → asked_in (with_value argument value (known found) ++ rest) ≡ asked_in rest
asked_in-valued None argument value rest = refl
asked_in-valued (Some flag) argument value rest =
    by_test (takes_value flag) (λ e. rw e refl) (λ e. rw e refl)

asked_in-long : (argument text : List ℕ) (rest : List ItemValue)
    → asked_in (long_items argument text ++ rest) ≡ asked_in rest
asked_in-long argument text rest =
    by_test (is_some (position is_equals_sign text))
    (λ e. rw e (asked_in-valued (option_by_name (before_first is_equals_sign text)) argument
    (after_first is_equals_sign text) rest))
    (λ e. rw e (asked_in-named (option_by_name (before_first is_equals_sign text)) argument rest))

asked_in-letter : (found : Option Flag) (letters : List ℕ) (rest : List ItemValue)
    → asked_in (letter_item found letters ∷ rest) ≡ asked_in rest
asked_in-letter None letters rest = refl
asked_in-letter (Some flag) letters rest = refl

pub asked_in-letters : (letters : List ℕ) (rest : List ItemValue)
    → asked_in (letter_items letters ++ rest) ≡ asked_in rest
asked_in-letters [] rest = refl
asked_in-letters (x ∷ xs) rest =
    asked_in-letter (option_by_letter x) (x ∷ xs) (letter_items xs ++ rest)
    ∙ asked_in-letters xs rest

-- the facts of an argument that is an option
facts : (a b c d e : Bool) → (not a && not b && not c && d && e) ≡ true
    → (a ≡ false) × (b ≡ false) × (c ≡ false) × (d ≡ true) × (e ≡ true)
facts false false false true true h = (refl, refl, refl, refl, refl)
facts false false false true false h = absurd (false≢true h)
facts false false false false e h = absurd (false≢true h)
facts false false true d e h = absurd (false≢true h)
facts false true c d e h = absurd (false≢true h)
facts true b c d e h = absurd (false≢true h)

none-from : {A : Type 0} (found : Option A) → is_none found ≡ true → found ≡ None
none-from None h = refl
none-from (Some x) h = absurd (false≢true h)

-- the items of an option
items_after-option : (argument : List ℕ) (rest : List (List ℕ)) → is_option argument ≡ true
    → items_after None (argument ∷ rest) ≡ option_items argument ++ items_after None rest
items_after-option argument rest h =
    let (plain, dash, dashes, awaited, request) = facts (is_plain argument)
    (bytes_eq argument (codes "-")) (bytes_eq argument (codes "--"))
    (is_none (value_awaited argument)) (is_none (request_by_word argument)) h in
    rw (
      dashes,
      none-from (request_by_word argument) request,
      none-from (value_awaited argument) awaited,
    ) refl

asked_in-option : (argument : List ℕ) (rest : List ItemValue) → is_plain argument ≡ false
    → bytes_eq argument (codes "-") ≡ false
    → asked_in (option_items argument ++ rest) ≡ asked_in rest
asked_in-option [] rest plain dash = absurd (false≢true (sym plain))
asked_in-option (b ∷ []) rest plain dash =
    by_test (eqb b 45) (λ e. absurd (false≢true (sym (rw e at dash))))
    (λ e. absurd (false≢true
    (sym (rw (ne_eqb 45 b (λ same. eqb-false b 45 e (sym same))) at plain))))
asked_in-option (b ∷ c ∷ cs) rest plain dash =
    by_test (eqb 45 b)
    (λ e. subst (λ b. asked_in (option_items (b ∷ c ∷ cs) ++ rest) ≡ asked_in rest)
    (eqb-true 45 b e) (by_test (eqb 45 c)
    (λ f. rw f (asked_in-long (45 ∷ c ∷ cs) cs rest))
    (λ f. rw f (asked_in-letters (c ∷ cs) rest))))
    (λ e. absurd (false≢true (sym (rw e at plain))))

-- options before these arguments ask for nothing
pub asked_in-options : (before rest : List (List ℕ)) → list_all is_option before ≡ true
    → asked_in (items_after None (before ++ rest)) ≡ asked_in (items_after None rest)
asked_in-options [] rest h = refl
asked_in-options (argument ∷ before) rest h =
    by_test (is_option argument)
    (λ e. let (plain, dash, dashes, awaited, request) = facts (is_plain argument)
    (bytes_eq argument (codes "-")) (bytes_eq argument (codes "--"))
    (is_none (value_awaited argument)) (is_none (request_by_word argument)) e in
    ap asked_in (items_after-option argument (before ++ rest) e)
    ∙ asked_in-option argument (items_after None (before ++ rest)) plain dash
    ∙ asked_in-options before rest (rw e at h))
    (λ e. absurd (false≢true (rw e at h)))

-- an option is no request
request_of-option : (argument : List ℕ) → is_option argument ≡ true → request_of argument ≡ None
request_of-option [] h = absurd (false≢true h)
request_of-option (b ∷ bs) h =
    let (plain, dash, dashes, awaited, request) = facts (is_plain (b ∷ bs))
    (bytes_eq (b ∷ bs) (codes "-")) (bytes_eq (b ∷ bs) (codes "--"))
    (is_none (value_awaited (b ∷ bs))) (is_none (request_by_word (b ∷ bs))) h in
    by_test (eqb 45 b)
    (λ e. subst (λ b. request_by_word (b ∷ bs) ≡ None → request_of (b ∷ bs) ≡ None)
    (eqb-true 45 b e) (λ none. none) (none-from (request_by_word (b ∷ bs)) request))
    (λ e. absurd (false≢true (sym (rw e at plain))))

pub options_ask_nothing : (before : List (List ℕ)) (argument : List ℕ) (after : List (List ℕ))
    → list_all is_option before ≡ true → request_of argument ≡ None
    → asked_first (before ++ argument ∷ after) ≡ None
options_ask_nothing [] argument after h none = first_asks_nothing argument after none
options_ask_nothing (word ∷ before) argument after h none =
    by_test (is_option word)
    (λ e. first_asks_nothing word (before ++ argument ∷ after) (request_of-option word e))
    (λ e. absurd (false≢true (rw e at h)))
