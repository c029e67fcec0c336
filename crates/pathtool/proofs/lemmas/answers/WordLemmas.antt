-- The words for answers, after the bytes of a path.
use Rattle.std.proofs.Common.{◌≡◌, ℕ, ◌+◌, ◌<◌, List, [], ◌∷◌, ◌++◌, map, length, get_or, drop}
use Rattle.std.proofs.Common.{sym, ap, ◌∙◌, append-nil, append_assoc}
use Rattle.std.proofs.lemmas.List.{at_drop_more}
use Rattle.path_runs.specs.declared.edits.Answer.{Answer}
use Rattle.pathtool.specs.Fields.{tabs}
use Rattle.pathtool.specs.EditFields.{answer_word}
use Rattle.std.specs.List.{flat_map}
use Rattle.pathtool.specs.Steps.{tab}

-- the words for the answers of edits, with a tab before each
abbrev pub words_of : List Answer → List ℕ
words_of answers = flat_map (λ answer. tab ∷ answer_word answer) answers

-- `bytes` and then the word for each of `answers`, joined by tabs, are `bytes` and then each word
-- after a tab
pub tabs-words : (bytes : List ℕ) (answers : List Answer)
    → tabs (bytes ∷ map answer_word answers) ≡ bytes ++ words_of answers
tabs-words bytes [] = sym (append-nil bytes)
tabs-words bytes (answer ∷ answers) =
    ap (λ more. bytes ++ tab ∷ more) (tabs-words (answer_word answer) answers)

-- `bytes`, a tab, the word for answer n, and the words for the answers after it are `bytes` and the
-- words for the answers from n on
pub words-push : (bytes : List ℕ) (answers : List Answer) (n : ℕ) (d : Answer) → n < length answers
    → ((bytes ++ tab ∷ []) ++ answer_word (get_or answers n d)) ++ words_of (drop (n + 1) answers)
    ≡ bytes ++ words_of (drop n answers)
words-push bytes answers n d l =
    let word = answer_word (get_or answers n d) in
    let words = words_of (drop (n + 1) answers) in
    append_assoc (bytes ++ tab ∷ []) word words ∙ append_assoc bytes (tab ∷ []) (word ++ words)
    ∙ ap (λ more. bytes ++ more) (sym (at_drop_more words_of answers n d l))
