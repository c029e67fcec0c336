use Rattle.std.proofs.Common.{◌≡◌, ◌++◌, drop}
use Rattle.pathtool.proofs.lemmas.answers.WordLemmas.{words_of}
use Rattle.pathtool.proofs.edits.push_words.Given as goal

-- the words so far, followed by the words for the remaining answers, are the words for all answers
abbrev pub invariant-loop-given : goal.invariant-loop-given
invariant-loop-given l =
    l.answer.items ++ words_of (drop l.given-index l.answers)
    ≡ l.initial.answer.items ++ words_of l.answers
