use Rattle.std.proofs.Common.{◌+◌, ◌++◌, drop, ap, ap₂, sym, ◌∙◌, append-nil}
use Rattle.std.proofs.lemmas.List.{at_drop_all}
use Rattle.pathtool.proofs.lemmas.answers.WordLemmas.{words_of}
use Rattle.pathtool.proofs.lemmas.answers.WordLemmas.{words-push}
use Rattle.pathtool.proofs.edits.push_words.Goals as goal

pub loop-given-preserved : goal.loop-given-preserved
loop-given-preserved c =
    let answers = c.args.answers.now in
    let n = c.loop-given.given-index in
    let word = c.as_bytes.ensures.value ∙ c.answer_word.ensures in
    ap (λ bytes. bytes ++ words_of (drop (n + 1) answers))
    (c.in_ok-extend_from_slice.ensures.items
    ∙ ap₂ (λ front said. front ++ said) c.in_ok-push.ensures.items word)
    ∙ words-push c.loop-given.answer.items answers n _ c.loop-given-test.true
    ∙ c.loop-given.invariant

pub returns : goal.returns
returns c =
    let bytes = c.loop-given.answer.items in
    let none = at_drop_all words_of c.args.answers.now c.loop-given.given-index
    c.loop-given-test.false in
    sym (append-nil bytes) ∙ sym (ap (λ words. bytes ++ words) none) ∙ c.loop-given.invariant
