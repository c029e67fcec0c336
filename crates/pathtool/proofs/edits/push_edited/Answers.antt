use Rattle.std.proofs.Common.{map, ◌++◌, ap, ap₂, sym, ◌∙◌}
use Rattle.path_runs.specs.EditViews.{edit_value}
use Rattle.path_runs.specs.EditLists.{edits_of}
use Rattle.pathtool.proofs.lemmas.answers.WordLemmas.{words_of}
use Rattle.pathtool.proofs.lemmas.answers.AddLemmas.{adds_after}
use Rattle.pathtool.proofs.lemmas.answers.WordLemmas.{tabs-words}
use Rattle.pathtool.proofs.edits.push_edited.Goals as goal

pub returns : goal.returns
returns c =
    let s = c.args.path.bytes.now in
    let edits = map edit_value c.args.edits.now in
    let done = edits_of s edits in
    let bytes = c.as_bytes.ensures.bytes ∙ c.as_unix_str.ensures.bytes ∙ c.as_path.ensures
    ∙ c.in-Ok.ensures.ok in
    let answers = c.as_slice.ensures.value ∙ c.in-Ok.ensures.value in
    adds_after c.push_words.result _ _ _ c.as_bytes.result.now (words_of c.as_slice.result.now)
    c.in_ok-extend_from_slice.ensures.items
    (ap₂ (λ front answers. front ++ words_of answers) bytes answers
    ∙ ap (λ path. (edits_of path edits).0 ++ words_of (edits_of path edits).1)
    c.in_ok-edited.ensures.bytes
    ∙ sym (tabs-words done.0 done.1))
    c.push_words.ensures
