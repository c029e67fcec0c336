use Rattle.std.proofs.Common.{◌≡◌, length, sym, ◌∙◌, ap, rules, tests}
use Rattle.std.proofs.lemmas.Iterator.{YieldsList-from_map_by, YieldsList-from_slice}
use Rattle.std.proofs.lemmas.Iterator.Consumers.{YieldsList-at, YieldsList-from_chain}
use Rattle.unix_path.specs.Parts.{value_bytes}
use Rattle.unix_path.specs.Views.{value_of}
use Rattle.unix_path.specs.Cursor.{name_bytes}
use Rattle.pathtool.specs.Fields.{tabs}
use Rattle.pathtool.specs.Walks.{walk_items}
use Rattle.pathtool.proofs.lemmas.answers.AddLemmas.{adds, adds_after}
use Rattle.pathtool.proofs.lemmas.answers.TabbedLemmas.{adds_list, once_yields}
use Rattle.pathtool.proofs.lemmas.answers.TakeLemmas.{counts_after, tabs-counted}
use Rattle.pathtool.proofs.lemmas.answers.TakeLemmas.{walked_items-walk_items, walk_answer-bad}
use Rattle.pathtool.proofs.lemmas.answers.TakeLemmas.{walk_answer-turns}
use Rattle.pathtool.proofs.walks.push_walk.Goals as goal

pub returns-then-not-are_turns : goal.returns-then-not-are_turns
returns-then-not-are_turns c =
    adds c.push_bad_command.result _ _
    (walk_answer-bad c.args.path.bytes.now c.args.letters.now
    (sym c.are_turns.ensures ∙ c.if-not-are_turns.true))
    c.push_bad_command.ensures

pub returns : goal.returns
returns c =
    let path = c.args.path.bytes.now in
    let turns = c.as_slice.ensures.value ∙ c.in_ok-turns.ensures in
    let taken = c.in_ok-walked.ensures in
    let walked = c.in_ok-walked.walked in
    let front_count : c.len.result ≡ length walked.front.items = search rules in
    let behind_count : c.len-2.result ≡ length walked.behind.items = search rules in
    adds c.push_list.result _ _
    (ap tabs (walked_items-walk_items path c.as_slice.result.now walked taken.front taken.rest
    taken.behind
    ∙ ap (walk_items path) turns)
    ∙ walk_answer-turns path c.args.letters.now
    (sym c.are_turns.ensures ∙ c.if-not-are_turns.false))
    (adds_after c.push_list.result _ _ _ _ _
    (counts_after c.args.answer.now.items front_count behind_count
    c.in_ok-push_count.ensures c.in_ok-push_count-2.ensures)
    (tabs-counted _ _ _ walked.rest.bytes.now _)
    (adds_list c.push_list.result _ _
    (YieldsList-from_chain (YieldsList-at c.chain-2.ensures.first
    (YieldsList-from_chain (YieldsList-at c.chain.ensures.first
    (YieldsList-from_map_by _ name_bytes (λ part. value_bytes (value_of part))
    (YieldsList-at c.map-front.ensures.source
    (YieldsList-from_slice _ (c.iter.ensures.rest ∙ c.deref.ensures.value)))
    c.map-front.ensures.closure (λ x r q k. search (rules, tests))))
    (YieldsList-at c.chain.ensures.second
    (once_yields c.as_unix_str.result c.once.ensures.item c.as_unix_str.ensures.bytes))
    c.chain.ensures.first_done c.chain.ensures.second_done))
    (YieldsList-at c.chain-2.ensures.second
    (YieldsList-from_map_by _ name_bytes (λ part. value_bytes (value_of part))
    (YieldsList-at c.map-behind.ensures.source
    (YieldsList-from_slice _ (c.iter-2.ensures.rest ∙ c.deref-2.ensures.value)))
    c.map-behind.ensures.closure (λ x r q k. search (rules, tests))))
    c.chain-2.ensures.first_done c.chain-2.ensures.second_done)
    c.push_list.ensures))
