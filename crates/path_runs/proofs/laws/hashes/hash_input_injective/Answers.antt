use Rattle.std.proofs.Common.{[], sym, ◌∙◌, append-nil}
use Rattle.path_runs.proofs.lemmas.order.OrderLemmas.{begins_both_ways}
use Rattle.path_runs.proofs.lemmas.order.HashInjectiveLemmas.{bytes_fed-IsPrefixOf}
use Rattle.path_runs.proofs.laws.hashes.hash_input_injective.Goals as goal

pub returns-clause-equal : goal.returns-clause-equal
returns-clause-equal c = λ s t e.
    let there = bytes_fed-IsPrefixOf s t [] (append-nil _ ∙ e) in
    let back = bytes_fed-IsPrefixOf t s [] (append-nil _ ∙ sym e) in
    begins_both_ways _ _ there.0 back.0 there.1 back.1

pub returns-clause-begins : goal.returns-clause-begins
returns-clause-begins c = λ s t begins. bytes_fed-IsPrefixOf s t begins.0 begins.1
