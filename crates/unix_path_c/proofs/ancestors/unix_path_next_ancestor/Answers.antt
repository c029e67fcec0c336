use Rattle.std.proofs.Common.{◌≡◌, ◌<◌, ◌+◌, ◌∷◌, ℕ, length, take, arith, true≢false}
use Rattle.unix_path_c.specs.Ancestors.{remaining_ancestors}
use Rattle.unix_path_c.proofs.lemmas.walks.AncestorLemmas.{parent_remains}
use Rattle.unix_path_c.proofs.lemmas.walks.AncestorLemmas.{remaining_ancestors-last}
use Rattle.unix_path_c.proofs.lemmas.walks.AncestorLemmas.{remaining_ancestors-parent}
use Rattle.unix_path_c.proofs.ancestors.unix_path_next_ancestor.Goals as goal
use Rattle.unix_path_c.proofs.ancestors.unix_path_next_ancestor.Goals.{In-Some, In-None}

-- if the first `next` bytes have a parent, the remaining ancestors are these bytes and then the
-- ancestors of the parent
with_parent : (c : In-Some) → remaining_ancestors c.args.path.now c.args.next.now
    ≡ take c.args.next.now c.args.path.now
    ∷ remaining_ancestors c.args.path.now (length c.in-Some.parent.bytes.now)
with_parent c = remaining_ancestors-parent c.args.path.now c.in-Some.parent.bytes.now
    c.args.next.now c.if-length-path.false c.in-Some.ensures.value

pub returns-in-Some-clause-ancestors : goal.returns-in-Some-clause-ancestors
returns-in-Some-clause-ancestors c = λ _. with_parent c

pub returns-in-Some-clause-ended : goal.returns-in-Some-clause-ended
returns-in-Some-clause-ended c =
    let step = with_parent c in (λ no. absurd (true≢false no), λ none. absurd (cc))

pub returns-in-Some-clause-last : goal.returns-in-Some-clause-last
returns-in-Some-clause-last c = λ _ none. absurd (parent_remains c.args.path.now
    c.in-Some.parent.bytes.now c.args.next.now c.if-length-path.false c.in-Some.ensures.value none)

-- if the first `next` bytes have no parent, they are the only remaining ancestor, and none remains
-- for a number m that is greater than the path's length
without_parent : (c : In-None) (m : ℕ) → length c.args.path.now < m
    → remaining_ancestors c.args.path.now c.args.next.now
    ≡ take c.args.next.now c.args.path.now ∷ remaining_ancestors c.args.path.now m
without_parent c m past = remaining_ancestors-last c.args.path.now c.args.next.now m
    c.if-length-path.false c.in-None.ensures.value past

pub returns-in-None-clause-ancestors : goal.returns-in-None-clause-ancestors
returns-in-None-clause-ancestors c = λ _. without_parent c _ (omega arith)

pub returns-in-None-clause-ended : goal.returns-in-None-clause-ended
returns-in-None-clause-ended c =
    let step = without_parent c (length c.args.path.now + 1) (omega arith) in
    (λ no. absurd (true≢false no), λ none. absurd (cc))
