use Rattle.std.proofs.Common.{refl, arith}
use Rattle.std.proofs.lemmas.Bool.Decides.{nat_tests}
use Rattle.std.proofs.lemmas.List.{take_rest}
use Rattle.path_keys.proofs.lemmas.reading.LastCodeLemmas.{walks_none, walks_one, walks_some}
use Rattle.path_keys.proofs.lemmas.reading.LastCodeLemmas.{walks_empty}
use Rattle.path_keys.proofs.lemmas.reading.LastCodeLemmas.{walks_key}
use Rattle.path_keys.proofs.lemmas.reading.LastCodeLemmas.{walks_no_key}
use Rattle.path_keys.proofs.parent.last_code.Goals as goal

pub loop-code-init : goal.loop-code-init
loop-code-init c = walks_none c.args.key.now

pub loop-code-preserved : goal.loop-code-preserved
loop-code-preserved c = grind (arith, walks_one, take_rest)

pub returns-then-not-is_empty-clause-none : goal.returns-then-not-is_empty-clause-none
returns-then-not-is_empty-clause-none c = λ _ s e.
    absurd (walks_no_key c.loop-code.last c.loop-code.invariant (c.in_default.ensures.none refl)
    (grind (arith, nat_tests)) (s, e))

pub returns-clause-some : goal.returns-clause-some
returns-clause-some c =
    walks_some c.loop-code.last c.loop-code.invariant (c.in_default.ensures.none refl)

pub returns-clause-none : goal.returns-clause-none
returns-clause-none c =
    walks_empty c.loop-code.last c.loop-code.invariant (c.in_default.ensures.none refl)

pub returns-clause-not_a_key : goal.returns-clause-not_a_key
returns-clause-not_a_key c = λ no_key.
    absurd (no_key (walks_key c.loop-code.last c.loop-code.invariant (grind (arith, nat_tests))))
