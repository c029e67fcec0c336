use Rattle.std.proofs.Common.{refl, arith}
use Rattle.std.proofs.lemmas.Bool.{false≢true}
use Rattle.std.proofs.lemmas.Bool.Decides.{nat_tests}
use Rattle.std.proofs.lemmas.List.{take_rest}
use Rattle.path_keys.proofs.lemmas.spelling.RunReadLemmas.{reads_key, reads_lead, reads_lone}
use Rattle.path_keys.proofs.lemmas.spelling.RunReadLemmas.{reads_longer, reads_no_run, reads_run}
use Rattle.path_keys.proofs.lemmas.spelling.RunTextLemmas.{lead_known}
use Rattle.path_keys.proofs.decode.path_len.Goals as goal

pub loop-rest-init : goal.loop-rest-init
loop-rest-init c =
    reads_lead (lead_known c.past_lead-started.ensures.lead c.past_lead-started.ensures.inner)
    c.len_in_path-len.ensures

pub loop-rest-preserved : goal.loop-rest-preserved
loop-rest-preserved c = grind (arith, reads_run, take_rest)

pub returns-in_default-clause-is_key : goal.returns-in_default-clause-is_key
returns-in_default-clause-is_key c = (
  λ none. absurd (false≢true none),
  λ is. absurd (reads_no_run c.loop-rest.invariant (c.in_default.ensures.none refl)
      (grind (arith, nat_tests)) is),
)

pub returns-in_default-clause-length : goal.returns-in_default-clause-length
returns-in_default-clause-length c = λ s e.
    absurd (reads_no_run c.loop-rest.invariant (c.in_default.ensures.none refl)
    (grind (arith, nat_tests)) (s, e))

pub returns-then-len-gt1-clause-is_key : goal.returns-then-len-gt1-clause-is_key
returns-then-len-gt1-clause-is_key c =
    (λ some. reads_key c.loop-rest.invariant (grind (arith, nat_tests)), λ is. refl)

pub returns-then-len-gt1-clause-length : goal.returns-then-len-gt1-clause-length
returns-then-len-gt1-clause-length c =
    reads_longer c.loop-rest.invariant (grind (arith, nat_tests)) (omega arith)

pub returns-clause-is_key : goal.returns-clause-is_key
returns-clause-is_key c =
    (λ some. reads_key c.loop-rest.invariant (grind (arith, nat_tests)), λ is. refl)

pub returns-clause-length : goal.returns-clause-length
returns-clause-length c =
    reads_lone c.loop-rest.invariant (grind (arith, nat_tests)) (omega arith)
