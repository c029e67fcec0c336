use Rattle.std.proofs.Common.{refl}
use Rattle.std.proofs.lemmas.Bool.{false≢true}
use Rattle.unix_path.proofs.lemmas.order.AfterCutLemmas.{begins-rest_bytes}
use Rattle.unix_path.proofs.lemmas.order.PairLemmas.{no_prefix-unless}
use Rattle.unix_path.proofs.pair.Comparison.rest_after_cut.Goals as goal

pub returns-in-StartsWith-clause-begins : goal.returns-in-StartsWith-clause-begins
returns-in-StartsWith-clause-begins c = λ s t h.
    (λ _. begins-rest_bytes (c.in-StartsWith.ensures.0.shares s t h), λ _. refl)

pub returns-in_default : goal.returns-in_default
returns-in_default c = record {
  begins = λ s t h. (
    λ no. absurd (false≢true no),
    λ begins. absurd (no_prefix-unless s t c.args.a c.args.b.now c.compare_after_cut.result
        c.compare_after_cut.ensures h c.in_default.not-StartsWith begins),
  );
  rest_bytes = tt;
}
