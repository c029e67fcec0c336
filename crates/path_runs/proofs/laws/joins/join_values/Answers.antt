use Rattle.std.proofs.Common.{◌≢◌, List, ℕ, [], ◌∷◌, length, ◌<◌, ◌++◌, sym, ap, refl, ◌∙◌}
use Rattle.std.proofs.Common.{arith, append_assoc}
use Rattle.unix_path.specs.Parts.{slash, values}
use Rattle.unix_path.proofs.lemmas.order.CommonPrefixLemmas.{values-past_slash}
use Rattle.path_runs.proofs.lemmas.joins.ValueLemmas.{values-join_of}
use Rattle.path_runs.proofs.lemmas.joins.LeadLemmas.{drop_dot-values, drop_leading-values}
use Rattle.path_runs.proofs.laws.joins.join_values.Goals as goal

some_byte : (s : List ℕ) → s ≢ [] → 0 < length s
some_byte [] h = absurd (h refl)
some_byte (b ∷ s) h = omega arith

pub returns-clause-join : goal.returns-clause-join
returns-clause-join c = grind (arith, values-join_of, some_byte, drop_dot-values)

pub returns-clause-slash : goal.returns-clause-slash
returns-clause-slash c = λ a b. ap values (sym (append_assoc a (slash ∷ []) b))
    ∙ values-past_slash a b
    ∙ ap (λ vs. values (a ++ slash ∷ []) ++ vs) (sym (drop_leading-values b))
