use Rattle.std.proofs.Common.{sym, subst, arith}
use Rattle.std.proofs.lemmas.List.{nil_from_length}
use Rattle.unix_path.proofs.lemmas.parts.PartLemmas.{values-nil}
use Rattle.path_keys.specs.Keys.{IsKey}
use Rattle.path_keys.proofs.lemmas.values.KeyLemmas.{key_of-nil}
use Rattle.path_keys.proofs.key.PathKey.from_path.Goals as goal

pub returns-then-len-eq0-clause-key : goal.returns-then-len-eq0-clause-key
returns-then-len-eq0-clause-key c = grind (arith, nil_from_length, values-nil, key_of-nil)

pub invariant_of-key : goal.invariant_of-key
invariant_of-key c = record {
  is_key = subst (λ key. ∥ IsKey key ∥₁) (sym c.reserve_exact.ensures.items)
      c.new-key.result.is_key;
}
