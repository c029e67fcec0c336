use Rattle.std.proofs.Common.{[], ap, sym, ◌∙◌}
use Rattle.unix_path.proofs.lemmas.parts.PartLemmas.{values-nil}
use Rattle.path_keys.specs.Keys.{key_of}
use Rattle.path_keys.proofs.lemmas.values.KeyLemmas.{key_of-nil}
use Rattle.path_keys.proofs.key.PathKey.new.Goals as goal

pub invariant_of-result : goal.invariant_of-result
invariant_of-result c =
    record { is_key = ∣ ([], ap key_of values-nil ∙ key_of-nil ∙ sym c.new.ensures.items) ∣₁ }
