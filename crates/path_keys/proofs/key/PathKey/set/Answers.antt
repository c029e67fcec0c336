use Rattle.std.proofs.Common.{sym, subst}
use Rattle.path_keys.specs.Keys.{IsKey}
use Rattle.path_keys.proofs.key.PathKey.set.Goals as goal

pub invariant_of-self : goal.invariant_of-self
invariant_of-self c =
    let failed = c.in_err-resize.was in
    let same = rw failed at c.resize.ensures.items in
    record { is_key = subst (λ key. ∥ IsKey key ∥₁) (sym same) c.args.self.now.is_key }
