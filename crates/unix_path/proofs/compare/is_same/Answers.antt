use Rattle.std.proofs.Common.{◌≡◌, ℕ, Option, None, Some, is_some, false, not, [], refl, sym, ap}
use Rattle.std.proofs.Common.{◌∙◌}
use Rattle.std.specs.Ordering.{is_eq}
use Rattle.std.proofs.lemmas.Bool.{false≢true}
use Rattle.unix_path.specs.Order.{values_cmp}
use Rattle.unix_path.specs.OrderLaws.{is_eq-values_cmp}
use Rattle.unix_path.specs.Parts.{values}
use Rattle.unix_bytes.proofs.lemmas.lists.ListLemmas.{by_test}
use Rattle.unix_path.proofs.compare.is_same.Goals as goal

none-from : (r : Option ℕ) → is_some r ≡ false → r ≡ None
none-from None e = refl
none-from (Some n) e = absurd (false≢true (sym e))

pub returns-then-is_none : goal.returns-then-is_none
returns-then-is_none c =
    let v = values c.args.a.now in
    let w = values c.args.b.now in
    by_test (is_eq (values_cmp v w))
    (λ e. absurd (c.shared_last_len.ensures.apart
    (none-from c.shared_last_len.result (c.is_none.ensures ∙ ap not c.if-is_none.true))
    ([], sym (is_eq-values_cmp v w e))))
    (λ e. sym e)
