use Rattle.std.proofs.Common.{◌≡◌, ◌<◌, ◌-◌, ◌+◌, get_or, length, ap, ap₂, sym, ◌∙◌, arith}
use Rattle.std.proofs.Common.{subst, Some}
use Rattle.std.proofs.Common.{ℕ, List, set}
use Rattle.std.proofs.lemmas.Bool.Decides.{nat_tests}
use Rattle.std.proofs.lemmas.List.{nil_from_length, get_or_read}
use Rattle.path_keys.specs.Held.{key_bytes}
use Rattle.path_keys.specs.Ranges.{IsRangeEnd}
use Rattle.path_keys.proofs.lemmas.values.LastLemmas.{last_low}
use Rattle.path_keys.proofs.lemmas.values.RangeLemmas.{end_of-nil, end_of-some}
use Rattle.path_keys.proofs.lemmas.values.RangeLemmas.{range_end-none, range_end-some}
use Rattle.path_keys.proofs.key.PathKey.range_under.Goals as goal

pub returns-then-is_empty-clause-covers : goal.returns-then-is_empty-clause-covers
returns-then-is_empty-clause-covers c = grind (arith, range_end-none)

-- if `items` are the bytes of the key, which is not empty and has n bytes, the byte at index n - 1
-- of `items` is the last byte of the key
last_is : (key items : List ℕ) (n b : ℕ) → items ≡ key → n ≡ length key → 0 < length key
    → b ≡ get_or items (n - 1) b → b ≡ get_or key (length key - 1) 0
last_is key items n b same long some is = grind (arith, get_or_read)

pub overflow_add-index_mut : goal.overflow_add-index_mut
overflow_add-index_mut c = grind (arith, last_is, last_low)

pub returns-clause-covers : goal.returns-clause-covers
returns-clause-covers c =
    let key = key_bytes c.args.self.now in
    let same : c.in_ok-end.end.items ≡ key =
    c.in_ok-end.ensures.items ∙ c.as_bytes-first.ensures.bytes in
    let some : 0 < length key = grind (arith, nat_tests) in
    let long : c.len-last.result ≡ length key =
    c.len-last.ensures ∙ c.in_ok-end.ensures.len ∙ ap length c.as_bytes-first.ensures.bytes in
    let last = last_is key _ _ c.index_mut.result.now same long some c.index_mut.ensures.value in
    subst (λ end. IsRangeEnd key (Some end)) (sym
    (ap₂ (λ xs b. set xs (c.len-last.result - 1) (b + 1)) same last
    ∙ ap (λ n. set key (n - 1) (get_or key (length key - 1) 0 + 1)) long))
    (range_end-some key some)

pub returns-then-is_empty-clause-end : goal.returns-then-is_empty-clause-end
returns-then-is_empty-clause-end c = grind (arith, nil_from_length, end_of-nil)

pub returns-clause-end : goal.returns-clause-end
returns-clause-end c = grind (arith, last_is, end_of-some)
