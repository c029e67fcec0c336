-- The index just after the last slash of the common prefix of two strings.
use Rattle.std.proofs.Common.{◌≡◌, ℕ, ◌-◌, ◌<◌, ◌≤◌, Bool, true, false, not, eqb, List, length}
use Rattle.std.proofs.Common.{get_or, take, drop, refl, sym, ap, arith, ◌∙◌, eqb-true}
use Rattle.std.proofs.Common.{length-take-le, ne_eqb}
use Rattle.std.specs.List.{common_prefix_len, position_or_len, suffix_len}
use Rattle.std.specs.Prelude.{reverse}
use Rattle.std.proofs.lemmas.List.{get_or-reverse, get_or-take, length-reverse}
use Rattle.std.proofs.lemmas.List.Sums.{common_prefix_len-le, prefix_len_stops}
use Rattle.unix_path.specs.CommonDir.{inner_values, common_dir_of}
use Rattle.unix_path.specs.Names.{after_last}
use Rattle.unix_path.specs.Order.{values_cmp}
use Rattle.unix_path.specs.Parts.{is_slash, slash, values}
use Rattle.unix_path.specs.Steps.{SharesPrefix}
use Rattle.unix_path.proofs.lemmas.order.AfterCutLemmas.{values_cmp-shared}
use Rattle.unix_path.proofs.lemmas.names.NameLemmas.{after_last-byte}
use Rattle.unix_path.proofs.lemmas.order.PairLemmas.{cuts-begins}

-- if n is an index in the common prefix of a and b, n is 0 or just after a slash, and no slash of
-- the common prefix follows, then n is the end of the common directory of a and b (`common_dir_of`)
pub common_dir_of-is : (a b : List ℕ) (common n : ℕ) → common ≡ common_prefix_len eqb a b
    → n ≤ length (take common a) → (0 < n → get_or (take common a) (n - 1) 0 ≡ slash)
    → position_or_len is_slash (drop n (take common a)) ≡ length (drop n (take common a))
    → n ≡ common_dir_of a b
unfolding common_dir_of
common_dir_of-is a b common n is l after none =
    grind (arith, after_last-byte slash (take common a) n l after none)

-- if `after_last is_slash s` is not 0, the byte of s before this index is a slash
after_last-slash : (s : List ℕ) → 0 < after_last is_slash s
    → get_or s (after_last is_slash s - 1) 0 ≡ slash
after_last-slash s some =
    let q : ℕ → Bool = λ b. not (is_slash b) in
    let n = after_last is_slash s in
    let m = suffix_len q s in
    let short : m < length (reverse s) = omega (arith, length-reverse s) in
    let here : get_or (reverse s) m 0 ≡ get_or s (n - 1) 0 =
    get_or-reverse s m 0 (omega arith)
    ∙ ap (λ k. get_or s k 0) {x = length s - 1 - m} {y = n - 1} (omega arith) in
    eqb-true (get_or s (n - 1) 0) 47
    (not_false (is_slash (get_or s (n - 1) 0))
    (ap q (sym here) ∙ prefix_len_stops q (reverse s) 0 short))
  where
    not_false : (b : Bool) → not b ≡ false → b ≡ true
    not_false true e = refl
    not_false false e = cc

-- if a and b have a common directory, the bytes of a and b after it are their rests after the same
-- components
pub shares-common_dir : (a b : List ℕ) → 0 < common_dir_of a b
    → SharesPrefix a b (drop (common_dir_of a b) a) (drop (common_dir_of a b) b)
unfolding common_dir_of
shares-common_dir a b some =
    let m = common_prefix_len eqb a b in
    let n = after_last is_slash (take m a) in
    let inside : n ≤ m = omega (arith, length-take-le m a (common_prefix_len-le eqb a b).0) in
    let here : get_or a (n - 1) 0 ≡ 47 =
    sym (get_or-take m a (n - 1) 0 (omega arith)) ∙ after_last-slash (take m a) some in
    let other : eqb n 0 ≡ false = ne_eqb n 0 (λ e. omega (arith, some, e)) in
    let cut = cuts-begins a b m n refl inside (rw (other, here) refl) in
    cut.shares some

-- if a and b have a common directory, a and b are in the order of the inner components of their
-- rests after it
pub values_cmp-common_dir : (a b : List ℕ) → 0 < common_dir_of a b
    → values_cmp (values a) (values b)
    ≡ values_cmp (inner_values (drop (common_dir_of a b) a))
    (inner_values (drop (common_dir_of a b) b))
values_cmp-common_dir a b some = sym (values_cmp-shared (shares-common_dir a b some))
