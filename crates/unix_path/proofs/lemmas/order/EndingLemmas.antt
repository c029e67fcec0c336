-- The last bytes of two strings show whether both end in the same component.
use Rattle.std.proofs.Common.{◌≡◌, ℕ, ◌-◌, ◌<◌, ◌≤◌, ◌↔◌, true, false, eqb, List, [], ◌∷◌, ◌++◌}
use Rattle.std.proofs.Common.{length, get_or, take, drop, sym, ap, ◌∙◌, arith, get_or-drop}
use Rattle.std.proofs.Common.{length-drop}
use Rattle.std.specs.List.{position_or_len}
use Rattle.std.proofs.lemmas.List.Sums.{fails_before_first}
use Rattle.std.proofs.lemmas.Grind.{common_steps}
use Rattle.unix_path.specs.Parts.{Value, is_slash, value_bytes, values}
use Rattle.unix_path.specs.Prefixes.{IsSuffixOf}
use Rattle.unix_path.specs.Scan.{EndsInPart}
use Rattle.unix_path.specs.Steps.{is_piece_start}
use Rattle.unix_path.proofs.lemmas.steps.LastLemmas.{last_part, last_start, IsLastStart}
use Rattle.unix_path.proofs.lemmas.lists.SuffixLemmas.{ends_last, ends_with_shared}
use Rattle.unix_path.proofs.lemmas.lists.SuffixLemmas.{ends_without_shared, SharesSuffix}
use Rattle.unix_path.proofs.lemmas.parts.ValueLemmas.{first_value, value_bytes-first}

-- the last piece of s is its last component
pub record EndsInPiece (s : List ℕ) : Type 0 where
  pub some : 0 < length s
  pub no_slash : eqb (get_or s (length s - 1) 0) 47 ≡ false
  pub part : EndsInPart s

-- a and b end in the same n bytes, and none of these n bytes is a slash
pub record HasCommonSuffix (a b : List ℕ) (n : ℕ) : Type 0 where
  pub in_first : n ≤ length a
  pub in_second : n ≤ length b
  pub same : drop (length a - n) a ≡ drop (length b - n) b
  pub no_slash : position_or_len is_slash (drop (length a - n) a) ≡ n

-- if n is less than k, the byte of s just before its last n bytes is one of the last k bytes of s,
-- at index `k - 1 - n` among them
from_end : (s : List ℕ) (n k : ℕ) → n < k → k ≤ length s
    → get_or s (length s - 1 - n) 0 ≡ get_or (drop (length s - k) s) (k - 1 - n) 0
from_end s n k more inside = grind (arith, get_or-drop)

-- if a and b have a common suffix of k bytes without a slash, and n is less than k, the byte just
-- before the last n bytes of a equals the byte just before the last n bytes of b
pub same_end_byte : (a b : List ℕ) (n k : ℕ) → HasCommonSuffix a b k → n < k
    → get_or a (length a - 1 - n) 0 ≡ get_or b (length b - 1 - n) 0
same_end_byte a b n k h more =
    grind (arith, from_end a n k more h.in_first, from_end b n k more h.in_second)

-- if a and b have a common suffix of k bytes without a slash, and n is less than k, the byte just
-- before the last n bytes of a is not a slash
pub same_end_no_slash : (a b : List ℕ) (n k : ℕ) → HasCommonSuffix a b k → n < k
    → get_or a (length a - 1 - n) 0 ≡ 47 → ⊥
same_end_no_slash a b n k h more slash =
    let is = from_end a n k more h.in_first in
    let none = fails_before_first is_slash (drop (length a - k) a) (k - 1 - n) 0 in
    grind (arith, slash, is, none, h.no_slash)

-- if the last k bytes of s contain no slash, and a piece begins with them, they are the last piece
-- of s
last_at : (s : List ℕ) (k : ℕ) → k ≤ length s
    → position_or_len is_slash (drop (length s - k) s) ≡ k
    → is_piece_start s (length s - k) ≡ true → IsLastStart s (length s - k)
last_at s k inside none begins = record {
  in_range = omega arith;
  after_slash = λ some. grind (arith, begins, some);
  no_slash = omega (arith, none, length-drop (length s - k) s);
}

-- if the last piece of s begins at `start`, a piece begins at `start`
begins_last : (s : List ℕ) (start : ℕ) → IsLastStart s start → is_piece_start s start ≡ true
begins_last s start h = grind (arith, h.after_slash)

-- if the last piece of s, which begins at `start`, is the last component of s, this piece is not
-- empty
starts_inside : (s : List ℕ) (start : ℕ) → IsLastStart s start → EndsInPiece s → start < length s
starts_inside s start h ends =
    grind (arith, h.in_range, h.after_slash, ends.some, ends.no_slash)

-- if the last piece of s, which begins at `start`, is the last component of s, the components of s
-- are those of its first `start` bytes, and then the component of the piece
last_is : (s : List ℕ) (start : ℕ) → IsLastStart s start → EndsInPiece s
    → values s ≡ values (take start s) ++ first_value (drop start s) ∷ []
unfolding values
last_is s start h ends =
    grind (arith, common_steps, last_part s start h (starts_inside s start h ends) ends.part)

-- if a and b end in their last components, have a common suffix of k bytes without a slash, and a
-- piece of each begins where this suffix begins, then the components of a and b are those of the
-- bytes before this suffix, each followed by the same components
pub shares_last : (a b : List ℕ) (k : ℕ) → EndsInPiece a → EndsInPiece b → HasCommonSuffix a b k
    → is_piece_start a (length a - k) ≡ true → is_piece_start b (length b - k) ≡ true
    → SharesSuffix (values a) (values b) (values (take (length a - k) a))
    (values (take (length b - k) b))
shares_last a b k first second h begins_a begins_b =
    grind (
      arith,
      last_is a (length a - k) (last_at a k h.in_first h.no_slash begins_a) first,
      last_is,
      last_at,
    )

-- if a and b end in their last components, have a common suffix of k bytes without a slash, but
-- none of k + 1 bytes, and the components of a end with the components of b, then a piece of each
-- begins where the suffix of k bytes begins
pub ends_longest : (a b : List ℕ) (k : ℕ) → EndsInPiece a → EndsInPiece b → HasCommonSuffix a b k
    → (k < length a → k < length b
    → get_or a (length a - 1 - k) 0 ≡ get_or b (length b - 1 - k) 0
    → get_or a (length a - 1 - k) 0 ≡ 47) → IsSuffixOf (values b) (values a)
    → (is_piece_start a (length a - k) ≡ true) × (is_piece_start b (length b - k) ≡ true)
ends_longest a b k first second h longest ends =
    let d = (last_start a).0 in
    let e = (last_start b).0 in
    let at_a = (last_start a).1 in
    let at_b = (last_start b).1 in
    let last = ends_last (values (take d a)) (values (take e b)) (last_is a d at_a first)
    (last_is b e at_b second) ends in
    let pieces : drop d a ≡ drop e b =
    sym (value_bytes-first (drop d a)) ∙ ap value_bytes last ∙ value_bytes-first (drop e b) in
    let n = length a - d in
    let size : n ≡ length b - e =
    omega (arith, ap length pieces, length-drop d a, length-drop e b) in
    let same : HasCommonSuffix a b n = record {
      in_first = omega arith;
      in_second = omega (arith, size);
      same = grind (arith, pieces, size, at_a.in_range, at_b.in_range);
      no_slash = grind (arith, at_a.no_slash, at_a.in_range, length-drop);
    } in
    let none : n < k → ⊥ = λ more. same_end_no_slash a b n k h more
    (grind (arith, at_a.after_slash, at_a.in_range, more, h.in_first)) in
    let not_longer : k < n → ⊥ = λ more. same_end_no_slash a b k n same more
    (longest (omega (arith, more, same.in_first)) (omega (arith, more, same.in_second))
    (same_end_byte a b k n same more)) in
    let is : n ≡ k = omega (arith, not_longer, none) in
    let start_a : d ≡ length a - k = omega (arith, is, at_a.in_range) in
    let start_b : e ≡ length b - k = omega (arith, is, size, at_b.in_range) in
    grind (arith, begins_last)

-- what `ends_in_part` and `common_suffix_len` ensure, for two strings of which each ends in its
-- last component
pub record LongestSuffix (a b : List ℕ) (k : ℕ) : Type 0 where
  pub first : EndsInPiece a
  pub second : EndsInPiece b
  pub suffix : HasCommonSuffix a b k
  pub longest : k < length a → k < length b
      → get_or a (length a - 1 - k) 0 ≡ get_or b (length b - 1 - k) 0
      → get_or a (length a - 1 - k) 0 ≡ 47

-- the components of a and b are those of all but their last n bytes, each followed by the same
-- components
abbrev pub SharesLast : List ℕ → List ℕ → ℕ → Type 0
SharesLast a b n = (shared : List Value)
    × (values a ≡ values (take (length a - n) a) ++ shared)
    × (values b ≡ values (take (length b - n) b) ++ shared)

-- so it is for the longest common suffix, if a piece of each begins where this suffix begins
pub shares_longest : {a b : List ℕ} {k : ℕ} → LongestSuffix a b k
    → is_piece_start a (length a - k) ≡ true → is_piece_start b (length b - k) ≡ true
    → SharesLast a b k
shares_longest {a} {b} {k} h begins_a begins_b =
    let shares = shares_last a b k h.first h.second h.suffix begins_a begins_b in
    (shares.last, shares.first, shares.second)

-- if it is so, a ends with b if and only if they do so without these bytes
pub ends_before : (a b : List ℕ) (n : ℕ) → SharesLast a b n
    → IsSuffixOf (values (take (length b - n) b)) (values (take (length a - n) a))
    ↔ IsSuffixOf (values b) (values a)
ends_before a b n h =
    let shares : SharesSuffix (values a) (values b) (values (take (length a - n) a))
    (values (take (length b - n) b)) = record { last = h.0; first = h.1; second = h.2 } in
    (ends_with_shared shares, ends_without_shared shares)

-- if a piece of only one of them, or of neither, begins where the longest common suffix begins, a
-- doesn't end with b
pub ends_apart : {a b : List ℕ} {k : ℕ} → LongestSuffix a b k
    → (is_piece_start a (length a - k) ≡ true → is_piece_start b (length b - k) ≡ true → ⊥)
    → IsSuffixOf (values b) (values a) → ⊥
ends_apart {a} {b} {k} h other ends =
    let begins = ends_longest a b k h.first h.second h.suffix h.longest ends in
    other begins.0 begins.1
