-- The filler after the last component.
use Rattle.std.proofs.Common.{◌≡◌, ℕ, zero, suc, ◌+◌, ◌-◌, ◌≤◌, ◌<◌, true, false}
use Rattle.std.proofs.Common.{List, [], ◌∷◌, ◌++◌, length, take, drop, refl, sym, ap}
use Rattle.std.proofs.Common.{◌∙◌, arith, append-nil}
use Rattle.std.proofs.Common.{length-take-le}
use Rattle.std.proofs.lemmas.Grind.{common_steps}
use Rattle.unix_bytes.proofs.lemmas.lists.ListLemmas.{by_test}
use Rattle.unix_path.proofs.lemmas.parts.CutLemmas.{inner_parts-append, leading_part-append}
use Rattle.unix_path.proofs.lemmas.parts.PieceLemmas.{inner_parts-dot, inner_parts-nil}
use Rattle.unix_path.specs.Parts.{inner_parts, leading_part, parts}
use Rattle.unix_path.specs.Scan.{is_trailing, EndsInPart}

-- if x isn't empty, a slash after x adds no component
pub parts-slash : (x : List ℕ) → 0 < length x → parts (x ++ 47 ∷ []) ≡ parts x
unfolding parts
parts-slash x l =
    grind (arith, leading_part-append, inner_parts-append, inner_parts-nil, append-nil)

-- two strings that begin with x and a slash have the same root or leading `.`, or both have neither
pub leading_past_slash : (x y z : List ℕ) → leading_part (x ++ 47 ∷ y) ≡ leading_part (x ++ 47 ∷ z)
unfolding leading_part
leading_past_slash [] y z = refl
leading_past_slash (b ∷ x) y z = leading_part-append (b ∷ x) y (omega arith)
    ∙ sym (leading_part-append (b ∷ x) z (omega arith))

-- the components of x, a slash and y are the components of x and the slash, and then the inner
-- components of y
pub parts-append : (x y : List ℕ)
    → parts (x ++ 47 ∷ y) ≡ parts (x ++ 47 ∷ []) ++ inner_parts (0 + length x + 1) y
unfolding parts
parts-append x y =
    grind (arith, common_steps, leading_past_slash, inner_parts-append, inner_parts-nil)

-- if `is_trailing` is true for the byte of s at i, the first i + 1 bytes of s have the same
-- components as its first i bytes
pub parts_trailing : (s : List ℕ) (i : ℕ) → i < length s → is_trailing s i ≡ true
    → parts (take (i + 1) s) ≡ parts (take i s)
parts_trailing s i l e =
    grind (
      arith,
      common_steps,
      length-take-le,
      parts-slash,
      parts-append,
      inner_parts-dot,
      append-nil,
    )

-- if n isn't 0, and `is_trailing` is true for the last of the first n bytes of s, the first n - 1
-- bytes have the same components as the first n bytes
pub parts_shorter : (s : List ℕ) (n : ℕ) → 0 < n → n ≤ length s → is_trailing s (n - 1) ≡ true
    → parts (take (n - 1) s) ≡ parts (take n s)
parts_shorter s n some l e = grind (arith, parts_trailing)

-- if s is empty or ends in a component, each suffix of s is empty or ends in a component
pub EndsInPart-drop : (s : List ℕ) (i : ℕ) → i ≤ length s → EndsInPart s → EndsInPart (drop i s)
EndsInPart-drop s i l ends some = grind (arith, common_steps)

-- if n is 0, or the last of the first n bytes of s is not trailing filler, these bytes are empty or
-- end in a component
pub EndsInPart-take : (s : List ℕ) (n : ℕ) → n ≤ length s → (0 < n → is_trailing s (n - 1) ≡ false)
    → EndsInPart (take n s)
EndsInPart-take s n l ends some = grind (arith, common_steps)

-- `len` is at most n, and the first `len` bytes of t have the same components as its first n bytes,
-- and are empty or end in a component
pub record TrimsTo (t : List ℕ) (n : ℕ) : Type 0 where
  pub len : ℕ
  pub in_range : len ≤ n
  pub same : parts (take len t) ≡ parts (take n t)
  pub ends : 0 < len → is_trailing t (len - 1) ≡ false

-- if t has at least n bytes, its first n bytes can be cut before the filler at their end
pub trims_to : (t : List ℕ) (n : ℕ) → n ≤ length t → TrimsTo t n
trims_to t zero l = grind arith
trims_to t (suc n) l = by_test (is_trailing t n)
    (λ e. let next = trims_to t n (omega arith) in record {
      len = next.len;
      in_range = omega (arith, next.in_range);
      same = next.same ∙ sym (parts_trailing t n (omega arith) e)
          ∙ ap (λ k. parts (take k t)) {x = n + 1} {y = suc n} (omega arith);
      ends = next.ends;
    })
    (λ e. record {
      len = suc n;
      in_range = omega arith;
      same = refl;
      ends = λ _. ap (is_trailing t) {x = suc n - 1} {y = n} (omega arith) ∙ e;
    })
