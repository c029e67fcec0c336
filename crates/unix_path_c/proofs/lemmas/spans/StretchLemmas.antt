-- Runs of bytes in a string, by the index at which they begin or end.
use Rattle.std.proofs.Common.{◌≡◌, ℕ, ◌+◌, ◌-◌, ◌≤◌, ltb, List, [], length, take, drop, refl, ap}
use Rattle.std.proofs.Common.{ap₂, subst, ◌∙◌, arith, length-drop, ltb-true, ltb-false}
use Rattle.std.proofs.Math.Seq.{take-length}
use Rattle.std.proofs.lemmas.List.{length-take}
use Rattle.unix_bytes.proofs.lemmas.lists.ListLemmas.{by_test}
use Rattle.unix_path.proofs.lemmas.rests.MiddleLemmas.{stands_in}
use Rattle.unix_path.proofs.lemmas.steps.SpanLemmas.{StandsAt}
use Rattle.unix_path_c.specs.Spans.{span_end, span_bytes}
use Rattle.unix_path_c.specs.declared.spans.Span.{Span}

-- s contains w at index i, and w ends within s, even if w is empty
pub record LiesInside (s : List ℕ) (i : ℕ) (w : List ℕ) : Type 0 where
  pub bytes : StandsAt s i w
  pub inside : i + length w ≤ length s

-- `LiesInside` is true if s contains w at index i, and i is at most the length of s
pub stands : (s w : List ℕ) (i : ℕ) → i ≤ length s → StandsAt s i w → LiesInside s i w
stands s w i l e = record {
  bytes = e;
  inside = omega (arith, ap length e, length-take (length w) (drop i s), length-drop i s);
}

-- if s contains w at index i, then s contains w without its first n bytes at index i + n
pub stands-end : (s w : List ℕ) (i n : ℕ) → LiesInside s i w → n ≤ length w
    → LiesInside s (i + n) (drop n w)
stands-end s w i n h l = record {
  bytes = stands_in s w (drop n w) i n h.bytes (take-length (drop n w));
  inside = omega (arith, h.inside, length-drop n w);
}

-- s contains w, and w ends at index `end`
pub record EndsAt (s : List ℕ) (end : ℕ) (w : List ℕ) : Type 0 where
  pub fits : length w ≤ end
  pub stands : LiesInside s (end - length w) w

-- the span has the bytes w, ends at index `end` and lies within s
pub record IsSpanOf (s : List ℕ) (end : ℕ) (w : List ℕ) (span : Span) : Type 0 where
  pub bytes : span_bytes s span ≡ w
  pub end_is : span_end span ≡ end
  pub inside : span_end span ≤ length s

-- if s contains w, and w ends at index `end`, the span with w's length that ends there is w's span
pub is_span_of : (s w : List ℕ) (end : ℕ) (span : Span) → EndsAt s end w
    → span ≡ record { start = end - length w; length = length w } → IsSpanOf s end w span
is_span_of s w end span h e =
    let to : span_end span ≡ end - length w + length w = ap span_end e in
    record {
      bytes = ap (span_bytes s) e ∙ h.stands.bytes;
      end_is = omega (arith, h.fits);
      inside = omega (arith, h.stands.inside);
    }

-- an empty run ends anywhere in s
pub nothing_ends : (s : List ℕ) (end : ℕ) → end ≤ length s → EndsAt s end []
nothing_ends s end l =
    record { fits = omega arith; stands = stands s [] (end - 0) (omega arith) refl }

-- the bytes of s from index i to just before `end` end at `end`
pub range_ends : (s : List ℕ) (i end : ℕ) → end ≤ length s
    → EndsAt s end (take (end - i) (drop i s))
range_ends s i end l = by_test (ltb i end)
    (λ e.
    let w = take (end - i) (drop i s) in
    let before = ltb-true _ _ e in
    let size : length w ≡ end - i =
    omega (arith, length-take (end - i) (drop i s), length-drop i s) in
    let from : end - length w ≡ i = omega arith in
    record {
      fits = omega arith;
      stands = stands s w (end - length w) (omega arith)
          (ap₂ (λ n i. take n (drop i s)) size from);
    })
    (λ e.
    let none : 0 ≡ end - i = omega (arith, ltb-false _ _ e) in
    subst (λ n. EndsAt s end (take n (drop i s))) none (nothing_ends s end l))
