-- The rest between the first components and the last.
use Rattle.std.proofs.Common.{◌≡◌, ℕ, ◌+◌, ◌-◌, ◌≤◌, ltb, List, [], length, take, drop, map, sym}
use Rattle.std.proofs.Common.{ap, ap₂, ◌∙◌, arith, take_all, length-drop, drop-drop, ltb-true, ◌∷◌}
use Rattle.std.proofs.Common.{ltb-false, length-take-le, ◌++◌}
use Rattle.std.proofs.lemmas.List.{drop_all, drop-map, take-map, drop-take, length-map, length-take}
use Rattle.std.proofs.lemmas.List.{take-take}
use Rattle.std.proofs.lemmas.Grind.{common_steps}
use Rattle.unix_bytes.proofs.lemmas.lists.ListLemmas.{by_test}
use Rattle.unix_path.proofs.lemmas.parts.PlaceLemmas.{part_at}
use Rattle.unix_path.proofs.lemmas.steps.SpanLemmas.{StandsAt, span_at, trims_end}
use Rattle.unix_path.proofs.lemmas.rests.SplitLemmas.{drops_to, takes_to}
use Rattle.unix_path.proofs.lemmas.filler.TrimLemmas.{EndsInPart-drop}
use Rattle.unix_path.specs.Parts.{parts}
use Rattle.unix_path.specs.Rest.{rest, span_of}
use Rattle.unix_path.specs.Scan.{EndsInPart}

-- if s contains w at index i, and w contains v at index j, then s contains v at index i + j
pub stands_in : (s w v : List ℕ) (i j : ℕ) → take (length w) (drop i s) ≡ w
    → take (length v) (drop j w) ≡ v → take (length v) (drop (i + j) s) ≡ v
stands_in s w v i j outer inner = by_test (ltb j (length w))
    (λ e.
    let l = ltb-true _ _ e in
    let b = length w - j in
    let size : length v ≤ length w - j =
    omega (arith, ap length inner, length-take (length v) (drop j w), length-drop j w) in
    let from : drop j w ≡ take b (drop (i + j) s) = ap (drop j) (sym outer)
    ∙ ap (λ x. drop j (take x (drop i s))) {x = length w} {y = j + b} (omega arith)
    ∙ drop-take j b (drop i s) ∙ ap (take b) (drop-drop j i s) in
    sym (take-take (length v) b (drop (i + j) s) size) ∙ ap (take (length v)) (sym from) ∙ inner)
    (λ e.
    let none : v ≡ [] = sym inner ∙ ap (take (length v)) (drop_all j w (ltb-false _ _ e))
    ∙ take_all (length v) [] (omega arith) in
    ap (λ v. take (length v) (drop (i + j) s)) none ∙ sym none)

-- a list without its first k and its last m elements
abbrev pub middle : {X : Type 0} → ℕ → ℕ → List X → List X
middle k m xs = take (length xs - (k + m)) (drop k xs)

-- `rest_bytes`, which s contains at index `at`, has the components of s without the first k and the
-- last m, and is empty or ends in a component
pub record Middle (s : List ℕ) (k m : ℕ) : Type 0 where
  pub at : ℕ
  pub rest_bytes : List ℕ
  pub stands : StandsAt s at rest_bytes
  pub is : middle k m (parts s) ≡ map (part_at at) (parts rest_bytes)
  pub ends : EndsInPart rest_bytes

-- for any k and m, s contains the rest of s without its first k and last m components (`Middle`)
unfoldable pub middle_of : (s : List ℕ) (k m : ℕ) → Middle s k m
middle_of s k m =
    let trim = trims_end s in
    let n = trim.len in
    let ln = trim.in_range in
    let s0 = take n s in
    let all = trim.same in
    let size : length s0 ≡ n = length-take-le n s ln in
    let dropped = drops_to s0 k in
    let i = dropped.at in
    let li = dropped.in_range in
    let u = drop i s0 in
    let taken = takes_to u m (EndsInPart-drop s0 i li trim.ends) in
    let w = take taken.len u in
    let lw = taken.in_range in
    let size_u : length u ≡ length s0 - i = length-drop i s0 in
    let size_w : length w ≡ taken.len = length-take-le taken.len u lw in
    let from : u ≡ take (n - i) (drop i s) =
    ap (λ k. drop i (take k s)) {x = n} {y = i + (n - i)} (omega arith)
    ∙ drop-take i (n - i) s in
    let after : drop k (parts s) ≡ map (part_at i) (parts u) = ap (drop k) (sym all) ∙ dropped.is in
    let count : length (parts u) ≡ length (parts s) - k = sym (length-map (parts u) (part_at i))
    ∙ ap length (sym after) ∙ length-drop k (parts s) in
    let fewer : length (parts s) - (k + m) ≡ length (parts u) - m = omega arith in
    record {
      at = i;
      rest_bytes = w;
      stands = ap (λ k. take k (drop i s)) size_w
          ∙ sym (take-take taken.len (n - i) (drop i s) (omega arith))
          ∙ ap (take taken.len) (sym from);
      is = ap₂ take fewer after ∙ take-map (part_at i) (length (parts u) - m) (parts u)
          ∙ ap (map (part_at i)) taken.is;
      ends = taken.ends;
    }

-- `rest s k m` is the `rest_bytes` of any `Middle` of s, k and m
pub rest-middle : (s : List ℕ) (k m : ℕ) (h : Middle s k m) → rest s k m ≡ h.rest_bytes
unfolding rest
rest-middle s k m h = ap (span_of s) h.is ∙ span_at s h.rest_bytes h.at h.stands h.ends

-- applying f to each element of a list, and removing the first k and the last m elements, can be
-- done in either order
pub map-middle : {X Y : Type 0} (f : X → Y) (k m : ℕ) (xs : List X)
    → middle k m (map f xs) ≡ map f (middle k m xs)
map-middle f k m xs = grind (arith, length-map, drop-map, take-map)

-- removing k leading and m trailing elements, and then i leading and j trailing elements, is the
-- same as removing k + i leading and m + j trailing elements
pub middle-middle : {X : Type 0} (k m i j : ℕ) (xs : List X)
    → middle i j (middle k m xs) ≡ middle (k + i) (m + j) xs
middle-middle k m i j xs =
    let n = length xs in
    let ys = drop k xs in
    let size : length (take (n - (k + m)) ys) ≡ n - (k + m) =
    length-take-le (n - (k + m)) ys (omega (arith, length-drop k xs)) in
    by_test (ltb i (n - (k + m)))
    (λ e.
    let l = ltb-true _ _ e in
    let b = n - (k + m) - i in
    let from : drop i (take (n - (k + m)) ys) ≡ take b (drop i ys) =
    ap (λ x. drop i (take x ys)) {x = n - (k + m)} {y = i + b} (omega arith)
    ∙ drop-take i b ys in
    let count : length (take (n - (k + m)) ys) - (i + j) ≡ n - (k + i + (m + j)) = omega arith in
    ap₂ take count from ∙ take-take (n - (k + i + (m + j))) b (drop i ys) (omega arith)
    ∙ ap (take (n - (k + i + (m + j)))) (drop-drop i k xs))
    (λ e.
    let l = ltb-false _ _ e in
    let none : drop i (take (n - (k + m)) ys) ≡ [] =
    drop_all i (take (n - (k + m)) ys) (omega arith) in
    let zero_left : n - (k + i + (m + j)) ≡ 0 = omega arith in
    ap (take (length (take (n - (k + m)) ys) - (i + j))) none
    ∙ take_all (length (take (n - (k + m)) ys) - (i + j)) [] (omega arith)
    ∙ sym (ap (λ x. take x (drop (k + i) xs)) zero_left))

-- appending an element to a list and then removing the last element leaves the list
pub middle-push : {X : Type 0} (xs : List X) (y : X) → middle 0 1 (xs ++ y ∷ []) ≡ xs
middle-push xs y = grind (arith, common_steps)
