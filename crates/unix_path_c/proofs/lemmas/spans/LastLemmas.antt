-- The last component of a string, and the position of the rest before it.
use Rattle.std.proofs.Common.{◌≡◌, ℕ, ◌+◌, ◌-◌, ◌≤◌, ltb, List, [], ◌∷◌, ◌++◌, length}
use Rattle.std.proofs.Common.{None, take, drop, map, sym, ap, ap₂, subst, ◌∙◌, arith}
use Rattle.std.proofs.Common.{ltb-true, ltb-false, length-append}
use Rattle.std.proofs.Math.Seq.{drop-append_seam}
use Rattle.std.specs.List.{last_or}
use Rattle.std.proofs.lemmas.List.{map-append}
use Rattle.std.proofs.lemmas.Option.{same_Some}
use Rattle.unix_path.specs.Parts.{Part, Value, parts, value_bytes, values}
use Rattle.unix_path.specs.Rest.{rest}
use Rattle.unix_path.specs.Scan.{EndsInPart}
use Rattle.unix_bytes.proofs.lemmas.lists.ListLemmas.{by_test, Snoc, Empty, Push, snoc}
use Rattle.unix_bytes.proofs.lemmas.lists.ListLemmas.{last_or-push}
use Rattle.unix_path.proofs.lemmas.rests.MiddleLemmas.{middle, middle_of, rest-middle, stands_in}
use Rattle.unix_path.proofs.lemmas.rests.MiddleLemmas.{middle-push}
use Rattle.unix_path.proofs.lemmas.parts.PartLemmas.{parts-none}
use Rattle.unix_path.proofs.lemmas.parts.PlaceLemmas.{part_at, part_at-zero, parts_end}
use Rattle.unix_path.proofs.lemmas.rests.RestLemmas.{middle_of-at, take-rest}
use Rattle.unix_path.proofs.lemmas.steps.SpanLemmas.{length-rest_whole, parts_end-append}
use Rattle.unix_path.proofs.lemmas.steps.SpanLemmas.{parts_end-whole}
use Rattle.unix_path.proofs.lemmas.names.StemLemmas.{length-rest_whole-le}
use Rattle.unix_path_c.proofs.lemmas.spans.FollowLemmas.{BeginsWith, Follow, Follow-parts}
use Rattle.unix_path_c.proofs.lemmas.spans.FollowLemmas.{begins_with, ends_with}

-- v is the last component of s: the bytes of v end at index n, and the rest of s before v is its
-- first m bytes
pub record TakesFromBack (s : List ℕ) (v : Value) (n m : ℕ) : Type 0 where
  pub is : parts s ≡ parts (rest s 0 1)
      ++ record { start = n - length (value_bytes v); end = n; value = v } ∷ []
  pub bytes : take (length (value_bytes v)) (drop (n - length (value_bytes v)) s) ≡ value_bytes v
  pub rest_bytes : take m s ≡ rest s 0 1
  pub before : m ≤ n - length (value_bytes v)
  pub fits : length (value_bytes v) ≤ n
  pub in_range : n ≤ length s

-- dropping all components before the last leaves only the last
middle-last : (ps : List Part) (p : Part) → middle (length ps) 0 (ps ++ p ∷ []) ≡ p ∷ []
middle-last ps p =
    let one : length (ps ++ p ∷ []) - (length ps + 0) ≡ 1 =
    omega (arith, length-append ps (p ∷ [])) in
    ap₂ take one (drop-append_seam ps (p ∷ []))

-- equal lists have the same first component
first_same : {p q : Part} {ps qs : List Part} → p ∷ ps ≡ q ∷ qs → p ≡ q
first_same e = cc

-- if s contains w at index `at`, and w has only one component, which is p when it is moved by `at`
-- bytes, then s contains the bytes of p at p's index
bytes_at_only : (s : List ℕ) (p : Part) (at : ℕ) (w : List ℕ) (b : BeginsWith w)
    → take (length w) (drop at s) ≡ w → p ∷ [] ≡ map (part_at at) (parts w)
    → take (length (value_bytes p.value)) (drop p.start s) ≡ value_bytes p.value
bytes_at_only s p at w b stands alone =
    let same = first_same (alone ∙ ap (map (part_at at)) b.is) in
    let start : p.start ≡ 0 + at = ap (λ p. p.start) same in
    let value : p.value ≡ b.value = ap (λ p. p.value) same in
    let index : p.start ≡ at + 0 = omega (arith, start) in
    subst (λ v. take (length (value_bytes v)) (drop p.start s) ≡ value_bytes v) (sym value)
    (ap (λ k. take (length (value_bytes b.value)) (drop k s)) index
    ∙ stands_in s w (value_bytes b.value) at 0 stands b.stands)

-- if p is the last component of s, s contains the bytes of p at p's index
bytes_at_last : (s : List ℕ) (ps : List Part) (p : Part) → parts s ≡ ps ++ p ∷ []
    → take (length (value_bytes p.value)) (drop p.start s) ≡ value_bytes p.value
bytes_at_last s ps p e =
    let h = middle_of s (length ps) 0 in
    let alone : p ∷ [] ≡ map (part_at h.at) (parts h.rest_bytes) =
    sym (middle-last ps p) ∙ ap (middle (length ps) 0) (sym e) ∙ h.is in
    by_test (ltb 0 (length h.rest_bytes))
    (λ some. bytes_at_only s p h.at h.rest_bytes (begins_with h.rest_bytes (ltb-true _ _ some))
    h.stands alone)
    (λ none.
    let no : p ∷ [] ≡ [] = alone ∙ ap (map (part_at h.at))
    (parts-none h.rest_bytes (omega (arith, ltb-false _ _ none))) in
    absurd (let size = ap length no in omega (arith, size)))

-- if p is the last component of s, the components before p are the components of the rest of s
-- before p
before_last : (s : List ℕ) (ps : List Part) (p : Part) → parts s ≡ ps ++ p ∷ []
    → ps ≡ parts (rest s 0 1)
before_last s ps p e =
    let h = middle_of s 0 1 in
    sym (middle-push ps p) ∙ ap (middle 0 1) (sym e) ∙ h.is
    ∙ ap (λ i. map (part_at i) (parts h.rest_bytes)) (middle_of-at s 1)
    ∙ part_at-zero (parts h.rest_bytes)
    ∙ ap parts (sym (rest-middle s 0 1 h))

-- the components of the rest of s before its last component end where this rest ends
parts_end-rest : (s : List ℕ) → parts_end (parts (rest s 0 1)) ≡ length (rest s 0 1)
parts_end-rest s =
    let h = middle_of s 0 1 in
    parts_end-whole (rest s 0 1) (subst EndsInPart (sym (rest-middle s 0 1 h)) h.ends)

-- if p is the last component of s, `TakesFromBack` is true of p
takes_last : (s : List ℕ) (ps : List Part) (p : Part) → parts s ≡ ps ++ p ∷ []
    → TakesFromBack s p.value (length (rest s 0 0)) (length (rest s 0 1))
takes_last s ps p e =
    let n = length (rest s 0 0) in
    let k = length (value_bytes p.value) in
    let ends = ends_with 0 ps p (subst (Follow 0) e (Follow-parts s)) in
    let end : n ≡ p.end = length-rest_whole s ∙ ap parts_end e ∙ parts_end-append ps p in
    let before = before_last s ps p e in
    let up_to : parts_end ps ≡ length (rest s 0 1) = ap parts_end before ∙ parts_end-rest s in
    let start : p.start ≡ n - k = omega (arith, ends.size, end) in
    record {
      is = e ∙ ap₂ (λ ps i. ps ++ record { start = i; end = p.end; value = p.value } ∷ []) before
          start
          ∙ ap (λ j. parts (rest s 0 1) ++ record { start = n - k; end = j; value = p.value } ∷ [])
          (sym end);
      bytes = ap (λ i. take k (drop i s)) (sym start) ∙ bytes_at_last s ps p e;
      rest_bytes = take-rest s 1;
      before = omega (arith, ends.before, up_to, start);
      fits = omega (arith, ends.size, end);
      in_range = length-rest_whole-le s;
    }

-- if s has components, `TakesFromBack` is true of v, the last of them
pub takes_from_back : (s : List ℕ) (v : Value) (vs : List Value) → values s ≡ vs ++ v ∷ []
    → TakesFromBack s v (length (rest s 0 0)) (length (rest s 0 1))
unfolding values
takes_from_back s v vs e = by (snoc (parts s))
  where
    by : Snoc (parts s) → TakesFromBack s v (length (rest s 0 0)) (length (rest s 0 1))
    by (Empty none) =
        let size = ap (λ ps. length (map (λ p. p.value) ps)) (sym none) ∙ ap length e in
        absurd (omega (arith, size, length-append vs (v ∷ [])))
    by (Push ps p last) =
        let same : p.value ≡ v = same_Some p.value v
        (sym (last_or-push None (map (λ p. p.value) ps) p.value)
        ∙ ap (last_or None) (sym (map-append (λ p. p.value) ps (p ∷ [])))
        ∙ ap (λ ps. last_or None (map (λ p. p.value) ps)) (sym last)
        ∙ ap (last_or None) e ∙ last_or-push None vs v) in
        subst (λ v. TakesFromBack s v (length (rest s 0 0)) (length (rest s 0 1))) same
        (takes_last s ps p last)
