-- The first component of a string, and the position of the rest after it.
use Rattle.std.proofs.Common.{◌≡◌, ℕ, ◌+◌, ◌-◌, ◌≤◌, ◌<◌, ltb, List, [], ◌∷◌, length, take, drop}
use Rattle.std.proofs.Common.{map, sym, ap, ap₂, subst, ◌∙◌, arith, take_all, ltb-true, ltb-false}
use Rattle.std.proofs.lemmas.List.{nil_from_length}
use Rattle.unix_path.specs.Parts.{Part, Value, parts, value_bytes, values}
use Rattle.unix_path.specs.Rest.{last_end, rest}
use Rattle.unix_bytes.proofs.lemmas.lists.ListLemmas.{by_test}
use Rattle.unix_path.proofs.lemmas.rests.MiddleLemmas.{Middle, middle, middle_of, rest-middle}
use Rattle.unix_path.proofs.lemmas.parts.PartLemmas.{parts-none, values-nil}
use Rattle.unix_path.proofs.lemmas.parts.PlaceLemmas.{last_end-part_at, part_at, parts_end}
use Rattle.unix_path.proofs.lemmas.steps.SpanLemmas.{length-rest_whole, parts_end-whole}
use Rattle.unix_path.proofs.lemmas.names.StemLemmas.{length-rest_whole-le}
use Rattle.unix_path_c.proofs.lemmas.spans.FollowLemmas.{BeginsWith, Follow, begins_with}

-- v is the first component of s, which begins with the bytes of v, and the rest of s after v is the
-- last m of the first n bytes of s
pub record TakesFromFront (s : List ℕ) (v : Value) (n m : ℕ) : Type 0 where
  pub is : parts s ≡ record { start = 0; end = length (value_bytes v); value = v }
      ∷ map (part_at (n - m)) (parts (rest s 1 0))
  pub bytes : take (length (value_bytes v)) s ≡ value_bytes v
  pub rest_bytes : take m (drop (n - m) s) ≡ rest s 1 0
  pub before : length (value_bytes v) ≤ n - m
  pub fewer : m ≤ n
  pub in_range : n ≤ length s

-- a string that has components has bytes
pub some_bytes : (s : List ℕ) → (values s ≡ [] → ⊥) → 0 < length s
some_bytes s some = by_test (ltb 0 (length s)) (λ e. ltb-true _ _ e)
    (λ e. absurd (some
    (ap values (nil_from_length s (omega (arith, ltb-false _ _ e))) ∙ values-nil)))

-- dropping the first component of a list leaves the components after it
middle-first : (p : Part) (ps : List Part) → middle 1 0 (p ∷ ps) ≡ ps
middle-first p ps = take_all (length (p ∷ ps) - (1 + 0)) ps (omega arith)

-- the components of s after its first one are the components of the rest after it, with their
-- indices in s
after_first : (s : List ℕ) (b : BeginsWith s) (h : Middle s 1 0)
    → b.more ≡ map (part_at h.at) (parts h.rest_bytes)
after_first s b h =
    let p : Part =
    record { start = 0; end = length (value_bytes b.value); value = b.value } in
    sym (middle-first p b.more) ∙ ap (middle 1 0) (sym b.is) ∙ h.is

-- if all components of w are moved by `at` bytes, the last of them ends `at` bytes later
last_end-after_first : (p : Part) (at : ℕ) (w : List ℕ) (b : BeginsWith w)
    → last_end p (map (part_at at) (parts w)) ≡ parts_end (parts w) + at
last_end-after_first p at w b =
    let q : Part =
    record { start = 0; end = length (value_bytes b.value); value = b.value } in
    ap (λ ps. last_end p (map (part_at at) ps)) b.is ∙ last_end-part_at at q b.more
    ∙ ap (λ ps. parts_end ps + at) (sym b.is)

-- `TakesFromFront` is true of the first component of s if s has no other component
takes_alone : (s : List ℕ) (b : BeginsWith s) (h : Middle s 1 0) → length h.rest_bytes ≡ 0
    → TakesFromFront s b.value (length (rest s 0 0)) (length (rest s 1 0))
takes_alone s b h e =
    let n = length (rest s 0 0) in
    let m = length (rest s 1 0) in
    let w = rest-middle s 1 0 h in
    let none : m ≡ 0 = ap length w ∙ e in
    let nothing : rest s 1 0 ≡ [] = nil_from_length (rest s 1 0) none in
    let more : b.more ≡ [] =
    after_first s b h ∙ ap (map (part_at h.at)) (parts-none h.rest_bytes e) in
    let end : n ≡ length (value_bytes b.value) = length-rest_whole s ∙ ap parts_end b.is
    ∙ ap (last_end (record
    { start = 0; end = length (value_bytes b.value); value = b.value })) more in
    record {
      is = b.is ∙ ap
          (λ ps. record { start = 0; end = length (value_bytes b.value); value = b.value } ∷ ps)
          (more ∙ sym (ap (map (part_at (n - m))) (parts-none (rest s 1 0) none)));
      bytes = b.stands;
      rest_bytes = ap (λ k. take k (drop (n - m) s)) none ∙ sym nothing;
      before = omega (arith, none, end);
      fewer = omega (arith, none);
      in_range = length-rest_whole-le s;
    }

-- `TakesFromFront` is true of the first component of s if other components come after it
takes_more : (s : List ℕ) (b : BeginsWith s) (h : Middle s 1 0) → 0 < length h.rest_bytes
    → TakesFromFront s b.value (length (rest s 0 0)) (length (rest s 1 0))
takes_more s b h l =
    let n = length (rest s 0 0) in
    let m = length (rest s 1 0) in
    let w = rest-middle s 1 0 h in
    let c = begins_with h.rest_bytes l in
    let p : Part =
    record { start = 0; end = length (value_bytes b.value); value = b.value } in
    let size : m ≡ length h.rest_bytes = ap length w in
    let more = after_first s b h in
    let end : n ≡ length h.rest_bytes + h.at = length-rest_whole s ∙ ap parts_end b.is
    ∙ ap (last_end p) more ∙ last_end-after_first p h.at h.rest_bytes c
    ∙ ap (λ k. k + h.at) (parts_end-whole h.rest_bytes h.ends) in
    let from : h.at ≡ n - m = omega (arith, size, end) in
    let follow : Follow (length (value_bytes b.value)) (map (part_at h.at) (parts h.rest_bytes)) =
    subst (Follow (length (value_bytes b.value))) more b.follow in
    let next = subst (λ ps. Follow (length (value_bytes b.value)) (map (part_at h.at) ps))
    c.is follow in
    record {
      is = b.is ∙ ap (λ ps. p ∷ ps)
          (more ∙ ap₂ (λ i u. map (part_at i) (parts u)) from (sym w));
      bytes = b.stands;
      rest_bytes = ap₂ (λ k i. take k (drop i s)) size (sym from) ∙ h.stands ∙ sym w;
      before = omega (arith, next.0, from);
      fewer = omega (arith, size, end);
      in_range = length-rest_whole-le s;
    }

-- if v is the first component of s, `TakesFromFront` is true of v, by the facts `BeginsWith` and
-- `Middle` about s
takes_from_front-by : (s : List ℕ) (v : Value) (vs : List Value) (b : BeginsWith s)
    (h : Middle s 1 0)
    → values s ≡ v ∷ vs → TakesFromFront s v (length (rest s 0 0)) (length (rest s 1 0))
unfolding values
takes_from_front-by s v vs b h e =
    let firsts = ap (map (λ p. p.value)) (sym b.is) ∙ e in
    let same : b.value ≡ v = cc in
    subst (λ v. TakesFromFront s v (length (rest s 0 0)) (length (rest s 1 0))) same
    (by_test (ltb 0 (length h.rest_bytes)) (λ some. takes_more s b h (ltb-true _ _ some))
    (λ none. takes_alone s b h (omega (arith, ltb-false _ _ none))))

-- if s has components, `TakesFromFront` is true of v, the first of them
pub takes_from_front : (s : List ℕ) (v : Value) (vs : List Value) → values s ≡ v ∷ vs
    → TakesFromFront s v (length (rest s 0 0)) (length (rest s 1 0))
takes_from_front s v vs e = takes_from_front-by s v vs
    (begins_with s (some_bytes s (λ none. let no = sym none ∙ e in cc))) (middle_of s 1 0) e
