-- A string without its first components, or without its last components.
use Rattle.std.proofs.Common.{◌≡◌, ℕ, zero, suc, ◌+◌, ◌-◌, ◌≤◌, ◌<◌, false, eqb, ltb, List, [], ◌∷◌}
use Rattle.std.proofs.Common.{◌++◌, length, get_or, take, drop, map, sym, ap, subst, ◌∙◌, arith}
use Rattle.std.proofs.Common.{eqb-true, take_all, length-drop, drop-drop, ltb-true, ltb-false}
use Rattle.std.proofs.Common.{length-append, length-take-le}
use Rattle.std.specs.List.{position_or_len}
use Rattle.std.proofs.lemmas.List.{take-append-le, drop-map, length-take, take-take}
use Rattle.unix_bytes.proofs.lemmas.lists.ListLemmas.{by_test}
use Rattle.unix_path.proofs.lemmas.filler.FillerLemmas.{parts-not_filler, skips_filler}
use Rattle.unix_path.proofs.lemmas.steps.LastLemmas.{last_part, last_start, root_alone}
use Rattle.unix_path.proofs.lemmas.parts.PartLemmas.{parts-name, parts-nil, parts-none, parts-root}
use Rattle.unix_path.proofs.lemmas.parts.PieceLemmas.{length-first_piece, position_or_len-other}
use Rattle.unix_path.proofs.lemmas.parts.PlaceLemmas.{inner_parts-add, part_at, part_at-part_at}
use Rattle.unix_path.proofs.lemmas.parts.PlaceLemmas.{part_at-zero}
use Rattle.unix_path.proofs.lemmas.filler.TrimLemmas.{EndsInPart-take, trims_to}
use Rattle.unix_path.proofs.lemmas.parts.ValueLemmas.{first_value}
use Rattle.unix_path.specs.Parts.{Part, RootDir, Value, inner_parts, is_slash, parts}
use Rattle.unix_path.specs.Scan.{EndsInPart}

-- the first component of t is `first`, and the other components of t are the components of t
-- without its first `len` bytes, where `len` is not 0
pub record SplitsFirst (t : List ℕ) : Type 0 where
  pub first : Part
  pub len : ℕ
  pub some : 0 < len
  pub in_range : len ≤ length t
  pub is : parts t ≡ first ∷ map (part_at len) (parts (drop len t))

-- if the first component of t ends at e, which isn't 0, and the other components are the inner
-- components of t from e on, then t can be split after its first component (`SplitsFirst`)
splits_at : (t : List ℕ) (e : ℕ) (v : Value) → 0 < e → e ≤ length t
    → parts t ≡ record { start = 0; end = e; value = v } ∷ inner_parts e (drop e t) → SplitsFirst t
splits_at t e v some l is =
    let filler = skips_filler (drop e t) in
    let d = filler.len in
    let u : drop d (drop e t) ≡ drop (e + d) t = drop-drop d e t in
    record {
      first = record { start = 0; end = e; value = v };
      len = e + d;
      some = omega arith;
      in_range = omega (arith, filler.in_range, length-drop e t);
      is = is ∙ ap (λ ps. record { start = 0; end = e; value = v } ∷ ps)
          (filler.same e ∙ ap (λ n. inner_parts n (drop d (drop e t))) {x = e + d} {y = 0 + (e + d)}
          (omega arith) ∙ inner_parts-add 0 (e + d) (drop d (drop e t))
          ∙ ap (map (part_at (e + d)))
          (sym (parts-not_filler (drop d (drop e t)) filler.not_filler))
          ∙ ap (λ u. map (part_at (e + d)) (parts u)) u);
    }

-- if t begins with a byte other than a slash, its first piece is not empty
some_first : (t : List ℕ) → 0 < length t → eqb (get_or t 0 0) 47 ≡ false
    → 0 < position_or_len is_slash t
some_first [] l e = absurd (omega arith)
some_first (b ∷ t) l e = omega (arith, position_or_len-other b t e)

-- if t is not empty, it can be split after its first component (`SplitsFirst`)
pub splits_first : (t : List ℕ) → 0 < length t → SplitsFirst t
splits_first t l = by_test (eqb (get_or t 0 0) 47)
    (λ e. splits_at t 1 _ (omega arith) (omega arith) (parts-root t (eqb-true _ 47 e)))
    (λ e. splits_at t (position_or_len is_slash t) _ (some_first t l e)
    (omega (arith, length-first_piece t, length-take (position_or_len is_slash t) t))
    (parts-name t l e))

-- the components of t after the first k are the components of t without its first `at` bytes
pub record DropsTo (t : List ℕ) (k : ℕ) : Type 0 where
  pub at : ℕ
  pub in_range : at ≤ length t
  pub is : drop k (parts t) ≡ map (part_at at) (parts (drop at t))

-- for any k, the components of t after the first k are the components of a suffix of t
unfoldable pub drops_to : (t : List ℕ) (k : ℕ) → DropsTo t k
drops_to t zero = record { at = 0; in_range = omega arith; is = sym (part_at-zero (parts t)) }
drops_to t (suc k) = by_test (ltb 0 (length t))
    (λ some.
    let first = splits_first t (ltb-true _ _ some) in
    let i = first.len in
    let next = drops_to (drop i t) k in
    let j = next.at in
    record {
      at = i + j;
      in_range = omega (arith, next.in_range, first.in_range, length-drop i t);
      is = ap (drop (suc k)) first.is ∙ drop-map (part_at i) k (parts (drop i t))
          ∙ ap (map (part_at i)) next.is ∙ part_at-part_at i j (parts (drop j (drop i t)))
          ∙ ap (λ u. map (part_at (i + j)) (parts u)) (drop-drop j i t);
    })
    (λ none.
    let nil = parts-none t (omega (arith, ltb-false _ _ none)) in
    record {
      at = 0;
      in_range = omega arith;
      is = ap (drop (suc k)) nil
          ∙ sym (ap (map (part_at 0)) nil);
    })

-- the components of t are those of its first `len` bytes, which are empty or end in a component,
-- and then `last`
pub record SplitsLast (t : List ℕ) : Type 0 where
  pub last : Part
  pub len : ℕ
  pub in_range : len ≤ length t
  pub is : parts t ≡ parts (take len t) ++ last ∷ []
  pub ends : EndsInPart (take len t)

-- if t is not empty and ends in a component, it can be split before its last component
-- (`SplitsLast`)
splits_last : (t : List ℕ) → 0 < length t → EndsInPart t → SplitsLast t
splits_last t l ends =
    let start = last_start t in
    let m = start.1.in_range in
    by_test (ltb start.0 (length t))
    (λ e.
    let last = last_part t start.0 start.1 (ltb-true _ _ e) ends in
    let trim = trims_to t start.0 m in
    let in_range : trim.len ≤ length t = omega (arith, trim.in_range) in
    record {
      last = record { start = last.0; end = length t; value = first_value (drop start.0 t) };
      len = trim.len;
      in_range = in_range;
      is = last.1 ∙ ap (λ ps. ps ++ record
          { start = last.0; end = length t; value = first_value (drop start.0 t) } ∷ [])
          (sym trim.same);
      ends = EndsInPart-take t trim.len in_range trim.ends;
    })
    (λ e.
    let here : start.0 ≡ length t = omega (arith, ltb-false _ _ e) in
    let root = root_alone t l ends
    (ap (λ k. get_or t (k - 1) 0) (sym here) ∙ start.1.after_slash (omega arith)) in
    record {
      last = record { start = 0; end = length t; value = RootDir };
      len = 0;
      in_range = omega arith;
      is = root
          ∙ ap (λ ps. ps ++ record { start = 0; end = length t; value = RootDir } ∷ [])
          (sym parts-nil);
      ends = λ l. absurd (omega arith);
    })

-- the components of t without the last m are the components of its first `len` bytes, which are
-- empty or end in a component
pub record TakesTo (t : List ℕ) (m : ℕ) : Type 0 where
  pub len : ℕ
  pub in_range : len ≤ length t
  pub is : take (length (parts t) - m) (parts t) ≡ parts (take len t)
  pub ends : EndsInPart (take len t)

-- if t is empty or ends in a component, then for any m, the components of t without the last m are
-- the components of a prefix of t
pub takes_to : (t : List ℕ) (m : ℕ) → EndsInPart t → TakesTo t m
takes_to t zero ends =
    let all : take (length t) t ≡ t = take_all (length t) t (omega arith) in
    grind (arith, take_all)
takes_to t (suc m) ends = by_test (ltb 0 (length t))
    (λ some.
    let last = splits_last t (ltb-true _ _ some) ends in
    let w = take last.len t in
    let next = takes_to w m last.ends in
    let count : length (parts t) ≡ length (parts w) + 1 = ap length last.is
    ∙ length-append (parts w) (last.last ∷ []) in
    let fewer : length (parts t) - suc m ≡ length (parts w) - m = omega arith in
    let n : length w ≡ last.len = length-take-le last.len t last.in_range in
    let l = next.in_range in
    let same : take next.len w ≡ take next.len t = take-take next.len last.len t (omega arith) in
    record {
      len = next.len;
      in_range = omega (arith, last.in_range);
      is = ap (λ k. take k (parts t)) fewer ∙ ap (take (length (parts w) - m)) last.is
          ∙ take-append-le (length (parts w) - m) (parts w) (last.last ∷ []) (omega arith) ∙ next.is
          ∙ ap parts same;
      ends = subst EndsInPart same next.ends;
    })
    (λ none.
    let nil = parts-none t (omega (arith, ltb-false _ _ none)) in
    record {
      len = 0;
      in_range = omega arith;
      is = ap (λ ps. take (length ps - suc m) ps) nil
          ∙ take_all (0 - suc m) [] (omega arith) ∙ sym parts-nil;
      ends = λ l. absurd (omega arith);
    })
