-- The components of a rest, and the rest of a rest.
use Rattle.std.proofs.Common.{◌≡◌, ℕ, zero, suc, ◌+◌, ◌-◌, ◌≤◌, ltb, List, length, take, drop}
use Rattle.std.proofs.Common.{map, refl, sym, ap, ◌∙◌, arith, length-drop, ltb-true, ltb-false}
use Rattle.std.proofs.lemmas.List.{length-map}
use Rattle.unix_bytes.proofs.lemmas.lists.ListLemmas.{by_test}
use Rattle.unix_path.proofs.lemmas.rests.MiddleLemmas.{Middle, map-middle, middle, middle-middle}
use Rattle.unix_path.proofs.lemmas.rests.MiddleLemmas.{middle_of, rest-middle, stands_in}
use Rattle.unix_path.proofs.lemmas.parts.PartLemmas.{parts-none}
use Rattle.unix_path.proofs.lemmas.parts.PlaceLemmas.{part_at, part_at-part_at, values-part_at}
use Rattle.unix_path.proofs.lemmas.rests.SplitLemmas.{drops_to, splits_first}
use Rattle.unix_path.specs.Parts.{parts, values}
use Rattle.unix_path.specs.Rest.{rest}

-- the components of `rest s k m` are those of s without the first k and the last m
pub values-rest : (s : List ℕ) (k m : ℕ) → values (rest s k m) ≡ middle k m (values s)
unfolding values
values-rest s k m =
    let h = middle_of s k m in
    ap (λ w. map (λ p. p.value) (parts w)) (rest-middle s k m h)
    ∙ sym (values-part_at h.at (parts h.rest_bytes)) ∙ ap (map (λ p. p.value)) (sym h.is)
    ∙ sym (map-middle (λ p. p.value) k m (parts s))

-- removing k leading and m trailing components of s, and then i leading and j trailing components
-- of the rest, leaves the same rest as removing k + i leading and m + j trailing components of s
pub rest-rest : (s : List ℕ) (k m i j : ℕ) → rest (rest s k m) i j ≡ rest s (k + i) (m + j)
rest-rest s k m i j =
    let h = middle_of s k m in
    let w = h.rest_bytes in
    let g = middle_of w i j in
    let v = g.rest_bytes in
    let together : Middle s (k + i) (m + j) = record {
      at = h.at + g.at;
      rest_bytes = v;
      stands = stands_in s w v h.at g.at h.stands g.stands;
      is = sym (middle-middle k m i j (parts s)) ∙ ap (middle i j) h.is
          ∙ map-middle (part_at h.at) i j (parts w) ∙ ap (map (part_at h.at)) g.is
          ∙ part_at-part_at h.at g.at (parts v);
      ends = g.ends;
    } in
    ap (λ w. rest w i j) (rest-middle s k m h) ∙ rest-middle w i j g
    ∙ sym (rest-middle s (k + i) (m + j) together)

-- if t has at most n bytes, it has no more components than bytes
few_parts : (n : ℕ) (t : List ℕ) → length t ≤ n → length (parts t) ≤ length t
few_parts zero t l = omega (arith, ap length (parts-none t (omega arith)))
few_parts (suc n) t l = by_test (ltb 0 (length t))
    (λ e.
    let first = splits_first t (ltb-true _ _ e) in
    let u = drop first.len t in
    let size : length u ≡ length t - first.len = length-drop first.len t in
    let some = first.some in
    omega (
      arith,
      ap length first.is,
      length-map (parts u) (part_at first.len),
      few_parts n u
          (omega (arith, first.in_range)),
      first.in_range,
    ))
    (λ e. omega (arith, ap length (parts-none t (omega (arith, ltb-false _ _ e)))))

-- a path has no more components than bytes
pub length-values : (s : List ℕ) → length (values s) ≤ length s
unfolding values
length-values s = grind (arith, length-map, few_parts)

-- if no leading component of s is removed, the rest begins at index 0 of s
pub middle_of-at : (s : List ℕ) (m : ℕ) → (middle_of s 0 m).at ≡ 0
unfolding middle_of drops_to
middle_of-at s m = refl

-- `rest s 0 m`, from which no leading component is removed, is a prefix of s
pub take-rest : (s : List ℕ) (m : ℕ) → take (length (rest s 0 m)) s ≡ rest s 0 m
take-rest s m =
    let h = middle_of s 0 m in
    let is = rest-middle s 0 m h in
    grind (arith, middle_of-at)
