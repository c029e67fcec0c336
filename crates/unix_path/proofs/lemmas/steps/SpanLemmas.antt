-- Where the components of a string begin and end.
use Rattle.std.proofs.Common.{◌≡◌, ℕ, ◌-◌, ◌≤◌, ◌<◌, ltb, List, [], ◌∷◌, ◌++◌, length}
use Rattle.std.proofs.Common.{get_or, take, drop, map, refl, sym, ap, ◌∙◌, arith}
use Rattle.std.proofs.Common.{take_all, ltb-true, ltb-false, length-take-le, subst}
use Rattle.std.proofs.lemmas.Grind.{common_steps}
use Rattle.unix_bytes.proofs.lemmas.lists.ListLemmas.{by_test}
use Rattle.unix_path.proofs.lemmas.steps.LastLemmas.{last_part, last_start, root_alone}
use Rattle.unix_path.proofs.lemmas.parts.PartLemmas.{parts-name, parts-none, parts-root}
use Rattle.unix_path.proofs.lemmas.parts.PlaceLemmas.{last_end-part_at, part_at, parts_end}
use Rattle.unix_path.proofs.lemmas.filler.TrimLemmas.{trims_to}
use Rattle.unix_path.specs.Parts.{Part, parts}
use Rattle.unix_path.specs.Rest.{last_end, rest, span_of}
use Rattle.unix_path.specs.Scan.{EndsInPart}

-- if q is appended to the components p and ps, the last of them ends where q ends
last_end-append : (p : Part) (ps : List Part) (q : Part) → last_end p (ps ++ q ∷ []) ≡ q.end
last_end-append p [] q = refl
last_end-append p (r ∷ ps) q = last_end-append r ps q

pub parts_end-append : (ps : List Part) (q : Part) → parts_end (ps ++ q ∷ []) ≡ q.end
parts_end-append [] q = refl
parts_end-append (p ∷ ps) q = last_end-append p ps q

-- if s is empty or ends in a component, its components end where s ends
pub parts_end-whole : (s : List ℕ) → EndsInPart s → parts_end (parts s) ≡ length s
parts_end-whole s ends =
    let at = last_start s in
    let l = at.1.in_range in
    by_test (ltb at.0 (length s))
    (λ e. let last = last_part s at.0 at.1 (ltb-true _ _ e) ends in ap parts_end last.1
    ∙ parts_end-append (parts (take at.0 s)) _)
    (λ e. by_test (ltb 0 (length s))
    (λ some.
    let here : at.0 ≡ length s = omega (arith, ltb-false _ _ e) in
    let l : 0 < length s = ltb-true _ _ some in
    ap parts_end (root_alone s l ends
    (ap (λ k. get_or s (k - 1) 0) (sym here) ∙ at.1.after_slash (omega arith))))
    (λ none.
    let size : length s ≡ 0 = omega (arith, ltb-false _ _ none) in
    ap parts_end (parts-none s size) ∙ sym size))

-- in any string t, the components of s span the bytes from index 0 to the end of the last component
-- of s
pub span-parts : (t s : List ℕ) → span_of t (parts s) ≡ take (parts_end (parts s)) t
span-parts t s = grind (arith, parts-root, parts-name, parts-none)

-- `rest s 0 0`, from which no component is removed, is s up to the end of its last component
pub rest-whole : (s : List ℕ) → rest s 0 0 ≡ take (parts_end (parts s)) s
unfolding rest
rest-whole s = grind (arith, take_all, span-parts)

-- if the first n bytes of s have the same components as s, and are empty or end in a component,
-- they are `rest s 0 0`
pub rest-trimmed : (s : List ℕ) (n : ℕ) → n ≤ length s → parts (take n s) ≡ parts s
    → EndsInPart (take n s) → rest s 0 0 ≡ take n s
rest-trimmed s n l same ends = grind (arith, rest-whole, parts_end-whole, length-take-le)

-- if the components of s are ps and then p, the rest of s before p is what ps span
pub rest-last : (s : List ℕ) (ps : List Part) (p : Part) → parts s ≡ ps ++ p ∷ []
    → rest s 0 1 ≡ span_of s ps
unfolding rest
rest-last s ps p e = grind (arith, common_steps)

-- if s is empty or ends in a component, `rest s 0 0`, from which no component is removed, is s
pub rest-ended : (s : List ℕ) → EndsInPart s → rest s 0 0 ≡ s
rest-ended s ends =
    let all = take_all (length s) s (omega arith) in
    rest-trimmed s (length s) (omega arith) (ap parts all) (subst EndsInPart (sym all) ends) ∙ all

-- s contains w at index `at`
abbrev pub StandsAt : List ℕ → ℕ → List ℕ → Type 0
StandsAt s at w = take (length w) (drop at s) ≡ w

-- if components that begin at index 0 span all of w, and s contains w at index `at`, these
-- components, moved by `at`, span w in s
span_of-part_at : (s : List ℕ) (at : ℕ) (ps : List Part) (w : List ℕ)
    → span_of w ps ≡ take (parts_end ps) w → parts_end ps ≡ length w → StandsAt s at w
    → (ps ≡ [] → w ≡ []) → ((p : Part) (qs : List Part) → ps ≡ p ∷ qs → p.start ≡ 0)
    → span_of s (map (part_at at) ps) ≡ w
span_of-part_at s at [] w span end stands none first = sym (none refl)
span_of-part_at s at (p ∷ ps) w span end stands none first = grind (arith, last_end-part_at)

-- the first component of s begins at index 0
first_start : (s : List ℕ) (p : Part) (qs : List Part) → parts s ≡ p ∷ qs → p.start ≡ 0
first_start s p qs e = grind (arith, parts-root, parts-name, parts-none)

-- if s contains w at index `at`, and w is empty or ends in a component, the components of w, moved
-- by `at`, span w in s
pub span_at : (s w : List ℕ) (at : ℕ) → StandsAt s at w → EndsInPart w
    → span_of s (map (part_at at) (parts w)) ≡ w
span_at s w at stands ends =
    grind (arith, parts_end-whole w ends, span-parts w w, first_start w, span_of-part_at)

-- the first `len` bytes of s have the same components as s, and are empty or end in a component
pub record TrimsEnd (s : List ℕ) : Type 0 where
  pub len : ℕ
  pub in_range : len ≤ length s
  pub same : parts (take len s) ≡ parts s
  pub ends : EndsInPart (take len s)

-- every string can be cut before the filler at its end
pub trims_end : (s : List ℕ) → TrimsEnd s
trims_end s =
    let trim = trims_to s (length s) (omega arith) in
    grind (arith, common_steps)

-- the length of `rest s 0 0` is the index where the last component of s ends, or 0 if s has none
pub length-rest_whole : (s : List ℕ) → length (rest s 0 0) ≡ parts_end (parts s)
length-rest_whole s =
    let trim = trims_end s in
    ap length (rest-trimmed s trim.len trim.in_range trim.same trim.ends)
    ∙ sym (parts_end-whole (take trim.len s) trim.ends) ∙ ap parts_end trim.same
