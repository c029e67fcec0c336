-- If a string is moved, the positions of its components move with it, and the components stay the
-- same.
use Rattle.std.proofs.Common.{◌≡◌, ℕ, ◌+◌, List, [], ◌∷◌, length, map, refl, ap, arith}
use Rattle.std.specs.List.{slice_split}
use Rattle.unix_path.specs.Parts.{Part, inner_parts, is_slash, parts_of_pieces}
use Rattle.unix_path.specs.Rest.{last_end}
use Rattle.std.proofs.lemmas.List.{take_rest}

-- the component p, moved by d bytes
abbrev pub part_at : ℕ → Part → Part
part_at d p = record { start = p.start + d; end = p.end + d; value = p.value }

-- if the pieces ps are moved by d bytes, so are their components
parts_of_pieces-add : (at d : ℕ) (ps : List (List ℕ))
    → parts_of_pieces (at + d) ps ≡ map (part_at d) (parts_of_pieces at ps)
parts_of_pieces-add at d [] = refl
parts_of_pieces-add at d (p ∷ ps) = grind (arith, parts_of_pieces-add (at + length p + 1) d ps)

-- if s is moved by d bytes, so are its inner components
pub inner_parts-add : (at d : ℕ) (s : List ℕ)
    → inner_parts (at + d) s ≡ map (part_at d) (inner_parts at s)
unfolding inner_parts
inner_parts-add at d s = parts_of_pieces-add at d (slice_split is_slash s)

-- moving components by d bytes changes only their positions
pub values-part_at : (d : ℕ) (ps : List Part)
    → map (λ p. p.value) (map (part_at d) ps) ≡ map (λ p. p.value) ps
values-part_at d [] = refl
values-part_at d (p ∷ ps) = ap (λ vs. p.value ∷ vs) (values-part_at d ps)

-- without their positions, the inner components of s don't depend on the index `at` where s begins
pub values-inner_parts : (at : ℕ) (s : List ℕ)
    → map (λ p. p.value) (inner_parts at s) ≡ map (λ p. p.value) (inner_parts 0 s)
values-inner_parts at s = grind (arith, inner_parts-add 0 at s, values-part_at at (inner_parts 0 s))

-- the index where the last of these components ends, or 0 if there is none
abbrev pub parts_end : List Part → ℕ
parts_end [] = 0
parts_end (p ∷ ps) = last_end p ps

-- if the components p and ps are moved by d bytes, so is the end of the last of them
pub last_end-part_at : (d : ℕ) (p : Part) (ps : List Part)
    → last_end (part_at d p) (map (part_at d) ps) ≡ last_end p ps + d
last_end-part_at d p [] = refl
last_end-part_at d p (q ∷ qs) = last_end-part_at d q qs

-- components that are moved by j and then by i are moved by i + j
pub part_at-part_at : (i j : ℕ) (ps : List Part)
    → map (part_at i) (map (part_at j) ps) ≡ map (part_at (i + j)) ps
part_at-part_at i j [] = refl
part_at-part_at i j (p ∷ ps) = grind (arith, part_at-part_at i j ps)

-- components that are moved by 0 are unchanged
pub part_at-zero : (ps : List Part) → map (part_at 0) ps ≡ ps
part_at-zero [] = refl
part_at-zero (p ∷ ps) = grind (arith, part_at-zero ps)

-- the components of a string without its leading filler
pub ruleset inner_components = (values-inner_parts, take_rest)
