-- The common prefix of two strings, and the components after it.
use Rattle.std.proofs.Common.{◌≡◌, ℕ, suc, ◌+◌, ◌-◌, ◌<◌, ◌≤◌, Equal, Ordering, eqb, List, []}
use Rattle.std.proofs.Common.{◌∷◌, ◌++◌, length, get_or, take, map, refl, sym, ap, ap₂, ◌∙◌, arith}
use Rattle.std.proofs.Common.{append_assoc, eqb-true, take_all}
use Rattle.std.specs.Cmp.{IsTotalOrder}
use Rattle.std.specs.Cmp.Lexicographic.{slice_cmp}
use Rattle.std.specs.List.{common_prefix_len}
use Rattle.std.proofs.lemmas.Cmp.{tied_itself}
use Rattle.std.proofs.lemmas.List.{map-append, take_more}
use Rattle.std.proofs.lemmas.Grind.{common_steps}
use Rattle.unix_path.specs.CommonDir.{inner_values}
use Rattle.unix_path.specs.Order.{values_cmp}
use Rattle.unix_path.specs.OrderLaws.{value_cmp-total, values_cmp-total}
use Rattle.unix_path.specs.Parts.{slash, Part, Value, inner_parts, leading_part, parts, values}
use Rattle.unix_bytes.proofs.lemmas.lists.ListLemmas.{by_test}
use Rattle.unix_path.proofs.lemmas.parts.PieceLemmas.{inner_parts-nil}
use Rattle.unix_path.proofs.lemmas.parts.PlaceLemmas.{values-inner_parts}
use Rattle.unix_path.proofs.lemmas.filler.TrimLemmas.{parts-append, parts-slash}

-- the components of s are its root or leading `.`, if it has one, and then its inner components
pub values-leading : (s : List ℕ)
    → values s ≡ map (λ (p : Part). p.value) (leading_part s) ++ inner_values s
unfolding values parts
values-leading s = map-append (λ (p : Part). p.value) (leading_part s) (inner_parts 0 s)

pub inner_values-nil : inner_values [] ≡ []
inner_values-nil = ap (map (λ (p : Part). p.value)) (inner_parts-nil 0)

-- if a is not empty, the components of a, a slash and b are the components of a, and then the inner
-- components of b
pub values-slash : (a b : List ℕ) → 0 < length a
    → values (a ++ slash ∷ b) ≡ values a ++ inner_values b
unfolding values
values-slash a b l = grind (arith, parts-append, parts-slash, map-append, values-inner_parts)

-- the components of f, a slash and b are the components of f and the slash, and then the inner
-- components of b, at their positions after the slash
pub parts-past_slash : (f b : List ℕ)
    → parts ((f ++ slash ∷ []) ++ b)
    ≡ parts (f ++ slash ∷ []) ++ inner_parts (length (f ++ slash ∷ [])) b
parts-past_slash f b = grind (arith, common_steps, parts-append)

-- without positions, the components of f, a slash and b are the components of f and the slash, and
-- then the inner components of b
pub values-past_slash : (f b : List ℕ)
    → values ((f ++ slash ∷ []) ++ b) ≡ values (f ++ slash ∷ []) ++ inner_values b
unfolding values
values-past_slash f b = grind (arith, parts-past_slash, map-append, values-inner_parts)

-- if R is a total order, two lists that begin with the same list v are in the order of the rests w
-- and x after it
pub slice_cmp-common : {A : Type 0} {R : A → A → Ordering} → IsTotalOrder R → (v w x : List A)
    → slice_cmp R (v ++ w) (v ++ x) ≡ slice_cmp R w x
slice_cmp-common order [] w x = refl
slice_cmp-common {R = R} order (y ∷ v) w x = grind (arith, slice_cmp-common order v w x)

-- two lists of components that begin with the same list v are in the order of the rests w and x
-- after it
pub values_cmp-common : (v w x : List Value) → values_cmp (v ++ w) (v ++ x) ≡ values_cmp w x
values_cmp-common = slice_cmp-common value_cmp-total

-- if two strings begin with f and a slash, they are in the order of the inner components of their
-- rests a and b after the slash
pub values_cmp-slash : (f a b : List ℕ)
    → values_cmp (values (f ++ slash ∷ a)) (values (f ++ slash ∷ b))
    ≡ values_cmp (inner_values a) (inner_values b)
values_cmp-slash f a b =
    let g = f ++ slash ∷ [] in
    let after : (t : List ℕ) → values (f ++ slash ∷ t) ≡ values g ++ inner_values t =
    λ t. ap values (sym (append_assoc f (slash ∷ []) t)) ∙ values-past_slash f t in
    grind (arith, values_cmp-common)

-- if the last of the first n bytes of s is a slash, these bytes are the first n - 1 bytes of s and
-- the slash
pub take-past_slash : (s : List ℕ) (n : ℕ) → 0 < n → n ≤ length s → get_or s (n - 1) 0 ≡ slash
    → take n s ≡ take (n - 1) s ++ slash ∷ []
take-past_slash s n some l is = grind (arith, take_more)

-- if a and b are the same string, they compare as equal
pub values_cmp-equal_strings : (a b : List ℕ) → a ≡ b → Equal ≡ values_cmp (values a) (values b)
values_cmp-equal_strings a b e = grind (arith, tied_itself values_cmp-total (values a))

-- if n is at most the length of the common prefix of a and b, they have the same first n bytes
pub take-common : (a b : List ℕ) (n : ℕ) → n ≤ common_prefix_len eqb a b → take n a ≡ take n b
take-common [] (y ∷ b) (suc n) l = absurd (omega arith)
take-common (x ∷ a) [] (suc n) l = absurd (omega arith)
take-common (x ∷ a) (y ∷ b) (suc n) l = by_test (eqb x y)
    (λ e. let m : suc n ≤ 1 + common_prefix_len eqb a b = rw e at l in
    ap₂ (λ z zs. z ∷ zs) (eqb-true x y e) (take-common a b n (omega arith)))
    (λ e. let m : suc n ≤ 0 = rw e at l in absurd (omega arith))
take-common a b n l = refl

-- if the common prefix of a and b is as long as a and as long as b, a and b are the same
pub common_prefix_len-whole : (a b : List ℕ) → common_prefix_len eqb a b ≡ length a
    → common_prefix_len eqb a b ≡ length b → a ≡ b
common_prefix_len-whole a b e f =
    sym (take_all (length a) a (omega arith)) ∙ take-common a b (length a) (omega (arith, e))
    ∙ take_all (length a) b (omega (arith, e, f))
