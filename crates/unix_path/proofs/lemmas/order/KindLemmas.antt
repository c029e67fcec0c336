-- The order of two strings by the kinds of their first components.
use Rattle.std.proofs.Common.{◌≡◌, ℕ, zero, suc, ◌+◌, ◌<◌, ◌≤◌, true, false, eqb, List, [], ◌∷◌}
use Rattle.std.proofs.Common.{cond, length, get_or, map, refl, sym, ap, ap₂, ◌∙◌, arith}
use Rattle.std.specs.Cmp.Lexicographic.{slice_cmp}
use Rattle.std.specs.List.{common_prefix_len}
use Rattle.std.specs.Ordering.{is_ne, nat_cmp}
use Rattle.std.proofs.lemmas.Bool.{false≢true}
use Rattle.std.proofs.lemmas.Cmp.{tied_itself, nat_cmp_total}
use Rattle.std.proofs.lemmas.Grind.{common_steps}
use Rattle.unix_path.specs.Order.{rank, value_cmp, values_cmp}
use Rattle.std.specs.Option.{option_map_or}
use Rattle.std.specs.Prelude.{slice_get}
use Rattle.unix_path.specs.Parts.{Part, Value, value_bytes, values}
use Rattle.unix_path.specs.Prefixes.{IsPrefixOf}
use Rattle.unix_path.specs.Scan.{starts_with_parent_dir, is_filler}
use Rattle.unix_path.specs.Steps.{piece_rank, AreApart, DiffersAtStart}
use Rattle.unix_path.proofs.lemmas.order.ApartLemmas.{apart-values, ranks_end}
use Rattle.unix_path.proofs.lemmas.parts.PartLemmas.{parts-name, parts-root, values-nil}
use Rattle.unix_path.proofs.lemmas.parts.PieceLemmas.{first_piece, first_piece-other}
use Rattle.unix_path.proofs.lemmas.lists.PrefixLemmas.{begins_tail}
use Rattle.unix_path.proofs.lemmas.parts.ValueLemmas.{first_value, value_bytes-first}

-- 1 plus the position of the kind of the first of these values, or 0 if there is none
abbrev pub first_rank : List Value → ℕ
first_rank vs = option_map_or (λ v. 1 + rank v) (slice_get vs 0) 0

-- the `first_rank` of the components of s is 0 if s is empty, 1 if s begins with a slash, 2 if its
-- first piece is `.`, 3 if its first piece is `..`, and otherwise 4
pub first_rank_of : (s : List ℕ) → first_rank (values s) ≡ cond (eqb (length s) 0) 0
    (cond (eqb (get_or s 0 0) 47) 1 (cond (is_filler s 0) 2 (cond (starts_with_parent_dir s) 3 4)))
unfolding values
first_rank_of [] = ap first_rank values-nil
first_rank_of (b ∷ s) = grind (arith, common_steps, parts-root, parts-name)

-- if the first components of v and w are of different kinds, or only one of v and w is empty, then
-- v and w are in the order of their `first_rank`s
pub values_cmp-ranks : (v w : List Value) → is_ne (nat_cmp (first_rank v) (first_rank w)) ≡ true
    → nat_cmp (first_rank v) (first_rank w) ≡ values_cmp v w
values_cmp-ranks [] [] differs = absurd (false≢true differs)
values_cmp-ranks v w differs = grind arith

-- if the components v and w are of the same kind, they are in the order of their bytes
same_kind : (v w : Value) → rank v ≡ rank w
    → value_cmp v w ≡ slice_cmp nat_cmp (value_bytes v) (value_bytes w)
same_kind v w same = rw (same, tied_itself nat_cmp_total (rank w)) refl

-- if s begins with a byte other than a slash, its first component is that of its first piece
values-name : (s : List ℕ) → 0 < length s → eqb (get_or s 0 0) 47 ≡ false
    → (others : List Value) × (values s ≡ first_value (first_piece s) ∷ others)
unfolding values
values-name s some other = (_, ap (map (λ (p : Part). p.value)) (parts-name s some other))

-- if two strings begin with the bytes x and y, which aren't slashes, have the same bytes before n,
-- which is 0 or 1, and have different `piece_rank`s at n, their first pieces are in the order of
-- these ranks
first_piece-cmp : (x y : ℕ) (a b : List ℕ) (n : ℕ) → n ≤ 1 → (0 < n → x ≡ y)
    → eqb x 47 ≡ false → eqb y 47 ≡ false
    → (piece_rank (x ∷ a) n ≡ piece_rank (y ∷ b) n → ⊥)
    → slice_cmp nat_cmp (first_piece (x ∷ a)) (first_piece (y ∷ b))
    ≡ nat_cmp (piece_rank (x ∷ a) n) (piece_rank (y ∷ b) n)
first_piece-cmp x y a b zero l same first second differs = grind (arith, first_piece-other)
first_piece-cmp x y a b (suc zero) l same first second differs =
    grind (arith, common_steps, first_piece-other)
first_piece-cmp x y a b (suc (suc n)) l same first second differs = absurd (omega arith)

-- if two strings begin with the bytes x and y, which are different or both a dot, and their first
-- components are of the same kind, then neither x nor y is a slash
no_root : (x y : ℕ) (a b : List ℕ) (n : ℕ) → n ≡ common_prefix_len eqb (x ∷ a) (y ∷ b)
    → (0 < n → x ≡ 46) → first_rank (values (x ∷ a)) ≡ first_rank (values (y ∷ b))
    → (eqb x 47 ≡ false) × (eqb y 47 ≡ false)
no_root x y a b n is dot same = grind (arith, first_rank_of)

-- if a and b differ at their start, at byte n, their first components are of the same kind, and b
-- isn't empty, then a doesn't start with b, and the `piece_rank`s of a and b at n decide their
-- order
first_parts-same : (a b : List ℕ) (n : ℕ) → n ≡ common_prefix_len eqb a b → DiffersAtStart a b n
    → first_rank (values a) ≡ first_rank (values b) → 0 < length b
    → AreApart a b (nat_cmp (piece_rank a n) (piece_rank b n))
first_parts-same a [] n is start same some = absurd (omega arith)
first_parts-same [] (y ∷ b) n is start same some = grind (arith, first_rank_of)
first_parts-same (x ∷ a) (y ∷ b) n is start same some =
    let other = no_root x y a b n is start.dot same in
    let differs : piece_rank (x ∷ a) n ≡ piece_rank (y ∷ b) n → ⊥ =
    λ e. grind (arith, start.at_ends, ranks_end (x ∷ a) (y ∷ b) n, other) in
    let equal : 0 < n → x ≡ y = λ m. grind arith in
    let first = values-name (x ∷ a) (omega arith) other.0 in
    let second = values-name (y ∷ b) (omega arith) other.1 in
    let p = first_piece (x ∷ a) in
    let q = first_piece (y ∷ b) in
    apart-values [] (first_value p) (first_value q) first.0 second.0 _ _ first.1 second.1
    (same_kind (first_value p) (first_value q)
    (omega (arith, same, ap first_rank first.1, ap first_rank second.1))
    ∙ ap₂ (slice_cmp nat_cmp) (value_bytes-first p) (value_bytes-first q)
    ∙ first_piece-cmp x y a b n start.near equal other.0 other.1 differs) differs

-- if a and b differ at their start, at byte n, and their first components are of the same kind or
-- both a and b are empty, then a and b are in the order of their `piece_rank`s at n
pub first_parts-cmp : (a b : List ℕ) (n : ℕ) → n ≡ common_prefix_len eqb a b → DiffersAtStart a b n
    → is_ne (nat_cmp (first_rank (values a)) (first_rank (values b))) ≡ false
    → nat_cmp (piece_rank a n) (piece_rank b n) ≡ values_cmp (values a) (values b)
first_parts-cmp [] [] n is start same = sym (ap₂ values_cmp values-nil values-nil)
first_parts-cmp (x ∷ a) [] n is start same = grind (arith, first_rank_of)
first_parts-cmp a (y ∷ b) n is start same =
    (first_parts-same a (y ∷ b) n is start (grind arith) (omega arith)).order_is

-- if a and b differ at their start, and b isn't empty, a doesn't start with b
pub first_parts-apart : (a b : List ℕ) (n : ℕ) → n ≡ common_prefix_len eqb a b
    → DiffersAtStart a b n → 0 < length b → IsPrefixOf (values b) (values a) → ⊥
first_parts-apart a b n is start some begins =
    let same = same_first (values b) (values a) (λ e. grind (arith, first_rank_of b)) begins in
    let apart = first_parts-same a b n is start same some in
    apart.no_prefix begins
  where
    same_first : (v w : List Value) → (first_rank v ≡ 0 → ⊥) → IsPrefixOf v w
        → first_rank w ≡ first_rank v
    same_first [] w some h = absurd (some refl)
    same_first (x ∷ v) [] some h = let e = h.1 in cc
    same_first (x ∷ v) (y ∷ w) some h = ap (λ v. 1 + rank v) (sym (begins_tail x y v w h).0)
