-- Joins are associative. A string is open if it is empty or ends in a slash.
use Rattle.std.proofs.Common.{◌≡◌, ℕ, true, false, cond, List, [], ◌∷◌, ◌++◌, refl, ap, ◌∙◌}
use Rattle.std.proofs.Common.{append_assoc, append-nil, arith}
use Rattle.unix_path.specs.Parts.{is_rooted}
use Rattle.unix_path.specs.Joins.{needs_no_separator, join_of}
use Rattle.unix_bytes.proofs.lemmas.lists.ListLemmas.{by_test}
use Rattle.unix_path.proofs.lemmas.edits.JoinLemmas.{join_of_rooted, join_of_no_separator}
use Rattle.unix_path.proofs.lemmas.edits.JoinLemmas.{join_of_separator}

-- the bytes that a join of a with a rootless path inserts after a: a slash, or nothing if a is
-- empty or ends in a slash
abbrev pub separator : List ℕ → List ℕ
separator a = cond (needs_no_separator a) [] (47 ∷ [])

pub join_of-separator : (a b : List ℕ) → is_rooted b ≡ false → join_of a b ≡ (a ++ separator a) ++ b
join_of-separator a b r = grind (arith, join_of_no_separator, append-nil, join_of_separator)

-- a path that ends in a slash needs no separator in a join
needs_no_separator-slash : (a : List ℕ) → needs_no_separator (a ++ 47 ∷ []) ≡ true
needs_no_separator-slash [] = refl
needs_no_separator-slash (x ∷ []) = refl
needs_no_separator-slash (x ∷ y ∷ a) = needs_no_separator-slash (y ∷ a)

pub needs_no_separator-separator : (a : List ℕ) → needs_no_separator (a ++ separator a) ≡ true
needs_no_separator-separator a = grind (arith, append-nil, needs_no_separator-slash)

-- if u is empty or ends in a slash, u followed by b needs a separator in a join if and only if b
-- needs one
pub needs_no_separator-append : (u b : List ℕ) → needs_no_separator u ≡ true
    → needs_no_separator (u ++ b) ≡ needs_no_separator b
needs_no_separator-append [] b o = refl
needs_no_separator-append (x ∷ []) [] o = o
needs_no_separator-append (x ∷ []) (c ∷ b) o = refl
needs_no_separator-append (x ∷ y ∷ u) b o = needs_no_separator-append (y ∷ u) b o

needs_no_separator-join_of : (a b : List ℕ) → is_rooted b ≡ false → needs_no_separator (join_of a b)
    ≡ needs_no_separator b
needs_no_separator-join_of a b r = ap needs_no_separator (join_of-separator a b r)
    ∙ needs_no_separator-append (a ++ separator a) b (needs_no_separator-separator a)

pub join_of-nil : (b : List ℕ) → join_of [] b ≡ b
join_of-nil b = by_test (is_rooted b) (join_of_rooted [] b) (λ r. join_of_no_separator [] b r refl)

is_rooted-join_of : (b c : List ℕ) → is_rooted c ≡ false → is_rooted (join_of b c) ≡ is_rooted b
is_rooted-join_of [] c r = ap is_rooted (join_of-nil c) ∙ r
is_rooted-join_of (x ∷ b) c r = ap is_rooted (join_of-separator (x ∷ b) c r)

-- if b and c have no root, the join of a and b, joined with c, is a joined with the join of b and c
join_of-rootless : (a b c : List ℕ) → is_rooted b ≡ false → is_rooted c ≡ false
    → join_of (join_of a b) c ≡ join_of a (join_of b c)
join_of-rootless a b c m n =
    grind (arith, join_of-separator, needs_no_separator-join_of, is_rooted-join_of, append_assoc)

-- the join of a and b, joined with c, is a joined with the join of b and c, whichever of these
-- paths have a root
pub join_of-join_of : (a b c : List ℕ) → join_of (join_of a b) c ≡ join_of a (join_of b c)
join_of-join_of a b c = grind (arith, join_of_rooted, is_rooted-join_of, join_of-rootless)
