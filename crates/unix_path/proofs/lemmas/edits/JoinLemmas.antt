-- Joins, case by case.
use Rattle.std.proofs.Common.{◌≡◌, ℕ, suc, ◌-◌, true, false, eqb, List, [], ◌∷◌, ◌++◌, length}
use Rattle.std.proofs.Common.{get_or, refl, sym, ap, ◌∙◌, arith, append_assoc}
use Rattle.std.proofs.Common.{append-nil, length-append, ◌+◌}
use Rattle.unix_path.specs.Parts.{is_rooted}
use Rattle.unix_path.specs.Joins.{needs_no_separator, join_of}
use Rattle.std.proofs.lemmas.List.{get_or_default}

-- a join to s needs no separator if and only if s is empty or its last byte is a slash
pub needs_no_separator-at : (s : List ℕ) → needs_no_separator s
    ≡ eqb (get_or s (length s - 1) 47) 47
needs_no_separator-at (b ∷ c ∷ s) = grind (arith, needs_no_separator-at (c ∷ s))
needs_no_separator-at s = refl

-- if b is rooted, the join of a and b is b
pub join_of_rooted : (a b : List ℕ) → is_rooted b ≡ true → join_of a b ≡ b
unfolding join_of
join_of_rooted a b r = rw r refl

-- if b is not rooted, and a is empty or ends in a slash, the join of a and b is a and then b
pub join_of_no_separator : (a b : List ℕ) → is_rooted b ≡ false → needs_no_separator a ≡ true
    → join_of a b ≡ a ++ b
unfolding join_of
join_of_no_separator a b r o = rw (r, o) refl

-- if b is not rooted, and a is neither empty nor ends in a slash, the join of a and b is a, a
-- slash, and then b
pub join_of_separator : (a b : List ℕ) → is_rooted b ≡ false → needs_no_separator a ≡ false
    → join_of a b ≡ (a ++ 47 ∷ []) ++ b
unfolding join_of
join_of_separator a b r o = rw (r, o) (sym (append_assoc a (47 ∷ []) b))

pub ruleset rootless_joins = (join_of_no_separator, join_of_separator, append-nil)

-- if b is not rooted, and a is empty or ends in a slash, the join of a and b is as long as a and b
-- together
pub length-join_of_no_separator : (a b : List ℕ) → is_rooted b ≡ false → needs_no_separator a ≡ true
    → length (join_of a b) ≡ length a + length b
length-join_of_no_separator a b r o = ap length (join_of_no_separator a b r o) ∙ length-append a b

-- if b is not rooted, and a is neither empty nor ends in a slash, the join of a and b is one byte
-- longer than a and b together
pub length-join_of_separator : (a b : List ℕ) → is_rooted b ≡ false → needs_no_separator a ≡ false
    → length (join_of a b) ≡ length a + (1 + length b)
length-join_of_separator a b r o = grind (arith, join_of_separator, length-append)

pub ruleset push_cases = (
  join_of_rooted,
  join_of_no_separator,
  join_of_separator,
  length-join_of_no_separator,
  length-join_of_separator,
)

-- whether a string needs a separator after it
pub ruleset separated = (needs_no_separator-at, get_or_default)
