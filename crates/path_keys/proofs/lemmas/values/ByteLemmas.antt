-- Bytes of names keep their order in keys.
use Rattle.std.proofs.Common.{◌≡◌, ℕ, false, List, [], ◌∷◌, ◌++◌, map, Equal, Less, Greater}
use Rattle.std.proofs.Common.{Ordering, refl, sym, ap₂, ◌∙◌, arith}
use Rattle.std.proofs.lemmas.Bool.Decides.{nat_tests}
use Rattle.std.specs.Ordering.{nat_cmp, ordering_then}
use Rattle.unix_path.specs.Parts.{is_slash}
use Rattle.path_runs.proofs.lemmas.spelling.PieceValueLemmas.{NoSlash}
use Rattle.path_keys.specs.Keys.{raised}
use Rattle.path_keys.specs.Ranges.{bytes_cmp}

-- if neither a nor b is a slash, their bytes in a key are in the order of a and b
nat_cmp-raised : (a b : ℕ) → is_slash a ≡ false → is_slash b ≡ false
    → nat_cmp (raised a) (raised b) ≡ nat_cmp a b
nat_cmp-raised a b h k = grind (arith, nat_tests)

-- if b is no slash, the end mark 0 is less than the byte in a key for b
pub zero-raised : (b : ℕ) → is_slash b ≡ false → nat_cmp 0 (raised b) ≡ Less
zero-raised b h = grind (arith, nat_tests)

-- if b is no slash, the byte in a key for b is greater than the end mark 0
pub raised-zero : (b : ℕ) → is_slash b ≡ false → nat_cmp (raised b) 0 ≡ Greater
raised-zero b h = grind (arith, nat_tests)

-- `ordering_then` is associative: of three comparisons, the first one that isn't `Equal` decides
-- either way
pub ordering_then-assoc : (p q r : Ordering)
    → ordering_then (ordering_then p q) r ≡ ordering_then p (ordering_then q r)
ordering_then-assoc Less q r = refl
ordering_then-assoc Equal q r = refl
ordering_then-assoc Greater q r = refl

-- if the names n and m have no slash, their codes followed by x and y are in the order of n and m,
-- or in the order of x and y if n and m are equal
pub bytes_cmp-names : (n m x y : List ℕ) → NoSlash n → NoSlash m
    → bytes_cmp ((map raised n ++ 0 ∷ []) ++ x) ((map raised m ++ 0 ∷ []) ++ y)
    ≡ ordering_then (bytes_cmp n m) (bytes_cmp x y)
bytes_cmp-names [] [] x y h k = refl
bytes_cmp-names [] (b ∷ m) x y h k = rw (zero-raised b k.0) refl
bytes_cmp-names (a ∷ n) [] x y h k = rw (raised-zero a h.0) refl
bytes_cmp-names (a ∷ n) (b ∷ m) x y h k =
    ap₂ ordering_then (nat_cmp-raised a b h.0 k.0) (bytes_cmp-names n m x y h.1 k.1)
    ∙ sym (ordering_then-assoc (nat_cmp a b) (bytes_cmp n m) (bytes_cmp x y))
