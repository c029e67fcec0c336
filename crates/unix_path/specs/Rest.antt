-- The rest of a path without some leading and some trailing components (Rust's
-- `Components::as_path`).
use Rattle.std.specs.Prelude.{ℕ, ◌+◌, ◌-◌, List, [], ◌∷◌, length, take, drop, slice_range}
use Rattle.unix_path.specs.Parts.{Part, parts}

-- the index where the last component ends, if the components are p and then ps
abbrev pub last_end : Part → List Part → ℕ
last_end p [] = p.end
last_end p (q ∷ qs) = last_end q qs

-- s from the start of the first of these components to the end of the last; empty if there is none
abbrev pub span_of : List ℕ → List Part → List ℕ
span_of s [] = []
span_of s (p ∷ ps) = slice_range s p.start (last_end p ps)

-- the rest of s without its first k and last m components: the bytes from the start of the first
-- remaining component to the end of the last; empty if none remains
unfoldable pub rest : List ℕ → ℕ → ℕ → List ℕ
rest s k m = let all = parts s in span_of s (take (length all - (k + m)) (drop k all))
