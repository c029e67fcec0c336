-- Statements that a query or a relation doesn't distinguish equal paths.
use Rattle.std.specs.Prelude.{◌≡◌, ◌↔◌, ℕ, List}
use Rattle.unix_path.specs.Parts.{SameValues}

-- the query has the same result for equal paths
abbrev pub SameOnEqual : {A : Type 0} → (List ℕ → A) → Type 0
SameOnEqual ask = (s t : List ℕ) → SameValues s t → ask s ≡ ask t

-- a query of two paths has the same result if each path is replaced by an equal one
abbrev pub SameOnEqualPairs : {A : Type 0} → (List ℕ → List ℕ → A) → Type 0
SameOnEqualPairs ask =
    (s t u w : List ℕ) → SameValues s t → SameValues u w → ask s u ≡ ask t w

-- if each of two paths is replaced by an equal one, the relation Holds stays true, or stays false
abbrev pub HoldsOnEqualPairs : (List ℕ → List ℕ → Type 0) → Type 0
HoldsOnEqualPairs Holds =
    (s t u w : List ℕ) → SameValues s t → SameValues u w → Holds s u ↔ Holds t w
