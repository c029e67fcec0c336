-- Laws of a path's components, and of the rest after some are taken (Rust's `Components`).
use Rattle.std.specs.Prelude.{◌≡◌, ◌↔◌, ℕ, ◌+◌, ◌-◌, List, [], length, take, drop}
use Rattle.unix_path.specs.Parts.{Value, values}
use Rattle.unix_path.specs.Rest.{rest}

-- a path has no component if and only if it has no byte
abbrev pub NoPartNoByte : Type 0
NoPartNoByte = (s : List ℕ) → (values s ≡ []) ↔ (s ≡ [])

-- the components without the first k and the last m
abbrev pub without : ℕ → ℕ → List Value → List Value
without k m vs = take (length vs - (k + m)) (drop k vs)

-- the components of the rest of s, which is s without its first k and last m components, are the
-- components of s without the first k and the last m
abbrev pub RestHasValues : Type 0
RestHasValues = (s : List ℕ) (k m : ℕ) → values (rest s k m) ≡ without k m (values s)

-- taking k components from the front and m from the back of s, and then i from the front and j from
-- the back of the rest, leaves the same bytes as taking k + i and m + j components of s at once
abbrev pub RestOfRest : Type 0
RestOfRest = (s : List ℕ) (k m i j : ℕ) → rest (rest s k m) i j ≡ rest s (k + i) (m + j)
