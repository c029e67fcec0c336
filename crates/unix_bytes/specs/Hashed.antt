-- The writes that a byte string feeds a hasher.
use Rattle.std.specs.Prelude.{◌++◌, ◌∷◌, ℕ, length, List, []}
use Rattle.std.specs.Hash.{HashWrites, usize}

-- the length of the byte string `name`, and then its bytes in one write
abbrev pub name_input : List ℕ → HashWrites
name_input name = usize (length name) ++ name ∷ []
