-- The lossy form of bytes: sequences unchanged, and U+FFFD for each invalid front.
use Rattle.std.specs.Prelude.{ℕ, Bool, List, [], ◌∷◌, take, if◌then◌else◌}
use Rattle.std.specs.List.{concat, flat_map, list_all, push}
use Rattle.unix_bytes.specs.Utf8.{is_sequence, begins_sequence}

-- u and then s, cut into fronts, where u is the current front: the first byte of s extends u if
-- some sequence begins with u and this byte, and otherwise begins a new front
abbrev pub fronts_from : List ℕ → List ℕ → List (List ℕ)
fronts_from u [] = u ∷ []
fronts_from u (b ∷ s) =
    if begins_sequence (push u b) then fronts_from (push u b) s else u ∷ fronts_from (b ∷ []) s

-- the fronts of a byte string
unfoldable pub fronts_of : List ℕ → List (List ℕ)
fronts_of [] = []
fronts_of (b ∷ s) = fronts_from (b ∷ []) s

-- the first front of s: the longest prefix of s that begins some sequence, or the first byte of s
-- if that byte begins none; empty if s is empty
abbrev pub front_of : List ℕ → List ℕ
front_of s = concat (take 1 (fronts_of s))

-- U+FFFD in UTF-8
abbrev pub replacement : List ℕ
replacement = 0xEF ∷ 0xBF ∷ 0xBD ∷ []

-- the lossy form of s: the fronts of s, one after the other, with U+FFFD for each that is no
-- sequence
unfoldable pub lossy_of : List ℕ → List ℕ
lossy_of s = flat_map (λ u. if is_sequence u then u else replacement) (fronts_of s)

-- `IsText` as a test: each front of s is a sequence
unfoldable pub is_text : List ℕ → Bool
is_text s = list_all is_sequence (fronts_of s)
