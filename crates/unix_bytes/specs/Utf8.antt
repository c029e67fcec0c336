-- UTF-8 as the table of RFC 3629, section 4, defines it.
use Rattle.std.specs.Prelude.{◌≡◌, ℕ, Bool, true, false, ◌&&◌, List, [], ◌∷◌, ◌++◌, length, take}
use Rattle.std.specs.Int.{is_in_range}
use Rattle.std.specs.List.{All, concat, list_any}

-- UTF8-tail of the RFC: the least and the greatest byte
abbrev pub tail : ℕ × ℕ
tail = (0x80, 0xBF)

-- UTF8-1 to UTF8-4 of the RFC: a row for each alternative, with a range for each byte
abbrev pub table : List (List (ℕ × ℕ))
table =
    ((0x00, 0x7F) ∷ [])
    ∷ ((0xC2, 0xDF) ∷ tail ∷ [])
    ∷ ((0xE0, 0xE0) ∷ (0xA0, 0xBF) ∷ tail ∷ [])
    ∷ ((0xE1, 0xEC) ∷ tail ∷ tail ∷ [])
    ∷ ((0xED, 0xED) ∷ (0x80, 0x9F) ∷ tail ∷ [])
    ∷ ((0xEE, 0xEF) ∷ tail ∷ tail ∷ [])
    ∷ ((0xF0, 0xF0) ∷ (0x90, 0xBF) ∷ tail ∷ tail ∷ [])
    ∷ ((0xF1, 0xF3) ∷ tail ∷ tail ∷ tail ∷ [])
    ∷ ((0xF4, 0xF4) ∷ (0x80, 0x8F) ∷ tail ∷ tail ∷ [])
    ∷ []

-- u has as many bytes as `row` has ranges, and each byte is in the range with its index
abbrev pub fits : List (ℕ × ℕ) → List ℕ → Bool
fits [] [] = true
fits [] (b ∷ u) = false
fits (r ∷ row) [] = false
fits (r ∷ row) (b ∷ u) = fits row u && is_in_range r.0 r.1 b

-- the bytes fit some row of the table
unfoldable pub is_sequence : List ℕ → Bool
is_sequence u = list_any (λ row. fits row u) table

-- the bytes are one well-formed sequence
abbrev pub IsSequence : List ℕ → Type 0
IsSequence u = is_sequence u ≡ true

-- the bytes are well-formed sequences, one after the other
abbrev pub IsText : List ℕ → Type 0
IsText s = (us : List (List ℕ)) × All IsSequence us × (concat us ≡ s)

-- some well-formed sequence begins with these bytes
abbrev pub BeginsSequence : List ℕ → Type 0
BeginsSequence t = (u : List ℕ) × IsSequence (t ++ u)

-- `BeginsSequence` as a test: t fits the first ranges of some row of the table
unfoldable pub begins_sequence : List ℕ → Bool
begins_sequence t = list_any (λ row. fits (take (length t) row) t) table
