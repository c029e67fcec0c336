-- A string that is split at each byte that passes a test.
use Rattle.std.proofs.Common.{◌≡◌, ℕ, ◌<◌, Bool, ◌==◌, List, [], ◌∷◌, length}
use Rattle.std.proofs.Common.{refl, sym, ap, ◌∙◌, arith}
use Rattle.std.specs.List.{slice_split, position_or_len, join_with_byte}
use Rattle.std.proofs.lemmas.List.Splits.{slice_split_none, length-slice_split}
use Rattle.std.proofs.lemmas.List.Splits.{join_with_byte-slice_split}
use Rattle.std.proofs.lemmas.List.Sums.{fails_before_first}
use Rattle.pathtool.specs.Steps.{newline, tab}

abbrev pub is_tab : ℕ → Bool
is_tab b = b == tab

abbrev pub is_newline : ℕ → Bool
is_newline b = b == newline

-- if searching s for a byte that passes p yields the length of s, splitting s at the bytes that
-- pass p yields the one piece s
pub slice_split-whole : (p : ℕ → Bool) (s : List ℕ) → position_or_len p s ≡ length s
    → slice_split p s ≡ s ∷ []
slice_split-whole p s e =
    slice_split_none p s (λ k d l. fails_before_first p s k d (omega arith))

has_first : (parts : List (List ℕ)) → 0 < length parts
    → (x : List ℕ) × (xs : List (List ℕ)) × (parts ≡ x ∷ xs)
has_first [] l = absurd (omega arith)
has_first (x ∷ xs) l = (x, xs, refl)

-- splitting s at the bytes that pass p yields at least one piece
pub slice_split-cons : (p : ℕ → Bool) (s : List ℕ)
    → (x : List ℕ) × (xs : List (List ℕ)) × (slice_split p s ≡ x ∷ xs)
slice_split-cons p s = has_first (slice_split p s) (omega (arith, length-slice_split p s))

-- if splitting s at each byte c yields the one piece t, s is t
pub slice_split-one : (c : ℕ) (s t : List ℕ) → slice_split (λ b. b == c) s ≡ t ∷ [] → s ≡ t
slice_split-one c s t e = sym (join_with_byte-slice_split c s) ∙ ap (join_with_byte c) e
