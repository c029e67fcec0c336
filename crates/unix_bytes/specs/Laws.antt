-- Laws of UTF-8 and of lossy forms. Each is the contract of a function in the module `laws`.
use Rattle.std.specs.Prelude.{◌≡◌, ◌↔◌, ◌⊎◌, ℕ, ◌<◌, ◌≤◌, ◌*◌, List, [], ◌∷◌, ◌++◌, true}
use Rattle.std.specs.Prelude.{length, drop}
use Rattle.std.specs.List.{All, concat, flat_map}
use Rattle.std.specs.Str.{IsUtf8}
use Rattle.unix_bytes.specs.IsPrefixOf.{IsPrefixOf, IsLongest}
use Rattle.unix_bytes.specs.Utf8.{IsSequence, IsText, BeginsSequence, begins_sequence}
use Rattle.unix_bytes.specs.Lossy.{fronts_of, front_of, is_text, lossy_of, replacement}
use Rattle.unix_bytes.specs.Chunks.{Chunk, chunks_of, shown_chunk}

-- bytes are valid UTF-8 by the table of RFC 3629, section 4, if and only if Rattle's std defines
-- them as UTF-8
abbrev pub TextIsUtf8 : Type 0
TextIsUtf8 = (s : List ℕ) → IsText s ↔ IsUtf8 s

-- no sequence is a proper prefix of another
abbrev pub SequencesStandAlone : Type 0
SequencesStandAlone = (u v : List ℕ) → IsSequence u → IsSequence (u ++ v) → v ≡ []

-- t passes the test `begins_sequence` if and only if some sequence begins with t (`BeginsSequence`)
abbrev pub BeginningIsTested : Type 0
BeginningIsTested = (t : List ℕ) → (begins_sequence t ≡ true) ↔ BeginsSequence t

-- s passes the test `is_text` if and only if s is valid UTF-8 (`IsText`)
abbrev pub TextIsTested : Type 0
TextIsTested = (s : List ℕ) → (is_text s ≡ true) ↔ IsText s

-- the fronts of s, one after the other, are s
abbrev pub FrontsPartition : Type 0
FrontsPartition = (s : List ℕ) → concat (fronts_of s) ≡ s

-- the fronts of s after the first are the fronts of the bytes of s after the first front
abbrev pub FrontsOneByOne : Type 0
FrontsOneByOne = (s : List ℕ) → drop 1 (fronts_of s) ≡ fronts_of (drop (length (front_of s)) s)

-- each front of s begins some sequence, or is one byte
abbrev pub FrontsBegin : Type 0
FrontsBegin = (s : List ℕ) → All (λ u. BeginsSequence u ⊎ (length u ≡ 1)) (fronts_of s)

-- the first front of s is a prefix of s, and no prefix of s that begins a sequence is longer
abbrev pub FrontIsLongest : Type 0
FrontIsLongest = (s : List ℕ) → IsLongest BeginsSequence (front_of s) s

-- no prefix of s is a sequence
abbrev pub BeginsWithNoSequence : List ℕ → Type 0
BeginsWithNoSequence s = (u : List ℕ) → IsSequence u → ¬ (IsPrefixOf u s)

-- if no prefix of s is a sequence, the first front of s has at most three bytes
abbrev pub BrokenIsShort : Type 0
BrokenIsShort = (s : List ℕ) → BeginsWithNoSequence s → length (front_of s) ≤ 3

-- the lossy form of a sequence u followed by bytes s is u and then the lossy form of s
abbrev pub LossyOfSequence : Type 0
LossyOfSequence = (u s : List ℕ) → IsSequence u → lossy_of (u ++ s) ≡ u ++ lossy_of s

-- if s is not empty, and no prefix of s is a sequence, the lossy form of s is U+FFFD and then the
-- lossy form of the bytes of s after the first front
abbrev pub LossyOfBroken : Type 0
LossyOfBroken =
    (s : List ℕ) → 0 < length s → BeginsWithNoSequence s
    → lossy_of s ≡ replacement ++ lossy_of (drop (length (front_of s)) s)

-- valid UTF-8 is its own lossy form
abbrev pub LossyOfText : Type 0
LossyOfText = (s : List ℕ) → IsText s → lossy_of s ≡ s

-- the lossy form of s is valid UTF-8
abbrev pub LossyIsText : Type 0
LossyIsText = (s : List ℕ) → IsText (lossy_of s)

-- the lossy form of s is at most three times as long as s
abbrev pub LossyIsShort : Type 0
LossyIsShort = (s : List ℕ) → length (lossy_of s) ≤ 3 * length s

-- the empty byte string has no chunks
abbrev pub ChunksOfNothing : Type 0
ChunksOfNothing = chunks_of [] ≡ []

-- c is the longest prefix of s that is valid UTF-8, and the first front after this prefix; cs are
-- the chunks of the bytes of s after c
pub record FollowFirst (s : List ℕ) (c : Chunk) (cs : List Chunk) : Type 0 where
  pub text : IsText c.valid
  pub longest : IsLongest IsText c.valid s
  pub broken : c.broken ≡ front_of (drop (length c.valid) s)
  pub rest : cs ≡ chunks_of (drop (length (c.valid ++ c.broken)) s)

-- if c is the first chunk of s and cs are the others, c is the longest prefix of s that is valid
-- UTF-8 and the first front after this prefix, and cs are the chunks of the bytes of s after c
abbrev pub ChunksOfSome : Type 0
ChunksOfSome =
    (s : List ℕ) (c : Chunk) (cs : List Chunk) → chunks_of s ≡ c ∷ cs → FollowFirst s c cs

-- the bytes of the chunks of s, one after the other, are s
abbrev pub ChunksPartition : Type 0
ChunksPartition = (s : List ℕ) → flat_map (λ c. c.valid ++ c.broken) (chunks_of s) ≡ s

-- each chunk of s has at most three invalid bytes
abbrev pub ChunksAreShort : Type 0
ChunksAreShort = (s : List ℕ) → All (λ c. length c.broken ≤ 3) (chunks_of s)

-- if a chunk c of s has no invalid bytes, no chunk comes after c
abbrev pub WholeChunkIsLast : Type 0
WholeChunkIsLast =
    (s : List ℕ) (before after : List Chunk) (c : Chunk)
    → chunks_of s ≡ before ++ c ∷ after → c.broken ≡ [] → after ≡ []

-- the shown forms of the chunks of s (`shown_chunk`), one after the other, are the lossy form of s
abbrev pub ChunksShowLossy : Type 0
ChunksShowLossy = (s : List ℕ) → flat_map shown_chunk (chunks_of s) ≡ lossy_of s
