-- Windows of bytes, and which byte may follow the three bytes before it in UTF-8.
use Rattle.std.specs.Prelude.{◌≤◌, ◌<◌, ◌⊎◌, ◌==◌, ℕ, List, [], ◌∷◌, take, if◌then◌else◌, ⊤}
use Rattle.std.specs.Prelude.{nat_le}

-- a lower bound of the byte after c in UTF-8: A0 after E0, 90 after F0, and otherwise 0
abbrev pub min_second : ℕ → ℕ
min_second c = if c == 0xE0 then 0xA0 else if c == 0xF0 then 0x90 else 0

-- an upper bound of the byte after c in UTF-8: 9F after ED, 8F after F4, and otherwise F4
abbrev pub max_second : ℕ → ℕ
max_second c = if c == 0xED then 0x9F else if c == 0xF4 then 0x8F else 0xF4

-- of three consecutive bytes a, b and c, one begins a sequence that is unfinished after c
abbrev pub IsUnfinished : ℕ → ℕ → ℕ → Type 0
IsUnfinished a b c = (0xF0 ≤ a) ⊎ ((0xE0 ≤ b) ⊎ (0xC0 ≤ c))

-- of three consecutive bytes a, b and c, none begins a sequence that is unfinished after c
abbrev pub IsFinished : ℕ → ℕ → ℕ → Type 0
IsFinished a b c = (a < 0xF0) × (b < 0xE0) × (c < 0xC0)

-- d is a tail byte if a, b and c before it leave a sequence unfinished, and otherwise ASCII or at
-- least C2
pub record Continues (a b c d : ℕ) : Type 0 where
  pub within : IsUnfinished a b c → (0x80 ≤ d) × (d ≤ 0xBF)
  pub begins : IsFinished a b c → (d < 0x80) ⊎ (0xC2 ≤ d)

-- at each index of all four lists, the byte of the fourth list continues the bytes of the first
-- three (`Continues`)
abbrev pub AllContinue : List ℕ → List ℕ → List ℕ → List ℕ → Type 0
AllContinue (a ∷ s) (b ∷ t) (c ∷ u) (d ∷ v) = Continues a b c d × AllContinue s t u v
AllContinue s t u v = ⊤

-- no byte of the first list is less than the byte with the same index in the second list
abbrev pub AllAtLeast : List ℕ → List ℕ → Type 0
AllAtLeast (d ∷ s) (l ∷ t) = (l ≤ d) × AllAtLeast s t
AllAtLeast s t = ⊤

-- the byte d may follow the bytes a, b and c in UTF-8
pub record Fits (a b c d : ℕ) : Type 0 where
  pub goes : Continues a b c d
  pub min : min_second c ≤ d
  pub max : d ≤ max_second c

-- each byte of the list may follow the three bytes before it in UTF-8, where a, b and c come before
-- the first byte of the list
abbrev pub FitAfter : ℕ → ℕ → ℕ → List ℕ → Type 0
FitAfter a b c [] = ⊤
FitAfter a b c (d ∷ s) = Fits a b c d × FitAfter b c d s

-- each of the first 16 bytes from index 3 on may follow the three bytes before it in UTF-8
abbrev pub FitsWindow : List ℕ → Type 0
FitsWindow (a ∷ b ∷ c ∷ s) = FitAfter a b c (take 16 s)
FitsWindow s = ⊤

-- how many of three consecutive bytes a, b and c belong to a sequence that is unfinished after c
abbrev pub unfinished_len : ℕ → ℕ → ℕ → ℕ
unfinished_len a b c =
    if nat_le 0xC0 c then 1 else if nat_le 0xE0 b then 2 else if nat_le 0xF0 a then 3 else 0
