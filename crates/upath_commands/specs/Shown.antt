-- Bytes as messages show them: control characters, backslashes and bytes that are not valid UTF-8
-- as `\x` and two digits.
use Rattle.std.specs.Prelude.{ℕ, ◌==◌, ◌||◌, ◌&&◌, ◌/◌, ◌%◌, nat_lt, nat_le, List, [], ◌∷◌}
use Rattle.std.specs.Prelude.{◌++◌, if◌then◌else◌}
use Rattle.std.specs.List.{flat_map}
use Rattle.std.specs.Str.{byte}
use Rattle.unix_bytes.specs.Chunks.{Chunk, chunks_of}
use Rattle.upath_commands.specs.Hex.{hex_digit}

-- `\x` and the two digits of a byte
abbrev pub escaped : ℕ → List ℕ
escaped b = byte "\\" ∷ byte "x" ∷ hex_digit (b / 16) ∷ hex_digit (b % 16) ∷ []

-- a byte that is a character, or belongs to one; U+0000 to U+001F, U+007F and a backslash are
-- escaped
abbrev pub shown_byte : ℕ → List ℕ
shown_byte b = if nat_lt b 32 || b == 127 || b == byte "\\" then escaped b else b ∷ []

-- valid UTF-8; the two bytes of U+0080 to U+009F are escaped
abbrev pub shown_text : List ℕ → List ℕ
shown_text [] = []
shown_text (b ∷ []) = shown_byte b
shown_text (b ∷ c ∷ s) =
    if b == 0xC2 && nat_le 0x80 c && nat_le c 0x9F then escaped b ++ (escaped c ++ shown_text s)
    else shown_byte b ++ shown_text (c ∷ s)

-- valid UTF-8, and then bytes that are not
abbrev pub shown_chunk : Chunk → List ℕ
shown_chunk chunk = shown_text chunk.valid ++ flat_map escaped chunk.broken

-- any bytes
unfoldable pub shown : List ℕ → List ℕ
shown s = flat_map shown_chunk (chunks_of s)
