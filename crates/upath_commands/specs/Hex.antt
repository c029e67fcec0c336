-- Bytes in hexadecimal (RFC 4648 section 8), in lower case.
use Rattle.std.specs.Prelude.{ℕ, ◌+◌, ◌-◌, ◌*◌, ◌/◌, ◌%◌, ◌&&◌, nat_le, nat_lt, List, [], ◌∷◌}
use Rattle.std.specs.Prelude.{Option, Some, None, if◌then◌else◌}
use Rattle.std.specs.List.{flat_map}
use Rattle.std.specs.Str.{byte}

-- the digit of a number less than 16
abbrev pub hex_digit : ℕ → ℕ
hex_digit n = if nat_lt n 10 then byte "0" + n else byte "a" + (n - 10)

-- these bytes in hexadecimal, two digits for each byte
abbrev pub hex_of : List ℕ → List ℕ
hex_of bytes = flat_map (λ b. hex_digit (b / 16) ∷ hex_digit (b % 16) ∷ []) bytes

-- the number of a digit, which may be in upper case; none if this is no digit
abbrev pub digit_value : ℕ → Option ℕ
digit_value d =
    if nat_le (byte "0") d && nat_le d (byte "9") then Some (d - byte "0")
    else (if nat_le (byte "a") d && nat_le d (byte "f") then Some (d - byte "a" + 10)
    else (if nat_le (byte "A") d && nat_le d (byte "F") then Some (d - byte "A" + 10) else None))

-- the byte with these values of its two digits; none if one of them is missing
abbrev pub byte_of : Option ℕ → Option ℕ → Option ℕ
byte_of (Some high) (Some low) = Some (16 * high + low)
byte_of _ _ = None

-- the byte with these two digits; none if one of them is no digit
abbrev pub byte_value : ℕ → ℕ → Option ℕ
byte_value high low = byte_of (digit_value high) (digit_value low)

-- this byte before these bytes; none if one of both is missing
abbrev pub with_byte : Option ℕ → Option (List ℕ) → Option (List ℕ)
with_byte (Some b) (Some bytes) = Some (b ∷ bytes)
with_byte _ _ = None

-- the bytes that this text is in hexadecimal; none if it isn't hexadecimal
unfoldable pub hex_value : List ℕ → Option (List ℕ)
hex_value [] = Some []
hex_value (d ∷ []) = None
hex_value (high ∷ low ∷ digits) = with_byte (byte_value high low) (hex_value digits)
