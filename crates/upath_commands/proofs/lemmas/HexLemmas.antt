-- Hexadecimal text, read two digits at a time.
use Rattle.std.proofs.Common.{◌≡◌, ◌<◌, ◌≤◌, ℕ, ◌-◌, List, [], ◌∷◌, ◌++◌, length, take, drop}
use Rattle.std.proofs.Common.{get_or, Option, Some, None, option_map, refl, sym, ap, ◌∙◌, arith}
use Rattle.std.proofs.Common.{append-nil, append_assoc, ap₂, ◌+◌, ◌*◌, ◌/◌, ◌%◌}
use Rattle.std.specs.Char.{to_ascii_lowercase}
use Rattle.std.specs.Str.{str_to_ascii_lowercase}
use Rattle.std.proofs.lemmas.Bool.Decides.{nat_tests}
use Rattle.std.proofs.lemmas.List.{take_all}
use Rattle.std.proofs.lemmas.Option.{same_Some}
use Rattle.upath_commands.specs.Hex.{byte_of, byte_value, digit_value, hex_digit, hex_of, hex_value}
use Rattle.upath_commands.specs.Hex.{with_byte}

-- the value of a text with two digits or more
hex_value-step : (rest : List ℕ) → 2 ≤ length rest
    → hex_value rest
    ≡ with_byte (byte_value (get_or rest 0 0) (get_or rest 1 0))
    (hex_value (take (length rest - 2) (drop 2 rest)))
unfolding hex_value
hex_value-step [] l = absurd (omega arith)
hex_value-step (d ∷ []) l = absurd (omega arith)
hex_value-step (high ∷ low ∷ digits) l =
    ap (λ ds. with_byte (byte_value high low) (hex_value ds))
    (sym (take_all (length (high ∷ low ∷ digits) - 2) digits (omega arith)))

-- bytes before a byte and more bytes
with_byte-later : (bytes : List ℕ) (b : ℕ) (more : Option (List ℕ))
    → option_map (λ more. bytes ++ more) (with_byte (Some b) more)
    ≡ option_map (λ more. (bytes ++ b ∷ []) ++ more) more
with_byte-later bytes b None = refl
with_byte-later bytes b (Some more) = ap Some (sym (append_assoc bytes (b ∷ []) more))

-- these bytes before more bytes, if there are more
pub joined : List ℕ → Option (List ℕ) → Option (List ℕ)
joined bytes more = option_map (λ more. bytes ++ more) more

-- without more bytes there are none
pub joined_none : (bytes : List ℕ) (more : Option (List ℕ)) → more ≡ None → joined bytes more ≡ None
unfolding joined
joined_none bytes more e = rw e refl

-- one digit has no value
pub one_digit_none : (rest : List ℕ) → 0 < length rest → length rest < 2 → hex_value rest ≡ None
unfolding hex_value
one_digit_none [] s l = absurd (omega arith)
one_digit_none (d ∷ []) s l = refl
one_digit_none (d ∷ e ∷ rest) s l = absurd (omega arith)

-- digits that are no byte have no value
pub wrong_digits_none : (rest : List ℕ) → 2 ≤ length rest
    → byte_value (get_or rest 0 0) (get_or rest 1 0) ≡ None → hex_value rest ≡ None
wrong_digits_none rest l e =
    hex_value-step rest l
    ∙ ap (λ b. with_byte b (hex_value (take (length rest - 2) (drop 2 rest)))) e

-- texts without a value
pub ruleset no_value = (joined_none, one_digit_none, wrong_digits_none)

same_bytes : (value : Option (List ℕ)) → value ≡ option_map (λ more. [] ++ more) value
same_bytes None = refl
same_bytes (Some bytes) = refl

-- before the first digit is read
pub read_first : (text bytes : List ℕ) → bytes ≡ [] → hex_value text ≡ joined bytes (hex_value text)
unfolding joined
read_first text bytes e = rw e (same_bytes (hex_value text))

-- one byte more
pub read_more : (text bytes rest new : List ℕ) (b : ℕ)
    → hex_value text ≡ joined bytes (hex_value rest) → 2 ≤ length rest
    → Some b ≡ byte_value (get_or rest 0 0) (get_or rest 1 0) → new ≡ bytes ++ b ∷ []
    → hex_value text ≡ joined new (hex_value (take (length rest - 2) (drop 2 rest)))
unfolding joined
read_more text bytes rest new b h l e n =
    let more = hex_value (take (length rest - 2) (drop 2 rest)) in
    h ∙ ap (option_map (λ more. bytes ++ more)) (hex_value-step rest l
    ∙ ap (λ b. with_byte b more) (sym e)) ∙ with_byte-later bytes b more
    ∙ ap (λ bytes. option_map (λ more. bytes ++ more) more) (sym n)

-- no digit is left
pub read_all : (text bytes rest : List ℕ)
    → hex_value text ≡ joined bytes (hex_value rest) → length rest ≡ 0
    → Some bytes ≡ hex_value text
unfolding hex_value joined
read_all text bytes [] h e = sym (h ∙ ap Some (append-nil bytes))
read_all text bytes (d ∷ rest) h e = absurd (omega arith)

-- a number as the digit's value is that digit, in lower case
hex_digit-value : (d n : ℕ) → digit_value d ≡ Some n
    → (n < 16) × (hex_digit n ≡ to_ascii_lowercase d)
hex_digit-value d n e = (grind (arith, nat_tests), grind (arith, nat_tests))

-- a byte with two digits
byte_of-parts : (high low : Option ℕ) (b : ℕ) → byte_of high low ≡ Some b
    → (m : ℕ) × (n : ℕ) × (high ≡ Some m) × (low ≡ Some n) × (16 * m + n ≡ b)
byte_of-parts None low b e = absurd (cc)
byte_of-parts (Some m) None b e = absurd (cc)
byte_of-parts (Some m) (Some n) b e = (m, n, refl, refl, same_Some (16 * m + n) b e)

-- a byte in hexadecimal has its digits, in lower case
hex_digits-value : (high low b : ℕ) → byte_value high low ≡ Some b
    → (hex_digit (b / 16) ≡ to_ascii_lowercase high)
    × (hex_digit (b % 16) ≡ to_ascii_lowercase low)
hex_digits-value high low b e =
    let (m, n, h, l, is) = byte_of-parts (digit_value high) (digit_value low) b e in
    let first = hex_digit-value high m h in
    let second = hex_digit-value low n l in
    let few : n < 16 = second.0 in
    let quotient : b / 16 ≡ m = omega (arith, is, few) in
    let rest : b % 16 ≡ n = omega (arith, is, few) in
    (ap hex_digit quotient ∙ first.1, ap hex_digit rest ∙ second.1)

-- bytes after a byte
with_byte-parts : (b : Option ℕ) (more : Option (List ℕ)) (bytes : List ℕ)
    → with_byte b more ≡ Some bytes
    → (x : ℕ) × (xs : List ℕ) × (b ≡ Some x) × (more ≡ Some xs) × (x ∷ xs ≡ bytes)
with_byte-parts None more bytes e = absurd (cc)
with_byte-parts (Some x) None bytes e = absurd (cc)
with_byte-parts (Some x) (Some xs) bytes e = (x, xs, refl, refl, same_Some (x ∷ xs) bytes e)

-- the value of a text is in hexadecimal the text in lower case
pub hex_of-hex_value : (text bytes : List ℕ) → hex_value text ≡ Some bytes
    → hex_of bytes ≡ str_to_ascii_lowercase text
unfolding hex_value
hex_of-hex_value [] bytes e = ap hex_of (sym (same_Some [] bytes e))
hex_of-hex_value (d ∷ []) bytes e = absurd (cc)
hex_of-hex_value (high ∷ low ∷ digits) bytes e =
    let (x, xs, b, more, is) = with_byte-parts (byte_value high low) (hex_value digits) bytes e in
    let two = hex_digits-value high low x b in
    ap hex_of (sym is)
    ∙ ap₂ (λ h t. h ∷ t) two.0 (ap₂ (λ l t. l ∷ t) two.1 (hex_of-hex_value digits xs more))
