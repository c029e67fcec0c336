-- Masks: one bit for each byte, with the lowest bit for the first byte.
use Rattle.std.specs.Prelude.{ℕ, Bool, ◌==◌, List, map, nat_le}
use Rattle.std.specs.Simd.Lanes.{mask_l}

-- the byte b is not ASCII
abbrev pub is_non_ascii : ℕ → Bool
is_non_ascii b = nat_le 0x80 b

-- the mask of `bytes` in which a bit is set if and only if its byte is not ASCII
abbrev pub non_ascii_mask : List ℕ → ℕ
non_ascii_mask bytes = mask_l (map is_non_ascii bytes)

-- the mask of `bytes` in which a bit is set if and only if its byte equals `byte`
abbrev pub hit_mask : ℕ → List ℕ → ℕ
hit_mask byte bytes = mask_l (map (λ b. b == byte) bytes)
