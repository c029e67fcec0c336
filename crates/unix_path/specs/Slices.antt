-- Where slices of bytes lie in memory.
use Rattle.std.specs.Prelude.{◌≡◌, ◌≤◌, ◌+◌, ◌-◌, ℕ, List, length, drop}
use Rattle.std.specs.Borrow.{Bor}

-- the index of a slice's first byte in its block of memory
abbrev pub memory_offset : Bor (List ℕ) → ℕ
memory_offset slice = slice.ref_ptr.1

-- `part` lies within `whole`, in the same memory
pub record LiesIn (part whole : Bor (List ℕ)) : Type 0 where
  pub block : part.ref_ptr.0 ≡ whole.ref_ptr.0
  pub start : whole.ref_ptr.1 ≤ part.ref_ptr.1
  pub end : part.ref_ptr.1 + length part.now ≤ whole.ref_ptr.1 + length whole.now

-- the slice `part` ends `at` bytes after the beginning of `whole`
abbrev pub EndsAt : Bor (List ℕ) → Bor (List ℕ) → ℕ → Type 0
EndsAt part whole at = part.ref_ptr.1 + length part.now ≡ whole.ref_ptr.1 + at

-- `part` is a suffix of `whole`, in the same memory
pub record IsTail (part whole : Bor (List ℕ)) : Type 0 where
  pub len_bound : length part.now ≤ length whole.now
  pub bytes : part.now ≡ drop (length whole.now - length part.now) whole.now
  pub block : part.ref_ptr.0 ≡ whole.ref_ptr.0
  pub place : part.ref_ptr.1 + length part.now ≡ whole.ref_ptr.1 + length whole.now
