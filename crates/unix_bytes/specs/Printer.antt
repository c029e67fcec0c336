-- Lossy forms as the code writes them, one buffer at a time. No public clause cites this
-- definition.
use Rattle.std.specs.Prelude.{◌≡◌, ℕ, List, ◌++◌, drop}
use Rattle.unix_bytes.specs.Utf8.{IsText}
use Rattle.unix_bytes.specs.Lossy.{lossy_of}

-- reading the first n bytes of s has extended the bytes written from `before` to `after`: `after`
-- and then the lossy form of the rest of s are `before` and then the lossy form of s; and if
-- `before` is valid UTF-8, so is `after`
pub record Shows (s before : List ℕ) (n : ℕ) (after : List ℕ) : Type 0 where
  pub lossy : after ++ lossy_of (drop n s) ≡ before ++ lossy_of s
  pub text : IsText before → IsText after
