-- The bytes of a `LossyText`, and whether it borrows them.
use Rattle.std.specs.Prelude.{ℕ, List, ⊤}
use Rattle.std.specs.String.{string_bytes}
use Rattle.unix_bytes.specs.declared.bytes.text.LossyText.{LossyText}
use Rattle.unix_bytes.specs.declared.bytes.text.LossyText.TheVariants.{Borrowed, Owned}

-- the bytes of a `LossyText`
abbrev pub text_bytes : LossyText → List ℕ
text_bytes (Borrowed t) = t.now
text_bytes (Owned t) = string_bytes t

-- the `LossyText` borrows the bytes that it was converted from
abbrev pub IsBorrowed : LossyText → Type 0
IsBorrowed (Borrowed t) = ⊤
IsBorrowed (Owned t) = ⊥
