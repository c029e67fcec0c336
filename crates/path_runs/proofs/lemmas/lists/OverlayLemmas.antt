-- Bytes that are written to a buffer, one run after the other.
use Rattle.std.proofs.Common.{◌≡◌, ◌≤◌, ℕ, ◌+◌, List, [], ◌++◌, length, drop}
use Rattle.std.proofs.Common.{refl, sym, ap, ◌∙◌, length-append}
use Rattle.std.proofs.lemmas.Bool.{cond-true, le-leb}
use Rattle.std.proofs.lemmas.List.{take_at, drop_at, drop-drop}
use Rattle.path_runs.specs.Overlay.{overlay}
use Rattle.path_runs.specs.Buffer.{buffer_after}

-- `old`, with its first bytes replaced by `bytes`
abbrev pub bytes_over : List ℕ → List ℕ → List ℕ
bytes_over bytes old = bytes ++ drop (length bytes) old

-- writing `first` over the beginning of `old` leaves the bytes from index `length first + n` on
-- unchanged
drop-bytes_over : (first old : List ℕ) (n : ℕ)
    → drop (length first + n) (bytes_over first old) ≡ drop (length first + n) old
drop-bytes_over first old n =
    sym (drop-drop n (length first) (bytes_over first old))
    ∙ ap (drop n) (drop_at first (drop (length first) old) (length first) refl)
    ∙ drop-drop n (length first) old

-- writing `first` over the beginning of `old`, and then `second` right after `first`, is the same
-- as writing `first` followed by `second` over the beginning of `old`
pub overlay-bytes_over : (first second old : List ℕ)
    → overlay (length first) second (bytes_over first old) ≡ bytes_over (first ++ second) old
overlay-bytes_over first second old = simp (take_at, drop-bytes_over, length-append)

-- writing `bytes` over `old` from index 0 on replaces the first bytes of `old` (`bytes_over`)
pub overlay-first : (bytes old : List ℕ) → overlay 0 bytes old ≡ bytes_over bytes old
overlay-first bytes old = overlay-bytes_over [] bytes old

-- if `bytes` isn't longer than the contents `old` of a buffer, the buffer after the call contains
-- `bytes`, followed by the bytes of `old` from index `length bytes` on
pub buffer_after-fits : (bytes old : List ℕ) → length bytes ≤ length old
    → buffer_after bytes old ≡ bytes_over bytes old
buffer_after-fits bytes old h = cond-true _ _ _ (le-leb (length bytes) (length old) h)
