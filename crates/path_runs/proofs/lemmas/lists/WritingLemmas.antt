-- Bytes that are written to the beginning of a buffer, one run after the other.
use Rattle.std.proofs.Common.{◌≡◌, ◌≤◌, ℕ, ◌+◌, List, [], ◌++◌, length, refl}
use Rattle.std.proofs.Common.{append_assoc, append-nil, arith, length-append}
use Rattle.path_runs.specs.Overlay.{overlay}
use Rattle.path_runs.specs.Buffer.{buffer_after}
use Rattle.path_runs.proofs.lemmas.lists.OverlayLemmas.{bytes_over, overlay-bytes_over}
use Rattle.path_runs.proofs.lemmas.lists.OverlayLemmas.{buffer_after-fits}
use Rattle.std.proofs.lemmas.Grind.{common_steps}

-- `out` is `old` with the first `at` bytes of `whole` written to its beginning; `left` is the rest
-- of `whole`
pub record WritesOn (whole old : List ℕ) (at : ℕ) (out left : List ℕ) : Type 0 where
  pub start : List ℕ
  pub at_is : at ≡ length start
  pub out_is : out ≡ bytes_over start old
  pub whole_is : start ++ left ≡ whole

-- if `left` is all of `whole`, then no byte is written yet: the buffer still has the contents `old`
pub writes_first : {left : List ℕ} (whole old : List ℕ) → left ≡ whole
    → WritesOn whole old 0 old left
writes_first whole old e = record { start = []; at_is = refl; out_is = refl; whole_is = e }

-- if `out` has the first `at` bytes of `whole`, the rest `left` is `stretch` and then `more`, and
-- `new` is `out` with `stretch` written at index `at`, then `new` has the first `end` bytes of
-- `whole`, where `end` is `at + length stretch`, and the rest is `more`
pub writes_stretch : {whole old out left new : List ℕ} {at end : ℕ} (stretch more : List ℕ)
    → WritesOn whole old at out left → left ≡ stretch ++ more → new ≡ overlay at stretch out
    → end ≡ at + length stretch → WritesOn whole old end new more
writes_stretch {whole} {old} {out} {left} {new} {at} {end} stretch more h e placing ending =
    grind (arith, length-append, overlay-bytes_over, append_assoc)

-- if `whole` isn't longer than the buffer's contents `old`, and the rest `left` of `whole` begins
-- with `stretch`, then `stretch` fits into the buffer at index `at`
pub writes_room : {whole old out left : List ℕ} {at : ℕ} (stretch more : List ℕ)
    → WritesOn whole old at out left → left ≡ stretch ++ more → length whole ≤ length old
    → at + length stretch ≤ length old
writes_room {whole} {old} {out} {left} {at} stretch more h e fits = grind (arith, common_steps)

-- if the rest `left` of `whole` is empty, and `whole` isn't longer than the buffer's contents
-- `old`, then `out` is the buffer after all of `whole` is written
pub writes_last : {whole old out left : List ℕ} {at : ℕ} → WritesOn whole old at out left
    → left ≡ [] → length whole ≤ length old → out ≡ buffer_after whole old
writes_last {whole} {old} {out} {left} {at} h e fits =
    grind (arith, append-nil, buffer_after-fits)

-- if the rest `left` of `whole` is empty, the number `at` of bytes written is the length of `whole`
pub writes_end : {whole old out left : List ℕ} {at : ℕ} → WritesOn whole old at out left
    → left ≡ [] → at ≡ length whole
writes_end {whole} {old} {out} {left} {at} h e = grind (arith, length-append)
