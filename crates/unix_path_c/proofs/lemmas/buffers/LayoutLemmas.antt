-- The contents of a buffer to which the runs of a layout were written.
use Rattle.std.proofs.Common.{◌≡◌, ◌≤◌, ℕ, ◌+◌, List, ◌++◌, length, sym, ap, ap₂, ◌∙◌, arith}
use Rattle.std.proofs.Common.{length-append}
use Rattle.path_runs.specs.Buffer.{buffer_after}
use Rattle.path_runs.specs.Overlay.{overlay}
use Rattle.path_runs.proofs.lemmas.lists.OverlayLemmas.{overlay-bytes_over, overlay-first}
use Rattle.path_runs.proofs.lemmas.lists.OverlayLemmas.{buffer_after-fits}

-- if `start`, `separator` and `end` together fit in the buffer `old`, writing them one after the
-- other to its beginning is the same as writing all of them at once, which is `buffer_after`
pub buffer_after-three : {one two three : List ℕ} (old start separator end : List ℕ) (n : ℕ)
    → n ≡ length start + length separator → n + length end ≤ length old
    → one ≡ overlay 0 start old → two ≡ overlay (length start) separator one
    → three ≡ overlay n end two → three ≡ buffer_after ((start ++ separator) ++ end) old
buffer_after-three old start separator end n at fits first second third =
    let both : n ≡ length (start ++ separator) = omega (arith, at, length-append start separator) in
    let all : length ((start ++ separator) ++ end) ≤ length old =
    omega (arith, both, fits, length-append (start ++ separator) end) in
    third
    ∙ ap₂ (λ n two. overlay n end two) both (second
    ∙ ap (overlay (length start) separator) (first ∙ overlay-first start old)
    ∙ overlay-bytes_over start separator old)
    ∙ overlay-bytes_over (start ++ separator) end old
    ∙ sym (buffer_after-fits ((start ++ separator) ++ end) old all)
