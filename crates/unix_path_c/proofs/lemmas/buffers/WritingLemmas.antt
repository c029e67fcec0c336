-- Writing the next two runs of bytes of a longer string to a buffer.
use Rattle.std.proofs.Common.{◌≡◌, ℕ, ◌+◌, List, ◌++◌, length, refl, ◌∙◌, append_assoc}
use Rattle.path_runs.specs.Overlay.{overlay}
use Rattle.path_runs.proofs.lemmas.lists.WritingLemmas.{WritesOn, writes_stretch}

-- if `first` and `second` are the next bytes of `whole` to be written, only `more` remains to be
-- written after writing `first` and then `second`
pub writes_next : {whole old out left new : List ℕ} {at end : ℕ} (first second more : List ℕ)
    → WritesOn whole old at out left → left ≡ (first ++ second) ++ more
    → new ≡ overlay (at + length first) second (overlay at first out)
    → end ≡ at + length first + length second → WritesOn whole old end new more
writes_next {whole} {old} {out} {left} {new} {at} {end} first second more h e placing ending =
    writes_stretch second more
    (writes_stretch {new = overlay at first out} {end = at + length first} first (second ++ more) h
    (e ∙ append_assoc first second more) refl refl) refl placing ending
