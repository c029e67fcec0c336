-- Valid UTF-8 leaves no sequence unfinished at its end.
use Rattle.std.proofs.Common.{◌≡◌, ℕ, ◌+◌, ◌-◌, ◌≤◌, List, [], ◌∷◌, ◌++◌, length, take, drop}
use Rattle.std.proofs.Common.{ap, ◌∙◌, subst, arith, slice_index, length-drop}
use Rattle.std.specs.List.{All, concat}
use Rattle.std.proofs.lemmas.List.Elements.{All-head, All-tail}
use Rattle.std.proofs.Math.Seq.{take-add}
use Rattle.unix_bytes.specs.Utf8.{IsSequence, IsText}
use Rattle.unix_bytes.specs.Windows.{IsFinished}
use Rattle.unix_bytes.proofs.lemmas.sequences.SequenceLemmas.{one_byte, two_bytes, three_bytes}
use Rattle.unix_bytes.proofs.lemmas.sequences.SequenceLemmas.{four_bytes}
use Rattle.unix_bytes.proofs.lemmas.sequences.SequenceLemmas.{is_sequence-nil, is_sequence-more}

-- the last three of the bytes a, b, c and then those of the list leave no sequence unfinished
abbrev EndsFinished : ℕ → ℕ → ℕ → List ℕ → Type 0
EndsFinished a b c [] = IsFinished a b c
EndsFinished a b c (d ∷ s) = EndsFinished b c d s

-- for all a, b and c that leave no sequence unfinished, the last three of the bytes a, b, c and
-- then those of s leave no sequence unfinished either
abbrev KeepsFinished : List ℕ → Type 0
KeepsFinished s = (a b c : ℕ) → IsFinished a b c → EndsFinished a b c s

-- if u is a sequence, and `KeepsFinished` holds of s, it also holds of u followed by s
sequence_keeps_finished : (u s : List ℕ) → IsSequence u → KeepsFinished s → KeepsFinished (u ++ s)
sequence_keeps_finished [] s h next a b c k = let z = is_sequence-nil in cc
sequence_keeps_finished (d ∷ []) s h next a b c k = grind (arith, one_byte)
sequence_keeps_finished (d ∷ e ∷ []) s h next a b c k = grind (arith, two_bytes)
sequence_keeps_finished (d ∷ e ∷ f ∷ []) s h next a b c k = grind (arith, three_bytes)
sequence_keeps_finished (d ∷ e ∷ f ∷ x ∷ []) s h next a b c k = grind (arith, four_bytes)
sequence_keeps_finished (d ∷ e ∷ f ∷ x ∷ y ∷ u) s h next a b c k = grind (arith, is_sequence-more)

-- if us are sequences, `KeepsFinished` holds of the byte string that is us, one after the other
text_keeps_finished : (us : List (List ℕ)) → All IsSequence us → KeepsFinished (concat us)
text_keeps_finished [] all = λ a b c k. k
text_keeps_finished (u ∷ us) all =
    sequence_keeps_finished u (concat us) (All-head IsSequence u us all)
    (text_keeps_finished us (All-tail IsSequence u us all))

-- if w has at least three bytes, and the last three of the bytes a, b, c, those of u, and then the
-- first three of w leave no sequence unfinished, the first three bytes of w leave none unfinished
IsFinished-last : (u w : List ℕ) (a b c : ℕ) → 3 ≤ length w → EndsFinished a b c (u ++ take 3 w)
    → IsFinished (slice_index w 0) (slice_index w 1) (slice_index w 2)
IsFinished-last [] (x ∷ y ∷ z ∷ w) a b c l h = h
IsFinished-last (d ∷ u) w a b c l h = IsFinished-last u w b c d l h
IsFinished-last u w a b c l h = absurd (omega arith)

-- if i is from 3 to the length of s, and the first i bytes of s are valid UTF-8, the last three of
-- these i bytes leave no sequence unfinished
pub IsFinished-before : (s : List ℕ) (i : ℕ) → 3 ≤ i → i ≤ length s → IsText (take i s)
    → IsFinished (slice_index (drop (i - 3) s) 0) (slice_index (drop (i - 3) s) 1)
    (slice_index (drop (i - 3) s) 2)
IsFinished-before s i some within (us, all, e) =
    let w = drop (i - 3) s in
    let split : i ≡ i - 3 + 3 = omega arith in
    let cut : take i s ≡ take (i - 3) s ++ take 3 w =
    ap (λ n. take n s) split ∙ take-add (i - 3) 3 s in
    IsFinished-last (take (i - 3) s) w 0 0 0 (omega (arith, length-drop (i - 3) s))
    (subst (EndsFinished 0 0 0) (e ∙ cut)
    (text_keeps_finished us all 0 0 0 (omega arith, omega arith, omega arith)))
