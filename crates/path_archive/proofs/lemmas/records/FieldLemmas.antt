-- Fields of records, from the index of a NUL.
use Rattle.std.proofs.Common.{◌≡◌, ◌≤◌, ◌<◌, ◌+◌, ◌-◌, ◌==◌, ℕ, Bool, true, false, not, List, []}
use Rattle.std.proofs.Common.{◌∷◌, refl, sym, ap, ap₂, ◌∙◌, subst, arith, length, drop, take}
use Rattle.std.proofs.Common.{slice_range, cond, suc, None}
use Rattle.std.specs.List.{slice_split, position_or_len, prefix_len}
use Rattle.std.proofs.lemmas.List.{drop-drop}
use Rattle.std.proofs.lemmas.List.Splits.{slice_split_first, slice_split-cons_no}
use Rattle.path_archive.specs.Records.{entries_of, fields_of}
use Rattle.path_archive.specs.Slots.{field_at}

-- a list without an element that passes is one piece
unsplit : (p : ℕ → Bool) (xs : List ℕ) → length xs ≤ position_or_len p xs
    → slice_split p xs ≡ xs ∷ []
unsplit p [] h = refl
unsplit p (x ∷ xs) h = by (unsplit p xs) (p x) refl h
  where
    by : (length xs ≤ position_or_len p xs → slice_split p xs ≡ xs ∷ []) → (b : Bool) → p x ≡ b
        → suc (length xs) ≤ cond (not (p x)) (1 + prefix_len (λ y. not (p y)) xs) 0
        → slice_split p (x ∷ xs) ≡ (x ∷ xs) ∷ []
    by more true e k =
        let none : suc (length xs) ≤ 0 =
        subst (λ b. suc (length xs) ≤ cond (not b) (1 + prefix_len (λ y. not (p y)) xs) 0) e k
        in
        absurd (omega arith)
    by rest_whole false e k =
        let more : suc (length xs) ≤ 1 + prefix_len (λ y. not (p y)) xs =
        subst (λ b. suc (length xs) ≤ cond (not b) (1 + prefix_len (λ y. not (p y)) xs) 0) e k
        in
        let rest : slice_split p xs ≡ xs ∷ [] = rest_whole (omega arith) in
        slice_split-cons_no p x xs e ∙ rw rest refl

-- a field that ends in a NUL, and those after it
pub field_first : (s : List ℕ) (at n : ℕ) → at ≤ length s
    → n ≡ position_or_len (λ b. b == 0) (drop at s) → n < length (drop at s)
    → fields_of (drop at s) ≡ slice_range s at (at + n) ∷ fields_of (drop (at + n + 1) s)
field_first s at n at_in is n_in =
    let count : at + n - at ≡ n = omega arith in
    let index : at + (n + 1) ≡ at + n + 1 = omega arith in
    slice_split_first (λ b. b == 0) (drop at s) 0 (subst (λ k. k < length (drop at s)) is n_in)
    ∙ ap (λ k. take k (drop at s) ∷ fields_of (drop (k + 1) (drop at s))) (sym is)
    ∙ ap₂ (λ k l. take k (drop at s) ∷ fields_of l) (sym count)
    (drop-drop (n + 1) at s ∙ ap (λ k. drop k s) index)

-- the bytes of a field
pub field_bytes : (s : List ℕ) (at n : ℕ) → n ≡ position_or_len (λ b. b == 0) (drop at s)
    → field_at s at ≡ slice_range s at (at + n)
field_bytes s at n is =
    let count : at + n - at ≡ n = omega arith in
    ap (λ k. take k (drop at s)) (sym is ∙ sym count)

-- a last field
pub field_last : (s : List ℕ) (at n : ℕ) → n ≡ position_or_len (λ b. b == 0) (drop at s)
    → length (drop at s) ≤ n → fields_of (drop at s) ≡ drop at s ∷ []
field_last s at n is n_end =
    unsplit (λ b. b == 0) (drop at s) (subst (λ k. length (drop at s) ≤ k) is n_end)

-- a last field that isn't empty is cut off
pub cut_off : (field : List ℕ) → 0 < length field → entries_of (field ∷ []) ≡ None
cut_off [] h = absurd (omega arith)
cut_off (b ∷ field) h = refl
