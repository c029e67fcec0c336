-- Bytes are valid by the table of RFC 3629 (`IsText`) if and only if Rattle's std defines them as
-- UTF-8 (`IsUtf8`).
use Rattle.std.proofs.Common.{rules}
use Rattle.std.proofs.Common.{◌≡◌, ℕ, ◌+◌, ◌/◌, ◌%◌, ◌<◌, List, [], ◌∷◌, ◌++◌, map, true, ⊎_elim}
use Rattle.std.proofs.Common.{inl, inr, refl, subst, arith}
use Rattle.std.specs.List.{concat, list_all}
use Rattle.std.specs.Str.{IsUtf8}
use Rattle.std.proofs.lemmas.Bool.{and_parts, cases_lt}
use Rattle.std.proofs.lemmas.List.Sums.{AllPass-from_list_all, list_all-from_AllPass}
use Rattle.std.proofs.lemmas.Str.{IsUtf8-append, IsUtf8-nil}
use Rattle.std.proofs.str.Laws.{one, two, three, four}
use Rattle.std.proofs.str.Valid.{of_one, of_two, of_three, of_four}
use lib.Utf8.{scalar, scalars, scalar_cases, encode, encodes}
use Rattle.unix_bytes.specs.Utf8.{is_sequence, IsSequence, IsText}
use Rattle.unix_bytes.proofs.lemmas.sequences.SequenceLemmas.{one_byte, two_bytes, three_bytes}
use Rattle.unix_bytes.proofs.lemmas.sequences.SequenceLemmas.{four_bytes}
use Rattle.unix_bytes.proofs.lemmas.sequences.SequenceLemmas.{IsSequence-one, IsSequence-two}
use Rattle.unix_bytes.proofs.lemmas.sequences.SequenceLemmas.{IsSequence-three}
use Rattle.unix_bytes.proofs.lemmas.sequences.SequenceLemmas.{IsSequence-four, is_sequence-nil}
use Rattle.unix_bytes.proofs.lemmas.sequences.SequenceLemmas.{is_sequence-more}

-- a sequence is UTF-8 as Rattle's std defines it (`IsUtf8`)
pub IsUtf8-sequence : (u : List ℕ) → IsSequence u → IsUtf8 u
IsUtf8-sequence [] h = let k = is_sequence-nil in cc
IsUtf8-sequence (a ∷ []) h =
    let p = one_byte a h in of_one (a ∷ []) 0 (omega arith) (omega arith)
IsUtf8-sequence (a ∷ b ∷ []) h =
    let p = two_bytes a b h in
    of_two (a ∷ b ∷ []) 0 (omega arith) (omega arith, omega arith) (omega arith, omega arith)
IsUtf8-sequence (a ∷ b ∷ c ∷ []) h =
    let p = three_bytes a b c h in
    of_three (a ∷ b ∷ c ∷ []) 0 (omega arith) (omega arith, omega arith) (omega arith, omega arith)
    (omega arith, omega arith) (grind arith)
    (⊎_elim (λ l. inl (grind arith)) (λ l. inr (omega arith)) (cases_lt a 0xEE))
IsUtf8-sequence (a ∷ b ∷ c ∷ d ∷ []) h =
    let p = four_bytes a b c d h in
    of_four (a ∷ b ∷ c ∷ d ∷ []) 0 (omega arith) (omega arith) (omega arith, omega arith)
    (omega arith, omega arith) (omega arith, omega arith) (grind arith, grind arith)
IsUtf8-sequence (a ∷ b ∷ c ∷ d ∷ e ∷ u) h = let k = is_sequence-more a b c d e u in cc

-- if c is a scalar value, the encoding of c is a sequence
IsSequence-encode : (c : ℕ) → scalar c ≡ true → IsSequence (encode c)
IsSequence-encode c h =
    let k = scalar_cases c h in
    let top : c < 1114112 = ⊎_elim (λ l. omega arith) (λ l. l.1) k in
    ⊎_elim (λ l. rw (one c l) (IsSequence-one c (omega arith)))
    (λ m1. ⊎_elim
    (λ l. rw (two c m1 l) (IsSequence-two (192 + c / 64) (128 + c % 64) (grind arith)))
    (λ m2. ⊎_elim
    (λ l. rw (three c m2 l)
    (IsSequence-three (224 + c / 4096) (128 + c / 64 % 64) (128 + c % 64) (grind arith)))
    (λ m3. rw (four c m3)
    (IsSequence-four (240 + c / 262144) (128 + c / 4096 % 64) (128 + c / 64 % 64) (128 + c % 64)
    (grind arith)))
    (cases_lt c 65536)) (cases_lt c 2048)) (cases_lt c 128)

-- if us are sequences, the byte string that is us, one after the other, is UTF-8 as Rattle's std
-- defines it (`IsUtf8`)
IsUtf8-concat : (us : List (List ℕ)) → list_all is_sequence us ≡ true → IsUtf8 (concat us)
IsUtf8-concat [] h = IsUtf8-nil
IsUtf8-concat (u ∷ us) h =
    let k : IsSequence u × (list_all is_sequence us ≡ true) = and_parts _ _ h in
    IsUtf8-append u (concat us) (IsUtf8-sequence u k.0) (IsUtf8-concat us k.1)

-- if s is valid UTF-8 by the table of RFC 3629 (`IsText`), it is UTF-8 as Rattle's std defines it
-- (`IsUtf8`)
pub IsUtf8-from_IsText : (s : List ℕ) → IsText s → IsUtf8 s
IsUtf8-from_IsText s (us, h, e) =
    subst IsUtf8 e (IsUtf8-concat us (list_all-from_AllPass is_sequence us h))

-- if cs are scalar values, their encodings are sequences, and these, one after the other, are the
-- encoding of the list cs
sequences : (cs : List ℕ) → scalars cs ≡ true
    → (list_all is_sequence (map encode cs) ≡ true) × (concat (map encode cs) ≡ encodes cs)
sequences [] h = (refl, refl)
sequences (c ∷ cs) h =
    let k : (scalar c ≡ true) × (scalars cs ≡ true) = and_parts _ _ h in
    grind (arith, IsSequence-encode, sequences cs k.1)

-- if s is UTF-8 as Rattle's std defines it (`IsUtf8`), it is valid UTF-8 by the table of RFC 3629
-- (`IsText`)
pub IsText-from_IsUtf8 : (s : List ℕ) → IsUtf8 s → IsText s
IsText-from_IsUtf8 s (cs, (h, e)) = grind (arith, sequences cs h, AllPass-from_list_all)

-- the empty list is valid UTF-8
pub IsText-nil : IsText []
IsText-nil = IsText-from_IsUtf8 [] IsUtf8-nil

-- one sequence is valid UTF-8
pub IsText-sequence : (u : List ℕ) → IsSequence u → IsText u
IsText-sequence u h = IsText-from_IsUtf8 u (IsUtf8-sequence u h)

-- if s and t are valid UTF-8, so is s followed by t
pub IsText-append : (s t : List ℕ) → IsText s → IsText t → IsText (s ++ t)
IsText-append s t h k = search (rules, IsText-from_IsUtf8, IsUtf8-append, IsUtf8-from_IsText)
